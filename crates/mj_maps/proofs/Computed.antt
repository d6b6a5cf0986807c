-- Small maps compute.
use Rattle.std.specs.Prelude.{◌≡◌, ℕ, [], ◌∷◌, Some, codes, refl, nat_lt}
use Rattle.mj_maps.specs.Orders.{nat_cmp, place_cmp}
use Rattle.mj_maps.specs.Map.{Map, entries, get, insert, remove, empty, len, collect, retain, count}

abbrev squares : Map nat_cmp ℕ
squares = insert (insert (insert (insert empty 3 9) 1 1) 2 5) 2 4

entries_are : entries squares ≡ (1, 1) ∷ (2, 4) ∷ (3, 9) ∷ []
unfolding entries insert empty
entries_are = refl

got : get squares 2 ≡ Some 4
unfolding entries insert empty get
got = refl

removed_is : remove squares 2 ≡ insert (insert empty 1 1) 3 9
unfolding entries insert empty remove
removed_is = refl

greater_are : entries (retain (λ k x. nat_lt k x) squares) ≡ (2, 4) ∷ (3, 9) ∷ []
unfolding entries insert empty collect
greater_are = refl

counted : count (λ (e : ℕ × ℕ). nat_lt e.0 e.1) squares ≡ 2
unfolding entries insert empty
counted = refl

places : Map place_cmp ℕ
places = insert (insert (insert empty (2, codes "a") 5) (1, codes "b") 6) (1, codes "ab") 7

places_are : entries places ≡ ((1, codes "ab"), 7) ∷ ((1, codes "b"), 6) ∷ ((2, codes "a"), 5) ∷ []
unfolding places entries insert empty
places_are = refl

long_is : len (remove squares 9) ≡ 3
unfolding entries insert empty remove len
long_is = refl
