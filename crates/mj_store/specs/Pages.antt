-- The pairs of an object in pages.
use Rattle.std.specs.Prelude.{◌≡◌, ℕ, ◌≤◌, Bool, true, ◌&&◌, nat_lt, nat_le, IsTrue, is_some, Option, Some, None, List, [], ◌∷◌, map, filter, length, take}
use Rattle.std.specs.Option.{option_map_or, option_and_then}
use Rattle.std.specs.Ordering.{is_lt}
use Rattle.mj_maps.specs.Orders.{bytes_cmp}
use Rattle.mj_maps.specs.Map.{entries}
use Rattle.mj_store.specs.declared.act.Pair.{Pair}
use Rattle.mj_store.specs.declared.answer.Page.{Page}
use Rattle.mj_store.specs.Object.{Content, longest_key}

abbrev pub is_above : Option (List ℕ) → List ℕ → Bool
is_above None key = true
is_above (Some after) key = is_lt (bytes_cmp after key)

-- the pairs in the order of their keys
abbrev pub pairs_of : Option Content → List Pair
pairs_of held = option_map_or (λ (c : Content). map {B = Pair} (λ (e : List ℕ × List ℕ). record { key = e.0; value = e.1 }) (entries c.pairs)) held []

abbrev pub pairs_above : Option (List ℕ) → Option Content → List Pair
pairs_above after held = filter (λ (p : Pair). is_above after p.key) (pairs_of held)

-- the first pairs above a key
abbrev pub page_of : Option (List ℕ) → ℕ → Option Content → Page
page_of after most held = record {
  present = is_some held;
  head = option_and_then (λ (c : Content). c.head) held;
  pairs = take most (pairs_above after held);
  more = nat_lt most (length (pairs_above after held));
}

-- keys rise from above `after` on, and have at most 65,535 bytes
abbrev pub rise_above : Option (List ℕ) → List Pair → Bool
rise_above after [] = true
rise_above after (p ∷ ps) = is_above after p.key && nat_le (length p.key) longest_key && rise_above (Some p.key) ps

-- A page of any store: at most so many pairs, with rising keys, and more only behind a full page.
pub record IsPage (after : Option (List ℕ)) (most : ℕ) (page : Page) : Type 0 where
  pub within : length page.pairs ≤ most
  pub rising : IsTrue (rise_above after page.pairs)
  pub full : page.more ≡ true → length page.pairs ≡ most
