-- Rows by counts are rows by how often numbers stand in lists.
use Rattle.std.proofs.Common.{◌≡◌, ◌≤◌, ◌<◌, ◌+◌, ℕ, suc, arith, Bool, true, false, cond, List, ◌∷◌, Result, Ok, Err, drop, drop-cons, add-one, slice_index_or, length, refl, sym, ap, subst, ◌∙◌}
use Rattle.std.specs.Prelude.{IfOk, filter_map, nat_lt, ◌==◌}
use Rattle.std.proofs.lemmas.List.{drop_all}
use Rattle.mj_base.specs.declared.record.Kind.{Kind}
use Rattle.mj_base.specs.declared.record.Kind.TheVariants.{Dir, File, Symlink}
use Rattle.mj_recovery.specs.Damage.{times}
use Rattle.mj_judge.specs.Parts.{Cell}
use Rattle.mj_judge.specs.Rows.{count_in, kind_ino}
use Rattle.mj_judge.specs.Kinds.{is_kind}
use Rattle.mj_judge.specs.declared.kinds.Kinds.{Kinds}

pub if_ok : {X E : Type 0} (r : Result X E) (P Q : X → Type 0) → ((x : X) → P x → Q x) → IfOk r P → IfOk r Q
if_ok (Ok x) P Q f h = f x h
if_ok (Err e) P Q f h = h

-- functions that agree are equal
pub agree : {X Y : Type 0} (f g : X → Y) → ((x : X) → f x ≡ g x) → f ≡ g
agree f g h i x = h x i

-- full dentries counted by kind
kind_agrees : (k : Kinds) (dirs : List ℕ) (cs : List Cell) → ((i : ℕ) → count_in k.dirs i ≡ times i (filter_map (kind_ino dirs Dir) cs)) → ((i : ℕ) → count_in k.files i ≡ times i (filter_map (kind_ino dirs File) cs))
    → ((i : ℕ) → count_in k.symlinks i ≡ times i (filter_map (kind_ino dirs Symlink) cs)) → (i : ℕ) (kind : Kind) → is_kind k i kind ≡ nat_lt 0 (times i (filter_map (kind_ino dirs kind) cs))
kind_agrees k dirs cs d f s i Dir = ap (nat_lt 0) (d i)
kind_agrees k dirs cs d f s i File = ap (nat_lt 0) (f i)
kind_agrees k dirs cs d f s i Symlink = ap (nat_lt 0) (s i)

pub kinds_agree : (k : Kinds) (dirs : List ℕ) (cs : List Cell) → ((i : ℕ) → count_in k.dirs i ≡ times i (filter_map (kind_ino dirs Dir) cs)) → ((i : ℕ) → count_in k.files i ≡ times i (filter_map (kind_ino dirs File) cs))
    → ((i : ℕ) → count_in k.symlinks i ≡ times i (filter_map (kind_ino dirs Symlink) cs)) → is_kind k ≡ (λ i kind. nat_lt 0 (times i (filter_map (kind_ino dirs kind) cs)))
kinds_agree k dirs cs d f s = λ j i kind. kind_agrees k dirs cs d f s i kind j

-- ---- counting one after another

-- so often each of these from here on is yet to be counted, and none was counted more often than there were steps
abbrev pub Counting : List ℕ → ℕ → (ℕ → ℕ) → Type 0
Counting ns i f = ((k : ℕ) → f k + times k (drop i ns) ≡ times k ns) × ((k : ℕ) → f k ≤ i)

is_same : (k n : ℕ) → (k == n) ≡ true → k ≡ n
is_same k n h = grind (arith, h)

one_more : (b : Bool) (x y t : ℕ) → (b ≡ true → x ≡ y) → cond b (y + 1) x + t ≡ x + cond b (t + 1) t
one_more true x y t same = let e = same refl in omega (arith, e)
one_more false x y t same = refl

one_above : (b : Bool) (x y i : ℕ) → x ≤ i → y ≤ i → cond b (y + 1) x ≤ i + 1
one_above true x y i p q = omega (arith, q)
one_above false x y i p q = omega (arith, p)

pub count_goes : (ns : List ℕ) (i n m : ℕ) (f g : ℕ → ℕ) → i < length ns → n ≡ slice_index_or ns i n → m ≡ n → ((k : ℕ) → g k ≡ cond (k == m) (f m + 1) (f k)) → Counting ns i f → Counting ns (i + 1) g
count_goes ns i n m f g h is same added (sums, most) =
    let adds = subst (λ x. (k : ℕ) → g k ≡ cond (k == x) (f x + 1) (f k)) same added in
    let next : drop i ns ≡ n ∷ drop (i + 1) ns = rw add-one (drop-cons ns i n h ∙ ap (λ (y : ℕ). y ∷ drop (suc i) ns) (sym is)) in (
      λ k. ap (λ x. x + times k (drop (i + 1) ns)) (adds k) ∙ one_more (k == n) (f k) (f n) (times k (drop (i + 1) ns)) (λ e. ap f (is_same k n e)) ∙ ap (λ (xs : List ℕ). f k + times k xs) (sym next) ∙ sums k,
      λ k. subst (λ x. x ≤ i + 1) (sym (adds k)) (one_above (k == n) (f k) (f n) i (most k) (most n)),
    )

pub count_ends : (ns : List ℕ) (i : ℕ) (f : ℕ → ℕ) → length ns ≤ i → Counting ns i f → (k : ℕ) → f k ≡ times k ns
count_ends ns i f past (sums, most) k =
    let none = ap (times k) (drop_all i ns past) in
    let all = sums k in
    omega (arith, none, all)
