-- The set of directories' keys and the set of the others, seen as one.
use Rattle.std.proofs.Common.{◌≡◌, Bool, true, false, cond, ◌||◌, List, [], ◌∷◌, ◌++◌, Option, Some, None, refl, sym, ap, subst, ◌∙◌, inl, inr}
use Rattle.std.specs.List.{AllByRecursion, filter}
use Rattle.std.specs.List.Sorted.{IsStrictlySortedBy}
use Rattle.std.specs.Option.{option_or}
use Rattle.std.specs.BTreeSet.{BTreeSet}
use Rattle.std.specs.Ordering.{is_lt}
use Rattle.std.specs.declared.cmp.Ordering.{Ordering}
use Rattle.std.specs.declared.cmp.Ordering.TheVariants.{Less}
use Rattle.std.proofs.lemmas.Bool.{true≢false, false≢true}
use Rattle.std.proofs.lemmas.List.Elements.{filter-append}
use Rattle.mj_maps.specs.Map.{with_some}
use Rattle.mj_maps.proofs.MapLaws.{cases_key, eq_same, eq_true}
use Rattle.mj_cells.specs.declared.cell.CellKey.{CellKey}
use Rattle.mj_cells.specs.declared.cell.CellKey.TheVariants.{Dentry, DirHead, NextIno, Session, Done, OpenOf}
use Rattle.mj_cells.specs.Cell.{key_cmp, same_key}
use Rattle.mj_cells.specs.Next.{is_above, first_of}
use Rattle.mj_cells.proofs.Keys.{exact_key}
use Rattle.mj_cells.proofs.Kept.{tree_cmp, tree_order}
use Rattle.mj_tables.specs.Slots.{Slots, is_of_dir}
use Rattle.mj_tables.specs.Listed.{has_key, there_at, there_along, Adds, Drops}
use Rattle.mj_tables.specs.There.{dirs_above, HasKind, Rises, AreApart, both_sets}
use Rattle.mj_tables.proofs.KeySets.{or_true, or_swaps, one_pushed}

-- ---- the keys of both

or_assoc : (a b c : Bool) → (a || (b || c)) ≡ ((a || b) || c)
or_assoc true b c = refl
or_assoc false b c = refl

or_false : (a : Bool) → (a || false) ≡ a
or_false true = refl
or_false false = refl

has_append : (ks ls : List CellKey) (q : CellKey) → has_key (record { keys = ks ++ ls }) q ≡ (has_key (record { keys = ks }) q || has_key (record { keys = ls }) q)
has_append [] ls q = refl
has_append (k ∷ ks) ls q = ap (λ b. same_key q k || b) (has_append ks ls q) ∙ or_assoc (same_key q k) (has_key (record { keys = ks }) q) (has_key (record { keys = ls }) q)

pub has_both : (d o : BTreeSet CellKey) (q : CellKey) → has_key (both_sets d o) q ≡ (has_key d q || has_key o q)
has_both d o q = has_append d.keys o.keys q

not_true : (b : Bool) → (b ≡ true → false ≡ true) → b ≡ false
not_true true f = sym (f refl)
not_true false f = refl

module _ (d o : BTreeSet CellKey) (apart : AreApart d o) where
  pub no_other : (k : CellKey) → is_of_dir k ≡ true → has_key o k ≡ false
  no_other k is = not_true (has_key o k) (λ has. sym (apart.are_others k has) ∙ is)

  pub no_dir : (k : CellKey) → is_of_dir k ≡ false → has_key d k ≡ false
  no_dir k is = not_true (has_key d k) (λ has. sym is ∙ apart.are_of_dirs k has)

-- ---- a key that is added or taken out

-- a key of the kind of the others
pub kind_added : (b : Bool) (s n : BTreeSet CellKey) (k : CellKey) → HasKind b s → is_of_dir k ≡ b → Adds s k n → HasKind b n
kind_added b s n k kind is adds q has = elim (cases_key exact_key q k) [
  | inl e ↦ ap is_of_dir e ∙ is
  | inr other ↦ kind q (sym (adds q ∙ ap (λ c. c || has_key s q) other) ∙ has)
]

was_there : (a b : Bool) → cond a false b ≡ true → b ≡ true
was_there true b h = absurd (false≢true h)
was_there false b h = h

pub kind_dropped : (b : Bool) (s n : BTreeSet CellKey) (k : CellKey) → HasKind b s → Drops s k n → HasKind b n
kind_dropped b s n k kind drops q has = kind q (was_there (same_key q k) (has_key s q) (sym (drops q) ∙ has))

pub dir_added : (d o n : BTreeSet CellKey) (k : CellKey) → Adds d k n → Adds (both_sets d o) k (both_sets n o)
dir_added d o n k adds q =
    has_both n o q ∙ ap (λ b. b || has_key o q) (adds q) ∙ sym (or_assoc (same_key q k) (has_key d q) (has_key o q)) ∙ ap (λ b. same_key q k || b) (sym (has_both d o q))

pub other_added : (d o n : BTreeSet CellKey) (k : CellKey) → Adds o k n → Adds (both_sets d o) k (both_sets d n)
other_added d o n k adds q =
    has_both d n q ∙ ap (λ b. has_key d q || b) (adds q) ∙ or_swaps (same_key q k) (has_key d q) (has_key o q) ∙ ap (λ b. same_key q k || b) (sym (has_both d o q))

first_out : (a h p : Bool) → (a ≡ true → p ≡ false) → (cond a false h || p) ≡ cond a false (h || p)
first_out true h p f = f refl
first_out false h p f = refl

second_out : (a h p : Bool) → (a ≡ true → h ≡ false) → (h || cond a false p) ≡ cond a false (h || p)
second_out true h p f = ap (λ b. b || false) (f refl)
second_out false h p f = refl

pub dir_dropped : (d o n : BTreeSet CellKey) (k : CellKey) → AreApart d o → is_of_dir k ≡ true → Drops d k n → Drops (both_sets d o) k (both_sets n o)
dir_dropped d o n k apart is drops q =
    has_both n o q ∙ ap (λ b. b || has_key o q) (drops q)
    ∙ first_out (same_key q k) (has_key d q) (has_key o q) (λ same. no_other d o apart q (ap is_of_dir (eq_true exact_key q k same) ∙ is))
    ∙ ap (cond (same_key q k) false) (sym (has_both d o q))

pub other_dropped : (d o n : BTreeSet CellKey) (k : CellKey) → AreApart d o → is_of_dir k ≡ false → Drops o k n → Drops (both_sets d o) k (both_sets d n)
other_dropped d o n k apart is drops q =
    has_both d n q ∙ ap (λ b. has_key d q || b) (drops q)
    ∙ second_out (same_key q k) (has_key d q) (has_key o q) (λ same. no_dir d o apart q (ap is_of_dir (eq_true exact_key q k same) ∙ is))
    ∙ ap (cond (same_key q k) false) (sym (has_both d o q))

-- ---- lists of keys

pub no_kind : (b : Bool) (ks : List CellKey) → ks ≡ [] → HasKind b (record { keys = ks })
no_kind b ks none q has = absurd (false≢true (sym (ap (λ (xs : List CellKey). has_key (record { keys = xs }) q) none) ∙ has))

pub pushed : (ks : List CellKey) (k : CellKey) (new : List CellKey) → new ≡ ks ++ k ∷ [] → Adds (record { keys = ks }) k (record { keys = new })
pushed ks k new is = subst (λ (xs : List CellKey). Adds (record { keys = ks }) k (record { keys = xs })) (sym is) (one_pushed ks k)

-- ---- directories' keys come first

dir_first : (k l : CellKey) → is_of_dir k ≡ true → is_of_dir l ≡ false → key_cmp k l ≡ Less
dir_first (Dentry d n) (Dentry e m) is other = absurd (true≢false other)
dir_first (Dentry d n) (DirHead e) is other = absurd (true≢false other)
dir_first (Dentry d n) NextIno is other = refl
dir_first (Dentry d n) (Session c) is other = refl
dir_first (Dentry d n) (Done c t) is other = refl
dir_first (Dentry d n) (OpenOf c i) is other = refl
dir_first (DirHead d) (Dentry e m) is other = absurd (true≢false other)
dir_first (DirHead d) (DirHead e) is other = absurd (true≢false other)
dir_first (DirHead d) NextIno is other = refl
dir_first (DirHead d) (Session c) is other = refl
dir_first (DirHead d) (Done c t) is other = refl
dir_first (DirHead d) (OpenOf c i) is other = refl
dir_first _ _ is other = absurd (false≢true is)

not_above : (a k : CellKey) → is_of_dir a ≡ false → is_of_dir k ≡ true → is_lt (key_cmp a k) ≡ false
not_above (Dentry d n) k other is = absurd (true≢false other)
not_above (DirHead d) k other is = absurd (true≢false other)
not_above NextIno (Dentry e m) other is = refl
not_above NextIno (DirHead e) other is = refl
not_above (Session c) (Dentry e m) other is = refl
not_above (Session c) (DirHead e) other is = refl
not_above (Done c t) (Dentry e m) other is = refl
not_above (Done c t) (DirHead e) other is = refl
not_above (OpenOf c i) (Dentry e m) other is = refl
not_above (OpenOf c i) (DirHead e) other is = refl
not_above _ _ other is = absurd (false≢true is)

first_has : (b : Bool) (k : CellKey) (ks : List CellKey) → HasKind b (record { keys = k ∷ ks }) → is_of_dir k ≡ b
first_has b k ks kind = kind k (ap (λ c. c || has_key (record { keys = ks }) k) (eq_same exact_key k))

rest_have : (b : Bool) (k : CellKey) (ks : List CellKey) → HasKind b (record { keys = k ∷ ks }) → HasKind b (record { keys = ks })
rest_have b k ks kind q has = kind q (or_true (same_key q k) (has_key (record { keys = ks }) q) has)

all_less : (k : CellKey) (ks ls : List CellKey) → is_of_dir k ≡ true → AllByRecursion (λ y. key_cmp k y ≡ Less) ks → HasKind false (record { keys = ls }) → AllByRecursion (λ y. key_cmp k y ≡ Less) (ks ++ ls)
all_less k [] [] is less others = tt
all_less k [] (l ∷ ls) is less others = (dir_first k l is (first_has false l ls others), all_less k [] ls is tt (rest_have false l ls others))
all_less k (x ∷ ks) ls is less others = (less.0, all_less k ks ls is less.1 others)

append_rises : (ks ls : List CellKey) → Rises (record { keys = ks }) → Rises (record { keys = ls }) → HasKind true (record { keys = ks }) → HasKind false (record { keys = ls }) → Rises (record { keys = ks ++ ls })
unfolding IsStrictlySortedBy
append_rises [] ls rise above dirs others = above
append_rises (k ∷ ks) ls rise above dirs others = (all_less k ks ls (first_has true k ks dirs) rise.0 others, append_rises ks ls rise.1 above (rest_have true k ks dirs) others)

pub both_rise : (d o : BTreeSet CellKey) → AreApart d o → Rises (both_sets d o)
both_rise d o apart = append_rises d.keys o.keys apart.dirs_rise apart.others_rise apart.are_of_dirs apart.are_others

-- a tree's keys rise
pub tree_rises : (s : BTreeSet CellKey) → IsStrictlySortedBy tree_cmp s.keys → Rises s
tree_rises s sorted = subst (λ (r : CellKey → CellKey → Ordering). IsStrictlySortedBy r s.keys) tree_order sorted

-- ---- the first key above

none_above : (a : CellKey) (ks : List CellKey) → is_of_dir a ≡ false → HasKind true (record { keys = ks }) → filter (is_above (Some a)) ks ≡ []
none_above a [] other dirs = refl
none_above a (k ∷ ks) other dirs =
    ap (λ b. cond b (k ∷ filter (is_above (Some a)) ks) (filter (is_above (Some a)) ks)) (not_above a k other (first_has true k ks dirs)) ∙ none_above a ks other (rest_have true k ks dirs)

pub no_dirs_above : (after : Option CellKey) (d : BTreeSet CellKey) → dirs_above after ≡ false → HasKind true d → filter (is_above after) d.keys ≡ []
no_dirs_above None d other dirs = absurd (true≢false other)
no_dirs_above (Some a) d other dirs = none_above a d.keys other dirs

first-along : (m : Slots) (ks ls : List CellKey) → first_of (there_along m (ks ++ ls)) ≡ option_or (first_of (there_along m ks)) (first_of (there_along m ls))
first-along m [] ls = refl
first-along m (k ∷ ks) ls = elim (there_at m k) as (λ o. first_of (with_some k o (there_along m (ks ++ ls))) ≡ option_or (first_of (with_some k o (there_along m ks))) (first_of (there_along m ls))) [
  | None ↦ first-along m ks ls
  | Some v ↦ refl
]

-- first along those of directories, and then along the others
pub next_of_both : (m : Slots) (d o : BTreeSet CellKey) (after : Option CellKey)
    → first_of (there_along m (filter (is_above after) (d.keys ++ o.keys))) ≡ option_or (first_of (there_along m (filter (is_above after) d.keys))) (first_of (there_along m (filter (is_above after) o.keys)))
next_of_both m d o after = ap (λ (ks : List CellKey). first_of (there_along m ks)) (filter-append (is_above after) d.keys o.keys) ∙ first-along m (filter (is_above after) d.keys) (filter (is_above after) o.keys)
