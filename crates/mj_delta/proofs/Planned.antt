-- The lumps of a plan are in the grammar, and the event with them gives the tree where the table with them does.
use Rattle.std.proofs.Common.{◌≡◌, ℕ, ◌+◌, ◌<◌, ◌≤◌, ◌^◌, Bool, true, false, T, List, [], ◌∷◌, ◌++◌, length, map, Option, Some, None, refl, sym, ap, subst, ◌∙◌, inl, inr, arith}
use Rattle.std.specs.Prelude.{IsTrue, IsSome}
use Rattle.std.specs.Option.{option_map}
use Rattle.std.specs.Ordering.{is_lt, ordering_then}
use Rattle.std.specs.Cmp.{tied_itself}
use Rattle.std.specs.List.{flat_map, filter_map, list_any, cons_option, AllByRecursion}
use Rattle.std.specs.FinMap.Entries.{is_sorted, below_all}
use Rattle.std.proofs.lemmas.Bool.{false≢true, and_from, or_cases, not_from_false, false_from_ne_true}
use Rattle.std.proofs.lemmas.List.{length-map}
use Rattle.mj_base.specs.InOrder.{same_bytes}
use Rattle.mj_base.specs.Name.{is_name}
use Rattle.mj_base.specs.ObjectName.{hex, stray_ino, first_ino}
use Rattle.mj_base.specs.Reading.{all_follow, is_above}
use Rattle.mj_base.specs.Record.{IsRecord, same_kind}
use Rattle.mj_base.specs.declared.record.Kind.{Kind}
use Rattle.mj_base.specs.declared.record.Kind.TheVariants as kind
use Rattle.mj_base.specs.declared.record.InodeRecord.{InodeRecord}
use Rattle.mj_maps.specs.Map.{Map, Set, entries, entries_sorted, get, insert, len, from_entries, left_true, right_true}
use Rattle.mj_maps.specs.Orders.{nat_cmp, place_cmp, pair_cmp, bytes_cmp}
use Rattle.mj_maps.proofs.MapLaws.{Exact, exact_nat, exact_place, none_some, some_same, eq_true, len-entries, len-insert_new, len-insert_over, len_empty}
use Rattle.mj_maps.proofs.Kept.{place_ties}
use Rattle.mj_tree.specs.declared.change.Change.{Change}
use Rattle.mj_tree.specs.declared.request.ClientRequest.{ClientRequest}
use Rattle.mj_tree.specs.State.{PlainState, is_dir}
use Rattle.mj_tree.specs.Change.{changed}
use Rattle.mj_cells.specs.declared.cell.CellWrite.{CellWrite}
use Rattle.mj_cells.specs.declared.cell.CellKey.TheVariants as key
use Rattle.mj_cells.specs.Table.{Table}
use Rattle.mj_meta.specs.Blob.{IsBlob, IsLump, HeadFits, FullFits, RemoteFits, NullFits, is_no_dir, is_in, name_follows, full_names, remote_names, lump_follows}
use Rattle.mj_meta.specs.declared.HeadBit.{HeadBit}
use Rattle.mj_meta.specs.declared.HeadBit.TheVariants as head
use Rattle.mj_meta.specs.declared.FullBit.{FullBit}
use Rattle.mj_meta.specs.declared.RemoteBit.{RemoteBit}
use Rattle.mj_meta.specs.declared.NullBit.{NullBit}
use Rattle.mj_meta.specs.declared.DirLump.{DirLump}
use Rattle.mj_event.specs.Writes.{write, head_value, lump_writes}
use Rattle.mj_recovery.specs.Damage.{lump_dirs, head_written}
use Rattle.mj_recovery.specs.Orderly.{IsOwn}
use Rattle.mj_delta.specs.Reads.{Places}
use Rattle.mj_delta.specs.TreeOf.{IsReached, HasDentries, IsTreeOf}
use Rattle.mj_delta.specs.Events.{next_version}
use Rattle.mj_delta.specs.Plan.Naming.{Full, Remote}
use Rattle.mj_delta.specs.Plan.{Naming, Plan, Planned, touched, without_head, heads_of, full_bit, remote_bit_of, null_bit, lump_of, lumps_of}
use Rattle.mj_delta.specs.Steps.{IsOrderlyWrite}
use Rattle.mj_delta.proofs.Facts.{cases_option}
use Rattle.mj_delta.proofs.Lists.{Lies, in_append, in_map, in_filter_map, entry_at, lies_all}
use Rattle.mj_delta.proofs.Dropped.{is_less}
use Rattle.mj_delta.proofs.Linked.{own_fits}
use Rattle.mj_delta.proofs.Plans.{IsPlanned, written, full_bit_parts, remote_bit_parts, null_bit_parts, head_is, in_plan, touched_heads, laid}
use Rattle.mj_delta.proofs.Plans.IsPlanned.{a_head, a_dentry}
use Rattle.mj_delta.proofs.Updated.{IsPlan}

-- ---- what a planned dentry has to say

abbrev pub NamingFits : ℕ → ℕ × List ℕ → Option Naming → Type 0
NamingFits rank q None = Unit {0}
NamingFits rank q (Some (Full r)) = IsRecord r × (first_ino rank ≤ r.ino) × (q.0 ≡ stray_ino rank → q.1 ≡ hex r.ino)
NamingFits rank q (Some (Remote i k)) = (i < 2 ^ 64) × (same_kind k kind.Dir ≡ false) × (q.0 ≡ stray_ino rank → q.1 ≡ hex i)

pub record PlanFits (rank : ℕ) (s : PlainState) (plan : Plan) : Type 0 where
  pub few : len plan.dentries < 2 ^ 31
  pub names : (q : ℕ × List ℕ) (n : Option Naming) → get plan.dentries q ≡ Some n → IsTrue (is_name q.1)
  pub fit : (q : ℕ × List ℕ) (n : Option Naming) → get plan.dentries q ≡ Some n → NamingFits rank q n
  pub own : (q : ℕ × List ℕ) (n : Option Naming) → get plan.dentries q ≡ Some n → IsOwn rank s.next q.0
  pub gone : (d : ℕ) → plan.removed ≡ Some d → IsOwn rank s.next d
  pub first : first_ino rank ≤ s.next
  pub next : s.next < 2 ^ 64

-- ---- order

is_true : (b : Bool) → T b → b ≡ true
is_true true h = refl
is_true false h = absurd h

pub same_names : (a b : List ℕ) → same_bytes a b ≡ true → a ≡ b
same_names a b e = ap (λ (p : ℕ × List ℕ). p.1) (eq_true exact_place (0, a) (0, b) (sym (place_ties (0, a) (0, b)) ∙ e))

less_name : (d : ℕ) (a b : List ℕ) → T (is_lt (place_cmp (d, a) (d, b))) → is_lt (bytes_cmp a b) ≡ true
less_name d a b h = is_true _ (subst (λ (o : _). T (is_lt (ordering_then o (bytes_cmp a b)))) (tied_itself exact_nat.total d) h)

pub any_in : {A : Type 0} (p : A → Bool) (xs : List A) → list_any p xs ≡ true → (x : A) × Lies x xs × (p x ≡ true)
any_in p [] e = absurd (false≢true e)
any_in p (x ∷ xs) e = elim (or_cases (p x) (list_any p xs) e) [ inl h ↦ (x, inl refl, h) | inr h ↦ let w = any_in p xs h in (w.0, inr w.1, w.2) ]

not_in : (names : List (List ℕ)) (name : List ℕ) → (Lies name names → ⊥) → is_in names name ≡ false
not_in names name h = false_from_ne_true _ (λ e. let w = any_in (same_bytes name) names e in h (subst (λ n. Lies n names) (sym (same_names name w.0 w.2)) w.1))

fewer : {A B : Type 0} (f : A → Option B) (xs : List A) → length (filter_map f xs) ≤ length xs
fewer f [] = omega arith
fewer f (x ∷ xs) = elim (f x) as (λ o. length (cons_option o (filter_map f xs)) ≤ length (x ∷ xs)) [
  | None ↦ let rest = fewer f xs in omega (arith, rest)
  | Some y ↦ let rest = fewer f xs in omega (arith, rest)
]

-- the names of the bits of one kind rise, and are in none of the lists before
module _ {B : Type 0} (d : ℕ) (pick : Planned → Option B) (name : B → List ℕ) (others : List (List ℕ)) (named : (e : Planned) (b : B) → pick e ≡ Some b → (e.0.0 ≡ d) × (name b ≡ e.0.1)) where
  abbrev follows : Option B → B → Bool
  follows before b = name_follows others (option_map name before) (name b)

  abbrev Above : Option B → List Planned → Type 0
  Above None es = Unit {0}
  Above (Some b) es = T (below_all place_cmp (d, name b) es)

  above_rest : (before : Option B) (e : Planned) (es : List Planned) → Above before (e ∷ es) → Above before es
  above_rest None e es h = tt
  above_rest (Some b) e es h = right_true _ _ h

  place_of : (e : Planned) (b : B) → pick e ≡ Some b → e.0 ≡ (d, name b)
  place_of e b p = let w = named e b p in λ z. (w.0 z, sym w.1 z)

  above_it : (before : Option B) (e : Planned) (es : List Planned) (b : B) → pick e ≡ Some b → Above before (e ∷ es) → is_above (λ x y. is_lt (bytes_cmp x y)) (option_map name before) (name b) ≡ true
  above_it None e es b p h = refl
  above_it (Some x) e es b p h = less_name d (name x) (name b) (subst (λ k. T (is_lt (place_cmp (d, name x) k))) (place_of e b p) (left_true _ _ h))

  pub bits_rise : (before : Option B) (es : List Planned) → T (is_sorted place_cmp es) → Above before es
      → ((e : Planned) (b : B) → Lies e es → pick e ≡ Some b → (is_name (name b) ≡ true) × (is_in others (name b) ≡ false)) → all_follow follows before (filter_map pick es) ≡ true
  bits_rise before [] s h ok = refl
  bits_rise before (e ∷ es) s h ok = elim (pick e) as (λ o. pick e ≡ o → all_follow follows before (cons_option o (filter_map pick es)) ≡ true) [
    | None ↦ λ p. bits_rise before es (right_true _ _ s) (above_rest before e es h) (λ x b l. ok x b (inr l))
    | Some b ↦ λ p.
        let fits = ok e b (inl refl) p in
        and_from _ _ (and_from _ _ (and_from _ _ fits.0 (above_it before e es b p h)) (not_from_false _ fits.1))
        (bits_rise (Some b) es (right_true _ _ s) (subst (λ k. T (below_all place_cmp k es)) (place_of e b p) (left_true _ _ s)) (λ x b l. ok x b (inr l)))
  ] refl

-- the directories of lumps rise
module _ (t : Table) (es : List Planned) where
  abbrev AboveDir : Option DirLump → List (ℕ × HeadBit) → Type 0
  AboveDir None hs = Unit {0}
  AboveDir (Some l) hs = T (below_all nat_cmp l.dir hs)

  dir_above : (before : Option DirLump) (h : ℕ × HeadBit) (hs : List (ℕ × HeadBit)) → AboveDir before (h ∷ hs) → lump_follows before (lump_of t es h) ≡ true
  dir_above None h hs a = refl
  dir_above (Some l) h hs a = is_less l.dir h.0 (left_true _ _ a)

  lumps_rise : (before : Option DirLump) (hs : List (ℕ × HeadBit)) → T (is_sorted nat_cmp hs) → AboveDir before hs → all_follow lump_follows before (map (lump_of t es) hs) ≡ true
  lumps_rise before [] s a = refl
  lumps_rise before (h ∷ hs) s a = and_from _ _ (dir_above before h hs a) (lumps_rise (Some (lump_of t es h)) hs (right_true _ _ s) (left_true _ _ s))

-- ---- how many

pub insert_len : {K X : Type 0} {R : _} (o : Exact {K = K} R) (m : Map R X) (k : K) (x : X) → len (insert m k x) ≤ len m + 1
insert_len o m k x = elim (cases_option (get m k)) [
  | inl none ↦ omega (arith, len-insert_new o m k x none)
  | inr w ↦ omega (arith, len-insert_over o m k w.0 x w.1)
]

from_len : (es : List (ℕ × HeadBit)) → len (from_entries {R = nat_cmp} es) ≤ length es
from_len [] = omega (arith, len_empty HeadBit nat_cmp)
from_len (e ∷ es) = omega (arith, insert_len exact_nat (from_entries es) e.0 e.1, from_len es)

without_len : (o : Option ℕ) (m : Map nat_cmp HeadBit) → len (without_head o m) ≤ len m + 1
without_len None m = omega arith
without_len (Some d) m = insert_len exact_nat m d head.Gone

no_dir_bit : (k : Kind) → same_kind k kind.Dir ≡ false → is_no_dir k ≡ true
no_dir_bit kind.Dir e = absurd (false≢true (sym e))
no_dir_bit kind.File e = refl
no_dir_bit kind.Symlink e = refl

version_fits : (t : Table) (d : ℕ) → next_version t d < 2 ^ 64
version_fits t d = omega arith

version_some : (t : Table) (d : ℕ) → 0 < next_version t d
version_some t d = omega arith

module _ (rank : ℕ) (t : Table) (s : PlainState) (plan : Plan) (fits : PlanFits rank s plan) where
  abbrev es : List Planned
  es = entries plan.dentries

  abbrev hs : List (ℕ × HeadBit)
  hs = entries (heads_of t plan)

  few_entries : length es < 2 ^ 31
  few_entries = omega (arith, len-entries plan.dentries, fits.few)

  few_lumps : length (lumps_of t plan) < 2 ^ 32
  few_lumps = omega (arith, length-map hs (lump_of t es), len-entries (heads_of t plan), without_len plan.removed (touched_heads t plan), from_len (map (touched t) es), length-map es (touched t), few_entries)

  head_fits : (d : ℕ) (h : HeadBit) → get (heads_of t plan) d ≡ Some h → IsOwn rank s.next d × HeadFits h
  head_fits d h e = elim (head_is t plan d h e) [
    | inl w ↦ (fits.gone d w.0, subst HeadFits (sym w.1) tt)
    | inr w ↦ (subst (IsOwn rank s.next) w.2 (fits.own w.0.0 w.0.1 w.1), subst HeadFits (sym w.3) (version_fits t d))
  ]

  at_entry_of : (e : Planned) → Lies e es → get plan.dentries e.0 ≡ Some e.1
  at_entry_of e l = entry_at exact_place plan.dentries e l

  module _ (d : ℕ) where
    abbrev fulls : List FullBit
    fulls = filter_map (full_bit t d) es

    abbrev remotes : List RemoteBit
    remotes = filter_map (remote_bit_of t d) es

    full_named : (e : Planned) (b : FullBit) → full_bit t d e ≡ Some b → (e.0.0 ≡ d) × (b.name ≡ e.0.1)
    full_named e b p = let w = full_bit_parts t d e b p in (w.0, ap (λ (b : FullBit). b.name) (sym w.3))

    remote_named : (e : Planned) (b : RemoteBit) → remote_bit_of t d e ≡ Some b → (e.0.0 ≡ d) × (b.name ≡ e.0.1)
    remote_named e b p = let w = remote_bit_parts t d e b p in (w.0, ap (λ (b : RemoteBit). b.name) (sym w.4))

    null_named : (e : Planned) (b : NullBit) → null_bit t d e ≡ Some b → (e.0.0 ≡ d) × (b.name ≡ e.0.1)
    null_named e b p = let w = null_bit_parts t d e b p in (w.0, ap (λ (b : NullBit). b.name) (sym w.2))

    -- a name that is among those of full bits is planned to be full
    among_full : (n : List ℕ) → Lies n (full_names fulls) → (r : InodeRecord) × (get plan.dentries (d, n) ≡ Some (Some (Full r)))
    among_full n l =
        let x = in_map (λ (b : FullBit). b.name) fulls n l in
        let y = in_filter_map (full_bit t d) es x.0 x.1 in
        let z = full_bit_parts t d y.0 x.0 y.2 in
        let w = full_named y.0 x.0 y.2 in
        let k : y.0.0 ≡ (d, n) = λ i. (w.0 i, (sym w.1 ∙ x.2) i) in
        (z.1, ap (get plan.dentries) (sym k) ∙ at_entry_of y.0 y.1 ∙ ap Some z.2)

    among_remote : (n : List ℕ) → Lies n (remote_names remotes) → (i : ℕ) × (k : Kind) × (get plan.dentries (d, n) ≡ Some (Some (Remote i k)))
    among_remote n l =
        let x = in_map (λ (b : RemoteBit). b.name) remotes n l in
        let y = in_filter_map (remote_bit_of t d) es x.0 x.1 in
        let z = remote_bit_parts t d y.0 x.0 y.2 in
        let w = remote_named y.0 x.0 y.2 in
        let k : y.0.0 ≡ (d, n) = λ i. (w.0 i, (sym w.1 ∙ x.2) i) in
        (z.1, z.2, ap (get plan.dentries) (sym k) ∙ at_entry_of y.0 y.1 ∙ ap Some z.3)

    planned_at : (e : Planned) (n : List ℕ) → Lies e es → e.0.0 ≡ d → n ≡ e.0.1 → get plan.dentries (d, n) ≡ Some e.1
    planned_at e n l dir name = let k : (d, n) ≡ e.0 = λ i. (sym dir i, name i) in ap (get plan.dentries) k ∙ at_entry_of e l

    full_ok : (e : Planned) (b : FullBit) → Lies e es → full_bit t d e ≡ Some b → (is_name b.name ≡ true) × (is_in [] b.name ≡ false)
    full_ok e b l p = (subst (λ n. is_name n ≡ true) (sym (full_named e b p).1) (fits.names e.0 e.1 (at_entry_of e l)), refl)

    remote_ok : (e : Planned) (b : RemoteBit) → Lies e es → remote_bit_of t d e ≡ Some b → (is_name b.name ≡ true) × (is_in (full_names fulls) b.name ≡ false)
    remote_ok e b l p =
        let w = remote_named e b p in
        let z = remote_bit_parts t d e b p in
        (subst (λ n. is_name n ≡ true) (sym w.1) (fits.names e.0 e.1 (at_entry_of e l)), not_in (full_names fulls) b.name (λ m. let y = among_full b.name m in other (sym y.1 ∙ planned_at e b.name l w.0 w.1 ∙ ap Some z.3)))
      where
        other : {r : InodeRecord} {i : ℕ} {k : Kind} → ◌≡◌ {A = Option (Option Naming)} (Some (Some (Full r))) (Some (Some (Remote i k))) → ⊥
        other e = absurd cc

    null_ok : (e : Planned) (b : NullBit) → Lies e es → null_bit t d e ≡ Some b → (is_name b.name ≡ true) × (is_in (full_names fulls ++ remote_names remotes) b.name ≡ false)
    null_ok e b l p =
        let w = null_named e b p in
        let z = null_bit_parts t d e b p in
        let here = planned_at e b.name l w.0 w.1 ∙ ap Some z.1 in (
          subst (λ n. is_name n ≡ true) (sym w.1) (fits.names e.0 e.1 (at_entry_of e l)),
          not_in (full_names fulls ++ remote_names remotes) b.name (λ m. elim (in_append (full_names fulls) (remote_names remotes) b.name m) [
            | inl f ↦ let y = among_full b.name f in other_full (sym y.1 ∙ here)
            | inr r ↦ let y = among_remote b.name r in other_remote (sym y.2 ∙ here)
          ]),
        )
      where
        other_full : {r : InodeRecord} → ◌≡◌ {A = Option (Option Naming)} (Some (Some (Full r))) (Some None) → ⊥
        other_full e = absurd cc

        other_remote : {i : ℕ} {k : Kind} → ◌≡◌ {A = Option (Option Naming)} (Some (Some (Remote i k))) (Some None) → ⊥
        other_remote e = absurd cc

    full_fits : (b : FullBit) → Lies b fulls → FullFits b
    full_fits b l =
        let y = in_filter_map (full_bit t d) es b l in
        let z = full_bit_parts t d y.0 b y.2 in
        let f : NamingFits rank y.0.0 (Some (Full z.1)) = subst (NamingFits rank y.0.0) z.2 (fits.fit y.0.0 y.0.1 (at_entry_of y.0 y.1)) in
        subst FullFits z.3 (version_fits t d, f.0)

    remote_fits : (b : RemoteBit) → Lies b remotes → RemoteFits b
    remote_fits b l =
        let y = in_filter_map (remote_bit_of t d) es b l in
        let z = remote_bit_parts t d y.0 b y.2 in
        let f : NamingFits rank y.0.0 (Some (Remote z.1 z.2)) = subst (NamingFits rank y.0.0) z.3 (fits.fit y.0.0 y.0.1 (at_entry_of y.0 y.1)) in
        subst RemoteFits z.4 (version_fits t d, f.0, no_dir_bit z.2 f.1)

    null_fits : (b : NullBit) → Lies b (filter_map (null_bit t d) es) → NullFits b
    null_fits b l =
        let y = in_filter_map (null_bit t d) es b l in
        let z = null_bit_parts t d y.0 b y.2 in
        subst NullFits z.2 (version_fits t d)

    lump_fits : (h : HeadBit) → get (heads_of t plan) d ≡ Some h → IsLump (lump_of t es (d, h))
    lump_fits h e =
        let w = head_fits d h e in
        let sorted = entries_sorted plan.dentries in
        record {
          dir = own_fits rank s.next d fits.first fits.next w.0;
          head = w.1;
          counts = (omega (arith, fewer (full_bit t d) es, few_entries), omega (arith, fewer (remote_bit_of t d) es, few_entries), omega (arith, fewer (null_bit t d) es, few_entries));
          full = (lies_all FullFits fulls full_fits, bits_rise d (full_bit t d) (λ (b : FullBit). b.name) [] full_named None es sorted tt full_ok);
          remote = (lies_all RemoteFits remotes remote_fits, bits_rise d (remote_bit_of t d) (λ (b : RemoteBit). b.name) (full_names fulls) remote_named None es sorted tt remote_ok);
          null = (lies_all NullFits (filter_map (null_bit t d) es) null_fits, bits_rise d (null_bit t d) (λ (b : NullBit). b.name) (full_names fulls ++ remote_names remotes) null_named None es sorted tt null_ok);
        }

  each_lump : (l : DirLump) → Lies l (lumps_of t plan) → IsLump l
  each_lump l m = let x = in_map (lump_of t es) hs l m in subst IsLump x.2 (lump_fits x.0.0 x.0.1 (entry_at exact_nat (heads_of t plan) x.0 x.1))

  pub plan_blob : IsBlob (record { lumps = lumps_of t plan })
  plan_blob = record { count = few_lumps; lumps = (lies_all IsLump (lumps_of t plan) each_lump, lumps_rise t es None hs (entries_sorted (heads_of t plan)) tt) }

  write_own : (w : CellWrite) (d : ℕ) → IsPlanned t plan w → head_written w ≡ Some d → IsOwn rank s.next d
  write_own _ d (a_head e h x) f = subst (IsOwn rank s.next) (some_same e d f) (head_fits e h x).0
  write_own _ d (a_dentry q n x) f = absurd (none_some d f)

  pub plan_own : AllByRecursion (IsOwn rank s.next) (lump_dirs (flat_map lump_writes (lumps_of t plan)))
  plan_own = lies_all (IsOwn rank s.next) (lump_dirs (flat_map lump_writes (lumps_of t plan))) (λ d l.
      let x = in_filter_map head_written (flat_map lump_writes (lumps_of t plan)) d l in
      write_own x.0 d (in_plan t plan x.0 x.1) x.2)

  dentry_orderly : (q : ℕ × List ℕ) (v : ℕ) (n : Option Naming) → NamingFits rank q n → IsOrderlyWrite rank (write (key.Dentry q.0 q.1) (written v n))
  dentry_orderly q v None f = (tt, tt, tt)
  dentry_orderly q v (Some (Full r)) f = (f.1, f.2, tt)
  dentry_orderly q v (Some (Remote i k)) f = (tt, f.2, tt)

  head_orderly : (d : ℕ) (h : HeadBit) → get (heads_of t plan) d ≡ Some h → IsOrderlyWrite rank (write (key.DirHead d) (head_value h))
  head_orderly d h e = elim (head_is t plan d h e) [
    | inl w ↦ subst (λ h. IsOrderlyWrite rank (write (key.DirHead d) (head_value h))) (sym w.1) (tt, tt, tt)
    | inr w ↦ subst (λ h. IsOrderlyWrite rank (write (key.DirHead d) (head_value h))) (sym w.3) (tt, tt, λ z. omega (arith, z, version_some t d))
  ]

  write_orderly : (w : CellWrite) → IsPlanned t plan w → IsOrderlyWrite rank w
  write_orderly _ (a_head d h e) = head_orderly d h e
  write_orderly _ (a_dentry q n e) = dentry_orderly q (next_version t q.0) n (fits.fit q n e)

  pub plan_orderly : AllByRecursion (IsOrderlyWrite rank) (flat_map lump_writes (lumps_of t plan))
  plan_orderly = lies_all (IsOrderlyWrite rank) (flat_map lump_writes (lumps_of t plan)) (λ w l. write_orderly w (in_plan t plan w l))

-- ---- together

-- The table with the plan has the tree after a change, which is of no session and no open.
pub record PlanDoes (rank : ℕ) (t : Table) (s s1 : PlainState) (plan : Plan) : Type 0 where
  pub primary : Places
  pub dentries : HasDentries rank (laid t plan) s1 primary
  pub reached : (d : ℕ) → is_dir s1 d ≡ true → IsReached s1 d
  pub sessions : s1.sessions ≡ s.sessions
  pub opens : s1.opens ≡ s.opens
  pub next : s1.next ≡ s.next
  pub fits : PlanFits rank s1 plan

pub plan_is : (rank : ℕ) (t : Table) (s : PlainState) (is : IsTreeOf rank t s) (r : ClientRequest) (i : ℕ) (change : Change) (plan : Plan) → i < 2 ^ 64 → PlanDoes rank t s (changed s change) plan → IsPlan rank t s r i change None None None (lumps_of t plan)
plan_is rank t s is r i change plan inode does = record {
  primary = does.primary;
  dentries = does.dentries;
  reached = does.reached;
  sessions = does.sessions;
  opens = λ client j h. is.sessions.open_sessions client j (subst (λ (m : Set pair_cmp). IsSome (get m (client, j))) does.opens h);
  inode = inode;
  optionals = (tt, tt, tt);
  blob = plan_blob rank t (changed s change) plan does.fits;
  own = plan_own rank t (changed s change) plan does.fits;
  rises = omega (arith, does.next);
  orderly = plan_orderly rank t (changed s change) plan does.fits;
}
