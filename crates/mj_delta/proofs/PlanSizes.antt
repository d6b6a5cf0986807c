-- How many bytes the lumps of a plan have.
use Rattle.std.proofs.Common.{◌≡◌, ℕ, ◌+◌, ◌-◌, ◌*◌, ◌≤◌, true, false, List, [], ◌∷◌, length, map, Option, Some, None, refl, ap, arith}
use Rattle.std.specs.Prelude.{◌==◌, if◌then◌else◌}
use Rattle.std.specs.declared.cmp.Ordering.{Ordering}
use Rattle.std.specs.declared.cmp.Ordering.TheVariants.{Less, Equal, Greater}
use Rattle.std.specs.FinMap.Entries.{by_order, put}
use Rattle.std.specs.List.{filter_map, cons_option}
use Rattle.mj_maps.specs.Map.{Map, entries, insert, remove, empty, from_entries}
use Rattle.mj_maps.specs.Orders.{place_cmp}
use Rattle.mj_maps.proofs.MapLaws.{Exact, exact_nat, exact_place, entries-insert, entries-empty}
use Rattle.mj_tree.specs.declared.change.Attributes.{Attributes}
use Rattle.mj_tree.specs.State.{PlainState, is_kept, link_count, record_of}
use Rattle.mj_cells.specs.Table.{Table}
use Rattle.mj_meta.specs.declared.HeadBit.{HeadBit}
use Rattle.mj_meta.specs.declared.HeadBit.TheVariants as head
use Rattle.mj_meta.specs.declared.FullBit.{FullBit}
use Rattle.mj_meta.specs.declared.RemoteBit.{RemoteBit}
use Rattle.mj_meta.specs.declared.NullBit.{NullBit}
use Rattle.mj_delta.specs.Events.{next_version}
use Rattle.mj_delta.specs.Plan.Naming.{Full, Remote}
use Rattle.mj_delta.specs.Plan.{Naming, Plan, Planned, touched, without_head, heads_of, full_bit, remote_bit_of, null_bit, lump_of, lumps_of, left_place, left_dentries, with_dentry}
use Rattle.mj_delta.proofs.Sizes.{lumps_most}

-- ---- a measure of the entries of a map

abbrev measure : {K X : Type 0} → (X → ℕ) → List (K × X) → ℕ
measure w [] = 0
measure w (e ∷ es) = w e.1 + measure w es

put_measure : {K X : Type 0} (R : K → K → Ordering) (w : X → ℕ) (k : K) (v : X) (es : List (K × X)) → measure w (put R k v es) ≤ measure w es + w v
put_measure R w k v [] = omega arith
put_measure R w k v (e ∷ es) = let rest = put_measure R w k v es in
    elim (R k e.0) as (λ o. measure w (by_order o ((k, v) ∷ e ∷ es) ((e.0, v) ∷ es) (e ∷ put R k v es)) ≤ measure w (e ∷ es) + w v) [
      | Less ↦ omega arith
      | Equal ↦ omega arith
      | Greater ↦ omega (arith, rest)
    ]

module _ {K X : Type 0} {R : K → K → Ordering} (o : Exact R) (w : X → ℕ) where
  insert_measure : (m : Map R X) (k : K) (v : X) → measure w (entries (insert m k v)) ≤ measure w (entries m) + w v
  insert_measure m k v = let e = ap (measure w) (entries-insert o m k v) in let p = put_measure R w k v (entries m) in omega (arith, e, p)

  made_measure : (es : List (K × X)) → measure w (entries (from_entries {R = R} es)) ≤ measure w es
  made_measure [] = let e = ap (measure w) (entries-empty {X = X} R) in omega (arith, e)
  made_measure (e ∷ es) = let p = insert_measure (from_entries es) e.0 e.1 in let rest = made_measure es in omega (arith, p, rest)

-- how many there are
abbrev one : {X : Type 0} → X → ℕ
one x = 1

-- how many bytes what is planned of a dentry has at most
abbrev weight : Option Naming → ℕ
weight None = 265
weight (Some (Full r)) = 4402
weight (Some (Remote i kind)) = 274

weight_most : (n : Option Naming) → weight n ≤ 4402
weight_most None = omega arith
weight_most (Some (Full r)) = omega arith
weight_most (Some (Remote i kind)) = omega arith

-- ---- the lumps of a plan

module _ (t : Table) where
  touched_count : (es : List Planned) → measure one (map (touched t) es) ≡ measure one es
  touched_count [] = refl
  touched_count (e ∷ es) = let rest = touched_count es in omega (arith, rest)

  without_count : (removed : Option ℕ) (heads : Map _ HeadBit) → measure one (entries (without_head removed heads)) ≤ measure one (entries heads) + 1
  without_count None heads = omega arith
  without_count (Some d) heads = insert_measure exact_nat one heads d head.Gone

  -- one more than the dentries
  few_heads : (plan : Plan) → measure one (entries (heads_of t plan)) ≤ measure one (entries plan.dentries) + 1
  few_heads plan =
      let es = map (touched t) (entries plan.dentries) in
      let all = without_count plan.removed (from_entries es) in
      let made = made_measure exact_nat one es in
      let same = touched_count (entries plan.dentries) in
      omega (arith, all, made, same)

  -- a dentry has one bit in a lump
  bit_most : (d : ℕ) (q : ℕ × List ℕ) (n : Option Naming) (fs : List FullBit) (rs : List RemoteBit) (ns : List NullBit) (rest : ℕ)
      → length fs * 4402 + length rs * 274 + length ns * 265 ≤ rest
      → length (cons_option (full_bit t d (q, n)) fs) * 4402 + length (cons_option (remote_bit_of t d (q, n)) rs) * 274 + length (cons_option (null_bit t d (q, n)) ns) * 265 ≤ weight n + rest
  bit_most d q None fs rs ns rest h =
      elim (q.0 == d) as (λ c. length (cons_option (if c then None else None) fs) * 4402 + length (cons_option (if c then None else None) rs) * 274 + length (cons_option (if c then Some (record { name = q.1; version = next_version t d }) else None) ns) * 265 ≤ 265 + rest) [
        | true ↦ omega (arith, h)
        | false ↦ omega (arith, h)
      ]
  bit_most d q (Some (Full r)) fs rs ns rest h =
      elim (q.0 == d) as (λ c. length (cons_option (if c then Some (record { name = q.1; version = next_version t d; inode = r }) else None) fs) * 4402 + length (cons_option (if c then None else None) rs) * 274 + length (cons_option (if c then None else None) ns) * 265 ≤ 4402 + rest) [
        | true ↦ omega (arith, h)
        | false ↦ omega (arith, h)
      ]
  bit_most d q (Some (Remote i k)) fs rs ns rest h =
      elim (q.0 == d) as (λ c. length (cons_option (if c then None else None) fs) * 4402 + length (cons_option (if c then Some (record { name = q.1; version = next_version t d; ino = i; kind = k }) else None) rs) * 274 + length (cons_option (if c then None else None) ns) * 265 ≤ 274 + rest) [
        | true ↦ omega (arith, h)
        | false ↦ omega (arith, h)
      ]

  bits_most : (d : ℕ) (es : List Planned) → length (filter_map (full_bit t d) es) * 4402 + length (filter_map (remote_bit_of t d) es) * 274 + length (filter_map (null_bit t d) es) * 265 ≤ measure weight es
  bits_most d [] = omega arith
  bits_most d (e ∷ es) = bit_most d e.0 e.1 (filter_map (full_bit t d) es) (filter_map (remote_bit_of t d) es) (filter_map (null_bit t d) es) (measure weight es) (bits_most d es)

  each_most : (es : List Planned) → measure weight es ≤ 9334 → (hs : List (ℕ × HeadBit)) → lumps_most (map (lump_of t es) hs) ≤ measure one hs * 9363
  each_most es light [] = omega arith
  each_most es light (h ∷ hs) = let here = bits_most h.0 es in let rest = each_most es light hs in omega (arith, here, rest, light)

-- so many dentries at most, and so many bytes
pub record IsWithin (count bytes : ℕ) (m : Map place_cmp (Option Naming)) : Type 0 where
  pub few : measure one (entries m) ≤ count
  pub light : measure weight (entries m) ≤ bytes

pub plan_most : (t : Table) (plan : Plan) → IsWithin 4 9334 plan.dentries → lumps_most (lumps_of t plan) ≤ 46815
plan_most t plan within =
    let heads = few_heads t plan in
    let few = within.few in
    let lumps = each_most t (entries plan.dentries) within.light (entries (heads_of t plan)) in
    omega (arith, heads, few, lumps)

-- ---- the dentries of a plan

within_empty : (count bytes : ℕ) → IsWithin count bytes empty
within_empty count bytes =
    let e = ap (measure one) (entries-empty {X = Option Naming} place_cmp) in
    let f = ap (measure weight) (entries-empty {X = Option Naming} place_cmp) in
    record { few = omega (arith, e); light = omega (arith, f) }

within_insert : (count bytes most : ℕ) (m : Map place_cmp (Option Naming)) (q : ℕ × List ℕ) (n : Option Naming) → IsWithin count bytes m → weight n ≤ most → IsWithin (count + 1) (bytes + most) (insert m q n)
within_insert count bytes most m q n within light =
    let a = insert_measure exact_place one m q n in
    let b = insert_measure exact_place weight m q n in
    let few = within.few in
    let before = within.light in
    record { few = omega (arith, a, few); light = omega (arith, b, before, light) }

within_more : (count bytes : ℕ) (m : Map place_cmp (Option Naming)) (q r : ℕ × List ℕ) (n : Option Naming) → IsWithin count bytes m → IsWithin (count + 1 + 1) (bytes + 4402 + 265) (insert (insert m q n) r None)
within_more count bytes m q r n within = within_insert (count + 1) (bytes + 4402) 265 (insert m q n) r None (within_insert count bytes 4402 m q n within (weight_most n)) (omega arith)

pub left_within : (rank : ℕ) (s : PlainState) (q : ℕ × List ℕ) (i : ℕ) (p : ℕ × List ℕ) (a : Option Attributes) → IsWithin 2 4667 (left_dentries rank s q i p a)
left_within rank s q i p None = within_empty 2 4667
left_within rank s q i p (Some a) =
    elim (is_kept (record s { links = remove s.links q }) i) as (λ c. IsWithin 2 4667 (if c then insert (insert empty (left_place rank q i p) (Some (Full (record_of i (link_count s i - 1) a)))) q None else insert (insert empty p None) q None)) [
      | true ↦ within_more 0 0 empty (left_place rank q i p) q _ (within_empty 0 0)
      | false ↦ within_more 0 0 empty p q None (within_empty 0 0)
    ]

-- the dentries of a move, and of a link that goes before
pub moved_within : (t : Table) (from to : ℕ × List ℕ) → IsWithin 4 9334 (with_dentry t from to empty)
moved_within t from to = within_more 2 4667 empty to from _ (within_empty 2 4667)

pub replaced_within : (t : Table) (from to : ℕ × List ℕ) (m : Map place_cmp (Option Naming)) → IsWithin 2 4667 m → IsWithin 4 9334 (with_dentry t from to m)
replaced_within t from to m within = within_more 2 4667 m to from _ within

pub within_whole : (m : Map place_cmp (Option Naming)) → IsWithin 2 4667 m → IsWithin 4 9334 m
within_whole m within = let few = within.few in let light = within.light in record { few = omega (arith, few); light = omega (arith, light) }
