-- What the lumps of a plan write.
use Rattle.std.proofs.Common.{◌≡◌, ℕ, true, false, List, [], ◌∷◌, ◌++◌, map, Option, Some, None, refl, sym, ap, subst, ◌∙◌, ◌⊎◌, inl, inr}
use Rattle.std.specs.Prelude.{◌==◌, if◌then◌else◌}
use Rattle.std.specs.List.{flat_map, filter_map, AllByRecursion}
use Rattle.std.specs.Ordering.{eq_by_cmp}
use Rattle.std.proofs.lemmas.Bool.{eqb-true, eq-eqb}
use Rattle.mj_base.specs.declared.record.Kind.{Kind}
use Rattle.mj_base.specs.declared.record.InodeRecord.{InodeRecord}
use Rattle.mj_maps.specs.Map.{Map, entries, get, insert, from_entries}
use Rattle.mj_maps.specs.Orders.{nat_cmp}
use Rattle.mj_maps.proofs.MapLaws.{exact_nat, exact_place, none_some, some_same, insert_same, insert_other, cases_key, eq_true, eq_same, get-from_entries}
use Rattle.mj_cells.specs.declared.cell.CellKey.{CellKey}
use Rattle.mj_cells.specs.declared.cell.CellKey.TheVariants as key
use Rattle.mj_cells.specs.declared.cell.CellValue.{CellValue}
use Rattle.mj_cells.specs.declared.cell.CellValue.TheVariants as value
use Rattle.mj_cells.specs.declared.cell.CellWrite.{CellWrite}
use Rattle.mj_cells.specs.Cell.{same_key}
use Rattle.mj_cells.specs.Table.{Dentry, Table, dentry_of, number_of, dentry_value, number_value, value_of, shown, last_of, put_at, put, overlay}
use Rattle.mj_cells.specs.Table.Dentry.{Full as FullAt, Remote as RemoteAt}
use Rattle.mj_cells.proofs.Keys.{exact_key}
use Rattle.mj_cells.proofs.Tables.{value_of-overlay}
use Rattle.mj_meta.specs.declared.HeadBit.{HeadBit}
use Rattle.mj_meta.specs.declared.HeadBit.TheVariants as head
use Rattle.mj_meta.specs.declared.FullBit.{FullBit}
use Rattle.mj_meta.specs.declared.RemoteBit.{RemoteBit}
use Rattle.mj_meta.specs.declared.NullBit.{NullBit}
use Rattle.mj_event.specs.Writes.{write, head_value, full_write, remote_write, null_write, lump_writes}
use Rattle.mj_delta.specs.Events.{next_version}
use Rattle.mj_delta.specs.Plan.Naming.{Full, Remote}
use Rattle.mj_delta.specs.Plan.{Naming, Plan, Planned, touched, without_head, heads_of, full_bit, remote_bit_of, null_bit, lump_of, lumps_of}
use Rattle.mj_delta.proofs.Facts.{cond_same, cases_option}
use Rattle.mj_delta.proofs.Lists.{Lies, in_append, in_map, to_map, in_filter_map, to_filter_map, entry_at, at_entry, found_in, found_some, lies_all}

-- ---- lists

pub in_flat_map : {A B : Type 0} (f : A → List B) (xs : List A) (y : B) → Lies y (flat_map f xs) → (x : A) × Lies x xs × Lies y (f x)
in_flat_map f [] y l = absurd l
in_flat_map f (x ∷ xs) y l = elim (in_append (f x) (flat_map f xs) y l) [ inl h ↦ (x, inl refl, h) | inr m ↦ let w = in_flat_map f xs y m in (w.0, inr w.1, w.2) ]

pub to_left : {A : Type 0} (xs ys : List A) (x : A) → Lies x xs → Lies x (xs ++ ys)
to_left [] ys x l = absurd l
to_left (z ∷ xs) ys x (inl e) = inl e
to_left (z ∷ xs) ys x (inr l) = inr (to_left xs ys x l)

pub to_right : {A : Type 0} (xs ys : List A) (x : A) → Lies x ys → Lies x (xs ++ ys)
to_right [] ys x l = l
to_right (z ∷ xs) ys x l = inr (to_right xs ys x l)

pub to_flat_map : {A B : Type 0} (f : A → List B) (xs : List A) (x : A) (y : B) → Lies x xs → Lies y (f x) → Lies y (flat_map f xs)
to_flat_map f [] x y l h = absurd l
to_flat_map f (z ∷ xs) x y (inl e) h = to_left (f z) (flat_map f xs) y (subst (λ x. Lies y (f x)) (sym e) h)
to_flat_map f (z ∷ xs) x y (inr l) h = to_right (f z) (flat_map f xs) y (to_flat_map f xs x y l h)

-- ---- what is planned

-- the value of a dentry that says this
abbrev pub written : ℕ → Option Naming → CellValue
written v None = value.Null v
written v (Some (Full r)) = value.Full v r
written v (Some (Remote i k)) = value.Remote v i k

pub data IsPlanned (t : Table) (plan : Plan) : CellWrite → Type 0 where
  a_head : (d : ℕ) (h : HeadBit) → get (heads_of t plan) d ≡ Some h → IsPlanned t plan (write (key.DirHead d) (head_value h))
  a_dentry : (q : ℕ × List ℕ) (n : Option Naming) → get plan.dentries q ≡ Some n → IsPlanned t plan (write (key.Dentry q.0 q.1) (written (next_version t q.0) n))

module _ (t : Table) where
  full_parts : (d : ℕ) (q : ℕ × List ℕ) (o : Option Naming) (b : FullBit) → full_bit t d (q, o) ≡ Some b
      → (q.0 ≡ d) × (r : InodeRecord) × (o ≡ Some (Full r)) × (record { name = q.1; version = next_version t d; inode = r } ≡ b)
  full_parts d q None b h = absurd (none_some b (sym (cond_same (q.0 == d) None) ∙ h))
  full_parts d q (Some (Remote i k)) b h = absurd (none_some b (sym (cond_same (q.0 == d) None) ∙ h))
  full_parts d q (Some (Full r)) b h = elim (q.0 == d) as (λ c. (q.0 == d) ≡ c → (if c then Some x else None) ≡ Some b → (q.0 ≡ d) × (z : InodeRecord) × (Some (Full r) ≡ Some (Full z)) × (record { name = q.1; version = next_version t d; inode = z } ≡ b)) [
    | true ↦ λ e f. (eqb-true q.0 d e, r, refl, some_same x b f)
    | false ↦ λ e f. absurd (none_some b f)
  ] refl h
    where
      x : FullBit
      x = record { name = q.1; version = next_version t d; inode = r }

  remote_parts : (d : ℕ) (q : ℕ × List ℕ) (o : Option Naming) (b : RemoteBit) → remote_bit_of t d (q, o) ≡ Some b
      → (q.0 ≡ d) × (i : ℕ) × (k : Kind) × (o ≡ Some (Remote i k)) × (record { name = q.1; version = next_version t d; ino = i; kind = k } ≡ b)
  remote_parts d q None b h = absurd (none_some b (sym (cond_same (q.0 == d) None) ∙ h))
  remote_parts d q (Some (Full r)) b h = absurd (none_some b (sym (cond_same (q.0 == d) None) ∙ h))
  remote_parts d q (Some (Remote i k)) b h = elim (q.0 == d) as (λ c. (q.0 == d) ≡ c → (if c then Some x else None) ≡ Some b
      → (q.0 ≡ d) × (j : ℕ) × (l : Kind) × (Some (Remote i k) ≡ Some (Remote j l)) × (record { name = q.1; version = next_version t d; ino = j; kind = l } ≡ b)) [
        | true ↦ λ e f. (eqb-true q.0 d e, i, k, refl, some_same x b f)
        | false ↦ λ e f. absurd (none_some b f)
      ] refl h
    where
      x : RemoteBit
      x = record { name = q.1; version = next_version t d; ino = i; kind = k }

  null_parts : (d : ℕ) (q : ℕ × List ℕ) (o : Option Naming) (b : NullBit) → null_bit t d (q, o) ≡ Some b → (q.0 ≡ d) × (o ≡ None) × (record { name = q.1; version = next_version t d } ≡ b)
  null_parts d q (Some (Full r)) b h = absurd (none_some b (sym (cond_same (q.0 == d) None) ∙ h))
  null_parts d q (Some (Remote i k)) b h = absurd (none_some b (sym (cond_same (q.0 == d) None) ∙ h))
  null_parts d q None b h = elim (q.0 == d) as (λ c. (q.0 == d) ≡ c → (if c then Some x else None) ≡ Some b → (q.0 ≡ d) × (◌≡◌ {A = Option Naming} None None) × (record { name = q.1; version = next_version t d } ≡ b)) [
    | true ↦ λ e f. (eqb-true q.0 d e, refl, some_same x b f)
    | false ↦ λ e f. absurd (none_some b f)
  ] refl h
    where
      x : NullBit
      x = record { name = q.1; version = next_version t d }

  pub full_bit_parts : (d : ℕ) (e : Planned) (b : FullBit) → full_bit t d e ≡ Some b
      → (e.0.0 ≡ d) × (r : InodeRecord) × (e.1 ≡ Some (Full r)) × (record { name = e.0.1; version = next_version t d; inode = r } ≡ b)
  full_bit_parts d e b h = full_parts d e.0 e.1 b h

  pub remote_bit_parts : (d : ℕ) (e : Planned) (b : RemoteBit) → remote_bit_of t d e ≡ Some b
      → (e.0.0 ≡ d) × (i : ℕ) × (k : Kind) × (e.1 ≡ Some (Remote i k)) × (record { name = e.0.1; version = next_version t d; ino = i; kind = k } ≡ b)
  remote_bit_parts d e b h = remote_parts d e.0 e.1 b h

  pub null_bit_parts : (d : ℕ) (e : Planned) (b : NullBit) → null_bit t d e ≡ Some b → (e.0.0 ≡ d) × (e.1 ≡ None) × (record { name = e.0.1; version = next_version t d } ≡ b)
  null_bit_parts d e b h = null_parts d e.0 e.1 b h

  -- ---- what a lump writes

  in_lump : (es : List Planned) (d : ℕ) (h : HeadBit) (w : CellWrite) → Lies w (lump_writes (lump_of t es (d, h)))
      → (write (key.DirHead d) (head_value h) ≡ w) ⊎ ((e : Planned) × Lies e es × (e.0.0 ≡ d) × (write (key.Dentry d e.0.1) (written (next_version t d) e.1) ≡ w))
  in_lump es d h w (inl e) = inl e
  in_lump es d h w (inr l) =
      let fulls = map (full_write d) (filter_map (full_bit t d) es) in
      let remotes = map (remote_write d) (filter_map (remote_bit_of t d) es) in
      let nulls = map (null_write d) (filter_map (null_bit t d) es) in
      inr (elim (in_append (fulls ++ remotes) nulls w l) [
        | inl m ↦ elim (in_append fulls remotes w m) [
          | inl a ↦
              let x = in_map (full_write d) (filter_map (full_bit t d) es) w a in
              let y = in_filter_map (full_bit t d) es x.0 x.1 in
              let z = full_bit_parts d y.0 x.0 y.2 in
              (y.0, y.1, z.0, ap (λ o. write (key.Dentry d y.0.0.1) (written (next_version t d) o)) z.2 ∙ ap (full_write d) z.3 ∙ x.2)
          | inr b ↦
              let x = in_map (remote_write d) (filter_map (remote_bit_of t d) es) w b in
              let y = in_filter_map (remote_bit_of t d) es x.0 x.1 in
              let z = remote_bit_parts d y.0 x.0 y.2 in
              (y.0, y.1, z.0, ap (λ o. write (key.Dentry d y.0.0.1) (written (next_version t d) o)) z.3 ∙ ap (remote_write d) z.4 ∙ x.2)
        ]
        | inr c ↦
            let x = in_map (null_write d) (filter_map (null_bit t d) es) w c in
            let y = in_filter_map (null_bit t d) es x.0 x.1 in
            let z = null_bit_parts d y.0 x.0 y.2 in
            (y.0, y.1, z.0, ap (λ o. write (key.Dentry d y.0.0.1) (written (next_version t d) o)) z.1 ∙ ap (null_write d) z.2 ∙ x.2)
      ])

  lump_in : (es : List Planned) (h : HeadBit) (q : ℕ × List ℕ) (n : Option Naming) → Lies (q, n) es → Lies (write (key.Dentry q.0 q.1) (written (next_version t q.0) n)) (lump_writes (lump_of t es (q.0, h)))
  lump_in es h q None l = inr (to_right (map (full_write q.0) (filter_map (full_bit t q.0) es) ++ map (remote_write q.0) (filter_map (remote_bit_of t q.0) es)) _ _
      (to_map (null_write q.0) _ _ (to_filter_map (null_bit t q.0) es (q, None) (record { name = q.1; version = next_version t q.0 }) l
      (ap (λ c. if c then Some (record { name = q.1; version = next_version t q.0 }) else None) (eq-eqb q.0 q.0 refl)))))
  lump_in es h q (Some (Full r)) l = inr (to_left (map (full_write q.0) (filter_map (full_bit t q.0) es) ++ map (remote_write q.0) (filter_map (remote_bit_of t q.0) es)) _ _ (to_left (map (full_write q.0) (filter_map (full_bit t q.0) es)) _ _
      (to_map (full_write q.0) _ _ (to_filter_map (full_bit t q.0) es (q, Some (Full r)) (record { name = q.1; version = next_version t q.0; inode = r }) l
      (ap (λ c. if c then Some (record { name = q.1; version = next_version t q.0; inode = r }) else None) (eq-eqb q.0 q.0 refl))))))
  lump_in es h q (Some (Remote i k)) l = inr (to_left (map (full_write q.0) (filter_map (full_bit t q.0) es) ++ map (remote_write q.0) (filter_map (remote_bit_of t q.0) es)) _ _ (to_right (map (full_write q.0) (filter_map (full_bit t q.0) es)) _ _
      (to_map (remote_write q.0) _ _ (to_filter_map (remote_bit_of t q.0) es (q, Some (Remote i k)) (record { name = q.1; version = next_version t q.0; ino = i; kind = k }) l
      (ap (λ c. if c then Some (record { name = q.1; version = next_version t q.0; ino = i; kind = k }) else None) (eq-eqb q.0 q.0 refl))))))

  module _ (plan : Plan) where
    abbrev es : List Planned
    es = entries plan.dentries

    abbrev pub touched_heads : Map nat_cmp HeadBit
    touched_heads = from_entries (map (touched t) es)

    -- ---- heads

    touched_is : (d : ℕ) (h : HeadBit) → get touched_heads d ≡ Some h → (e : Planned) × (get plan.dentries e.0 ≡ Some e.1) × (e.0.0 ≡ d) × (h ≡ head.At (next_version t d))
    touched_is d h e =
        let l = found_in exact_nat (map (touched t) es) d h (sym (get-from_entries exact_nat (map (touched t) es) d) ∙ e) in
        let x = in_map (touched t) es (d, h) l in
        let dir = ap (λ (p : ℕ × HeadBit). p.0) x.2 in
        (x.0, entry_at exact_place plan.dentries x.0 x.1, dir, ap (λ (p : ℕ × HeadBit). p.1) (sym x.2) ∙ ap (λ d. head.At (next_version t d)) dir)

    touched_some : (q : ℕ × List ℕ) (n : Option Naming) → get plan.dentries q ≡ Some n → get touched_heads q.0 ≡ Some (head.At (next_version t q.0))
    touched_some q n e =
        let l = to_map (touched t) es (q, n) (at_entry exact_place plan.dentries q n e) in
        let x = found_some exact_nat (map (touched t) es) q.0 (head.At (next_version t q.0)) l in
        let there = get-from_entries exact_nat (map (touched t) es) q.0 ∙ x.1 in
        there ∙ ap Some (touched_is q.0 x.0 there).3

    head_choice : (o : Option ℕ) (m : Map nat_cmp HeadBit) (d : ℕ) (h : HeadBit) → get (without_head o m) d ≡ Some h → ((o ≡ Some d) × (h ≡ head.Gone)) ⊎ (get m d ≡ Some h)
    head_choice None m d h e = inr e
    head_choice (Some r) m d h e = elim (cases_key exact_nat d r) [
      | inl same ↦ inl (ap Some (sym same), some_same h head.Gone (sym e ∙ ap (get (insert m r head.Gone)) same ∙ insert_same exact_nat m r head.Gone))
      | inr ne ↦ inr (sym (insert_other exact_nat m r head.Gone d ne) ∙ e)
    ]

    head_other : (o : Option ℕ) (m : Map nat_cmp HeadBit) (d : ℕ) → (o ≡ Some d → ⊥) → get (without_head o m) d ≡ get m d
    head_other None m d ne = refl
    head_other (Some r) m d ne = elim (cases_key exact_nat d r) [
      | inl same ↦ absurd (ne (ap Some (sym same)))
      | inr far ↦ insert_other exact_nat m r head.Gone d far
    ]

    -- a head that is written is that of the directory that goes, or its directory has a dentry that changes
    pub head_is : (d : ℕ) (h : HeadBit) → get (heads_of t plan) d ≡ Some h → ((plan.removed ≡ Some d) × (h ≡ head.Gone)) ⊎ ((e : Planned) × (get plan.dentries e.0 ≡ Some e.1) × (e.0.0 ≡ d) × (h ≡ head.At (next_version t d)))
    head_is d h e = elim (head_choice plan.removed touched_heads d h e) [ inl w ↦ inl w | inr m ↦ inr (touched_is d h m) ]

    pub head_touched : (q : ℕ × List ℕ) (n : Option Naming) → get plan.dentries q ≡ Some n → (plan.removed ≡ Some q.0 → ⊥) → get (heads_of t plan) q.0 ≡ Some (head.At (next_version t q.0))
    head_touched q n e ne = head_other plan.removed touched_heads q.0 ne ∙ touched_some q n e

    pub head_removed : (d : ℕ) → plan.removed ≡ Some d → get (heads_of t plan) d ≡ Some head.Gone
    head_removed d e = ap (λ o. get (without_head o touched_heads) d) e ∙ insert_same exact_nat touched_heads d head.Gone

    some_head : (q : ℕ × List ℕ) (n : Option Naming) → get plan.dentries q ≡ Some n → (h : HeadBit) × (get (heads_of t plan) q.0 ≡ Some h)
    some_head q n e = elim (cases_option plan.removed) [
      | inl none ↦ (head.At (next_version t q.0), head_touched q n e (λ z. none_some q.0 (sym none ∙ z)))
      | inr w ↦ elim (cases_key exact_nat q.0 w.0) [
        | inl same ↦ (head.Gone, head_removed q.0 (w.1 ∙ ap Some (sym same)))
        | inr ne ↦ (head.At (next_version t q.0), head_touched q n e (λ z. apart_key q.0 w.0 ne (some_same q.0 w.0 (sym z ∙ w.1))))
      ]
    ]
      where
        apart_key : (a b : ℕ) → eq_by_cmp nat_cmp a b ≡ false → a ≡ b → ⊥
        apart_key a b ne e = absurd (not_both (sym ne ∙ ap (λ a. eq_by_cmp nat_cmp a b) e ∙ eq_same exact_nat b))
          where
            not_both : false ≡ true → ⊥
            not_both e = cc

    -- ---- all that is written

    pub in_plan : (w : CellWrite) → Lies w (flat_map lump_writes (lumps_of t plan)) → IsPlanned t plan w
    in_plan w l =
        let x = in_flat_map lump_writes (lumps_of t plan) w l in
        let y = in_map (lump_of t es) (entries (heads_of t plan)) x.0 x.1 in
        elim (in_lump es y.0.0 y.0.1 w (subst (λ l. Lies w (lump_writes l)) (sym y.2) x.2)) [
          | inl e ↦ subst (IsPlanned t plan) e (a_head y.0.0 y.0.1 (entry_at exact_nat (heads_of t plan) y.0 y.1))
          | inr u ↦ subst (IsPlanned t plan) ((λ z. write (key.Dentry (u.2 z) u.0.0.1) (written (next_version t (u.2 z)) u.0.1)) ∙ u.3) (a_dentry u.0.0 u.0.1 (entry_at exact_place plan.dentries u.0 u.1))
        ]

    pub head_in : (d : ℕ) (h : HeadBit) → get (heads_of t plan) d ≡ Some h → Lies (write (key.DirHead d) (head_value h)) (flat_map lump_writes (lumps_of t plan))
    head_in d h e = to_flat_map lump_writes (lumps_of t plan) (lump_of t es (d, h)) _ (to_map (lump_of t es) (entries (heads_of t plan)) (d, h) (at_entry exact_nat (heads_of t plan) d h e)) (inl refl)

    pub dentry_in : (q : ℕ × List ℕ) (n : Option Naming) → get plan.dentries q ≡ Some n → Lies (write (key.Dentry q.0 q.1) (written (next_version t q.0) n)) (flat_map lump_writes (lumps_of t plan))
    dentry_in q n e =
        let h = some_head q n e in
        to_flat_map lump_writes (lumps_of t plan) (lump_of t es (q.0, h.0)) _ (to_map (lump_of t es) (entries (heads_of t plan)) (q.0, h.0) (at_entry exact_nat (heads_of t plan) q.0 h.0 h.1))
        (lump_in es h.0 q n (at_entry exact_place plan.dentries q n e))

-- ---- the table with it

pub last_same : (k : CellKey) (ws : List CellWrite) (v : CellValue) → ((w : CellWrite) → Lies w ws → same_key k w.key ≡ true → shown w.key w.value ≡ v) → last_of k ws v ≡ v
last_same k [] v h = refl
last_same k (w ∷ ws) v h = elim (same_key k w.key) as (λ b. same_key k w.key ≡ b → last_of k ws (if b then shown w.key w.value else v) ≡ v) [
  | true ↦ λ e. ap (last_of k ws) (h w (inl refl) e) ∙ last_same k ws v (λ x l. h x (inr l))
  | false ↦ λ _. last_same k ws v (λ x l. h x (inr l))
] refl

pub last_found : (k : CellKey) (ws : List CellWrite) (v before : CellValue) (w : CellWrite) → ((w : CellWrite) → Lies w ws → same_key k w.key ≡ true → shown w.key w.value ≡ v) → Lies w ws → same_key k w.key ≡ true → last_of k ws before ≡ v
last_found k [] v before w h l e = absurd l
last_found k (x ∷ ws) v before w h (inl same) e =
    let at : same_key k x.key ≡ true = ap (λ (w : CellWrite). same_key k w.key) same ∙ e in
    ap (λ b. last_of k ws (if b then shown x.key x.value else before)) at ∙ ap (last_of k ws) (h x (inl refl) at) ∙ last_same k ws v (λ y l. h y (inr l))
last_found k (x ∷ ws) v before w h (inr l) e = last_found k ws v (if same_key k x.key then shown x.key x.value else before) w (λ y m. h y (inr m)) l e

abbrev IsOfDir : CellKey → Type 0
IsOfDir (key.Dentry d n) = Unit {0}
IsOfDir (key.DirHead d) = Unit {0}
IsOfDir _ = ⊥

next_stays : (t : Table) (k : CellKey) (v : CellValue) → IsOfDir k → (put_at t k v).next ≡ t.next
next_stays t (key.Dentry d n) v h = refl
next_stays t (key.DirHead d) v h = refl
next_stays t key.NextIno v h = absurd h
next_stays t (key.Session c) v h = absurd h
next_stays t (key.Done c u) v h = absurd h
next_stays t (key.OpenOf c i) v h = absurd h

opens_stay : (t : Table) (k : CellKey) (v : CellValue) → IsOfDir k → (put_at t k v).opens ≡ t.opens
opens_stay t (key.Dentry d n) v h = refl
opens_stay t (key.DirHead d) v h = refl
opens_stay t key.NextIno v h = absurd h
opens_stay t (key.Session c) v h = absurd h
opens_stay t (key.Done c u) v h = absurd h
opens_stay t (key.OpenOf c i) v h = absurd h

next_same : (t : Table) (ws : List CellWrite) → AllByRecursion (λ (w : CellWrite). IsOfDir w.key) ws → (overlay t ws).next ≡ t.next
next_same t [] h = refl
next_same t (w ∷ ws) h = next_same (put t w) ws h.1 ∙ next_stays t w.key w.value h.0

opens_same : (t : Table) (ws : List CellWrite) → AllByRecursion (λ (w : CellWrite). IsOfDir w.key) ws → (overlay t ws).opens ≡ t.opens
opens_same t [] h = refl
opens_same t (w ∷ ws) h = opens_same (put t w) ws h.1 ∙ opens_stay t w.key w.value h.0

pub back_dentry : (o : Option Dentry) → dentry_of (dentry_value o) ≡ o
back_dentry None = refl
back_dentry (Some (FullAt v r)) = refl
back_dentry (Some (RemoteAt v i k)) = refl

back_number : (o : Option ℕ) → number_of (number_value o) ≡ o
back_number None = refl
back_number (Some n) = refl

module _ (t : Table) (plan : Plan) where
  abbrev ws : List CellWrite
  ws = flat_map lump_writes (lumps_of t plan)

  -- the table with what the plan writes
  abbrev pub laid : Table
  laid = overlay t ws

  all_of_dirs : AllByRecursion (λ (w : CellWrite). IsOfDir w.key) ws
  all_of_dirs = lies_all (λ (w : CellWrite). IsOfDir w.key) ws (λ w l. of_dir w (in_plan t plan w l))
    where
      of_dir : (w : CellWrite) → IsPlanned t plan w → IsOfDir w.key
      of_dir _ (a_head d h e) = tt
      of_dir _ (a_dentry q n e) = tt

  pub laid_next : laid.next ≡ t.next
  laid_next = next_same t ws all_of_dirs

  pub laid_opens : laid.opens ≡ t.opens
  laid_opens = opens_same t ws all_of_dirs

  dentry_shown : (q : ℕ × List ℕ) (w : CellWrite) → IsPlanned t plan w → same_key (key.Dentry q.0 q.1) w.key ≡ true → (n : Option Naming) × (get plan.dentries q ≡ Some n) × (shown w.key w.value ≡ dentry_value (dentry_of (written (next_version t q.0) n)))
  dentry_shown q _ (a_head d h e) same = absurd (other (eq_true exact_key (key.Dentry q.0 q.1) (key.DirHead d) same))
    where
      other : key.Dentry q.0 q.1 ≡ key.DirHead d → ⊥
      other e = absurd cc
  dentry_shown q _ (a_dentry p n e) same =
      let at : q ≡ p = place_same (eq_true exact_key (key.Dentry q.0 q.1) (key.Dentry p.0 p.1) same) in
      (n, ap (get plan.dentries) at ∙ e, ap (λ (p : ℕ × List ℕ). dentry_value (dentry_of (written (next_version t p.0) n))) (sym at))
    where
      place_same : key.Dentry q.0 q.1 ≡ key.Dentry p.0 p.1 → q ≡ p
      place_same e = let d : q.0 ≡ p.0 = cc in let n : q.1 ≡ p.1 = cc in λ z. (d z, n z)

  head_shown : (d : ℕ) (w : CellWrite) → IsPlanned t plan w → same_key (key.DirHead d) w.key ≡ true → (h : HeadBit) × (get (heads_of t plan) d ≡ Some h) × (shown w.key w.value ≡ number_value (number_of (head_value h)))
  head_shown d _ (a_head e h x) same =
      let at : d ≡ e = dir_same (eq_true exact_key (key.DirHead d) (key.DirHead e) same) in
      (h, ap (get (heads_of t plan)) at ∙ x, refl)
    where
      dir_same : key.DirHead d ≡ key.DirHead e → d ≡ e
      dir_same e = cc
  head_shown d _ (a_dentry p n e) same = absurd (other (eq_true exact_key (key.DirHead d) (key.Dentry p.0 p.1) same))
    where
      other : key.DirHead d ≡ key.Dentry p.0 p.1 → ⊥
      other e = absurd cc

  -- a dentry that is planned says this, and another what it said
  pub laid_at : (q : ℕ × List ℕ) (n : Option Naming) → get plan.dentries q ≡ Some n → get laid.dentries q ≡ dentry_of (written (next_version t q.0) n)
  laid_at q n e =
      let k = key.Dentry q.0 q.1 in
      let v = dentry_value (dentry_of (written (next_version t q.0) n)) in
      let all : (w : CellWrite) → Lies w ws → same_key k w.key ≡ true → shown w.key w.value ≡ v =
      λ w l same. let x = dentry_shown q w (in_plan t plan w l) same in x.2 ∙ ap (λ n. dentry_value (dentry_of (written (next_version t q.0) n))) (some_same x.0 n (sym x.1 ∙ e)) in
      sym (back_dentry (get laid.dentries q)) ∙ ap dentry_of (value_of-overlay t ws k ∙ last_found k ws v (value_of t k) _ all (dentry_in t plan q n e) (eq_same exact_key k)) ∙ back_dentry _

  pub laid_other : (q : ℕ × List ℕ) → get plan.dentries q ≡ None → get laid.dentries q ≡ get t.dentries q
  laid_other q none =
      let k = key.Dentry q.0 q.1 in
      let all : (w : CellWrite) → Lies w ws → same_key k w.key ≡ true → shown w.key w.value ≡ value_of t k =
      λ w l same. let x = dentry_shown q w (in_plan t plan w l) same in absurd (none_some x.0 (sym none ∙ x.1)) in
      sym (back_dentry (get laid.dentries q)) ∙ ap dentry_of (value_of-overlay t ws k ∙ last_same k ws (value_of t k) all) ∙ back_dentry _

  pub laid_head : (d : ℕ) (h : HeadBit) → get (heads_of t plan) d ≡ Some h → get laid.heads d ≡ number_of (head_value h)
  laid_head d h e =
      let k = key.DirHead d in
      let v = number_value (number_of (head_value h)) in
      let all : (w : CellWrite) → Lies w ws → same_key k w.key ≡ true → shown w.key w.value ≡ v =
      λ w l same. let x = head_shown d w (in_plan t plan w l) same in x.2 ∙ ap (λ h. number_value (number_of (head_value h))) (some_same x.0 h (sym x.1 ∙ e)) in
      sym (back_number (get laid.heads d)) ∙ ap number_of (value_of-overlay t ws k ∙ last_found k ws v (value_of t k) _ all (head_in t plan d h e) (eq_same exact_key k)) ∙ back_number _

  pub laid_other_head : (d : ℕ) → get (heads_of t plan) d ≡ None → get laid.heads d ≡ get t.heads d
  laid_other_head d none =
      let k = key.DirHead d in
      let all : (w : CellWrite) → Lies w ws → same_key k w.key ≡ true → shown w.key w.value ≡ value_of t k =
      λ w l same. let x = head_shown d w (in_plan t plan w l) same in absurd (none_some x.0 (sym none ∙ x.1)) in
      sym (back_number (get laid.heads d)) ∙ ap number_of (value_of-overlay t ws k ∙ last_same k ws (value_of t k) all) ∙ back_number _
