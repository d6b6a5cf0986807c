-- What a table and its plain tree say of one another.
use Rattle.std.proofs.Common.{◌≡◌, ℕ, ◌<◌, ◌≤◌, Bool, true, false, cond, ◌||◌, List, Option, Some, None, refl, sym, ap, subst, ◌∙◌, ◌⊎◌, inl, inr, arith}
use Rattle.std.specs.Prelude.{IsSome, is_some, ◌==◌}
use Rattle.std.specs.declared.cmp.Ordering.{Ordering}
use Rattle.std.specs.Option.{option_and_then, option_map}
use Rattle.std.specs.Ordering.{eq_by_cmp}
use Rattle.std.proofs.lemmas.Bool.{false≢true, cases_Bool, eqb-true, or_cases}
use Rattle.mj_base.specs.ObjectName.{stray_ino, first_ino}
use Rattle.mj_base.specs.declared.record.Kind.{Kind}
use Rattle.mj_base.specs.declared.record.Kind.TheVariants.{Dir}
use Rattle.mj_base.specs.declared.record.InodeRecord.{InodeRecord}
use Rattle.mj_maps.specs.Map.{get}
use Rattle.mj_maps.proofs.MapLaws.{Exact, exact_place, none_some, some_same, count_none, cases_key}
use Rattle.mj_tree.specs.declared.change.Attributes.{Attributes}
use Rattle.mj_tree.specs.State.{PlainState, is_dir, is_kind, is_kept, link_count}
use Rattle.mj_cells.specs.Table.{Dentry, Table}
use Rattle.mj_cells.specs.Table.Dentry.{Full, Remote}
use Rattle.mj_recovery.specs.Orderly.{IsOwn}
use Rattle.mj_delta.specs.Reads.{Places, names, full_of, said_by, remote_of, cell_of, kind_of, is_held}
use Rattle.mj_delta.specs.TreeOf.{HasDentries}

-- the root and stray lie below the rank's inodes
pub record Ids (rank : ℕ) : Type 0 where
  pub root : 1 < first_ino rank
  pub below : stray_ino rank < first_ino rank
  pub apart : stray_ino rank ≡ 1 → ⊥

pub ids : (rank : ℕ) → Ids rank
ids rank = record { root = omega arith; below = omega arith; apart = λ e. absurd (omega arith) }

pub by_key : {K : Type 0} {R : K → K → Ordering} → Exact R → (k : K) (P : K → Type 0) → P k → ((q : K) → eq_by_cmp R q k ≡ false → P q) → (q : K) → P q
by_key o k P here there q = elim (cases_key o q k) [ inl e ↦ subst P (sym e) here | inr e ↦ there q e ]

pub cases_option : {A : Type 0} (o : Option A) → (o ≡ None) ⊎ ((x : A) × (o ≡ Some x))
cases_option None = inl refl
cases_option (Some x) = inr (x, refl)

pub some_is : {A : Type 0} (o : Option A) → IsSome o → (x : A) × (o ≡ Some x)
some_is None h = absurd (false≢true h)
some_is (Some x) h = (x, refl)

pub is_some_at : {A : Type 0} (o : Option A) (x : A) → o ≡ Some x → IsSome o
is_some_at o x e = ap is_some e

pub cond_same : {A : Type 0} (b : Bool) (x : A) → cond b x x ≡ x
cond_same true x = refl
cond_same false x = refl

pub cond_is : {A : Type 0} (b : Bool) (o : Option A) (x : A) → cond b o None ≡ Some x → (b ≡ true) × (o ≡ Some x)
cond_is true o x e = (refl, e)
cond_is false o x e = absurd (none_some x e)

pub named_cases : (o : Option Dentry) (i : ℕ) → names o ≡ Some i → (full_of o ≡ Some i) ⊎ ((k : Kind) × (remote_of o ≡ Some (i, k)))
named_cases None i e = absurd (none_some i e)
named_cases (Some (Full v r)) i e = inl e
named_cases (Some (Remote v j k)) i e = inr (k, ap (λ (o : Option ℕ). option_map (λ i. (i, k)) o) e)

pub full_named : (o : Option Dentry) (i : ℕ) → full_of o ≡ Some i → names o ≡ Some i
full_named None i e = absurd (none_some i e)
full_named (Some (Full v r)) i e = e
full_named (Some (Remote v j k)) i e = absurd (none_some i e)

pub full_cell : (o : Option Dentry) (i : ℕ) → full_of o ≡ Some i → (v : ℕ) × (r : InodeRecord) × (o ≡ Some (Full v r)) × (r.ino ≡ i)
full_cell None i e = absurd (none_some i e)
full_cell (Some (Full v r)) i e = (v, r, refl, some_same r.ino i e)
full_cell (Some (Remote v j k)) i e = absurd (none_some i e)

pub remote_named : (o : Option Dentry) (i : ℕ) (k : Kind) → remote_of o ≡ Some (i, k) → names o ≡ Some i
remote_named None i k e = absurd (none_some (i, k) e)
remote_named (Some (Full v r)) i k e = absurd (none_some (i, k) e)
remote_named (Some (Remote v j m)) i k e = ap (λ (o : Option (ℕ × Kind)). option_map (λ p. p.0) o) e

pub kind_record : (kind : Kind) (o : Option Attributes) → is_kind kind o ≡ true → (a : Attributes) × (o ≡ Some a)
kind_record kind None e = absurd (false≢true e)
kind_record kind (Some a) e = (a, refl)

module _ (rank : ℕ) (t : Table) (s : PlainState) (primary : Places) (m : HasDentries rank t s primary) where
  -- a record has a full dentry
  pub record_primary : (i : ℕ) (a : Attributes) → get s.records i ≡ Some a → (q : ℕ × List ℕ) × (get primary i ≡ Some q)
  record_primary i a e =
      let c = cond_is (is_kept s i) (said_by (cell_of t primary i)) a (sym (m.records i) ∙ e) in
      elim (cases_option (get primary i)) [
        | inl none ↦ absurd (none_some a (ap (λ (o : Option (ℕ × List ℕ)). said_by (option_and_then (get t.dentries) o)) (sym none) ∙ c.1))
        | inr w ↦ w
      ]

  pub dir_cases : (d : ℕ) → is_dir s d ≡ true → (d ≡ 1) ⊎ ((q : ℕ × List ℕ) × (get primary d ≡ Some q))
  dir_cases d h = elim (or_cases (d == 1) (is_kind Dir (get s.records d)) h) [
    | inl e ↦ inl (eqb-true d 1 e)
    | inr e ↦ let r = kind_record Dir (get s.records d) e in inr (record_primary d r.0 r.1)
  ]

  pub dir_below : (d : ℕ) → is_dir s d ≡ true → d < s.next
  dir_below d h = elim (dir_cases d h) [ inl e ↦ omega (arith, (ids rank).root, m.first_next) | inr w ↦ m.beneath d w.0 w.1 ]

  pub held_cases : (d : ℕ) → is_held rank s d ≡ true → (is_dir s d ≡ true) ⊎ (d ≡ stray_ino rank)
  held_cases d h = elim (or_cases (is_dir s d) (d == stray_ino rank) h) [ inl e ↦ inl e | inr e ↦ inr (eqb-true d (stray_ino rank) e) ]

  pub held_below : (d : ℕ) → is_held rank s d ≡ true → d < s.next
  held_below d h = elim (held_cases d h) [ inl e ↦ dir_below d e | inr e ↦ omega (arith, (ids rank).below, m.first_next) ]

  pub stray_no_dir : is_dir s (stray_ino rank) ≡ false
  stray_no_dir = elim (cases_Bool (is_dir s (stray_ino rank))) [
    | inl h ↦ elim (dir_cases (stray_ino rank) h) [ inl e ↦ absurd ((ids rank).apart e) | inr w ↦ absurd (omega (arith, (ids rank).below, m.above (stray_ino rank) w.0 w.1)) ]
    | inr h ↦ h
  ]

  pub link_parent : (q : ℕ × List ℕ) (i : ℕ) → get s.links q ≡ Some i → (is_dir s q.0 ≡ true) × (names (get t.dentries q) ≡ Some i)
  link_parent q i e = cond_is (is_dir s q.0) (names (get t.dentries q)) i (sym (m.links q) ∙ e)

  pub held_dir : (d : ℕ) → is_dir s d ≡ true → is_held rank s d ≡ true
  held_dir d h = ap (λ b. b || (d == stray_ino rank)) h

  pub link_primary : (q : ℕ × List ℕ) (i : ℕ) → get s.links q ≡ Some i → (p : ℕ × List ℕ) × (get primary i ≡ Some p)
  link_primary q i e =
      let c = link_parent q i e in
      elim (named_cases (get t.dentries q) i c.1) [
        | inl f ↦ (q, m.each_primary i q (held_dir q.0 c.0) f)
        | inr w ↦ elim (cases_option (get primary i)) [
          | inl none ↦ absurd (none_some w.0 (ap (λ (o : Option (ℕ × List ℕ)). kind_of (said_by (option_and_then (get t.dentries) o))) (sym none) ∙ m.remote_kind q i w.0 c.0 w.1))
          | inr p ↦ p
        ]
      ]

  pub link_range : (q : ℕ × List ℕ) (i : ℕ) → get s.links q ≡ Some i → (first_ino rank ≤ i) × (i < s.next)
  link_range q i e = let p = link_primary q i e in (m.above i p.0 p.1, m.beneath i p.0 p.1)

  -- the next inode is fresh
  pub next_no_primary : get primary s.next ≡ None
  next_no_primary = elim (cases_option (get primary s.next)) [ inl e ↦ e | inr w ↦ absurd (omega (arith, m.beneath s.next w.0 w.1)) ]

  pub next_no_dir : is_dir s s.next ≡ false
  next_no_dir = elim (cases_Bool (is_dir s s.next)) [ inl h ↦ absurd (omega (arith, dir_below s.next h)) | inr h ↦ h ]

  pub next_no_links : link_count s s.next ≡ 0
  next_no_links = count_none exact_place _ s.links (λ q i e h. absurd (omega (arith, (link_range q i e).1, eqb-true i s.next h)))

  own_next : (d : ℕ) → IsOwn rank s.next d → d ≡ s.next → ⊥
  own_next d (inl is_root) e = omega (arith, (ids rank).root, m.first_next)
  own_next d (inr (inl is_stray)) e = omega (arith, (ids rank).below, m.first_next)
  own_next d (inr (inr given)) e = omega (arith, given.1)

  pub next_no_cells : (q : ℕ × List ℕ) → q.0 ≡ s.next → get t.dentries q ≡ None
  next_no_cells q e = elim (cases_option (get t.dentries q)) [
    | inl none ↦ none
    | inr w ↦ absurd (own_next q.0 (m.own_cells q (is_some_at _ w.0 w.1)) e)
  ]

  pub next_no_head : (d : ℕ) → d ≡ s.next → get t.heads d ≡ None
  next_no_head d e = elim (cases_option (get t.heads d)) [
    | inl none ↦ none
    | inr w ↦ absurd (own_next d (m.own_heads d w.0 w.1) e)
  ]
