-- A client's open files, as the cells of their keys.
use Rattle.std.proofs.Common.{◌≡◌, ℕ, ◌<◌, Bool, true, false, Option, Some, None, refl, sym, ap, ◌∙◌, inl, inr, arith}
use Rattle.std.specs.Prelude.{nat_lt, ◌==◌}
use Rattle.std.specs.Option.{option_and_then, option_map_or}
use Rattle.std.specs.declared.cmp.Ordering.TheVariants.{Equal}
use Rattle.std.specs.Ordering.{is_lt, nat_cmp, ordering_then}
use Rattle.std.specs.Cmp.{tied_itself}
use Rattle.std.proofs.lemmas.Bool.{false≢true, cases_Bool, eqb-true, eq-eqb, lt-ltb}
use Rattle.mj_maps.specs.Map.{Map, get}
use Rattle.mj_maps.proofs.MapLaws.{exact_nat, exact_pair, none_some, count_none, count_some}
use Rattle.mj_tree.specs.State.{opens_of}
use Rattle.mj_cells.specs.declared.cell.CellKey.{CellKey}
use Rattle.mj_cells.specs.declared.cell.CellKey.TheVariants as key
use Rattle.mj_cells.specs.declared.cell.CellValue.{CellValue}
use Rattle.mj_cells.specs.declared.cell.CellValue.TheVariants as value
use Rattle.mj_cells.specs.Cell.{key_cmp, Fits, AllFit}
use Rattle.mj_cells.specs.Table.{presence_of}
use Rattle.mj_tables.specs.Layered.{is_there, next_there}
use Rattle.mj_judge.proofs.PartMaps.{get-opens}
use Rattle.mj_cache.specs.Cached.{CacheValue, early_cells, early_table, early_tree}
use Rattle.mj_base.specs.declared.record.Kind.TheVariants.{File}
use Rattle.mj_delta.proofs.Facts.{ids, cases_option, is_some_at, kind_record, record_primary}
use Rattle.mj_cache.specs.HasTree.{HasTree}
use Rattle.mj_cache.specs.Reads.{is_open_by}
use Rattle.mj_cache.proofs.Nearest.{less_number, IsNext, next_is, next_none}
use Rattle.mj_cache.proofs.Replies.{agreeing, then_less}

open_less : (client a b : ℕ) → is_lt (key_cmp (key.OpenOf client a) (key.OpenOf client b)) ≡ nat_lt a b
open_less client a b = ap (λ o. is_lt (ordering_then o (ordering_then (nat_cmp a b) Equal))) (tied_itself exact_nat.total client) ∙ then_less (nat_cmp a b) ∙ less_number a b

-- a key above one of a client's and not above another is of the client
open_between : (client a b : ℕ) (k : CellKey) → is_lt (key_cmp (key.OpenOf client a) k) ≡ true → is_lt (key_cmp (key.OpenOf client b) k) ≡ false → (x : ℕ) × (k ≡ key.OpenOf client x)
open_between client a b (key.Dentry d n) l h = absurd (false≢true l)
open_between client a b (key.DirHead d) l h = absurd (false≢true l)
open_between client a b key.NextIno l h = absurd (false≢true l)
open_between client a b (key.Session d) l h = absurd (false≢true l)
open_between client a b (key.Done d x) l h = absurd (false≢true l)
open_between client a b (key.OpenOf d x) l h = (x, ap (λ z. key.OpenOf z x) (sym (exact_nat.same client d (agreeing (nat_cmp client d) _ _ l h))))

open_key : (client : ℕ) (k : CellKey) → is_open_by client k ≡ true → (x : ℕ) × (k ≡ key.OpenOf client x)
open_key client (key.OpenOf d x) h = (x, ap (λ z. key.OpenOf z x) (eqb-true d client h))
open_key client (key.Dentry d n) h = absurd (false≢true h)
open_key client (key.DirHead d) h = absurd (false≢true h)
open_key client key.NextIno h = absurd (false≢true h)
open_key client (key.Session d) h = absurd (false≢true h)
open_key client (key.Done d x) h = absurd (false≢true h)

presence_there : (client i : ℕ) (v : CellValue) → Fits (key.OpenOf client i) v → is_there v ≡ true → presence_of v ≡ Some tt
presence_there client i value.Present fits h = refl
presence_there client i value.Gone fits h = absurd (false≢true h)
presence_there client i (value.Full v r) fits h = absurd fits
presence_there client i (value.Remote v j k) fits h = absurd fits
presence_there client i (value.Null v) fits h = absurd fits
presence_there client i (value.Number n) fits h = absurd fits

there_presence : (o : Option CellValue) (x : Unit {0}) → option_and_then presence_of o ≡ Some x → (v : CellValue) × (o ≡ Some v) × (is_there v ≡ true)
there_presence None x e = absurd (none_some x e)
there_presence (Some value.Present) x e = (value.Present, refl, refl)
there_presence (Some value.Gone) x e = absurd (none_some x e)
there_presence (Some (value.Full v r)) x e = absurd (none_some x e)
there_presence (Some (value.Remote v j k)) x e = absurd (none_some x e)
there_presence (Some (value.Null v)) x e = absurd (none_some x e)
there_presence (Some (value.Number n)) x e = absurd (none_some x e)

module _ (c : CacheValue) (is : HasTree c) where
  abbrev m : Map key_cmp CellValue
  m = early_cells c

  pub open_is : (client i : ℕ) → option_and_then presence_of (get m (key.OpenOf client i)) ≡ get (early_tree c).opens (client, i)
  open_is client i = sym (get-opens m (client, i)) ∙ ap (λ o. get o (client, i)) is.dentries.opens

  -- an open file is one that the rank gave
  open_above : (client i : ℕ) (x : Unit {0}) → get (early_tree c).opens (client, i) ≡ Some x → 0 < i
  open_above client i x e =
      let r = kind_record File (get (early_tree c).records i) (is.dentries.open_files client i (is_some_at _ x e)) in
      let p = record_primary c.rank (early_table c) (early_tree c) is.primary is.dentries i r.0 r.1 in
      omega (arith, (ids c.rank).root, is.dentries.above i p.0 p.1)

  module _ (fit : AllFit (early_cells c)) (client : ℕ) where
    abbrev own : (ℕ × ℕ) × Unit {0} → Bool
    own e = e.0.0 == client

    open_cell : (i : ℕ) (x : Unit {0}) → get (early_tree c).opens (client, i) ≡ Some x → (v : CellValue) × (get m (key.OpenOf client i) ≡ Some v) × (is_there v ≡ true)
    open_cell i x e = there_presence (get m (key.OpenOf client i)) x (open_is client i ∙ e)

    none_open : ((i : ℕ) (x : Unit {0}) → get (early_tree c).opens (client, i) ≡ Some x → ⊥) → false ≡ nat_lt 0 (opens_of (early_tree c) client)
    none_open h = sym (ap (nat_lt 0) (count_none exact_pair own (early_tree c).opens (λ q x e is. h q.1 x ((λ z. get (early_tree c).opens (sym (eqb-true q.0 client is) z, q.1)) ∙ e))))

    some_open : (e : CellKey × CellValue) → IsNext m (key.OpenOf client 0) e → is_open_by client e.0 ≡ nat_lt 0 (opens_of (early_tree c) client)
    some_open e n = elim (cases_Bool (is_open_by client e.0)) [
      | inl h ↦
          let k = open_key client e.0 h in
          let cell : get m (key.OpenOf client k.0) ≡ Some e.1 = ap (get m) (sym k.1) ∙ n.cell in
          let there : get (early_tree c).opens (client, k.0) ≡ Some tt = sym (open_is client k.0) ∙ ap (option_and_then presence_of) cell ∙ presence_there client k.0 e.1 (fit (key.OpenOf client k.0) e.1 cell) n.there in
          h ∙ sym (lt-ltb 0 _ (count_some exact_pair own (early_tree c).opens (client, k.0) tt there (eq-eqb client client refl)))
      | inr h ↦ h ∙ none_open (λ i x at.
          let v = open_cell i x at in
          let up : is_lt (key_cmp (key.OpenOf client 0) (key.OpenOf client i)) ≡ true = open_less client 0 i ∙ lt-ltb 0 i (open_above client i x at) in
          let not_before : is_lt (key_cmp (key.OpenOf client i) e.0) ≡ false = elim (cases_Bool (is_lt (key_cmp (key.OpenOf client i) e.0))) [
            | inl less ↦ absurd (n.least (key.OpenOf client i) v.0 v.1 up v.2 less)
            | inr h ↦ h
          ] in
          let k = open_between client 0 i e.0 n.above not_before in
          false≢true (sym h ∙ ap (is_open_by client) k.1 ∙ eq-eqb client client refl))
    ]

    -- a client has a file open where the next cell is of one
    pub has_opens_is : option_map_or (λ (e : CellKey × CellValue). is_open_by client e.0) (next_there m (Some (key.OpenOf client 0))) false ≡ nat_lt 0 (opens_of (early_tree c) client)
    has_opens_is = elim (cases_option (next_there m (Some (key.OpenOf client 0)))) [
      | inl none ↦ ap (λ o. option_map_or (λ (e : CellKey × CellValue). is_open_by client e.0) o false) none ∙ none_open (λ i x at.
          let v = open_cell i x at in
          next_none m (key.OpenOf client 0) none (key.OpenOf client i) v.0 v.1 (open_less client 0 i ∙ lt-ltb 0 i (open_above client i x at)) v.2)
      | inr w ↦ ap (λ o. option_map_or (λ (e : CellKey × CellValue). is_open_by client e.0) o false) w.1 ∙ some_open w.0 (next_is m (key.OpenOf client 0) w.0 w.1)
    ]
