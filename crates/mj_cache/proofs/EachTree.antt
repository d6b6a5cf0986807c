-- Cells that fit and are in range have a spelling in their table, and so each cache has its tree.
use Rattle.std.proofs.Common.{◌≡◌, ℕ, ◌<◌, ◌^◌, false, Option, None, Some, List, refl, sym, ap, subst, ◌∙◌, inl, inr, arith}
use Rattle.std.specs.Prelude.{◌≢◌, IsSome, IsTrue, unwrap_or}
use Rattle.std.specs.Option.{option_and_then}
use Rattle.mj_base.specs.Name.{is_name}
use Rattle.mj_base.specs.Record.{IsRecord, same_kind}
use Rattle.mj_base.specs.declared.record.Kind.{Kind}
use Rattle.mj_base.specs.declared.record.Kind.TheVariants.{Dir, File, Symlink}
use Rattle.mj_base.specs.declared.record.InodeRecord.{InodeRecord}
use Rattle.mj_maps.specs.Map.{Map, get}
use Rattle.mj_maps.proofs.MapLaws.{none_some, some_same}
use Rattle.mj_cells.specs.declared.cell.CellKey.TheVariants as key
use Rattle.mj_cells.specs.declared.cell.CellValue.{CellValue}
use Rattle.mj_cells.specs.declared.cell.CellValue.TheVariants as value
use Rattle.mj_cells.specs.Cell.{key_cmp, Fits, AllFit}
use Rattle.mj_cells.specs.Table.{Table, Dentry, table_of, dentry_of, number_of}
use Rattle.mj_cells.specs.Table.Dentry.{Full, Remote}
use Rattle.mj_judge.specs.Own.{own_damage}
use Rattle.mj_judge.proofs.PartMaps.{get-dentries, get-done, next_is}
use Rattle.mj_cache.specs.Cached.{CacheValue, early_cells, early_table}
use Rattle.mj_cache.specs.Ranges.{AllInRange}
use Rattle.mj_delta.specs.Reads.{remote_of}
use Rattle.mj_delta.specs.Cells.{HasSpelling}
use Rattle.mj_delta.proofs.Facts.{cases_option, some_is}
use Rattle.mj_delta.proofs.Undamaged.{spelled_tree}
use Rattle.mj_cache.specs.HasTree.{HasTree}

-- ---- what fits a dentry's key

no_dir : (k : Kind) → k ≢ Dir → same_kind k Dir ≡ false
no_dir Dir ne = absurd (ne refl)
no_dir File ne = refl
no_dir Symlink ne = refl

full_fits : (d : ℕ) (name : List ℕ) (v : CellValue) (n : ℕ) (r : InodeRecord) → Fits (key.Dentry d name) v → dentry_of v ≡ Some (Full n r) → IsRecord r
full_fits d name (value.Full w x) n r fit e = subst IsRecord (one (some_same (Full w x) (Full n r) e)) fit
  where
    one : Full w x ≡ Full n r → x ≡ r
    one f = cc
full_fits d name (value.Remote w i k) n r fit e = absurd (other (some_same (Remote w i k) (Full n r) e))
  where
    other : Remote w i k ≡ Full n r → ⊥
    other f = absurd cc
full_fits d name (value.Null w) n r fit e = absurd (none_some (Full n r) e)
full_fits d name (value.Number w) n r fit e = absurd (none_some (Full n r) e)
full_fits d name value.Present n r fit e = absurd (none_some (Full n r) e)
full_fits d name value.Gone n r fit e = absurd (none_some (Full n r) e)

remote_fits : (d : ℕ) (name : List ℕ) (v : CellValue) (i : ℕ) (k : Kind) → Fits (key.Dentry d name) v → remote_of (dentry_of v) ≡ Some (i, k) → same_kind k Dir ≡ false
remote_fits d name (value.Full w x) i k fit e = absurd (none_some (i, k) e)
remote_fits d name (value.Remote w j l) i k fit e = ap (λ k. same_kind k Dir) (ap (λ (p : ℕ × Kind). p.1) (sym (some_same (j, l) (i, k) e))) ∙ no_dir l fit
remote_fits d name (value.Null w) i k fit e = absurd (none_some (i, k) e)
remote_fits d name (value.Number w) i k fit e = absurd (none_some (i, k) e)
remote_fits d name value.Present i k fit e = absurd (none_some (i, k) e)
remote_fits d name value.Gone i k fit e = absurd (none_some (i, k) e)

-- ---- of all cells

module _ (m : Map key_cmp CellValue) (fit : AllFit m) (range : AllInRange m) where
  abbrev t : Table
  t = table_of m

  next_small : (o : Option CellValue) → get m key.NextIno ≡ o → unwrap_or (option_and_then number_of o) 0 < 2 ^ 64
  next_small None e = omega arith
  next_small (Some (value.Number n)) e = range key.NextIno (value.Number n) e
  next_small (Some (value.Full w x)) e = omega arith
  next_small (Some (value.Remote w i k)) e = omega arith
  next_small (Some (value.Null w)) e = omega arith
  next_small (Some value.Present) e = omega arith
  next_small (Some value.Gone) e = omega arith

  -- the cell of a dentry
  dentry_cell : (q : ℕ × List ℕ) {A : Type 0} (f : Option Dentry → Option A) (x : A) → f None ≡ None → f (get t.dentries q) ≡ Some x
      → (v : CellValue) × (get m (key.Dentry q.0 q.1) ≡ Some v) × (f (dentry_of v) ≡ Some x)
  dentry_cell q f x none e =
      let is = sym (ap f (get-dentries m q)) ∙ e in
      elim (cases_option (get m (key.Dentry q.0 q.1))) [
        | inl no_cell ↦ absurd (none_some x (sym none ∙ sym (ap (λ o. f (option_and_then dentry_of o)) no_cell) ∙ is))
        | inr w ↦ (w.0, w.1, sym (ap (λ o. f (option_and_then dentry_of o)) w.1) ∙ is)
      ]

  done_cell : (client tid i : ℕ) → get t.done (client, tid) ≡ Some i → tid < 2 ^ 64
  done_cell client tid i e =
      let is = sym (get-done m (client, tid)) ∙ e in
      elim (cases_option (get m (key.Done client tid))) [
        | inl no_cell ↦ absurd (none_some i (sym (ap (option_and_then number_of) no_cell) ∙ is))
        | inr w ↦ range (key.Done client tid) w.0 w.1
      ]

  named : (q : ℕ × List ℕ) → IsSome (get t.dentries q) → IsTrue (is_name q.1)
  named q h =
      let w = some_is (get t.dentries q) h in
      let c = dentry_cell q (λ o. o) w.0 refl w.1 in
      range (key.Dentry q.0 q.1) c.0 c.1

  spelled : HasSpelling t
  spelled = record {
    next_fits = subst (λ (o : Option ℕ). unwrap_or o 0 < 2 ^ 64) (sym (next_is m)) (next_small (get m key.NextIno) refl);
    remote_no_dir = λ q i k e. let c = dentry_cell q remote_of (i, k) refl e in remote_fits q.0 q.1 c.0 i k (fit (key.Dentry q.0 q.1) c.0 c.1) c.2;
    names_fit = named;
    records_fit = λ q n r e. let c = dentry_cell q (λ o. o) (Full n r) refl e in full_fits q.0 q.1 c.0 n r (fit (key.Dentry q.0 q.1) c.0 c.1) c.2;
    tids_fit = done_cell;
  }

pub each_tree : (c : CacheValue) → own_damage c.rank (early_table c) ≡ None → AllFit (early_cells c) → AllInRange (early_cells c) → HasTree c
each_tree c none fit range = spelled_tree c.rank (early_table c) none (spelled (early_cells c) fit range)
