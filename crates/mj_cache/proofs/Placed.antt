-- What the full dentry of an inode says of it, in a cache that has its tree.
use Rattle.std.proofs.Common.{◌≡◌, ℕ, List, true, false, cond, Option, Some, None, refl, sym, ap, ◌∙◌, inl, inr}
use Rattle.std.specs.Prelude.{find, IfSome}
use Rattle.std.specs.Option.{option_and_then, option_map}
use Rattle.std.proofs.lemmas.Bool.{cases_Bool, eqb-true}
use Rattle.mj_base.specs.declared.record.InodeRecord.{InodeRecord}
use Rattle.mj_maps.specs.Map.{entries, get}
use Rattle.mj_maps.proofs.MapLaws.{exact_place, count_none, none_some, some_same}
use Rattle.mj_tree.specs.declared.request.ClientRequest.{ClientRequest}
use Rattle.mj_tree.specs.declared.request.Op.TheVariants.{SessionOpen}
use Rattle.mj_tree.specs.State.{PlainState, is_dir, is_kept, link_count, attributes_of}
use Rattle.mj_cells.specs.declared.cell.CellKey.{CellKey}
use Rattle.mj_cells.specs.Table.{Dentry, Table, dentry_of}
use Rattle.mj_cells.specs.Table.Dentry.{Full, Remote}
use Rattle.mj_recovery.specs.Tree.{Entry, holding, tree_of}
use Rattle.mj_machine.specs.Delta.{primary}
use Rattle.mj_machine.specs.Delta as delta
use Rattle.mj_cache.specs.Cached.{CacheValue, early_cells, early_table, early_tree, primary_of}
use Rattle.mj_index.specs.Places.{full_place, is_full_at, dentry_key}
use Rattle.mj_delta.specs.Reads.{names, said_by, stored_links, cell_of}
use Rattle.mj_delta.specs.TreeOf.{HasDentries}
use Rattle.mj_delta.proofs.Facts.{cases_option, link_primary}
use Rattle.mj_delta.proofs.Primaries.{primary_is}
use Rattle.mj_judge.proofs.PartMaps.{get-dentries}
use Rattle.mj_cache.specs.HasTree.{HasTree}
use Rattle.mj_cache.specs.Reads.{record_in, full_record}

-- any request
some_request : ClientRequest
some_request = record { client = 0; tid = 0; oldest = 0; now = 0; op = SessionOpen }

module _ (rank : ℕ) (t : Table) (r : ClientRequest) where
  full_same : (dirs : List ℕ) (i : ℕ) (e : Entry) → is_full_at dirs i e ≡ delta.is_full_at rank t r dirs i e
  full_same dirs i (q, Full version x) = refl
  full_same dirs i (q, Remote version j kind) = refl

  -- where a cache finds the full dentry is where the delta does
  pub place_is : (i : ℕ) → full_place rank t i ≡ primary rank t r i
  place_is i = λ z. option_map (λ (e : Entry). e.0) (find (λ e. full_same (holding rank t) i e z) (entries t.dentries))

-- the number of links that a record has
abbrev pub links_in : Option InodeRecord → ℕ
links_in None = 0
links_in (Some r) = r.links

pub if_links : (o : Option InodeRecord) (n : ℕ) → links_in o ≡ n → IfSome o (λ r. r.links ≡ n)
if_links None n e = tt
if_links (Some r) n e = e

said_in : (o : Option Dentry) → said_by o ≡ option_map attributes_of (record_in o)
said_in None = refl
said_in (Some (Full version r)) = refl
said_in (Some (Remote version i kind)) = refl

stored_in : (o : Option Dentry) → stored_links o ≡ links_in (record_in o)
stored_in None = refl
stored_in (Some (Full version r)) = refl
stored_in (Some (Remote version i kind)) = refl

module _ (c : CacheValue) (is : HasTree c) where
  abbrev t : Table
  t = early_table c

  abbrev s : PlainState
  s = early_tree c

  abbrev m : HasDentries c.rank t s is.primary
  m = is.dentries

  pub full_is : (i : ℕ) → full_place c.rank t i ≡ get is.primary i
  full_is i = place_is c.rank t some_request i ∙ primary_is c.rank t s is some_request i

  pub record_is : (i : ℕ) → full_record c i ≡ record_in (cell_of t is.primary i)
  record_is i = ap (λ (o : Option (ℕ × List ℕ)). record_in (option_and_then (get t.dentries) o)) (full_is i)

  -- it counts the links
  pub links_are : (i : ℕ) → links_in (full_record c i) ≡ link_count s i
  links_are i = ap links_in (record_is i) ∙ elim (cases_option (get is.primary i)) [
    | inl none ↦
        ap (λ (o : Option (ℕ × List ℕ)). links_in (record_in (option_and_then (get t.dentries) o))) none
        ∙ sym (count_none exact_place _ s.links (λ q j e h. none_some _ (sym none ∙ ap (get is.primary) (sym (eqb-true j i h)) ∙ (link_primary c.rank t s is.primary m q j e).1)))
    | inr w ↦
        ap (λ (o : Option (ℕ × List ℕ)). links_in (record_in (option_and_then (get t.dentries) o))) w.1
        ∙ sym (stored_in (get t.dentries w.0)) ∙ m.counts i w.0 w.1
  ]

  -- the record of the tree is the one of an inode that is kept
  pub record_kept : (i : ℕ) → is_kept s i ≡ true → option_map attributes_of (full_record c i) ≡ get s.records i
  record_kept i kept = ap (option_map attributes_of) (record_is i) ∙ sym (said_in (cell_of t is.primary i)) ∙ sym (m.records i ∙ ap (λ b. cond b (said_by (cell_of t is.primary i)) None) kept)

  pub record_gone : (i : ℕ) → is_kept s i ≡ false → None ≡ get s.records i
  record_gone i gone = sym (m.records i ∙ ap (λ b. cond b (said_by (cell_of t is.primary i)) None) gone)

  -- where no full dentry is, there is no record
  pub record_none : (i : ℕ) → full_record c i ≡ None → None ≡ get s.records i
  record_none i none = elim (cases_Bool (is_kept s i)) [
    | inl kept ↦ ap (option_map attributes_of) (sym none) ∙ record_kept i kept
    | inr gone ↦ record_gone i gone
  ]

  pub link_is : (q : ℕ × List ℕ) → is_dir s q.0 ≡ true → names (get t.dentries q) ≡ get s.links q
  link_is q dir = sym (m.links q ∙ ap (λ b. cond b (names (get t.dentries q)) None) dir)

-- ---- by its key

key_same : (p q : Option (ℕ × List ℕ)) (k : CellKey) → Some k ≡ option_map dentry_key p → (w : ℕ × List ℕ) × (p ≡ Some w) × (k ≡ dentry_key w)
key_same None q k e = absurd (none_some k (sym e))
key_same (Some w) q k e = (w, refl, some_same k (dentry_key w) e)

module _ (c : CacheValue) (i : ℕ) where
  pub record_at : (k : CellKey) → Some k ≡ primary_of c i → full_record c i ≡ record_in (option_and_then dentry_of (get (early_cells c) k))
  record_at k e =
      let w = key_same (full_place c.rank (early_table c) i) None k e in
      ap (λ (o : Option (ℕ × List ℕ)). record_in (option_and_then (get (early_table c).dentries) o)) w.1
      ∙ ap record_in (get-dentries (early_cells c) w.0)
      ∙ ap (λ z. record_in (option_and_then dentry_of (get (early_cells c) z))) (sym w.2)

  pub no_record : None ≡ primary_of c i → full_record c i ≡ None
  no_record e = elim (cases_option (full_place c.rank (early_table c) i)) [
    | inl none ↦ ap (λ (o : Option (ℕ × List ℕ)). record_in (option_and_then (get (early_table c).dentries) o)) none
    | inr w ↦ absurd (none_some (dentry_key w.0) (e ∙ ap (option_map dentry_key) w.1))
  ]

pub opens_same : (rank : ℕ) (t : Table) → (tree_of rank t).opens ≡ t.opens
unfolding tree_of
opens_same rank t = refl
