-- What a cache is once a planned event's writes are projected, and the cache of a new rank.
use Rattle.std.proofs.Common.{◌≡◌, ℕ, ◌≤◌, List, None, sym, ap, subst, ◌∙◌}
use Rattle.mj_maps.specs.Map.{Map}
use Rattle.mj_tree.specs.declared.request.ClientRequest.{ClientRequest}
use Rattle.mj_tree.specs.State.{PlainState, new_state}
use Rattle.mj_tree.specs.Answer.{after}
use Rattle.mj_cells.specs.declared.cell.CellValue.{CellValue}
use Rattle.mj_cells.specs.declared.cell.CellWrite.{CellWrite}
use Rattle.mj_cells.specs.Cell.{key_cmp}
use Rattle.mj_cells.specs.Table.{Table, table_of, overlay}
use Rattle.mj_cells.proofs.CellMaps.{table_of-put_all}
use Rattle.mj_event.specs.declared.Event.{Event}
use Rattle.mj_event.specs.Writes.{writes_of}
use Rattle.mj_recovery.specs.Tree.{tree_of}
use Rattle.mj_recovery.specs.Damage.{cell_dirs}
use Rattle.mj_tables.specs.declared.group.Group.{Group}
use Rattle.mj_judge.specs.Own.{own_damage}
use Rattle.mj_index.proofs.GroupFits.{early_more}
use Rattle.mj_cache.specs.Cached.{CacheValue, begun, projected, early_cells, early_table, early_tree}
use Rattle.mj_delta.specs.TreeOf.{IsTreeOf}
use Rattle.mj_delta.specs.Fresh.{fresh_table}
use Rattle.mj_delta.specs.Steps.{GivesTree}
use Rattle.mj_delta.proofs.Fresh.{fresh_tree}
use Rattle.mj_delta.proofs.Sound.{no_damage, own_cell_dirs}
use Rattle.mj_delta.proofs.TreeIs.{tree_is}
use Rattle.mj_cache.specs.HasTree.{HasTree}

-- a table with a tree has no damage by itself, and its tree is computed
sound : (rank : ℕ) (t : Table) (s : PlainState) → IsTreeOf rank t s → own_damage rank t ≡ None
sound rank t s is = no_damage rank t s is (cell_dirs t) (own_cell_dirs rank t s is)

computed : (rank : ℕ) (t : Table) (s : PlainState) → IsTreeOf rank t s → IsTreeOf rank t (tree_of rank t)
computed rank t s is = subst (IsTreeOf rank t) (sym (tree_is rank t s is)) is

-- one group more is its writes over the early table
laid : (c : CacheValue) (ws : List CellWrite) (ends : ℕ) → early_table (projected ws ends c) ≡ overlay (early_table c) ws
laid c ws ends =
    let g : Group = record { ends = ends; writes = ws } in
    ap table_of (early_more c.safe c.groups g) ∙ table_of-put_all (early_cells c) ws

pub undamaged : (c : CacheValue) (r : ClientRequest) (e : Event) → GivesTree c.rank (early_table c) (early_tree c) r e → own_damage c.rank (overlay (early_table c) (writes_of e)) ≡ None
undamaged c r e g = sound c.rank _ _ g.tree

pub has_tree : (c : CacheValue) (r : ClientRequest) (e : Event) (ends : ℕ) → GivesTree c.rank (early_table c) (early_tree c) r e → HasTree (projected (writes_of e) ends c)
has_tree c r e ends g = subst (λ (t : Table). IsTreeOf c.rank t (tree_of c.rank t)) (sym (laid c (writes_of e) ends)) (computed c.rank _ _ g.tree)

pub tree_after : (c : CacheValue) (r : ClientRequest) (e : Event) (ends : ℕ) → GivesTree c.rank (early_table c) (early_tree c) r e → early_tree (projected (writes_of e) ends c) ≡ after (early_tree c) r
tree_after c r e ends g = ap (tree_of c.rank) (laid c (writes_of e) ends) ∙ tree_is c.rank _ _ g.tree

-- ---- a new rank

new_tree : (rank : ℕ) (m : Map key_cmp CellValue) → rank ≤ 15 → table_of m ≡ fresh_table rank → IsTreeOf rank (table_of m) (new_state rank)
new_tree rank m small is = subst (λ (t : Table). IsTreeOf rank t (new_state rank)) (sym is) (fresh_tree rank small)

pub new_sound : (rank : ℕ) (m : Map key_cmp CellValue) → rank ≤ 15 → table_of m ≡ fresh_table rank → own_damage rank (table_of m) ≡ None
new_sound rank m small is = sound rank (table_of m) (new_state rank) (new_tree rank m small is)

pub new_has_tree : (rank : ℕ) (m : Map key_cmp CellValue) → rank ≤ 15 → table_of m ≡ fresh_table rank → HasTree (begun rank m)
new_has_tree rank m small is = computed rank (table_of m) (new_state rank) (new_tree rank m small is)

pub new_is : (rank : ℕ) (m : Map key_cmp CellValue) → rank ≤ 15 → table_of m ≡ fresh_table rank → early_tree (begun rank m) ≡ new_state rank
new_is rank m small is = tree_is rank (table_of m) (new_state rank) (new_tree rank m small is)

-- ---- groups that become safe

-- a cache whose early table stays has its tree still
pub stays : (old new : CacheValue) → new.rank ≡ old.rank → early_table new ≡ early_table old → HasTree old → HasTree new
stays old new rank table is = subst (λ (p : ℕ × Table). IsTreeOf p.0 p.1 (tree_of p.0 p.1)) (λ i. (sym rank i, sym table i)) is
