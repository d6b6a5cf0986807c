-- Where the full dentry of an inode is looked up, and what the tree says of an inode that has none.
use Rattle.std.proofs.Common.{◌≡◌, ℕ, List, [], None, Some, sym, ap, ◌∙◌, inl, inr}
use Rattle.std.specs.Prelude.{unwrap_or}
use Rattle.mj_maps.specs.Map.{get}
use Rattle.mj_maps.proofs.MapLaws.{none_some}
use Rattle.mj_tree.specs.declared.request.ClientRequest.{ClientRequest}
use Rattle.mj_tree.specs.State.{root}
use Rattle.mj_index.specs.Places as places
use Rattle.mj_cache.specs.Cached.{CacheValue, early_table, early_tree}
use Rattle.mj_delta.specs.Events.{full_place}
use Rattle.mj_delta.proofs.Facts.{cases_option, record_primary}
use Rattle.mj_cache.specs.HasTree.{HasTree}
use Rattle.mj_cache.proofs.Placed.{place_is, full_is}

-- it is looked up in the same place, whatever the request
pub stands_there : (c : CacheValue) (r : ClientRequest) (i : ℕ) (q : ℕ × List ℕ) → places.full_place c.rank (early_table c) i ≡ Some q → full_place c.rank (early_table c) r i ≡ q
stands_there c r i q e = ap (λ o. unwrap_or o (root, [])) (sym (place_is c.rank (early_table c) r i) ∙ e)

-- what has no full dentry has no record
pub no_place : (c : CacheValue) → HasTree c → (i : ℕ) → places.full_place c.rank (early_table c) i ≡ None → get (early_tree c).records i ≡ None
no_place c h i none = elim (cases_option (get (early_tree c).records i)) [
  | inl is ↦ is
  | inr w ↦ let p = record_primary c.rank (early_table c) (early_tree c) h.primary h.dentries i w.0 w.1 in absurd (none_some p.0 (sym none ∙ full_is c h i ∙ p.1))
]
