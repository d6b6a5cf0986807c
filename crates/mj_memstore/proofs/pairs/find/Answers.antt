use Rattle.std.proofs.Common.{rules}
use Rattle.std.proofs.lemmas.Fn.{always_returns_same}
use Rattle.mj_maps.specs.Orders.{bytes_cmp}
use Rattle.mj_store.specs.declared.act.Pair.{Pair}
use Rattle.mj_memstore.proofs.PairLemmas.{searched}
use Rattle.mj_memstore.proofs.pairs.find.Goals as goal

pub returns-clause-found : goal.returns-clause-found
returns-clause-found c =
    let facts = c.binary_search_by.ensures in
    (searched _ c.requires c.args.key.now _ facts.bound (facts.position (λ (p : Pair). bytes_cmp p.key c.args.key.now) (always_returns_same _ _ _ (λ a r f called. (search rules, search rules))))).0

pub returns-clause-gap : goal.returns-clause-gap
returns-clause-gap c =
    let facts = c.binary_search_by.ensures in
    (searched _ c.requires c.args.key.now _ facts.bound (facts.position (λ (p : Pair). bytes_cmp p.key c.args.key.now) (always_returns_same _ _ _ (λ a r f called. (search rules, search rules))))).1
