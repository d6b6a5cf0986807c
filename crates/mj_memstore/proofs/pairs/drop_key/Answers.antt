use Rattle.std.proofs.Common.{◌∙◌, ap, subst, List}
use Rattle.mj_store.specs.declared.act.Pair.{Pair}
use Rattle.mj_memstore.specs.Pairs.{entries_of, IsKeyAt, IsGapAt}
use Rattle.mj_memstore.proofs.PairLemmas.{without_found, without_missing}
use Rattle.mj_memstore.proofs.pairs.drop_key.Goals as goal

pub returns-in-Ok-clause-entries : goal.returns-in-Ok-clause-entries
returns-in-Ok-clause-entries c =
    ap entries_of c.remove.ensures.items
    ∙ without_found c.args.pairs.now.items c.requires c.args.key.now c.in-Ok.i (subst (λ (ps : List Pair). IsKeyAt ps c.args.key.now c.in-Ok.i) c.deref.ensures.value c.in-Ok.ensures.found)

pub returns-in_default-clause-entries : goal.returns-in_default-clause-entries
returns-in_default-clause-entries c =
    without_missing c.args.pairs.now.items c.requires c.args.key.now c.in_default.field-0 (subst (λ (ps : List Pair). IsGapAt ps c.args.key.now c.in_default.field-0) c.deref.ensures.value c.in_default.ensures.gap)
