use Rattle.std.proofs.Common.{◌∙◌, ap, subst, List, ℕ}
use Rattle.mj_store.specs.declared.act.Pair.{Pair}
use Rattle.mj_memstore.specs.Pairs.{entries_of, IsKeyAt, IsGapAt}
use Rattle.mj_memstore.proofs.PairLemmas.{put_found, put_missing}
use Rattle.mj_memstore.proofs.pairs.place.Goals as goal

pub returns-in-Ok-clause-entries : goal.returns-in-Ok-clause-entries
returns-in-Ok-clause-entries c =
    put_found c.args.pairs.now.items c.requires.sorted c.args.pair c.in-Ok.i
    (subst (λ (key : List ℕ). IsKeyAt c.args.pairs.now.items key c.in-Ok.i) c.as_slice.ensures (subst (λ (ps : List Pair). IsKeyAt ps c.as_slice.result.now c.in-Ok.i) c.deref.ensures.value c.in-Ok.ensures.found))

pub returns-in-Err-clause-entries : goal.returns-in-Err-clause-entries
returns-in-Err-clause-entries c =
    ap entries_of (rw c.unwrap.ensures at c.insert.ensures.items)
    ∙ put_missing c.args.pairs.now.items c.requires.sorted c.args.pair c.in-Err.i
    (subst (λ (key : List ℕ). IsGapAt c.args.pairs.now.items key c.in-Err.i) c.as_slice.ensures (subst (λ (ps : List Pair). IsGapAt ps c.as_slice.result.now c.in-Err.i) c.deref.ensures.value c.in-Err.ensures.gap))
