use Rattle.std.proofs.Common.{Result, Ok, Err, List, ap, subst, ◌∙◌}
use Rattle.std.specs.Prelude.{filter_map, IfOk}
use Rattle.mj_judge.specs.Reached.{Edge, edge_of, AreReached}
use Rattle.mj_judge.proofs.Passes.{dirs_of_cells}
use Rattle.mj_judge.proofs.reach.reachable.Goals as goal

if_ok : {X E : Type 0} (r : Result X E) (P Q : X → Type 0) → ((x : X) → P x → Q x) → IfOk r P → IfOk r Q
if_ok (Ok x) P Q f h = f x h
if_ok (Err e) P Q f h = h

pub returns : goal.returns
returns c = if_ok c.reach.result _ _ (λ dirs reached m is. dirs_of_cells m dirs.keys
    (subst (λ (es : List Edge). AreReached es dirs.keys) (c.in_ok-edges.ensures ∙ ap (filter_map edge_of) is) reached)) c.reach.ensures
