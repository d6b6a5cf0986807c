use Rattle.std.proofs.Common.{◌≡◌, ◌++◌, ◌∷◌, [], List, sym, ap, ◌∙◌, append_assoc}
use Rattle.mj_store.specs.declared.held.HeldObject.{HeldObject}
use Rattle.mj_memstore.proofs.HoldingLemmas.{held_more}
use Rattle.mj_memstore.proofs.objects.hold_all.Goals as goal

pub loop-object-preserved : goal.loop-object-preserved
loop-object-preserved c =
    let xs = c.loop-object.yielded in
    let x = c.in-Some.object in
    let more = c.next.new.self.rest.items in
    let next : c.loop-object.object-iterator.rest.items ≡ x ∷ more = c.in-Some.ensures.steps.0 in
    let all : xs ++ x ∷ more ≡ c.args.objects.items = ap (λ (ys : List HeldObject). xs ++ ys) (sym next) ∙ c.loop-object.invariant.rest in
    record {
      held = held_more c.args.objects.items xs more x c.loop-object.held.entries c.hold.new.objects.entries c.requires (sym all) c.loop-object.invariant.held c.in_ok-hold.ensures;
      rest = append_assoc xs (x ∷ []) more ∙ all;
    }
