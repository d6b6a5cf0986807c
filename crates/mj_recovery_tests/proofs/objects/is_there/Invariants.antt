use Rattle.std.proofs.Common.{◌≡◌, drop}
use Rattle.std.specs.List.{list_any}
use Rattle.mj_store.specs.Object.{same_name}
use Rattle.mj_store.specs.declared.held.HeldObject.{HeldObject}
use Rattle.mj_recovery_tests.proofs.objects.is_there.Given as goal

abbrev pub invariant-loop-object : goal.invariant-loop-object
invariant-loop-object l = list_any (λ (g : HeldObject). same_name l.name g.name) (drop l.object-index l.objects) ≡ list_any (λ (g : HeldObject). same_name l.name g.name) l.objects
