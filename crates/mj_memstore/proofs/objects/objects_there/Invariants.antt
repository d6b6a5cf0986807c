use Rattle.std.proofs.Common.{◌≡◌, ◌++◌, map}
use Rattle.std.specs.List.{filter_map}
use Rattle.mj_memstore.specs.HeldView.{HeldView}
use Rattle.mj_memstore.specs.Memory.{held_objects}
use Rattle.mj_memstore.proofs.objects.objects_there.Given as goal

abbrev pub invariant-loop-held : goal.invariant-loop-held
invariant-loop-held l = map (λ h. h.now) l.all.items ++ filter_map (λ (v : HeldView). v.object) l.held-iterator ≡ held_objects l.objects.entries
