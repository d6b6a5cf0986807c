use Rattle.std.proofs.Common.{◌≡◌}
use Rattle.std.specs.List.{filter_map, slice_get}
use Rattle.mj_memstore.specs.HeldView.{HeldView}
use Rattle.mj_memstore.specs.Memory.{held_objects}
use Rattle.mj_memstore.proofs.objects.nth_object.Given as goal

abbrev pub invariant-loop-held : goal.invariant-loop-held
invariant-loop-held l = slice_get (held_objects l.objects.entries) l.n ≡ slice_get (filter_map (λ (v : HeldView). v.object) l.held-iterator) l.left
