use Rattle.std.proofs.Common.{◌≡◌, ◌++◌, take}
use Rattle.std.specs.List.{flat_map}
use Rattle.mj_image.specs.Image.{object_bytes}
use Rattle.mj_image.proofs.writing.append_objects.Given as goal

abbrev pub invariant-loop-object : goal.invariant-loop-object
invariant-loop-object l = l.out.items ≡ l.initial.out.items ++ flat_map (λ h. object_bytes h.now) (take l.object-index l.objects)
