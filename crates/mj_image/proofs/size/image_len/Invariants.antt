use Rattle.std.proofs.Common.{◌≡◌, ◌+◌, ◌-◌, ◌^◌, min, length, map, take}
use Rattle.std.specs.List.{flat_map, AllByRecursion}
use Rattle.mj_image.specs.Image.{object_bytes, HasName}
use Rattle.mj_image.proofs.size.image_len.Given as goal

abbrev pub invariant-loop-object : goal.invariant-loop-object
invariant-loop-object l = record {
  len : l.len ≡ min (12 + length (flat_map (λ h. object_bytes h.now) (take l.object-index l.objects))) (2 ^ 64 - 1);
  names : AllByRecursion HasName (map (λ h. h.now) (take l.object-index l.objects));
}
