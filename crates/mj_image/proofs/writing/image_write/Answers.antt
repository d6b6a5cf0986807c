use Rattle.std.proofs.Common.{ℕ, List, ◌++◌, map, ap, ◌∙◌, arith, Ok}
use Rattle.std.proofs.lemmas.List.{length-map}
use Rattle.mj_store.specs.declared.held.HeldObject.{HeldObject}
use Rattle.mj_image.specs.Image.{image_bytes}
use Rattle.mj_image.specs.Whole.{image_of}
use Rattle.mj_image.proofs.Sizes.{written}
use Rattle.mj_image.proofs.WholeLaws.{image_again}
use Rattle.mj_image.proofs.writing.image_write.Goals as goal

pub append_image-requires-clause-count : goal.append_image-requires-clause-count
append_image-requires-clause-count c =
    let xs = c.as_slice-objects.result.now in
    let w = written (map (λ h. h.now) xs) _ _ c.in_ok-len.len (ap (map (λ h. h.now)) c.as_slice-objects.ensures.value ∙ c.in_ok-all.ensures.objects) c.in_ok-all.ensures.all c.in_ok-len.ensures.len c.in_ok-len.ensures.names c.if-len.false in
    let few = w.fits.count in
    let same = length-map xs (λ h. h.now) in
    omega (arith, few, same)

pub append_image-requires-clause-objects : goal.append_image-requires-clause-objects
append_image-requires-clause-objects c =
    let xs = c.as_slice-objects.result.now in
    (written (map (λ h. h.now) xs) _ _ c.in_ok-len.len (ap (map (λ h. h.now)) c.as_slice-objects.ensures.value ∙ c.in_ok-all.ensures.objects) c.in_ok-all.ensures.all c.in_ok-len.ensures.len c.in_ok-len.ensures.names c.if-len.false).fits.objects

pub returns-clause-read_again : goal.returns-clause-read_again
returns-clause-read_again c =
    let xs = c.as_slice-objects.result.now in
    let hs = map (λ h. h.now) xs in
    let same = ap (map (λ h. h.now)) c.as_slice-objects.ensures.value ∙ c.in_ok-all.ensures.objects in
    let w = written hs _ _ c.in_ok-len.len same c.in_ok-all.ensures.all c.in_ok-len.ensures.len c.in_ok-len.ensures.names c.if-len.false in
    ap image_of (c.in_ok-append_image.ensures ∙ ap (λ (front : List ℕ). front ++ image_bytes hs) c.in_ok-out.ensures.items) ∙ image_again hs w.fits w.short ∙ ap (λ (objects : List HeldObject). Ok objects) same
