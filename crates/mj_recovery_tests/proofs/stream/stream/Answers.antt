use Rattle.std.proofs.Common.{◌+◌, ◌++◌, [], ◌∷◌, append_assoc, sym, ap, ◌∙◌}
use Rattle.std.proofs.lemmas.List.{append-nil}
use Rattle.mj_recovery.specs.Listed.{image_of}
use Rattle.mj_recovery.specs.Stream.{stream}
use Rattle.mj_recovery.proofs.Probing.{stream_more, stream_ends, stream_last}
use Rattle.mj_recovery_tests.proofs.stream.stream.Goals as goal

pub returns-in-None : goal.returns-in-None
returns-in-None c =
    let bytes = c.loop-x.bytes.items in
    sym (append-nil bytes) ∙ ap (λ s. bytes ++ s) (sym (stream_ends (image_of c.args.objects.now) c.args.rank c.args.layout.now c.loop-x.x c.loop-x-test.true (sym c.in-None.ensures))) ∙ c.loop-x.invariant

pub loop-x-preserved : goal.loop-x-preserved
loop-x-preserved c =
    let bytes = c.loop-x.bytes.items in
    let image = image_of c.args.objects.now in
    let rest = stream image c.args.rank c.args.layout.now (c.loop-x.x + 1) in
    ap (λ s. s ++ rest) c.in_ok-push-in-Some.ensures.items
    ∙ append_assoc bytes (c.in-Some.byte ∷ []) rest
    ∙ ap (λ s. bytes ++ s) (sym (stream_more image c.args.rank c.args.layout.now c.loop-x.x c.in-Some.byte c.loop-x-test.true (sym c.in-Some.ensures)))
    ∙ c.loop-x.invariant

pub returns : goal.returns
returns c =
    let bytes = c.loop-x.bytes.items in
    sym (append-nil bytes) ∙ ap (λ s. bytes ++ s) (sym (stream_last (image_of c.args.objects.now) c.args.rank c.args.layout.now c.loop-x.x c.loop-x-test.false)) ∙ c.loop-x.invariant
