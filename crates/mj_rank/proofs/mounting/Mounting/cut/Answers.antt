use Rattle.std.proofs.Common.{rules, ◌≡◌, ℕ, Option, Some, None, refl, subst}
use Rattle.mj_store.specs.declared.act.ObjectOp.{ObjectOp}
use Rattle.mj_rank.specs.Cutting.{Looks}
use Rattle.mj_rank.proofs.MountCuts.{refused, refused_steps, looked_steps, cut_steps}
use Rattle.mj_rank.proofs.SinceLemmas.{mount_since_same}
use Rattle.mj_rank.proofs.mounting.Mounting.cut.Goals as goal

pub returns-in_err-found-clause-since : goal.returns-in_err-found-clause-since
returns-in_err-found-clause-since g c = λ base h. mount_since_same base c.args.self.now _ c.look.ensures.later h.out h c.look.ensures.same_list refl refl

pub returns-in_err-found-clause-steps : goal.returns-in_err-found-clause-steps
returns-in_err-found-clause-steps g c =
    refused_steps g.S.ObjectStore.state c.args.self.now _ _ c.from_residual.result c.from_residual.ensures.1 (refused g.S.ObjectStore.state c.args.self.now _ refl c.look.ensures.stays)

pub returns-in-Some-clause-since : goal.returns-in-Some-clause-since
returns-in-Some-clause-since g c = λ base h. c.send_cut.ensures.since base (mount_since_same base c.args.self.now _ c.look.ensures.later h.out h c.look.ensures.same_list refl refl)

pub returns-in-Some-clause-cause : goal.returns-in-Some-clause-cause
returns-in-Some-clause-cause g c = λ base h. c.send_cut.ensures.cause base (mount_since_same base c.args.self.now _ c.look.ensures.later h.out h c.look.ensures.same_list refl refl)

pub returns-in-Some-clause-steps : goal.returns-in-Some-clause-steps
returns-in-Some-clause-steps g c =
    let k = c.args.self.now in
    let is : c.in_ok-found.found ≡ Some (c.in-Some.index, c.in-Some.op) = search rules in
    let finds = subst (λ (o : Option (ℕ × ObjectOp)). Looks k.number k.found.header.layout k.found.tail k.cuts.next k.cuts.end o (g.S.ObjectStore.state k.store) (g.S.ObjectStore.state c.look.new.store)) is c.in_ok-found.ensures.looks in
    cut_steps g.S.ObjectStore.state k c.requires.cutting c.look.new.store _ c.in-Some.index c.in-Some.op finds _ c.send_cut.result c.send_cut.ensures.sent c.send_cut.ensures.refused

pub returns-then-is_empty-clause-since : goal.returns-then-is_empty-clause-since
returns-then-is_empty-clause-since g c = λ base h. c.send.ensures.since base (mount_since_same base c.args.self.now _ c.look.ensures.later h.out h c.look.ensures.same_list refl refl)

pub returns-then-is_empty-clause-steps : goal.returns-then-is_empty-clause-steps
returns-then-is_empty-clause-steps g c =
    let k = c.args.self.now in
    let none : c.in_ok-found.found ≡ None = search rules in
    let passes = subst (λ (o : Option (ℕ × ObjectOp)). Looks k.number k.found.header.layout k.found.tail k.cuts.next k.cuts.end o (g.S.ObjectStore.state k.store) (g.S.ObjectStore.state c.look.new.store)) none c.in_ok-found.ensures.looks in
    looked_steps g.S.ObjectStore.state k c.requires.cutting c.look.new.store _ _ passes _ c.send.result c.send.ensures.steps

pub returns-else-is_empty-clause-since : goal.returns-else-is_empty-clause-since
returns-else-is_empty-clause-since g c = λ base h. c.await_done.ensures.since base (mount_since_same base c.args.self.now _ c.look.ensures.later h.out h c.look.ensures.same_list refl refl)

pub returns-else-is_empty-clause-cause : goal.returns-else-is_empty-clause-cause
returns-else-is_empty-clause-cause g c = λ base h. c.await_done.ensures.cause base (mount_since_same base c.args.self.now _ c.look.ensures.later h.out h c.look.ensures.same_list refl refl)

pub returns-else-is_empty-clause-steps : goal.returns-else-is_empty-clause-steps
returns-else-is_empty-clause-steps g c =
    let k = c.args.self.now in
    let none : c.in_ok-found.found ≡ None = search rules in
    let passes = subst (λ (o : Option (ℕ × ObjectOp)). Looks k.number k.found.header.layout k.found.tail k.cuts.next k.cuts.end o (g.S.ObjectStore.state k.store) (g.S.ObjectStore.state c.look.new.store)) none c.in_ok-found.ensures.looks in
    looked_steps g.S.ObjectStore.state k c.requires.cutting c.look.new.store _ _ passes _ c.await_done.result c.await_done.ensures.steps
