use Rattle.std.proofs.Common.{refl, sym, subst, ◌∙◌, inl}
use Rattle.mj_rank.specs.Mounts.{mount_value}
use Rattle.mj_rank.specs.Since.{OutAt}
use Rattle.mj_rank.proofs.StillReads.{stays_itself}
use Rattle.mj_rank.proofs.MountCuts.{looks_none, refused_steps}
use Rattle.mj_rank.proofs.MountSteps.{numbers_at, header_numbers, header_alone}
use Rattle.mj_rank.proofs.SinceLemmas.{header_sent, mount_since_same, mount_since_sent}
use Rattle.mj_rank.proofs.mounting.Mounting.send.Goals as goal

pub returns-in_err-bytes-clause-steps : goal.returns-in_err-bytes-clause-steps
returns-in_err-bytes-clause-steps g c =
    refused_steps g.S.ObjectStore.state c.args.self.now _ _ c.from_residual.result c.from_residual.ensures.1
    (record { told = g.S.ObjectStore.state c.args.self.now.store; looks = looks_none g.S.ObjectStore.state c.args.self.now; value = refl; rest = inl (stays_itself _, refl) })

pub returns-in-Ok-clause-since : goal.returns-in-Ok-clause-since
returns-in-Ok-clause-since g c = λ base h.
    mount_since_sent base c.args.self.now _ c.submit.ensures.later
    (subst (λ stage. OutAt stage c.args.self.now.cuts.out.items) (sym c.requires.next) (header_alone c.args.self.now.stage (mount_value c.args.self.now) c.requires.may h.out))
    h c.in-Ok.op c.in-Ok.ensures.listed c.in-Ok.ensures.newest refl
    ((λ z. numbers_at (c.requires.next z) c.args.self.now.number c.in-Ok.op c.args.self.now.cuts.out.items) ∙ header_numbers c.args.self.now.stage (mount_value c.args.self.now) c.in-Ok.op c.requires.may)

pub returns-in-Ok-clause-steps : goal.returns-in-Ok-clause-steps
returns-in-Ok-clause-steps g c = inl (
  g.S.ObjectStore.state c.args.self.now.store,
  looks_none g.S.ObjectStore.state c.args.self.now,
  record {
    may = c.requires.may;
    looked = c.requires.looked;
    object = c.journal_object.ensures;
    value = λ z. record (mount_value c.args.self.now) { header = record c.args.self.now.header { phase = c.requires.phase z }; stage = c.requires.next z; sent = c.in-Ok.op };
    submits = header_sent c.args.self.now.number (record c.args.self.now.header { phase = c.args.phase }) _ (g.S.ObjectStore.state c.args.self.now.store) (g.S.ObjectStore.state c.submit.new.self) _ _
        c.journal_object-name.ensures (c.from_vec.ensures ∙ c.in_ok-bytes.ensures) c.in-Ok.ensures.ok;
  },
)

pub returns-in-Err-clause-steps : goal.returns-in-Err-clause-steps
returns-in-Err-clause-steps g c = record { told = g.S.ObjectStore.state c.args.self.now.store; looks = looks_none g.S.ObjectStore.state c.args.self.now; value = refl; rest = inl (c.in-Err.ensures.err, refl) }

pub returns-in-Err-clause-since : goal.returns-in-Err-clause-since
returns-in-Err-clause-since g c = λ base h.
    mount_since_same base c.args.self.now _ c.submit.ensures.later h.out h c.in-Err.ensures.same_list refl refl
