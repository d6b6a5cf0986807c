use Rattle.std.proofs.Common.{ℕ, Ok, nat_le, ap, ◌∙◌}
use Rattle.mj_maps.specs.Map.{Map, insert, retain, from_entries}
use Rattle.mj_maps.specs.Orders.{nat_cmp}
use Rattle.mj_tree.specs.State.{Session}
use Rattle.mj_tree.specs.Replies.{kept_entries}
use Rattle.mj_tree.proofs.Puts.{replies_rise_after, replies_after}
use Rattle.mj_tree.proofs.sessions.keeping.Goals as goal

pub invariant_of-result : goal.invariant_of-result
invariant_of-result c =
    let all = c.args.session.now.kept in
    record { replies_rise = replies_rise_after (Ok tt) (record { tid = c.args.r.now.tid; ino = c.args.ino }) c.later-oldest.result all c.in_ok-kept.kept c.put.new.items c.in_ok-kept.ensures c.in_ok-put.ensures.ok tt c.args.session.now.replies_rise }

pub returns-clause-session : goal.returns-clause-session
returns-clause-session c =
    let all = c.args.session.now.kept in
    let r = c.args.r.now in
    let with_kept : Map nat_cmp ℕ → Session = λ m. record { oldest = c.later-oldest.result; kept = m } in
    let from_number : ℕ → Session = λ n. record { oldest = n; kept = insert (retain (λ tid _. nat_le n tid) (from_entries {R = nat_cmp} (kept_entries all))) r.tid c.args.ino } in
    ap with_kept (replies_after (Ok tt) (record { tid = r.tid; ino = c.args.ino }) c.later-oldest.result all c.in_ok-kept.kept c.put.new.items c.in_ok-kept.ensures c.in_ok-put.ensures.ok)
    ∙ ap from_number c.later-oldest.ensures
