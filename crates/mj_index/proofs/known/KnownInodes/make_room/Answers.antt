use Rattle.std.proofs.Common.{cond, sym, ap, ◌∙◌}
use Rattle.std.specs.Prelude.{is_some}
use Rattle.mj_maps.specs.Map.{get, insert, count, from_entries}
use Rattle.mj_index.specs.Known.{Inodes, nothing, keeps_entry, with_room}
use Rattle.mj_index.proofs.Altered.{none_of, count_room, get_hashed, given_hashed}
use Rattle.mj_index.proofs.known.KnownInodes.make_room.Goals as goal

pub invariant_of-self-then-not-contains_key : goal.invariant_of-self-then-not-contains_key
invariant_of-self-then-not-contains_key c =
    let m : Inodes = from_entries c.self.inside.by_inode.entries in
    let absent = none_of (get m c.args.ino) (ap is_some (get_hashed c.self.inside.by_inode.entries c.ino.inside.0 c.args.ino c.ino.view_is) ∙ sym c.contains_key.ensures ∙ c.if-not-contains_key.true) in
    c.self.invariant ∙ sym (ap (λ (n : Inodes). count keeps_entry n) (given_hashed c.self.inside.by_inode.entries c.insert.new.self.entries c.ino.inside.0 c.args.ino c.nothing.result c.ino.view_is c.in_ok-insert.ensures.updates.0 ∙ ap (insert m c.args.ino) c.nothing.ensures)
    ∙ count_room m c.args.ino absent)

pub returns-in_ok-insert-clause-ok : goal.returns-in_ok-insert-clause-ok
returns-in_ok-insert-clause-ok c =
    let m : Inodes = from_entries c.self.inside.by_inode.entries in
    let absent = ap is_some (get_hashed c.self.inside.by_inode.entries c.ino.inside.0 c.args.ino c.ino.view_is) ∙ sym c.contains_key.ensures ∙ c.if-not-contains_key.true in
    given_hashed c.self.inside.by_inode.entries c.insert.new.self.entries c.ino.inside.0 c.args.ino c.nothing.result c.ino.view_is c.in_ok-insert.ensures.updates.0 ∙ ap (insert m c.args.ino) c.nothing.ensures
    ∙ sym (ap (λ b. cond b m (insert m c.args.ino nothing)) absent) ∙ ap (λ (n : Inodes). with_room n c.args.ino) c.self.view_is

pub returns-else-not-contains_key-clause-ok : goal.returns-else-not-contains_key-clause-ok
returns-else-not-contains_key-clause-ok c =
    let m : Inodes = from_entries c.self.inside.by_inode.entries in
    let there = ap is_some (get_hashed c.self.inside.by_inode.entries c.ino.inside.0 c.args.ino c.ino.view_is) ∙ sym c.contains_key.ensures ∙ c.if-not-contains_key.false in
    sym c.self.view_is ∙ sym (ap (λ b. cond b m (insert m c.args.ino nothing)) there) ∙ ap (λ (n : Inodes). with_room n c.args.ino) c.self.view_is
