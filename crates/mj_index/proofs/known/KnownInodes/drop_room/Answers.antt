use Rattle.std.proofs.Common.{◌≡◌, sym, ap, ◌∙◌}
use Rattle.mj_maps.specs.Map.{count, from_entries}
use Rattle.mj_index.specs.Known.{Inodes, nothing, known_at, keeps_entry}
use Rattle.mj_index.proofs.Altered.{count_room_gone, known-remove, taken_hashed}
use Rattle.mj_index.proofs.known.KnownInodes.drop_room.Goals as goal

pub invariant_of-self : goal.invariant_of-self
invariant_of-self c =
    let m : Inodes = from_entries c.self.inside.by_inode.entries in
    let none : known_at m c.args.ino ≡ nothing = ap (λ (n : Inodes). known_at n c.args.ino) c.self.view_is ∙ c.is_room.ensures c.if-is_room.true in
    c.self.invariant ∙ sym (ap (λ (n : Inodes). count keeps_entry n) (taken_hashed c.self.inside.by_inode.entries c.remove.new.self.entries c.ino.inside.0 c.args.ino c.ino.view_is c.remove.ensures.updates.0) ∙ count_room_gone m c.args.ino none)

pub returns-then-is_room : goal.returns-then-is_room
returns-then-is_room c i =
    let m : Inodes = from_entries c.self.inside.by_inode.entries in
    let none : known_at m c.args.ino ≡ nothing = ap (λ (n : Inodes). known_at n c.args.ino) c.self.view_is ∙ c.is_room.ensures c.if-is_room.true in
    ap (λ (n : Inodes). known_at n i) (taken_hashed c.self.inside.by_inode.entries c.remove.new.self.entries c.ino.inside.0 c.args.ino c.ino.view_is c.remove.ensures.updates.0) ∙ known-remove m c.args.ino none i
    ∙ ap (λ (n : Inodes). known_at n i) c.self.view_is
