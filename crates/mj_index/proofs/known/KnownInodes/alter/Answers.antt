use Rattle.std.proofs.Common.{arith, ◌≡◌, ◌+◌, cond, Some, refl, sym, ap, ◌∙◌}
use Rattle.std.specs.Prelude.{is_some, ◌-◌}
use Rattle.mj_maps.specs.Map.{get, count, from_entries}
use Rattle.mj_index.specs.declared.known.Known.{Known}
use Rattle.mj_index.specs.Known.{Inodes, keeps_entry}
use Rattle.mj_index.proofs.Altered.{count_bound, count_replaced, alters_some, alters_none, get_hashed, given_hashed}
use Rattle.mj_index.proofs.known.KnownInodes.alter.Goals as goal

pub counted-self-inside-requires : goal.counted-self-inside-requires
counted-self-inside-requires g c =
    let bound = count_bound c.self.inside.by_inode.entries in
    let is = c.self.invariant in
    let long = c.len.ensures.len in
    let small = c.len.ensures.small in
    omega (arith, bound, is, long, small)

pub invariant_of-self : goal.invariant_of-self
invariant_of-self g c =
    let m : Inodes = from_entries c.self.inside.by_inode.entries in
    let new : Known = c.change.new.arg2 in
    let wrote = (c.get_mut.follows.holds new).3 (ap is_some (sym c.in-Some.ensures.value)) in
    let some : get m c.args.ino ≡ Some c.in-Some.known.now = get_hashed c.self.inside.by_inode.entries c.ino.inside.0 c.args.ino c.ino.view_is ∙ sym c.in-Some.ensures.value in
    c.counted-self-inside.ensures ∙ (λ i. (c.self.invariant i - cond (c.keeps-before.ensures i) 1 0) + cond (c.keeps.ensures i) 1 0)
    ∙ sym (count_replaced m c.args.ino c.in-Some.known.now new some)
    ∙ sym (ap (λ (n : Inodes). count keeps_entry n) (given_hashed c.self.inside.by_inode.entries (c.get_mut.follows.lender new).entries c.ino.inside.0 c.args.ino new c.ino.view_is wrote.0))

pub returns-in-Some : goal.returns-in-Some
returns-in-Some g c =
    let new : Known = c.change.new.arg2 in
    let wrote = (c.get_mut.follows.holds new).3 (ap is_some (sym c.in-Some.ensures.value)) in
    alters_some _ (from_entries c.self.inside.by_inode.entries) _ _ c.args.ino c.in-Some.known.now new c.self.view_is
    (get_hashed c.self.inside.by_inode.entries c.ino.inside.0 c.args.ino c.ino.view_is ∙ sym c.in-Some.ensures.value)
    (record { shown = _; shows = refl; left = _; met = c.change.ensures; leaves = refl })
    (given_hashed c.self.inside.by_inode.entries (c.get_mut.follows.lender new).entries c.ino.inside.0 c.args.ino new c.ino.view_is wrote.0)

pub returns-in_default : goal.returns-in_default
returns-in_default g c =
    alters_none _ (from_entries c.self.inside.by_inode.entries) _ _ c.args.ino c.self.view_is
    (get_hashed c.self.inside.by_inode.entries c.ino.inside.0 c.args.ino c.ino.view_is ∙ sym c.in_default.ensures.value)
    (ap (λ b. from_entries b.entries) c.get_mut.follows.holds-at-none)
