use Rattle.std.proofs.Common.{◌++◌, true, false, ◌||◌, IfOk, sym, ap, subst, ◌∙◌}
use Rattle.std.specs.Prelude.{is_some}
use Rattle.std.specs.BTreeSet.{BTreeSet, IsFromIterResult}
use Rattle.std.proofs.lemmas.Iterator.Adapters.{YieldsList-from_vec, fact_from_collect}
use Rattle.mj_cells.specs.declared.cell.CellKey.{CellKey}
use Rattle.mj_cells.proofs.Kept.{tree_cmp}
use Rattle.mj_tables.specs.Listed.{Adds}
use Rattle.mj_tables.specs.There.{both_sets}
use Rattle.mj_tables.proofs.SlotHashes.{SlotEntries}
use Rattle.mj_tables.proofs.Writes.{some_map}
use Rattle.mj_tables.proofs.KeySets.{made_of}
use Rattle.mj_tables.proofs.Apart.{pushed, kind_added, dir_added, other_added, no_kind, has_both, tree_rises}
use Rattle.mj_tables.proofs.Found.{AreFound, found_start, found_there, found_absent, found_end}
use Rattle.mj_tables.proofs.there.There.of_slots.Goals as goal
use Rattle.mj_tables.proofs.there.There.of_slots.Goals.{In_ok-others}

pub loop-key-init : goal.loop-key-init
loop-key-init c = (
  subst (λ (rest : SlotEntries). AreFound c.args.slots.now.entries rest (record { keys = c.new-dirs.result.items ++ c.new-others.result.items })) (sym (c.into_iter-key-iterator.ensures.into_iter_gives ∙ c.iter-key-items.ensures.rest))
      (found_start c.args.slots.now.entries (record { keys = c.new-dirs.result.items ++ c.new-others.result.items }) (λ i. c.new-dirs.ensures.items i ++ c.new-others.ensures.items i) c.iter-key-items.ensures.found),
  no_kind true c.new-dirs.result.items c.new-dirs.ensures.items,
  no_kind false c.new-others.result.items c.new-others.ensures.items,
)

pub loop-key-preserved-in-Continue-branch-2 : goal.loop-key-preserved-in-Continue-branch-2
loop-key-preserved-in-Continue-branch-2 c =
    let d : BTreeSet CellKey = record { keys = c.loop-key.dirs.items } in
    let o : BTreeSet CellKey = record { keys = c.loop-key.others.items } in
    let n : BTreeSet CellKey = record { keys = c.push.new.self.items } in
    let k = c.in-Some.key.now in
    let adds : Adds d k n = subst (λ q. Adds d q n) c.in_ok-copy.ensures (pushed c.loop-key.dirs.items c.in_ok-copy.copy c.push.new.self.items c.in_ok-push.ensures.items) in (
      found_there c.args.slots.now.entries c.next.new.self k c.in-Some.slot.now (both_sets d o) (both_sets n o)
          (subst (λ (rest : SlotEntries). AreFound c.args.slots.now.entries rest (both_sets d o)) c.in-Some.ensures.steps c.loop-key.invariant.0)
          (sym (ap is_some c.there.ensures) ∙ some_map _ c.there.result ∙ sym c.is_some.ensures ∙ c.if-is_some.true)
          (dir_added d o n k adds),
      kind_added true d n k c.loop-key.invariant.1 (sym c.is_of_dir.ensures ∙ c.if-is_of_dir.true) adds,
      c.loop-key.invariant.2,
    )

pub loop-key-preserved-in-Continue-branch-3 : goal.loop-key-preserved-in-Continue-branch-3
loop-key-preserved-in-Continue-branch-3 c =
    let d : BTreeSet CellKey = record { keys = c.loop-key.dirs.items } in
    let o : BTreeSet CellKey = record { keys = c.loop-key.others.items } in
    let n : BTreeSet CellKey = record { keys = c.push-else-is_of_dir.new.self.items } in
    let k = c.in-Some.key.now in
    let adds : Adds o k n = subst (λ q. Adds o q n) c.in_ok-copy.ensures (pushed c.loop-key.others.items c.in_ok-copy.copy c.push-else-is_of_dir.new.self.items c.in_ok-push-2.ensures.items) in (
      found_there c.args.slots.now.entries c.next.new.self k c.in-Some.slot.now (both_sets d o) (both_sets d n)
          (subst (λ (rest : SlotEntries). AreFound c.args.slots.now.entries rest (both_sets d o)) c.in-Some.ensures.steps c.loop-key.invariant.0)
          (sym (ap is_some c.there.ensures) ∙ some_map _ c.there.result ∙ sym c.is_some.ensures ∙ c.if-is_some.true)
          (other_added d o n k adds),
      c.loop-key.invariant.1,
      kind_added false o n k c.loop-key.invariant.2 (sym c.is_of_dir.ensures ∙ c.if-is_of_dir.false) adds,
    )

pub loop-key-preserved : goal.loop-key-preserved
loop-key-preserved c =
    let had : BTreeSet CellKey = record { keys = c.loop-key.dirs.items ++ c.loop-key.others.items } in (
      found_absent c.args.slots.now.entries c.next.new.self c.in-Some.key.now c.in-Some.slot.now had
          (subst (λ (rest : SlotEntries). AreFound c.args.slots.now.entries rest had) c.in-Some.ensures.steps c.loop-key.invariant.0)
          (sym (ap is_some c.there.ensures) ∙ some_map _ c.there.result ∙ sym c.is_some.ensures ∙ c.if-is_some.false),
      c.loop-key.invariant.1,
      c.loop-key.invariant.2,
    )

-- the sets that are made of the two lists
dirs_made : (c : In_ok-others) → IsFromIterResult tree_cmp c.loop-key.dirs.items c.in_ok-dirs.dirs
dirs_made c =
    subst (λ r. IfOk r (λ n. IsFromIterResult tree_cmp c.loop-key.dirs.items n)) c.in_ok-dirs.was
    (fact_from_collect (IsFromIterResult tree_cmp) c.collect.result c.collect.ensures.ran (YieldsList-from_vec c.loop-key.dirs.items c.into_iter.ensures.rest (c.into_iter.ensures.len ∙ c.loop-key.dirs.ok.0)))

others_made : (c : In_ok-others) → IsFromIterResult tree_cmp c.loop-key.others.items c.in_ok-others.others
others_made c =
    subst (λ r. IfOk r (λ n. IsFromIterResult tree_cmp c.loop-key.others.items n)) c.in_ok-others.was
    (fact_from_collect (IsFromIterResult tree_cmp) c.collect-2.result c.collect-2.ensures.ran (YieldsList-from_vec c.loop-key.others.items c.into_iter-2.ensures.rest (c.into_iter-2.ensures.len ∙ c.loop-key.others.ok.0)))

pub invariant_of-result : goal.invariant_of-result
invariant_of-result c = record {
  dirs_rise = tree_rises c.in_ok-dirs.dirs (dirs_made c).1;
  others_rise = tree_rises c.in_ok-others.others (others_made c).1;
  are_of_dirs = λ k has. c.loop-key.invariant.1 k (sym (made_of c.loop-key.dirs.items c.in_ok-dirs.dirs (dirs_made c).0 k) ∙ has);
  are_others = λ k has. c.loop-key.invariant.2 k (sym (made_of c.loop-key.others.items c.in_ok-others.others (others_made c).0 k) ∙ has);
}

pub returns : goal.returns
returns c k =
    let d : BTreeSet CellKey = record { keys = c.loop-key.dirs.items } in
    let o : BTreeSet CellKey = record { keys = c.loop-key.others.items } in
    has_both c.in_ok-dirs.dirs c.in_ok-others.others k
    ∙ (λ i. made_of c.loop-key.dirs.items c.in_ok-dirs.dirs (dirs_made c).0 k i || made_of c.loop-key.others.items c.in_ok-others.others (others_made c).0 k i)
    ∙ sym (has_both d o k)
    ∙ found_end c.args.slots.now.entries (both_sets d o) (subst (λ (rest : SlotEntries). AreFound c.args.slots.now.entries rest (both_sets d o)) c.in-None.ensures.steps.0 c.loop-key.invariant.0) k
