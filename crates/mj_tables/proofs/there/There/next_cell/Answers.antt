use Rattle.std.proofs.Common.{◌≡◌, List, None, sym, ap, subst, ◌∙◌}
use Rattle.std.specs.List.{filter}
use Rattle.std.specs.Option.{option_copied, option_or}
use Rattle.std.specs.BTreeSet.{BTreeSet}
use Rattle.mj_cells.specs.declared.cell.CellKey.{CellKey}
use Rattle.mj_cells.specs.Next.{is_above, first_of}
use Rattle.mj_tables.specs.Slots.{slots_of}
use Rattle.mj_tables.specs.Listed.{there_along}
use Rattle.mj_tables.specs.There.{Rises}
use Rattle.mj_tables.proofs.Apart.{both_rise, no_dirs_above, next_of_both}
use Rattle.mj_tables.proofs.NextThere.{above_is}
use Rattle.mj_tables.proofs.there.There.next_cell.Goals as goal
use Rattle.mj_tables.proofs.there.There.next_cell.Goals.{After-first_there-2, then-begins_at_dirs+in_default, else-begins_at_dirs}

pub returns-in-Some-clause-cell : goal.returns-in-Some-clause-cell
returns-in-Some-clause-cell c =
    let m = slots_of c.args.slots.now in
    let d = c.self.inside.dirs in
    let o = c.self.inside.others in
    let after = option_copied c.args.after in
    ap (λ x. option_or x (first_of (there_along m (filter (is_above after) o.keys))))
    (c.in-Some.ensures ∙ ap (λ (ks : List CellKey). first_of (there_along m ks)) (above_is d c.range-dirs.result after _ c.start_above.ensures (c.range-dirs.ensures.between tt)))
    ∙ sym (next_of_both m d o after)
    ∙ ap (λ (s : BTreeSet CellKey). first_of (there_along m (filter (is_above after) s.keys))) c.self.view_is

pub returns-in-Some-clause-rises : goal.returns-in-Some-clause-rises
returns-in-Some-clause-rises c = subst Rises c.self.view_is (both_rise c.self.inside.dirs c.self.inside.others c.self.invariant)

no_dir : (c : After-first_there-2) → None ≡ first_of (there_along (slots_of c.args.slots.now) (filter (is_above (option_copied c.args.after)) c.self.inside.dirs.keys))
no_dir c =
    let m = slots_of c.args.slots.now in
    let d = c.self.inside.dirs in
    let after = option_copied c.args.after in
    elim c.if-begins_at_dirs.branch [
      | then-begins_at_dirs+in_default w ↦ w.in_default.ensures ∙ ap (λ (ks : List CellKey). first_of (there_along m ks)) (above_is d w.range-dirs.result after _ w.start_above.ensures (w.range-dirs.ensures.between tt))
      | else-begins_at_dirs w ↦ ap (λ (ks : List CellKey). first_of (there_along m ks)) (sym (no_dirs_above after d (sym c.begins_at_dirs.ensures ∙ w.if-begins_at_dirs.false) c.self.invariant.are_of_dirs))
    ]

pub returns-clause-cell : goal.returns-clause-cell
returns-clause-cell c =
    let m = slots_of c.args.slots.now in
    let d = c.self.inside.dirs in
    let o = c.self.inside.others in
    let after = option_copied c.args.after in
    c.first_there-2.ensures
    ∙ ap (λ (ks : List CellKey). first_of (there_along m ks)) (above_is o c.range-others.result after _ c.start_above-2.ensures (c.range-others.ensures.between tt))
    ∙ ap (λ x. option_or x (first_of (there_along m (filter (is_above after) o.keys)))) (no_dir c)
    ∙ sym (next_of_both m d o after)
    ∙ ap (λ (s : BTreeSet CellKey). first_of (there_along m (filter (is_above after) s.keys))) c.self.view_is

pub returns-clause-rises : goal.returns-clause-rises
returns-clause-rises c = subst Rises c.self.view_is (both_rise c.self.inside.dirs c.self.inside.others c.self.invariant)
