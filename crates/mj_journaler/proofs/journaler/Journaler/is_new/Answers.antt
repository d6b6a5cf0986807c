use Rattle.std.proofs.Common.{◌≡◌, ◌∙◌, true, false, sym, subst}
use Rattle.mj_journaler.specs.Journal.{Journal, IsNew}
use Rattle.mj_journaler.specs.Inside.{journal_in}
use Rattle.mj_journaler.proofs.journaler.Journaler.is_new.Goals as goal
use Rattle.mj_journaler.proofs.journaler.Journaler.is_new.Goals.{then-is_below, else-is_below}

pub returns-then-is_below-2-clause-yes : goal.returns-then-is_below-2-clause-yes
returns-then-is_below-2-clause-yes c = λ yes.
    subst (λ n. IsNew n c.args.self.now) c.op.view_is
    (subst (λ (j : Journal). IsNew c.op.inside.0 j) c.self.view_is
    (elim c.if-is_below.branch [
      | then-is_below w ↦ record {
        sent = c.is_below.ensures.yes w.if-is_below.true;
        heads = w.is_below-then-is_below.ensures.yes (sym w.value-is ∙ c.if-is_below-2.true);
        removals = c.is_below-then-is_below-2.ensures.yes yes;
      }
      | else-is_below w ↦ let none : false ≡ true = sym w.if-is_below.false ∙ sym w.value-is ∙ c.if-is_below-2.true in absurd cc
    ]))

pub returns-then-is_below-2-clause-no : goal.returns-then-is_below-2-clause-no
returns-then-is_below-2-clause-no c = λ no new.
    let inside : IsNew c.op.inside.0 (journal_in c.self.inside) = subst (λ (j : Journal). IsNew c.op.inside.0 j) (sym c.self.view_is) (subst (λ n. IsNew n c.args.self.now) (sym c.op.view_is) new) in
    c.is_below-then-is_below-2.ensures.no no inside.removals

pub returns-else-is_below-2-clause-no : goal.returns-else-is_below-2-clause-no
returns-else-is_below-2-clause-no c = λ no new.
    let inside : IsNew c.op.inside.0 (journal_in c.self.inside) = subst (λ (j : Journal). IsNew c.op.inside.0 j) (sym c.self.view_is) (subst (λ n. IsNew n c.args.self.now) (sym c.op.view_is) new) in
    elim c.if-is_below.branch [
      | then-is_below w ↦ w.is_below-then-is_below.ensures.no (sym w.value-is ∙ no) inside.heads
      | else-is_below w ↦ c.is_below.ensures.no w.if-is_below.false inside.sent
    ]
