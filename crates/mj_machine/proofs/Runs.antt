-- What a run of the machine keeps.
use Rattle.std.proofs.Common.{◌≡◌, true, false, List, [], ◌∷◌, ◌++◌, refl, sym, ap, ◌∙◌, append_assoc}
use Rattle.std.specs.Prelude.{filter, map, if◌then◌else◌}
use Rattle.std.proofs.lemmas.List.{append-nil, map-append}
use Rattle.mj_tree.specs.Answer.{changes}
use Rattle.mj_machine.specs.declared.kept.Kept.{Kept}
use Rattle.mj_machine.specs.Machine.{LogMachine, Step, early_state, ends_by, stepped, run}
use Rattle.mj_machine.specs.Machine.Step.{Accept, Safe, Stop, Other}
use Rattle.mj_machine.specs.Legal.{Turn, step_of, after_turns}

-- the history of one goes on in the other
abbrev pub GoesOn : List Kept → List Kept → Type 0
GoesOn before later = (more : List Kept) × (later ≡ before ++ more)

same : (ks : List Kept) → GoesOn ks ks
same ks = ([], sym (append-nil ks))

stays : (w : LogMachine) (s : Step) → GoesOn w.history (stepped w s).history
stays w (Accept r ends) = elim (changes (early_state w) r) as (λ b. GoesOn w.history (if b then record w { on_the_way = w.on_the_way ++ record { request = r; ends = ends } ∷ [] } else w).history) [ true ↦ same w.history | false ↦ same w.history ]
stays w (Safe p) = (filter (ends_by p) w.on_the_way, refl)
stays w (Stop p) = (filter (ends_by p) w.on_the_way, refl)
stays w Other = same w.history

pub run_stays : (w : LogMachine) (ss : List Step) → GoesOn w.history (run w ss).history
run_stays w [] = same w.history
run_stays w (s ∷ ss) =
    let one = stays w s in
    let rest = run_stays (stepped w s) ss in
    (one.0 ++ rest.0, rest.1 ∙ ap (λ h. h ++ rest.0) one.1 ∙ append_assoc w.history one.0 rest.0)

run-append : (w : LogMachine) (ss ts : List Step) → run w (ss ++ ts) ≡ run (run w ss) ts
run-append w [] ts = refl
run-append w (s ∷ ss) ts = run-append (stepped w s) ss ts

pub turns_stay : (w : LogMachine) (xs ys : List Turn) → GoesOn (after_turns w xs).history (after_turns w (xs ++ ys)).history
turns_stay w xs ys =
    let rest = run_stays (after_turns w xs) (map step_of ys) in
    (rest.0, ap (λ (v : LogMachine). v.history) (ap (λ ss. run w ss) (map-append step_of xs ys) ∙ run-append w (map step_of xs) (map step_of ys)) ∙ rest.1)
