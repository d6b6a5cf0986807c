use Rattle.std.proofs.Common.{◌≡◌, ℕ, ◌+◌, ◌/◌, ◌%◌, List, [], ◌∷◌, ◌++◌, ap, ◌∙◌, arith}
use Rattle.std.specs.Fmt.{decimal}
use Rattle.std.proofs.lemmas.Fmt.{decimal_digit, decimal_step}
use Rattle.mj_base.proofs.short_text.ShortText.prepend_rank.Goals as goal

pub returns-then-number-ge10-clause-text : goal.returns-then-number-ge10-clause-text
returns-then-number-ge10-clause-text c =
    let n = c.args.rank in
    let first : n / 10 ≡ 1 = omega (arith, c.number-number.ensures.value, c.number-number.ensures.range) in
    let digits = decimal_step n (omega (arith, c.number-number.ensures.value)) (omega (arith, c.number-number.ensures.value, c.number-number.ensures.range)) ∙ ap (λ (x : List ℕ). x ++ (48 + n % 10) ∷ []) (ap decimal first ∙ decimal_digit 1 (omega arith)) in
    rw (digits, ← c.number-number.ensures.value) (c.prepend-then-number-ge10.ensures ∙ ap (λ (x : List ℕ). 49 ∷ x) c.prepend.ensures)

pub returns-else-number-ge10-clause-text : goal.returns-else-number-ge10-clause-text
returns-else-number-ge10-clause-text c =
    let n = c.args.rank in
    let same : 48 + c.number-number.result % 10 ≡ 48 + n = omega (arith, c.number-number.ensures.value) in
    rw (decimal_digit n (omega (arith, c.number-number.ensures.value))) (c.prepend.ensures ∙ ap (λ (d : ℕ). d ∷ c.args.self.now) same)
