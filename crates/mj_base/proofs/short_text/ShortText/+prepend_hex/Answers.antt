use Rattle.std.proofs.Common.{false, ℕ, ◌-◌, ◌/◌, ◌%◌, ◌<◌, ◌≤◌, List, [], ◌∷◌, ◌++◌, length, ap, sym, ◌∙◌, append_assoc, arith, inl, inr, ◌⊎◌}
use Rattle.std.specs.Fmt.{digit_glyph}
use Rattle.mj_base.specs.ObjectText.{hex_padded}
use Rattle.mj_base.proofs.HexLemmas.{hex_padded_step, hex_padded_one, length-hex_padded-some, length-hex_padded-step}
use Rattle.mj_base.proofs.short_text.ShortText.+prepend_hex.Goals as goal

pub prepend-requires : goal.prepend-requires
prepend-requires t c = omega (arith, length-hex_padded-some c.args.least c.args.number (omega arith))

more_digits : (n least : ℕ) → (16 ≤ n) ⊎ ((n < 16) × (1 < least)) → (16 ≤ n) ⊎ (1 < least)
more_digits n least (inl big) = inl big
more_digits n least (inr pad) = inr pad.1

pub prepend_hex-requires : goal.prepend_hex-requires
prepend_hex-requires t c =
    let more = more_digits c.args.number c.args.least c.then-number-ge16.either in
    let room = length-hex_padded-step c.args.least c.args.number (omega arith) more in
    let fewer = c.saturating_sub.ensures in
    let one_more = ap length c.prepend.ensures in
    (omega (arith, fewer), rw fewer (omega (arith, room, one_more, c.requires)))

pub returns-then-number-ge16 : goal.returns-then-number-ge16
returns-then-number-ge16 t c =
    let n = c.args.number in
    let least = c.args.least in
    let had = c.args.self.now in
    let more = more_digits n least c.then-number-ge16.either in
    c.prepend_hex.ensures ∙ ap (λ (k : ℕ). hex_padded k (n / 16) ++ c.prepend.new.self) c.saturating_sub.ensures
    ∙ ap (λ (x : List ℕ). hex_padded (least - 1) (n / 16) ++ x) (c.prepend.ensures ∙ ap (λ (d : ℕ). d ∷ had) c.hex_digit.ensures)
    ∙ sym (append_assoc (hex_padded (least - 1) (n / 16)) (digit_glyph false (n % 16) ∷ []) had) ∙ ap (λ (x : List ℕ). x ++ had) (sym (hex_padded_step least n (omega arith) more))

pub returns-else-least-gt1 : goal.returns-else-least-gt1
returns-else-least-gt1 t c =
    let n = c.args.number in
    c.prepend.ensures ∙ ap (λ (d : ℕ). d ∷ c.args.self.now) c.hex_digit.ensures ∙ ap (λ (x : List ℕ). x ++ c.args.self.now) (sym (hex_padded_one c.args.least n (omega arith) (omega arith)))
