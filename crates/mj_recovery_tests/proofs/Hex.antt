-- Numbers of hexadecimal digits are small.
use Rattle.std.specs.Option.{option_and_then}
use Rattle.std.proofs.lemmas.List.{at_drop_more}
use Rattle.mj_recovery.specs.Stored.{hex_digit, hex_after}
use Rattle.std.proofs.Common.{◌≡◌, List, length, get_or, drop, Option, Some, sym, ℕ, ◌+◌, ◌*◌, ◌^◌, ◌<◌, ◌≤◌, ap, subst, ◌∙◌, arith}
use Rattle.std.proofs.lemmas.Nat.{pow-add}
use Rattle.std.proofs.Math.Pow.{pow_mono}

pub hex_fits : (n d i : ℕ) → n < 2 ^ (4 * i) → i ≤ 15 → d < 16 → n * 16 + d < 2 ^ 64
hex_fits n d i lt le small =
    let few : 4 * i ≤ 60 = omega arith in
    let most : 2 ^ (4 * i) ≤ 2 ^ 60 = pow_mono few in
    omega arith

pub hex_more : (n d i : ℕ) → n < 2 ^ (4 * i) → d < 16 → n * 16 + d < 2 ^ (4 * (i + 1))
hex_more n d i lt small =
    let four : 4 * (i + 1) ≡ 4 * i + 4 = omega arith in
    let e : 2 ^ (4 * (i + 1)) ≡ 2 ^ (4 * i) * 16 = ap (λ k. 2 ^ k) four ∙ pow-add 2 (4 * i) 4 in
    rw e (omega arith)

pub client_fits : (n len : ℕ) → n < 2 ^ (4 * len) → len ≡ 8 → n < 2 ^ 32
client_fits n len lt is = subst (λ k. n < 2 ^ (4 * k)) is lt

pub hex_step : (n d i : ℕ) (text : List ℕ) (r : Option ℕ) → i < length text → hex_digit (get_or text i 0) ≡ Some d → hex_after n (drop i text) ≡ r → hex_after (n * 16 + d) (drop (i + 1) text) ≡ r
hex_step n d i text r lt digit h = sym (at_drop_more (hex_after n) text i 0 lt ∙ ap (λ (o : Option ℕ). option_and_then (λ e. hex_after (n * 16 + e) (drop (i + 1) text)) o) digit) ∙ h
