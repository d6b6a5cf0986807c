-- Reading a text byte by byte.
use Rattle.std.proofs.Common.{◌≡◌, ℕ, suc, ◌+◌, ◌<◌, Bool, true, false, cond, List, [], ◌∷◌, ◌++◌, length, Option, None, Some, Ok, Err, refl, ap, arith, append_assoc, sym, ◌∙◌}
use Rattle.std.specs.Prelude.{Result}
use Rattle.mj_base.specs.Name.{is_plain}
use Rattle.mj_base.specs.PathText.{escape_of, first_byte, plain_first, plain_onto, onto, unescaped}

-- the rest is shorter, and the text's bytes are this one and the rest's
abbrev Steps : ℕ → Result (List ℕ) ℕ → ℕ → List ℕ → Type 0
Steps len whole b after = (length after < len) × (whole ≡ onto (b ∷ []) (unescaped after))

plain_steps : (t : Bool) (c b : ℕ) (text after : List ℕ) (left : ℕ) → cond {A = Option (ℕ × List ℕ)} t (Some (c, text)) None ≡ Some (b, after)
    → Steps (suc (length text)) (elim t [ true ↦ onto (c ∷ []) (unescaped text) | false ↦ Err left ]) b after
plain_steps true c b text after left h =
    let same : ◌≡◌ {A = ℕ × List ℕ} (c, text) (b, after) = cc in
    let same_text : text ≡ after = ap (λ (p : ℕ × List ℕ). p.1) same in
    let same_byte : c ≡ b = ap (λ (p : ℕ × List ℕ). p.0) same in
    (omega (arith, ap length same_text), ap (λ (x : ℕ). onto (x ∷ []) (unescaped text)) same_byte ∙ ap (λ (x : List ℕ). onto (b ∷ []) (unescaped x)) same_text)
plain_steps false c b text after left h = absurd cc

escape_steps : (o : Option ℕ) (c high low b : ℕ) (text after : List ℕ) → elim o as (λ _. Option (ℕ × List ℕ)) [ Some x ↦ Some (x, text) | None ↦ plain_first c (high ∷ low ∷ text) ] ≡ Some (b, after)
    → Steps (suc (suc (suc (length text)))) (elim o [ Some x ↦ onto (x ∷ []) (unescaped text) | None ↦ plain_onto c (length text + 3) (unescaped (high ∷ low ∷ text)) ]) b after
escape_steps (Some x) c high low b text after h =
    let same : ◌≡◌ {A = ℕ × List ℕ} (x, text) (b, after) = cc in
    let same_text : text ≡ after = ap (λ (p : ℕ × List ℕ). p.1) same in
    let same_byte : x ≡ b = ap (λ (p : ℕ × List ℕ). p.0) same in
    (omega (arith, ap length same_text), ap (λ (y : ℕ). onto (y ∷ []) (unescaped text)) same_byte ∙ ap (λ (y : List ℕ). onto (b ∷ []) (unescaped y)) same_text)
escape_steps None c high low b text after h = plain_steps (is_plain c) c b (high ∷ low ∷ text) after (length text + 3) h

pub unescaped_step : (text : List ℕ) (b : ℕ) (after : List ℕ) → first_byte text ≡ Some (b, after) → Steps (length text) (unescaped text) b after
unescaped_step [] b after h = absurd cc
unescaped_step (c ∷ []) b after h = plain_steps (is_plain c) c b [] after 1 h
unescaped_step (c ∷ d ∷ []) b after h = plain_steps (is_plain c) c b (d ∷ []) after 2 h
unescaped_step (c ∷ high ∷ low ∷ text) b after h = escape_steps (escape_of c high low) c high low b text after h

plain_stops : (t : Bool) (c : ℕ) (text : List ℕ) (left : ℕ) (later : Result (List ℕ) ℕ) → cond {A = Option (ℕ × List ℕ)} t (Some (c, text)) None ≡ None → elim t as (λ _. Result (List ℕ) ℕ) [ true ↦ onto (c ∷ []) later | false ↦ Err left ] ≡ Err left
plain_stops true c text left later h = absurd cc
plain_stops false c text left later h = refl

escape_stops : (o : Option ℕ) (c high low : ℕ) (text : List ℕ) → elim o as (λ _. Option (ℕ × List ℕ)) [ Some x ↦ Some (x, text) | None ↦ plain_first c (high ∷ low ∷ text) ] ≡ None
    → elim o as (λ _. Result (List ℕ) ℕ) [ Some x ↦ onto (x ∷ []) (unescaped text) | None ↦ plain_onto c (length text + 3) (unescaped (high ∷ low ∷ text)) ] ≡ Err (length text + 3)
escape_stops (Some x) c high low text h = absurd cc
escape_stops None c high low text h = plain_stops (is_plain c) c (high ∷ low ∷ text) (length text + 3) (unescaped (high ∷ low ∷ text)) h

pub unescaped_stop : (text : List ℕ) → 0 < length text → first_byte text ≡ None → unescaped text ≡ Err (length text)
unescaped_stop [] some h = absurd (omega arith)
unescaped_stop (c ∷ []) some h = plain_stops (is_plain c) c [] 1 (Ok []) h
unescaped_stop (c ∷ d ∷ []) some h = plain_stops (is_plain c) c (d ∷ []) 2 (unescaped (d ∷ [])) h
unescaped_stop (c ∷ high ∷ low ∷ text) some h = escape_stops (escape_of c high low) c high low text h ∙ ap (λ (n : ℕ). Err n) (omega arith)

pub onto_onto : (xs ys : List ℕ) (r : Result (List ℕ) ℕ) → onto xs (onto ys r) ≡ onto (xs ++ ys) r
onto_onto xs ys (Ok zs) = ap (λ (bs : List ℕ). Ok bs) (sym (append_assoc xs ys zs))
onto_onto xs ys (Err left) = refl
