-- One more byte of a text that stands at the front.
use Rattle.std.proofs.Common.{◌≡◌, ℕ, suc, ◌+◌, ◌-◌, ◌<◌, ◌≤◌, ◌≢◌, cond, List, length, get_or, drop, Ok, Err, refl, ap, sym, ◌∙◌, arith, add-one, drop-cons}
use Rattle.std.proofs.lemmas.Bool.{eq-eqb, ne_eqb}
use Rattle.std.proofs.lemmas.List.{length-drop, drop_all}
use Rattle.mj_layout.specs.Header.{exactly}

pub exactly_more : (text bytes : List ℕ) (i : ℕ) → i < length text → i < length bytes → get_or bytes i 0 ≡ get_or text i 0
    → exactly (drop i text) (drop i bytes) ≡ exactly (drop (i + 1) text) (drop (i + 1) bytes)
exactly_more text bytes i t b e =
    rw (drop-cons text i 0 t, drop-cons bytes i 0 b)
    (ap (λ same. cond same (exactly (drop (suc i) text) (drop (suc i) bytes)) (Err (suc (length (drop (suc i) bytes))))) (eq-eqb (get_or text i 0) (get_or bytes i 0) (sym e))
    ∙ ap (λ k. exactly (drop k text) (drop k bytes)) (sym (add-one i)))

pub exactly_other : (text bytes : List ℕ) (i : ℕ) → i < length text → i < length bytes → get_or bytes i 0 ≢ get_or text i 0
    → exactly (drop i text) (drop i bytes) ≡ Err (length bytes - i)
exactly_other text bytes i t b e =
    rw (drop-cons text i 0 t, drop-cons bytes i 0 b)
    (ap (λ same. cond same (exactly (drop (suc i) text) (drop (suc i) bytes)) (Err (suc (length (drop (suc i) bytes))))) (ne_eqb (get_or text i 0) (get_or bytes i 0) (λ s. e (sym s)))
    ∙ ap Err (left bytes i b))
  where
    left : (bytes : List ℕ) (i : ℕ) → i < length bytes → suc (length (drop (suc i) bytes)) ≡ length bytes - i
    left bytes i b = omega (arith, length-drop (suc i) bytes)

pub exactly_cut : (text bytes : List ℕ) (i : ℕ) → i < length text → length bytes ≤ i → exactly (drop i text) (drop i bytes) ≡ Err 0
exactly_cut text bytes i t b = rw (drop-cons text i 0 t, drop_all i bytes b) refl

pub exactly_all : (text bytes : List ℕ) (i : ℕ) → length text ≤ i → exactly (drop i text) (drop i bytes) ≡ Ok (tt, drop i bytes)
exactly_all text bytes i t = rw (drop_all i text t) refl
