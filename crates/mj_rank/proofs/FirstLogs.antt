-- With what journal a rank begins, by whether a subtree map fits.
use Rattle.std.proofs.Common.{◌≡◌, ℕ, Bool, true, false, not, List, Option, Some, None, refl, sym, ap, ◌∙◌}
use Rattle.std.specs.Prelude.{is_some, is_none, if◌then◌else◌}
use Rattle.mj_layout.specs.declared.Header.{Header}
use Rattle.mj_event.specs.Event.{event_bytes}
use Rattle.mj_journaler.specs.Journal.{Journal}
use Rattle.mj_journaler.specs.Calls.{append_refusal}
use Rattle.mj_journaler.specs.declared.AppendRefusal.{AppendRefusal}
use Rattle.mj_rank.specs.Log.{with_entry}
use Rattle.mj_rank.specs.Mount.{subtree_map, empty_log, map_fits, first_log, first_segment}

-- ---- whether one does

none_or_some : {A : Type 0} (o : Option A) → is_none o ≡ not (is_some o)
none_or_some None = refl
none_or_some (Some x) = refl

pub none_of : {A : Type 0} (o : Option A) → is_none o ≡ true → o ≡ None
none_of None h = refl
none_of (Some x) h = absurd cc

module _ (h : Header) (rank tail : ℕ) (l : Journal) (payload : List ℕ) (begins : l ≡ empty_log h rank tail) (is : payload ≡ event_bytes (subtree_map rank)) (refusal : Option AppendRefusal) (refused : refusal ≡ append_refusal l payload) where
  fits_is : map_fits h rank tail ≡ not (is_some refusal)
  fits_is = (λ z. is_none (append_refusal (sym begins z) (sym is z))) ∙ (ap is_none (sym refused) ∙ none_or_some refusal)

  pub fits_not : is_some refusal ≡ true → map_fits h rank tail ≡ false
  fits_not e = fits_is ∙ ap not e

  pub fits : is_some refusal ≡ false → map_fits h rank tail ≡ true
  fits e = fits_is ∙ ap not e

  -- what is not refused is appended
  pub none_refused : is_some refusal ≡ false → append_refusal l payload ≡ None
  none_refused e = sym refused ∙ none_of refusal (none_or_some refusal ∙ ap not e)

-- ---- the journal, and its first segment

module _ (h : Header) (rank tail : ℕ) where
  pub log_mapped : map_fits h rank tail ≡ true → first_log h rank tail ≡ with_entry (empty_log h rank tail) (event_bytes (subtree_map rank))
  log_mapped e = ap (λ (b : Bool). if b then with_entry (empty_log h rank tail) (event_bytes (subtree_map rank)) else empty_log h rank tail) e

  pub log_empty : map_fits h rank tail ≡ false → first_log h rank tail ≡ empty_log h rank tail
  log_empty e = ap (λ (b : Bool). if b then with_entry (empty_log h rank tail) (event_bytes (subtree_map rank)) else empty_log h rank tail) e

  pub segment_begun : map_fits h rank tail ≡ true → first_segment h rank tail ≡ Some 0
  segment_begun e = ap (λ (b : Bool). if b then Some 0 else None) e

  pub segment_none : map_fits h rank tail ≡ false → first_segment h rank tail ≡ None
  segment_none e = ap (λ (b : Bool). if b then Some 0 else None) e
