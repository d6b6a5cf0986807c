-- The bytes of entries, cut anywhere: some entries whole, and of the next a part.
use Rattle.std.proofs.Common.{◌≡◌, inl, inr, ℕ, zero, suc, ◌+◌, ◌-◌, ◌^◌, ◌<◌, ◌≤◌, List, [], ◌∷◌, ◌++◌, length, take, sym, ◌∙◌, ap, arith, min, append_assoc}
use Rattle.std.specs.List.{AllByRecursion}
use Rattle.std.proofs.lemmas.Bool.{cases_lt}
use Rattle.std.proofs.lemmas.List.{take_all, take-append-le}
use Rattle.mj_entry.specs.Entry.{entry_at}
use Rattle.mj_entry.specs.Entry.EntryCase.{Part}
use Rattle.mj_event.specs.declared.Event.{Event}
use Rattle.mj_facts.specs.Journalled.{IsCarried, entry_of, size_of, spelled, ends}
use Rattle.mj_facts.proofs.Scans.{take_min_take, take_through}
use Rattle.mj_facts.proofs.Entries.{entry_long, entry_cut, entry_none, ends_from}

pub record Cut (at : ℕ) (es : List Event) (k : ℕ) : Type 0 where
  pub count : ℕ
  pub within : count ≤ length es
  pub rest : List ℕ
  pub is : take k (spelled at es) ≡ spelled at (take count es) ++ rest
  pub part : (i : ℕ) → entry_at (take i rest) (ends at (take count es)) ≡ Part
  -- any other front that stands whole in it is no longer
  pub most : (i : ℕ) → ends at (take i es) ≤ at + k → ends at (take i es) ≤ ends at (take count es)

none_le : (at i : ℕ) → ends at (take i []) ≤ at
none_le at zero = omega arith
none_le at (suc i) = omega arith

pub cut : (es : List Event) (at k : ℕ) → AllByRecursion IsCarried es → ends at es ≤ 2 ^ 62 → Cut at es k
cut [] at k fit far = record {
  count = 0;
  within = omega arith;
  rest = [];
  is = take_all k [] (omega arith);
  part = λ i. ap (λ bytes. entry_at bytes at) (take_all i [] (omega arith)) ∙ entry_none at;
  most = λ i h. none_le at i;
}
cut (e ∷ es) at k fit far = elim (cases_lt k (size_of e)) [
  | inl short ↦ record {
    count = 0;
    within = omega arith;
    rest = take k (entry_of at e);
    is = take-append-le k (entry_of at e) (spelled (at + size_of e) es) (omega (arith, short, entry_long at e));
    part = λ i. ap (λ bytes. entry_at bytes at) (take_min_take i k (entry_of at e)) ∙ entry_cut at (min i k) e fit.0 (omega (arith, short));
    most = λ i h. first_only i h short;
  }
  | inr long ↦
      let here = entry_of at e in
      let next = at + size_of e in
      let r = cut es next (k - size_of e) fit.1 far in
      record {
        count = suc r.count;
        within = omega (arith, r.within);
        rest = r.rest;
        is = take_through k (size_of e) here (spelled next es) (entry_long at e) long ∙ (ap (λ (t : List ℕ). here ++ t) r.is ∙ sym (append_assoc here (spelled next (take r.count es)) r.rest));
        part = r.part;
        most = λ i h. later r.count r.most i h long;
      }
]
  where
    first_only : (i : ℕ) → ends at (take i (e ∷ es)) ≤ at + k → k < size_of e → ends at (take i (e ∷ es)) ≤ at
    first_only zero h s = omega arith
    first_only (suc i) h s = absurd (omega (arith, h, s, ends_from (take i es) (at + size_of e)))

    later : (c : ℕ) → ((i : ℕ) → ends (at + size_of e) (take i es) ≤ at + size_of e + (k - size_of e) → ends (at + size_of e) (take i es) ≤ ends (at + size_of e) (take c es))
        → (i : ℕ) → ends at (take i (e ∷ es)) ≤ at + k → size_of e ≤ k → ends at (take i (e ∷ es)) ≤ ends at (take (suc c) (e ∷ es))
    later c most zero h l = omega (arith, ends_from (take c es) (at + size_of e))
    later c most (suc i) h l = most i (omega (arith, h, l))
