-- What a table with a plan has beside dentries, and plans of few dentries.
use Rattle.std.proofs.Common.{◌≡◌, ℕ, ◌<◌, ◌^◌, true, List, Option, Some, None, refl, sym, ap, subst, ◌∙◌, ◌⊎◌, inl, inr, arith}
use Rattle.std.specs.Prelude.{IsSome}
use Rattle.std.specs.declared.cmp.Ordering.{Ordering}
use Rattle.mj_maps.specs.Map.{Map, get, insert, empty, len}
use Rattle.mj_maps.specs.Orders.{place_cmp}
use Rattle.mj_maps.proofs.MapLaws.{Exact, exact_place, none_some, some_same, insert_same, insert_other, cases_key, eq_false, apart, get_empty, len_empty}
use Rattle.mj_tree.specs.State.{PlainState}
use Rattle.mj_cells.specs.Table.{Dentry, Table, number_of}
use Rattle.mj_event.specs.Writes.{head_value}
use Rattle.mj_recovery.specs.Orderly.{IsOwn}
use Rattle.mj_delta.specs.Reads.{Places, names, is_held}
use Rattle.mj_delta.specs.TreeOf.{HasDentries}
use Rattle.mj_delta.specs.Events.{next_version}
use Rattle.mj_delta.specs.Plan.{Naming, Plan, heads_of}
use Rattle.mj_delta.proofs.Facts.{cases_option, is_some_at}
use Rattle.mj_delta.proofs.NewEntry.{AreHeadsOf}
use Rattle.mj_delta.proofs.Plans.{head_is, laid, laid_head, laid_other_head, laid_next, laid_opens}
use Rattle.mj_delta.proofs.Planned.{PlanFits, insert_len}
use Rattle.mj_delta.proofs.Ending.{Beside}

module _ (rank : ℕ) (t : Table) (s : PlainState) (primary : Places) (m : HasDentries rank t s primary) (plan : Plan) (s1 : PlainState) (next : s1.next ≡ s.next) (fits : PlanFits rank s1 plan)
    (held : (d : ℕ) → is_held rank s1 d ≡ true → (is_held rank s d ≡ true) × (plan.removed ≡ Some d → ⊥)) where
  laid_heads : AreHeadsOf rank s1 (laid t plan).heads
  laid_heads = record {
    held = λ d h. let w = held d h in elim (cases_option (get (heads_of t plan) d)) [
      | inl none ↦ subst (λ o. IsSome o) (sym (laid_other_head t plan d none)) (m.heads d w.0)
      | inr u ↦ elim (head_is t plan d u.0 u.1) [
        | inl gone ↦ absurd (w.1 gone.0)
        | inr x ↦ is_some_at _ (next_version t d) (laid_head t plan d u.0 u.1 ∙ ap (λ h. number_of (head_value h)) x.3)
      ]
    ];
    own = λ d n e. elim (cases_option (get (heads_of t plan) d)) [
      | inl none ↦ subst (λ k. IsOwn rank k d) (sym next) (m.own_heads d n (sym (laid_other_head t plan d none) ∙ e))
      | inr u ↦ elim (head_is t plan d u.0 u.1) [
        | inl gone ↦ absurd (none_some n (ap (λ h. number_of (head_value h)) (sym gone.1) ∙ sym (laid_head t plan d u.0 u.1) ∙ e))
        | inr x ↦ subst (IsOwn rank s1.next) x.2 (fits.own x.0.0 x.0.1 x.1)
      ]
    ];
  }

  pub laid_beside : Beside rank t s1 (laid t plan)
  laid_beside = record { next = laid_next t plan; opens = laid_opens t plan; heads = laid_heads }

-- ---- maps of few entries

pub insert_cases : {K X : Type 0} {R : K → K → Ordering} (o : Exact R) (m : Map R X) (k : K) (x : X) (z : K) (n : X) → get (insert m k x) z ≡ Some n → ((z ≡ k) × (n ≡ x)) ⊎ ((z ≡ k → ⊥) × (get m z ≡ Some n))
insert_cases o m k x z n e = elim (cases_key o z k) [
  | inl same ↦ inl (same, some_same n x (sym e ∙ ap (get (insert m k x)) same ∙ insert_same o m k x))
  | inr ne ↦ inr (apart o z k ne, sym (insert_other o m k x z ne) ∙ e)
]

pub insert_none : {K X : Type 0} {R : K → K → Ordering} (o : Exact R) (m : Map R X) (k : K) (x : X) (z : K) → (z ≡ k → ⊥) → get (insert m k x) z ≡ get m z
insert_none o m k x z ne = insert_other o m k x z (eq_false o z k ne)

-- one dentry that is planned, and a name that goes
abbrev pub TwoDentries : Type 0
TwoDentries = Map place_cmp (Option Naming)

abbrev pub two : ℕ × List ℕ → Option Naming → ℕ × List ℕ → TwoDentries
two r x q = insert (insert empty r x) q None

module _ (r : ℕ × List ℕ) (x : Option Naming) (q : ℕ × List ℕ) where
  pub two_gone : get (two r x q) q ≡ Some None
  two_gone = insert_same exact_place (insert empty r x) q None

  pub two_there : (r ≡ q → ⊥) → get (two r x q) r ≡ Some x
  two_there ne = insert_none exact_place (insert empty r x) q None r ne ∙ insert_same exact_place empty r x

  pub two_other : (z : ℕ × List ℕ) → (z ≡ q → ⊥) → (z ≡ r → ⊥) → get (two r x q) z ≡ None
  two_other z nq nr = insert_none exact_place (insert empty r x) q None z nq ∙ insert_none exact_place empty r x z nr ∙ get_empty place_cmp z

  pub two_cases : (z : ℕ × List ℕ) (n : Option Naming) → get (two r x q) z ≡ Some n → ((z ≡ q) × (n ≡ None)) ⊎ ((z ≡ r) × (n ≡ x))
  two_cases z n e = elim (insert_cases exact_place (insert empty r x) q None z n e) [
    | inl w ↦ inl w
    | inr u ↦ elim (insert_cases exact_place empty r x z n u.1) [
      | inl w ↦ inr w
      | inr v ↦ absurd (none_some n (sym (get_empty place_cmp z) ∙ v.1))
    ]
  ]

  pub two_few : len (two r x q) < 2 ^ 31
  two_few = omega (arith, insert_len exact_place (insert empty r x) q None, insert_len exact_place (empty {R = place_cmp}) r x, len_empty (Option Naming) place_cmp)

-- and one that takes the place of the name that goes, while another goes
abbrev pub three : ℕ × List ℕ → Option Naming → ℕ × List ℕ → Option Naming → ℕ × List ℕ → TwoDentries
three y n r x q = insert (insert (two y n r) r x) q None

module _ (y : ℕ × List ℕ) (n : Option Naming) (r : ℕ × List ℕ) (x : Option Naming) (q : ℕ × List ℕ) where
  pub three_gone : get (three y n r x q) q ≡ Some None
  three_gone = insert_same exact_place (insert (two y n r) r x) q None

  pub three_there : (r ≡ q → ⊥) → get (three y n r x q) r ≡ Some x
  three_there ne = insert_none exact_place (insert (two y n r) r x) q None r ne ∙ insert_same exact_place (two y n r) r x

  pub three_first : (y ≡ q → ⊥) → (y ≡ r → ⊥) → get (three y n r x q) y ≡ Some n
  three_first nq nr = insert_none exact_place (insert (two y n r) r x) q None y nq ∙ insert_none exact_place (two y n r) r x y nr ∙ two_there y n r nr

  pub three_other : (z : ℕ × List ℕ) → (z ≡ q → ⊥) → (z ≡ r → ⊥) → (z ≡ y → ⊥) → get (three y n r x q) z ≡ None
  three_other z nq nr ny = insert_none exact_place (insert (two y n r) r x) q None z nq ∙ insert_none exact_place (two y n r) r x z nr ∙ two_other y n r z nr ny

  pub three_cases : (z : ℕ × List ℕ) (o : Option Naming) → get (three y n r x q) z ≡ Some o → ((z ≡ q) × (o ≡ None)) ⊎ (((z ≡ r) × (o ≡ x)) ⊎ ((z ≡ y) × (o ≡ n)))
  three_cases z o e = elim (insert_cases exact_place (insert (two y n r) r x) q None z o e) [
    | inl w ↦ inl w
    | inr u ↦ inr (elim (insert_cases exact_place (two y n r) r x z o u.1) [
      | inl w ↦ inl w
      | inr v ↦ elim (two_cases y n r z o v.1) [ inl w ↦ absurd (v.0 w.0) | inr w ↦ inr w ]
    ])
  ]

  pub three_few : len (three y n r x q) < 2 ^ 31
  three_few = omega (arith, insert_len exact_place (insert (two y n r) r x) q None, insert_len exact_place (two y n r) r x, insert_len exact_place (insert (empty {R = place_cmp}) y n) r None, insert_len exact_place (empty {R = place_cmp}) y n, len_empty (Option Naming) place_cmp)

pub named_some : (o : Option Dentry) (i : ℕ) → names o ≡ Some i → IsSome o
named_some None i e = absurd (none_some i e)
named_some (Some d) i e = refl
