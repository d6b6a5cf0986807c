-- A store with few objects stays one, and each of its images is a finite map.
use Rattle.std.proofs.Common.{◌≡◌, ◌⊎◌, inl, inr, ℕ, cond, Option, Some, None, List, [], ◌∷◌, refl, sym, ◌∙◌, ap}
use Rattle.std.specs.Ordering.{eq_by_cmp}
use Rattle.mj_maps.specs.Map.{get, insert}
use Rattle.mj_maps.proofs.MapLaws.{get_empty, get-insert, cases_key, eq_same, apart}
use Rattle.mj_base.specs.ObjectName.{name_cmp}
use Rattle.mj_base.specs.declared.object.ObjectName.{ObjectName}
use Rattle.mj_store.specs.declared.act.ObjectOp.{ObjectOp}
use Rattle.mj_store.specs.Object.{Content, Contents}
use Rattle.mj_store.specs.State.{StoreState, IsImage, submitted, at_rest}
use Rattle.mj_store.specs.Causes.{In}
use Rattle.mj_store.proofs.Names.{cases_name}
use Rattle.mj_store.proofs.Always.{always_image, always_submitted, always_rest}
use Rattle.mj_recovery.specs.Objects.{Objects, Holds}
use Rattle.mj_recovery.proofs.Stores.{exact_name}
use Rattle.mj_facts.specs.Few.{IsAbsentBut, HoldsOnly, with_object, objects_among}

pub few_rest : (names : List ObjectName) (image : Contents) (s : StoreState) → ((name : ObjectName) → (In name names → ⊥) → image name ≡ None) → HoldsOnly names (at_rest image s)
few_rest names image s none = always_rest (IsAbsentBut names) image s (λ name. record { absent = none name; idle = λ h. refl })

pub few_submitted : (names : List ObjectName) (s : StoreState) (op : ObjectOp) (number : ℕ) → HoldsOnly names s → HoldsOnly (op.name ∷ names) (submitted op number s)
few_submitted names s op number h = always_submitted (IsAbsentBut names) (IsAbsentBut (op.name ∷ names)) s op number
    (λ k ne held rest sub mo. record { absent = λ n. mo.absent (λ i. n (inr i)); idle = λ n. mo.idle (λ i. n (inr i)) })
    (λ held rest sub mo. record { absent = λ n. absurd (n (inl refl)); idle = λ n. absurd (n (inl refl)) })
    (λ held mo. record { absent = λ n. absurd (n (inl refl)); idle = λ n. absurd (n (inl refl)) }) h

-- ---- the finite map

-- what the map says of a name
abbrev Says : Contents → List ObjectName → Objects → ObjectName → Type 0
Says image names m q = (get m q ≡ image q) ⊎ ((In q names → ⊥) × (get m q ≡ None))

not_first : (n q : ObjectName) (ns : List ObjectName) → (n ≡ q → ⊥) → (In q ns → ⊥) → In q (n ∷ ns) → ⊥
not_first n q ns other none (inl e) = other e
not_first n q ns other none (inr i) = none i

says_more : (image : Contents) (n : ObjectName) (ns : List ObjectName) (m : Objects) (q : ObjectName) (o : Option Content) → image n ≡ o → Says image ns m q → Says image (n ∷ ns) (with_object m n o) q
says_more image n ns m q None e (inl same) = inl same
says_more image n ns m q None e (inr r) = elim (cases_name n q) [
  | inl same ↦ inl (r.1 ∙ (sym e ∙ ap image same))
  | inr other ↦ inr (not_first n q ns other r.0, r.1)
]
says_more image n ns m q (Some o) e s = elim (cases_key exact_name q n) [
  | inl same ↦ inl (get-insert exact_name m n o q ∙ (ap (λ k. cond (eq_by_cmp name_cmp k n) (Some o) (get m q)) same ∙ (ap (λ b. cond b (Some o) (get m q)) (eq_same exact_name n) ∙ (sym e ∙ ap image (sym same)))))
  | inr other ↦
      let kept : get (insert m n o) q ≡ get m q = get-insert exact_name m n o q ∙ ap (λ b. cond b (Some o) (get m q)) other in
      elim s [
        | inl same ↦ inl (kept ∙ same)
        | inr r ↦ elim (cases_name n q) [
          | inl same ↦ absurd (apart exact_name q n other (sym same))
          | inr ne ↦ inr (not_first n q ns ne r.0, kept ∙ r.1)
        ]
      ]
]

says : (image : Contents) (names : List ObjectName) (q : ObjectName) → Says image names (objects_among image names) q
says image [] q = inr ((λ h. h), get_empty name_cmp q)
says image (n ∷ ns) q = says_more image n ns (objects_among image ns) q (image n) refl (says image ns q)

pub few_image : (names : List ObjectName) (s : StoreState) (image : Contents) → HoldsOnly names s → IsImage s image → Holds image (objects_among image names)
few_image names s image h im q = elim (says image names q) [
  | inl same ↦ same
  | inr r ↦ r.1 ∙ sym ((always_image (IsAbsentBut names) s image h im q).1.absent r.0)
]
