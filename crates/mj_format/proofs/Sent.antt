-- Operations that are sent one after another.
use Rattle.std.proofs.Common.{◌≡◌, ℕ, ◌≤◌, Option, Some, List, [], ◌∷◌, ◌++◌, inl, inr, refl, sym, ◌∙◌, ap, subst, arith, append_assoc}
use Rattle.std.proofs.lemmas.List.{append-nil}
use Rattle.mj_store.specs.declared.act.ObjectOp.{ObjectOp}
use Rattle.mj_store.specs.Object.{Contents, HasShortKeys, applied, put}
use Rattle.mj_store.specs.State.{StoreState, Quiet, contents}
use Rattle.mj_store.specs.Events.{Goes, Tells}
use Rattle.mj_store.specs.Causes.{Listed, Counted}
use Rattle.mj_store.specs.Calls.{Performed, GoesBy}
use Rattle.mj_store.proofs.Paths.{goes_itself, goes_then}
use Rattle.mj_format.specs.Sending.{after_ops, PerformedAll, HaveShortKeys, GoesByFront}

pub after-append : (xs ys : List ObjectOp) (image : Contents) → after_ops (xs ++ ys) image ≡ after_ops ys (after_ops xs image)
after-append [] ys image = refl
after-append (x ∷ xs) ys image = after-append xs ys (put image x.name (applied x.act (image x.name)))

pub short_keys : (xs : List ObjectOp) (x : ObjectOp) (ys : List ObjectOp) → HaveShortKeys (xs ++ x ∷ ys) → HasShortKeys x.act
short_keys [] x ys all = all.0
short_keys (z ∷ xs) x ys all = short_keys xs x ys all.1

pub performed_more : (ops : List ObjectOp) (op : ObjectOp) (s t u : StoreState) → PerformedAll ops s t → Performed op t u → PerformedAll (ops ++ op ∷ []) s u
performed_more ops op s t u a b =
    let same : contents t ≡ after_ops ops (contents s) = λ i name. a.held name i in
    record {
      held = λ name. b.held name ∙ ap (λ (f : Contents). put f op.name (applied op.act (f op.name)) name) same ∙ ap (λ (f : Contents). f name) (sym (after-append ops (op ∷ []) (contents s)));
      quiet = b.quiet;
    }

-- They were sent, and each is done.
pub record Sends (ops : List ObjectOp) (told told' : Option StoreState) (faults faults' : ℕ) (list list' : List Listed) : Type 0 where
  pub ok : (s : StoreState) → told ≡ Some s → Quiet s → Tells told' (PerformedAll ops s)
  pub none_listed : (s : StoreState) → told ≡ Some s → Quiet s → list ≡ [] → list' ≡ []
  pub goes : Goes told ops told'
  pub counted : (base : ℕ) → Counted base faults list → Counted base faults' list'
  pub later : faults ≤ faults'

pub sends_none : (told : Option StoreState) (faults : ℕ) (list : List Listed) → Sends [] told told faults faults list list
sends_none told faults list = record {
  ok = λ s is quiet. record { now = s; is = is; holds = record { held = λ name. refl; quiet = quiet } };
  none_listed = λ s is quiet none. none;
  goes = goes_itself told;
  counted = λ base c. c;
  later = omega arith;
}

module _ (ops : List ObjectOp) (told now next : Option StoreState) (faults faults' faults'' : ℕ) (list list' list'' : List Listed) (so_far : Sends ops told now faults faults' list list') where
  -- one more
  pub sends_more : (op : ObjectOp)
      → ((s : StoreState) → now ≡ Some s → Quiet s → Tells next (Performed op s)) → ((s : StoreState) → now ≡ Some s → Quiet s → list' ≡ [] → list'' ≡ []) → Goes now (op ∷ []) next
      → ((base : ℕ) → Counted base faults' list' → Counted base faults'' list'') → faults' ≤ faults'' → Sends (ops ++ op ∷ []) told next faults faults'' list list''
  sends_more op ok none goes counted later = record {
    ok = λ s is quiet.
        let a = so_far.ok s is quiet in
        let b = ok a.now a.is a.holds.quiet in
        record { now = b.now; is = b.is; holds = performed_more ops op s a.now b.now a.holds b.holds };
    none_listed = λ s is quiet e. let a = so_far.ok s is quiet in none a.now a.is a.holds.quiet (so_far.none_listed s is quiet e);
    goes = goes_then so_far.goes goes;
    counted = λ base c. counted base (so_far.counted base c);
    later = omega (arith, so_far.later, later);
  }

-- they were sent, and of one more perhaps only its submission happened
pub front_more : (ops xs : List ObjectOp) (x : ObjectOp) (more : List ObjectOp) (told now next : Option StoreState) → xs ++ x ∷ more ≡ ops → Goes told xs now → GoesBy x now next → GoesByFront ops told next
front_more ops xs x more told now next all so_far (inl g) = record { front = xs; rest = x ∷ more; all = all; goes = subst (λ (os : List ObjectOp). Goes told os next) (append-nil xs) (goes_then so_far g) }
front_more ops xs x more told now next all so_far (inr g) = record { front = xs ++ x ∷ []; rest = more; all = append_assoc xs (x ∷ []) more ∙ all; goes = goes_then so_far g }
