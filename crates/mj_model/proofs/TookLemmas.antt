-- What a sink takes of one text after another.
use Rattle.std.proofs.Common.{◌≡◌, inl, inr, ℕ, ◌+◌, ◌≤◌, List, [], ◌++◌, length, take, Option, Some, None, refl, sym, ap, ◌∙◌, arith, append_assoc, append-nil, length-append}
use Rattle.std.proofs.Math.Seq.{take-append-add}
use Rattle.mj_base.specs.Counts.{Rose}
use Rattle.mj_base.specs.Sink.{then_taken}
use Rattle.mj_model.specs.Took.{SinkState, TookAll, TookNone, FailedIn, TookOrFailed}

-- nothing is a text with nothing in it
pub took_nothing : (old new : SinkState) → TookNone old new → TookAll [] old new
took_nothing old new e = e ∙ by old.taken
  where
    by : (o : Option (List ℕ)) → o ≡ then_taken [] o
    by None = refl
    by (Some t) = ap Some (sym (append-nil t))

then_both : (xs ys : List ℕ) (o : Option (List ℕ)) → then_taken ys (then_taken xs o) ≡ then_taken (xs ++ ys) o
then_both xs ys None = refl
then_both xs ys (Some t) = ap Some (append_assoc t xs ys)

pub took_more : (xs ys : List ℕ) (old middle new : SinkState) → TookAll xs old middle → TookAll ys middle new → TookAll (xs ++ ys) old new
took_more xs ys old middle new f g = g ∙ ap (then_taken ys) f ∙ then_both xs ys old.taken

pub took_none : (xs : List ℕ) (old middle new : SinkState) → TookAll xs old middle → TookNone middle new → TookAll xs old new
took_none xs old middle new f g = g ∙ f

pub raised : (base before now : ℕ) → base ≤ before → Rose before now → Rose base now
raised base before now le rose = omega arith

-- it failed in the text behind what it took
pub failed_more : (xs ys : List ℕ) (old middle new : SinkState) → TookAll xs old middle → old.faults ≤ middle.faults → FailedIn ys middle new → FailedIn (xs ++ ys) old new
failed_more xs ys old middle new f later g = record {
  front = record {
    count = length xs + g.front.count;
    short = omega (arith, g.front.short, length-append xs ys);
    taken = g.front.taken ∙ ap (then_taken (take g.front.count ys)) f ∙ then_both xs (take g.front.count ys) old.taken ∙ ap (λ t. then_taken t old.taken) (sym (take-append-add xs ys g.front.count));
  };
  rose = raised old.faults middle.faults new.faults later g.rose;
}

pub took_or_failed : (xs ys : List ℕ) (old middle new : SinkState) → TookAll xs old middle → old.faults ≤ middle.faults → TookOrFailed ys middle new → TookOrFailed (xs ++ ys) old new
took_or_failed xs ys old middle new f later (inl g) = inl (took_more xs ys old middle new f g)
took_or_failed xs ys old middle new f later (inr g) = inr (failed_more xs ys old middle new f later g)
