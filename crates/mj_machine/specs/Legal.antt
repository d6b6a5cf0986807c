-- A script and the text printed for it, read together as a run of the machine.
use Rattle.std.specs.Prelude.{◌≡◌, ℕ, ◌+◌, false, true, List, [], ◌∷◌, ◌++◌, map, Option, None, Some, IsTrue, IsSome}
use Rattle.mj_tree.specs.State.{PlainState}
use Rattle.mj_tree.specs.Answer.{answer, after, changes}
use Rattle.mj_tree.specs.Listing.{listing}
use Rattle.mj_tree.specs.declared.request.ClientRequest.{ClientRequest}
use Rattle.mj_texts.specs.AnswerText.{told_text}
use Rattle.mj_texts.specs.Answers.{is_answer}
use Rattle.mj_texts.specs.declared.answer.Answer.{Answer}
use Rattle.mj_texts.specs.declared.answer.Answer.TheVariants as told
use Rattle.mj_texts.specs.declared.line.Line.{Line}
use Rattle.mj_texts.specs.declared.line.Line.TheVariants.{One}
use Rattle.mj_texts.specs.declared.steps.Early.{Early}
use Rattle.mj_texts.specs.declared.steps.Reaped.{Reaped}
use Rattle.mj_texts.specs.declared.steps.Reaped.TheVariants as reaped
use Rattle.mj_texts.specs.declared.steps.Step.TheVariants.{Ask}
use Rattle.mj_machine.specs.declared.kept.ChronicleEntry.{ChronicleEntry}
use Rattle.mj_machine.specs.Machine.{LogMachine, Step, opened, stepped, run, reply_to, early_state}
use Rattle.mj_machine.specs.Machine.Step.{Accept, Safe, Stop, Other}

-- a line and its answer, if it has one
abbrev pub Turn : Type 0
Turn = Line × Option Answer

-- ---- the machine's step of a line, by its answer

abbrev pub accepting : Line → Option ℕ → Step
accepting (One (Ask r)) (Some ends) = Accept r ends
accepting l ends = Other

abbrev pub making_safe : Reaped → Step
making_safe (reaped.One op from to) = Safe to
making_safe reaped.Nothing = Other

abbrev pub step_by : Line → Option Answer → Step
step_by l (Some (told.Asked early)) = accepting l early.ends_at
step_by l (Some (told.Reaped reaped)) = making_safe reaped
step_by l (Some (told.Mounted epoch tail)) = Stop tail
step_by l _ = Other

abbrev pub step_of : Turn → Step
step_of x = step_by x.0 x.1

-- ---- what is printed is the machine's

-- The reply is the machine's, and a request that changes the state has an end.
abbrev pub IsReplyTo : LogMachine → ClientRequest → Early → Type 0
IsReplyTo w r early = (early.reply ≡ reply_to w r) × (IsTrue (changes (early_state w) r) → IsSome early.ends_at)

abbrev pub Replies : LogMachine → Line → Early → Type 0
Replies w (One (Ask r)) early = IsReplyTo w r early
Replies w l early = Unit {0}

-- So is a listing: that of all requests that were kept.
abbrev pub IsToldBy : LogMachine → Line → Option Answer → Type 0
IsToldBy w l (Some (told.Asked early)) = Replies w l early
IsToldBy w l (Some (told.Tree text)) = text ≡ listing (early_state w) false
IsToldBy w l (Some (told.State text)) = text ≡ listing (early_state w) true
IsToldBy w l _ = Unit {0}

abbrev pub Agrees : LogMachine → Turn → Type 0
Agrees w x = IsToldBy w x.0 x.1

-- ---- turns, one after another

-- the text of the lines from the n-th on, with these answers
abbrev pub text_from : ℕ → List Turn → List ℕ
text_from n [] = []
text_from n (x ∷ xs) = told_text n x.1 ++ text_from (n + 1) xs

abbrev pub AllAgree : LogMachine → List Turn → Type 0
AllAgree w [] = Unit {0}
AllAgree w (x ∷ xs) = IsTrue (is_answer x.0 x.1) × Agrees w x × AllAgree (stepped w (step_of x)) xs

-- the machine after these
abbrev pub after_turns : LogMachine → List Turn → LogMachine
after_turns w xs = run w (map step_of xs)

-- Some answers to the lines make a run of the machine that prints just this text.
pub record IsLegalText (opening : PlainState) (lines : List Line) (text : List ℕ) : Type 0 where
  pub turns : List Turn
  pub lines_are : map (λ (x : Turn). x.0) turns ≡ lines
  pub agree : AllAgree (opened opening) turns
  pub text_is : text ≡ text_from 1 turns

-- ---- a chronicle

-- Each entry's reply is the answer of the state after the requests before it.
abbrev pub IsLegalChronicle : PlainState → List ChronicleEntry → Type 0
IsLegalChronicle s [] = Unit {0}
IsLegalChronicle s (e ∷ es) = (e.reply ≡ answer s e.request) × IsLegalChronicle (after s e.request) es
