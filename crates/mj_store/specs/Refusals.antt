-- A refusal of a submission, as the refusal of the whole operation.
use Rattle.mj_store.specs.declared.answer.SubmitRefusal.{SubmitRefusal}
use Rattle.mj_store.specs.declared.answer.SubmitRefusal.TheVariants as submit
use Rattle.mj_store.specs.declared.answer.PerformRefusal.{PerformRefusal}
use Rattle.mj_store.specs.declared.answer.PerformRefusal.TheVariants as perform

abbrev pub perform_refusal : SubmitRefusal → PerformRefusal
perform_refusal (submit.Failed fault) = perform.Failed fault
perform_refusal (submit.Memory op) = perform.Memory
