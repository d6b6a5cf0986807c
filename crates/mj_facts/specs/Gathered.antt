-- What is gathered from an image before it is judged.
use Rattle.std.specs.Prelude.{◌≡◌, ℕ, List, Ok}
use Rattle.mj_store.specs.Object.{Contents}
use Rattle.mj_layout.specs.declared.Header.{Header}
use Rattle.mj_cells.specs.Table.{Table, overlay}
use Rattle.mj_recovery.specs.Objects.{Objects, Holds}
use Rattle.mj_recovery.specs.Journal.{journal_writes}
use Rattle.mj_recovery.specs.Recovered.{Recovery, gathered}
use Rattle.mj_recovery.specs.Tree.{tree_of}
use Rattle.mj_facts.specs.Journalled.{Journalled}
use Rattle.mj_facts.specs.Rests.{IsFront, events_between, journal_of}

-- the stored table with what the events from one on write, up to another
abbrev pub table_between : Journalled → Table → ℕ → ℕ → Table
table_between j stored first count = overlay stored (journal_writes (events_between j first count))

abbrev pub recovery_between : Journalled → Table → Header → ℕ → ℕ → Recovery
recovery_between j stored header first count = record {
  journal = journal_of j header first count;
  table = table_between j stored first count;
  tree = tree_of j.rank (table_between j stored first count);
}

-- The image is a finite map, and the journal, table and tree of a front are gathered from it.
pub record IsGathered (j : Journalled) (safe : ℕ) (headers : List Header) (stored : Table) (image : Contents) : Type 0 where
  pub front : IsFront j safe headers image
  pub objects : Objects
  pub holds : Holds image objects
  pub gathers : gathered j.rank objects ≡ Ok (recovery_between j stored front.header front.first front.count)
