-- What is gathered from an image while nothing is committed.
use Rattle.std.proofs.Common.{◌≡◌, ℕ, List, Result, Ok, ◌∙◌, ap}
use Rattle.mj_maps.specs.Map.{get}
use Rattle.mj_base.specs.Reading.{◌>>=◌}
use Rattle.mj_base.specs.declared.damage.Damage.{Damage}
use Rattle.mj_base.specs.declared.object.ObjectName.{ObjectName}
use Rattle.mj_store.specs.Object.{Contents}
use Rattle.mj_store.specs.State.{StoreState, IsImage}
use Rattle.mj_layout.specs.declared.Header.{Header}
use Rattle.mj_cells.specs.Table.{Table, overlay}
use Rattle.mj_recovery.specs.Objects.{Objects, Holds}
use Rattle.mj_recovery.specs.Journal.{live_journal, journal_writes}
use Rattle.mj_recovery.specs.Recovered.{Recovery, gathered, merged_with, stored_table}
use Rattle.mj_recovery.specs.Tree.{tree_of}
use Rattle.mj_recovery.specs.declared.journal.LiveJournal.{LiveJournal}
use Rattle.mj_facts.specs.Journalled.{Journalled}
use Rattle.mj_facts.specs.Elsewhere.{NothingCommitted}
use Rattle.mj_facts.specs.Few.{HoldsOnly, objects_among}
use Rattle.mj_facts.specs.Rests.{IsFront, journal_of}
use Rattle.mj_facts.specs.Gathered.{IsGathered}
use Rattle.mj_facts.proofs.Few.{few_image}
use Rattle.mj_facts.proofs.Uncommitted.{uncommitted_table}
use mathlib.Core.Path.{fun_ext}

-- a journal over a stored table
abbrev over : ℕ → Table → LiveJournal → Recovery
over rank stored live = let t = overlay stored (journal_writes live.events) in record { journal = live; table = t; tree = tree_of rank t }

gathered_is : (rank : ℕ) (m : Objects) (stored : Table) (live : LiveJournal) → live_journal (get m) rank ≡ Ok live → stored_table rank m ≡ stored → gathered rank m ≡ Ok (over rank stored live)
gathered_is rank m stored live e same =
    ap (λ (r : Result LiveJournal Damage). r >>= λ j. Ok (merged_with rank m j)) e ∙ ap (λ t. Ok (over rank t live)) same

pub front_gathered : (j : Journalled) (safe : ℕ) (headers : List Header) (names : List ObjectName) (s : StoreState) (base image : Contents) (n : Objects) → IsFront j safe headers image
    → HoldsOnly names s → NothingCommitted j.rank base s → IsImage s image → Holds base n → IsGathered j safe headers (stored_table j.rank n) image
front_gathered j safe headers names s base image n f few u im g =
    let m = objects_among image names in
    let h : Holds image m = few_image names s image few im in
    let same : get m ≡ image = fun_ext h in
    record {
      front = f;
      objects = m;
      holds = h;
      gathers = gathered_is j.rank m (stored_table j.rank n) (journal_of j f.header f.first f.count) (ap (λ (c : Contents). live_journal c j.rank) same ∙ f.read) (uncommitted_table j.rank base s image m n u im h g);
    }
