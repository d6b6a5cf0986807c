-- Objects in which a new rank's table is stored: with a journal they come to the tree of the journal's turns.
use Rattle.std.proofs.Common.{◌≡◌, ℕ, ◌≤◌, List, [], None, Ok}
use Rattle.mj_maps.specs.Map.{get}
use Rattle.mj_tree.specs.State.{new_state}
use Rattle.mj_tree.specs.Answer.{after_all}
use Rattle.mj_recovery.specs.declared.journal.LiveJournal.{LiveJournal}
use Rattle.mj_recovery.specs.Objects.{Objects}
use Rattle.mj_recovery.specs.Journal.{live_journal}
use Rattle.mj_recovery.specs.Recovered.{stored_table, merged_table, bad_table, bad_key_of, recovered}
use Rattle.mj_cells.specs.Table.{overlay}
use Rattle.mj_delta.specs.Fresh.{fresh_table}
use Rattle.mj_delta.specs.Histories.{Turn, events, requests, Carries}
use Rattle.mj_delta.specs.Recovering.{live_events}
use Rattle.mj_delta.proofs.Fresh.{fresh_tree}
use Rattle.mj_delta.proofs.Fronts.{history_recovers, same_writes}

-- nothing is outside the format, and a new rank's table is stored
pub record StoresFresh (rank : ℕ) (m : Objects) : Type 0 where
  pub tables : bad_table (get m) rank ≡ None
  pub dirfrags : (d : ℕ) → bad_key_of (get m) d ≡ None
  pub stored : stored_table rank m ≡ fresh_table rank

pub fresh_recovers : (rank : ℕ) (m : Objects) (j : LiveJournal) (live : List Turn) → StoresFresh rank m → live_events j ≡ events live → rank ≤ 15 → Carries rank (fresh_table rank) (new_state rank) live → live_journal (get m) rank ≡ Ok j
    → recovered rank m ≡ Ok (record { journal = j; table = merged_table rank m j.events; tree = after_all (new_state rank) (requests live) })
fresh_recovers rank m j live fresh events_are small carries journal = history_recovers rank m j (fresh_table rank) (new_state rank) [] live (fresh_tree rank small) carries (record {
  tables = fresh.tables;
  dirfrags = λ d of. fresh.dirfrags d;
  journal = journal;
  events_are = events_are;
  merged = λ z. overlay (fresh.stored z) (same_writes j live events_are z);
})
