-- The parts of recovery put together.
use Rattle.std.proofs.Common.{◌≡◌, ℕ, List, [], ◌∷◌, Option, Some, None, Result, Ok, Err, refl, sym, ap, ◌∙◌}
use Rattle.std.specs.Prelude.{nat_eq, ◌||◌, is_some}
use Rattle.std.specs.Option.{option_and_then}
use Rattle.mj_base.specs.ObjectName.{stray_ino}
use Rattle.mj_base.specs.Reading.{◌>>=◌}
use Rattle.mj_base.specs.declared.damage.Damage.{Damage}
use Rattle.mj_maps.specs.Map.{get}
use Rattle.mj_store.specs.declared.held.HeldObject.{HeldObject}
use Rattle.mj_tree.specs.State.{PlainState}
use Rattle.mj_cells.specs.Table.{Table, no_cells, overlay}
use Rattle.mj_recovery.specs.declared.journal.LiveEvent.{LiveEvent}
use Rattle.mj_recovery.specs.declared.journal.LiveJournal.{LiveJournal}
use Rattle.mj_recovery.specs.Objects.{AreHeld, Objects, objects_of}
use Rattle.mj_recovery.specs.Listed.{image_of, all_listed}
use Rattle.mj_recovery.specs.ListedObjects.{listed_bad_table, listed_bad_key, named_bad, listed_bad_dirfrag}
use Rattle.mj_recovery.specs.Journal.{live_journal, journal_writes}
use Rattle.mj_recovery.specs.Tree.{is_among, holding, tree_of}
use Rattle.mj_recovery.specs.Damage.{first_some, lump_dirs, tree_damage}
use Rattle.mj_recovery.specs.Recovered.{Recovery, bad_table, bad_dirfrag, merged_table, merged_with, merged_damage, or_damage, recovered}
use Rattle.mj_recovery.proofs.Bools.{second}
use Rattle.mj_recovery.proofs.BadObjects.{table_is, dirfrag_is}
use Rattle.mj_recovery.proofs.Stores.{stored_is, image_is}
use Rattle.mj_judge.specs.Reached.{AreDirs}
use Rattle.mj_judge.proofs.Alike.{least_filter}
use Rattle.mj_replay.specs.Replays.{Fails}
use Rattle.mj_replay.specs.declared.refusal.JournalRefusal.{JournalRefusal}
use Rattle.mj_replay.specs.declared.refusal.JournalRefusal.TheVariants as refusal

pub merged_is : (rank : ℕ) (hs : List HeldObject) (events : List LiveEvent) (a b c : Table) → AreHeld hs → a ≡ no_cells → b ≡ overlay a (all_listed rank hs) → c ≡ overlay b (journal_writes events)
    → c ≡ merged_table rank (objects_of hs) events
merged_is rank hs events a b c held e f g = g ∙ ap (λ t. overlay t (journal_writes events)) (f ∙ ap (λ t. overlay t (all_listed rank hs)) e ∙ stored_is rank hs held)

journal_is : (rank : ℕ) (hs : List HeldObject) (r : Result LiveJournal Damage) → live_journal (image_of hs) rank ≡ r → live_journal (get (objects_of hs)) rank ≡ r
journal_is rank hs r e = ap (λ image. live_journal image rank) (sym (image_is hs)) ∙ e

pub merged_with_is : (rank : ℕ) (m : Objects) (j : LiveJournal) (t : Table) (s : PlainState) → t ≡ merged_table rank m j.events → s ≡ tree_of rank t
    → (let found : Recovery = record { journal = j; table = t; tree = s } in found ≡ merged_with rank m j)
merged_with_is rank m j t s f g = λ i. record { journal = j; table = f i; tree = (g ∙ ap (tree_of rank) f) i }

-- the journal of the list, and what it recovers to
module _ (rank : ℕ) (hs : List HeldObject) where
  bound : (l : Result LiveJournal Damage) → live_journal (image_of hs) rank ≡ l → recovered rank (objects_of hs) ≡ ((l >>= λ j. Ok (merged_with rank (objects_of hs) j)) >>= λ r. or_damage (merged_damage rank (objects_of hs) r.journal r.table) r)
  unfolding recovered
  bound l e = ap (λ (x : Result LiveJournal Damage). (x >>= λ j. Ok (merged_with rank (objects_of hs) j)) >>= λ r. or_damage (merged_damage rank (objects_of hs) r.journal r.table) r) (journal_is rank hs l e)

  pub journal_fails : (why : JournalRefusal) → Fails why (live_journal (image_of hs) rank) → Fails why (recovered rank (objects_of hs))
  journal_fails (refusal.Damage d) e = bound (Err d) e
  journal_fails (refusal.Store fault) e = tt
  journal_fails refusal.Memory e = tt

  judged : (j : LiveJournal) (r : Recovery) (o : Option Damage) → live_journal (image_of hs) rank ≡ Ok j → r ≡ merged_with rank (objects_of hs) j → o ≡ merged_damage rank (objects_of hs) r.journal r.table → recovered rank (objects_of hs) ≡ or_damage o r
  judged j r o e f g = bound (Ok j) e ∙ ap (λ (x : Recovery). or_damage (merged_damage rank (objects_of hs) x.journal x.table) x) (sym f) ∙ ap (λ p. or_damage p r) (sym g)

  pub undamaged : (j : LiveJournal) (r : Recovery) → live_journal (image_of hs) rank ≡ Ok j → r ≡ merged_with rank (objects_of hs) j → None ≡ merged_damage rank (objects_of hs) r.journal r.table → recovered rank (objects_of hs) ≡ Ok r
  undamaged j r e f g = judged j r None e f g

  pub damaged : (j : LiveJournal) (r : Recovery) (d : Damage) → live_journal (image_of hs) rank ≡ Ok j → r ≡ merged_with rank (objects_of hs) j → Some d ≡ merged_damage rank (objects_of hs) r.journal r.table → recovered rank (objects_of hs) ≡ Err d
  damaged j r d e f g = judged j r (Some d) e f g

  -- ---- the verdict

  held_alike : (t : Table) (dirs : List ℕ) → AreDirs t dirs → (d : ℕ) → is_among (stray_ino rank ∷ dirs) d ≡ is_among (holding rank t) d
  held_alike t dirs is d = ap (λ b. nat_eq (stray_ino rank) d || b) (is d)

  pub verdict_is : (j : LiveJournal) (t : Table) (dirs held lumps : List ℕ) (a b d : Option Damage) → AreHeld hs → AreDirs t dirs → held ≡ stray_ino rank ∷ dirs → lumps ≡ lump_dirs (journal_writes j.events)
      → a ≡ listed_bad_table rank hs → b ≡ listed_bad_dirfrag hs held → d ≡ tree_damage rank t lumps
      → first_some (a ∷ b ∷ d ∷ []) ≡ merged_damage rank (objects_of hs) j t
  verdict_is j t dirs held lumps a b d order is holds lump first next rest =
      let sorted = second _ _ order in
      let table : a ≡ bad_table (get (objects_of hs)) rank = first ∙ table_is hs sorted rank in
      let dirfrag : b ≡ bad_dirfrag (get (objects_of hs)) (holding rank t) = next ∙ ap (listed_bad_dirfrag hs) holds
      ∙ ap (option_and_then (named_bad hs)) (least_filter (λ k. is_some (listed_bad_key hs k)) (stray_ino rank ∷ dirs) (holding rank t) (held_alike t dirs is)) ∙ dirfrag_is hs sorted (holding rank t) in
      let last : d ≡ tree_damage rank t (lump_dirs (journal_writes j.events)) = rest ∙ ap (tree_damage rank t) lump in
      λ i. first_some (table i ∷ dirfrag i ∷ last i ∷ [])
