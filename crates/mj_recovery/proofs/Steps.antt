-- The live journal by its parts.
use Rattle.std.proofs.Common.{◌≡◌, ℕ, List, Result, Ok, ap, sym, ◌∙◌}
use Rattle.mj_base.specs.Reading.{◌>>=◌}
use Rattle.mj_base.specs.declared.damage.Damage.{Damage}
use Rattle.mj_store.specs.Object.{Contents}
use Rattle.mj_layout.specs.declared.Header.{Header}
use Rattle.mj_recovery.specs.Stream.{stream}
use Rattle.mj_recovery.specs.declared.journal.Entries.{Entries}
use Rattle.mj_recovery.specs.Journal.{live_header, live_entries, journal_from, live_journal}

pub journal_ok : (image : Contents) (rank : ℕ) (h : Header) (bytes : List ℕ) (found : Entries) → live_header image rank ≡ Ok h → bytes ≡ stream image rank h.layout h.expire → live_entries bytes h.expire h.write ≡ Ok found
    → live_journal image rank ≡ Ok (record { header = h; events = found.events; tail = found.tail })
unfolding journal_from
journal_ok image rank h bytes found e s f =
    ap (λ (r : Result Header Damage). r >>= λ x. journal_from image rank x) e
    ∙ ap (λ (r : Result Entries Damage). r >>= λ x. Ok (record { header = h; events = x.events; tail = x.tail })) (ap (λ bs. live_entries bs h.expire h.write) (sym s) ∙ f)
