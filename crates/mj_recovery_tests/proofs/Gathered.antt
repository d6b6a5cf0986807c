-- Writes after writes.
use Rattle.std.proofs.Common.{◌≡◌, ℕ, zero, suc, ◌+◌, ◌<◌, List, [], ◌∷◌, ◌++◌, subst, arith, length, get_or, drop, append_assoc, sym, ap, ◌∙◌}
use Rattle.std.proofs.lemmas.List.{at_drop_more}
use Rattle.mj_store.specs.declared.held.HeldObject.{HeldObject}
use Rattle.mj_event.specs.Event.{IsEvent}
use Rattle.mj_event.specs.Writes.{writes_of}
use Rattle.mj_replay.specs.Pieces.{InGrammar}
use Rattle.mj_cells.specs.declared.cell.CellWrite.{CellWrite}
use Rattle.mj_cells.specs.Table.{Table, overlay}
use Rattle.mj_cells.proofs.Tables.{overlay-append}
use Rattle.mj_recovery.specs.declared.journal.LiveEvent.{LiveEvent}
use Rattle.mj_recovery.specs.Damage.{lump_dirs}
use Rattle.mj_recovery.specs.Journal.{journal_writes}
use Rattle.mj_recovery.specs.Listed.{listed_cells, all_listed}
use Rattle.mj_recovery.proofs.BadObjects.{lumps-append}

pub overlay_after : (s t : Table) (ws vs : List CellWrite) → t ≡ overlay s ws → overlay t vs ≡ overlay s (ws ++ vs)
overlay_after s t ws vs e = ap (λ x. overlay x vs) e ∙ sym (overlay-append s ws vs)

pub events_more : (t u r : Table) (events : List LiveEvent) (i : ℕ) (e : LiveEvent) → i < length events → e ≡ get_or events i e → u ≡ overlay t (writes_of e.event)
    → overlay t (journal_writes (drop i events)) ≡ r → overlay u (journal_writes (drop (i + 1) events)) ≡ r
events_more t u r events i e lt at is h =
    let rest = journal_writes (drop (i + 1) events) in
    ap (λ x. overlay x rest) is ∙ sym (overlay-append t (writes_of e.event) rest)
    ∙ ap (overlay t) (sym (at_drop_more journal_writes events i e lt ∙ ap (λ x. journal_writes (x ∷ drop (i + 1) events)) (sym at))) ∙ h

pub objects_more : (rank : ℕ) (t u r : Table) (hs : List HeldObject) (i : ℕ) (o : HeldObject) → i < length hs → o ≡ get_or hs i o → u ≡ overlay t (listed_cells rank o)
    → overlay t (all_listed rank (drop i hs)) ≡ r → overlay u (all_listed rank (drop (i + 1) hs)) ≡ r
objects_more rank t u r hs i o lt at is h =
    let rest = all_listed rank (drop (i + 1) hs) in
    ap (λ x. overlay x rest) is ∙ sym (overlay-append t (listed_cells rank o) rest)
    ∙ ap (overlay t) (sym (at_drop_more (all_listed rank) hs i o lt ∙ ap (λ x. all_listed rank (x ∷ drop (i + 1) hs)) (sym at))) ∙ h

pub lumps_more : (before new all : List ℕ) (events : List LiveEvent) (i : ℕ) (e : LiveEvent) → i < length events → e ≡ get_or events i e → new ≡ before ++ lump_dirs (writes_of e.event)
    → before ++ lump_dirs (journal_writes (drop i events)) ≡ all → new ++ lump_dirs (journal_writes (drop (i + 1) events)) ≡ all
lumps_more before new all events i e lt at is h =
    let rest = journal_writes (drop (i + 1) events) in
    ap (λ xs. xs ++ lump_dirs rest) is ∙ append_assoc before (lump_dirs (writes_of e.event)) (lump_dirs rest)
    ∙ ap (λ xs. before ++ xs) (sym (lumps-append (writes_of e.event) rest) ∙ ap lump_dirs (sym (at_drop_more journal_writes events i e lt ∙ ap (λ x. journal_writes (x ∷ drop (i + 1) events)) (sym at)))) ∙ h

-- each event is in the grammar
pub grammar_at : (es : List LiveEvent) (i : ℕ) (e : LiveEvent) → InGrammar es → i < length es → e ≡ get_or es i e → IsEvent e.event
grammar_at [] i e all lt is = absurd (omega (arith, lt))
grammar_at (x ∷ es) zero e all lt is = subst (λ (y : LiveEvent). IsEvent y.event) (sym is) all.0
grammar_at (x ∷ es) (suc i) e all lt is = grammar_at es i e all.1 (omega (arith, lt)) is
