-- What formatting makes of a store, and what a stop within it may leave.
use Rattle.std.specs.Prelude.{◌≡◌, ◌⊎◌, ℕ, List, ◌++◌, length, drop, Option, Some, None, unwrap_or, Err}
use Rattle.mj_base.specs.declared.object.ObjectName.{ObjectName}
use Rattle.mj_base.specs.declared.damage.Damage.TheVariants as damage
use Rattle.mj_store.specs.Object.{Content, Contents, blank}
use Rattle.mj_store.specs.State.{StoreState, Quiet}
use Rattle.mj_store.specs.Events.{Within}
use Rattle.mj_store.specs.declared.held.HeldObject.{HeldObject}
use Rattle.mj_layout.specs.Striping.{Striping}
use Rattle.mj_recovery.specs.Stream.{journal_object}
use Rattle.mj_recovery.specs.Journal.{live_header}
use Rattle.mj_recovery.specs.Listed.{found}
use Rattle.mj_recovery.specs.Formatted.{formatted_objects}

-- the object with the header of a rank's journal
abbrev pub header_object : ℕ → ObjectName
header_object rank = journal_object rank 0

-- ---- objects over what was there

abbrev pub head_over : Option (List ℕ) → Option (List ℕ) → Option (List ℕ)
head_over None old = old
head_over (Some head) old = Some head

-- its bytes over the first of those that were there, its head over the other, and the keys as they were
abbrev pub laid_over : HeldObject → Option Content → Content
laid_over h old = let c = unwrap_or old blank in record { bytes = h.bytes ++ drop (length h.bytes) c.bytes; head = head_over h.head c.head; pairs = c.pairs }

abbrev pub over : Option HeldObject → Option Content → Option Content
over None old = old
over (Some h) old = Some (laid_over h old)

-- The objects of a formatted store lie over what was there, and all else is as before.
abbrev pub IsFormattedOver : ℕ → Striping → Contents → Contents → Type 0
IsFormattedOver rank layout before image = (name : ObjectName) → image name ≡ over (found name (formatted_objects rank layout)) (before name)

-- so it is, and nothing is pending or unreported
pub record IsFormatted (rank : ℕ) (layout : Striping) (before : Contents) (s : StoreState) : Type 0 where
  pub quiet : Quiet s
  pub held : IsFormattedOver rank layout before (λ name. (s.objects name).held)

-- ---- a stop

-- a mount finds no header
abbrev pub LacksHeader : ℕ → Contents → Type 0
LacksHeader rank image = live_header image rank ≡ Err damage.HeaderMissing

-- no header, or the whole formatted store
abbrev pub LacksOrIsFormatted : ℕ → Striping → Contents → Contents → Type 0
LacksOrIsFormatted rank layout before image = LacksHeader rank image ⊎ IsFormattedOver rank layout before image

-- The header was never sent, or it was sent to a store in which all else was done. Whatever a stop before or within that may
-- leave has no header, or is the whole formatted store.
abbrev pub StopsWell : ℕ → Striping → Contents → Option StoreState → Option StoreState → Type 0
StopsWell rank layout before old new =
    Within old new (LacksHeader rank)
    ⊎ ((between : Option StoreState) × Within old between (LacksHeader rank) × Within between new (LacksOrIsFormatted rank layout before))
