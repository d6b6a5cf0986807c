-- What the lists of a plain tree take from each cell.
use Rattle.std.specs.Prelude.{ℕ, ◌+◌, nat_lt, List, Option, Some, None, option_map, option_and_then, if◌then◌else◌}
use Rattle.mj_base.specs.declared.record.InodeRecord.{InodeRecord}
use Rattle.mj_tree.specs.declared.change.Attributes.{Attributes}
use Rattle.mj_tree.specs.declared.plain.PlainLink.{PlainLink}
use Rattle.mj_tree.specs.State.{attributes_of}
use Rattle.mj_recovery.specs.Tree.{Entry, link_in}
use Rattle.mj_judge.specs.Parts.{Cell, dentry_entry}

-- a link at its place
abbrev pub Link : Type 0
Link = (ℕ × List ℕ) × ℕ

abbrev pub link_entry : PlainLink → Link
link_entry l = ((l.parent, l.name), l.ino)

-- the link that a dentry of these directories is
abbrev pub link_at : List ℕ → Entry → Option Link
link_at dirs e = option_map (λ i. (e.0, i)) (link_in dirs e.0 e.1)

abbrev pub link_of : List ℕ → Cell → Option Link
link_of dirs c = option_and_then (link_at dirs) (dentry_entry c)

-- what a record says, where by these counts a link or an open keeps it
abbrev pub record_kept : (ℕ → ℕ) → (ℕ → ℕ) → ℕ → InodeRecord → Option Attributes
record_kept links opens i r = if nat_lt 0 (links i + opens i) then Some (attributes_of r) else None
