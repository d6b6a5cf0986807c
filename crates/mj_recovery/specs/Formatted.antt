-- What a formatted store holds, and what it recovers to.
use Rattle.std.specs.Prelude.{ℕ, List, [], ◌∷◌, Option, Some, None}
use Rattle.mj_base.specs.Reading.{eight}
use Rattle.mj_base.specs.ObjectName.{stray_ino, first_ino}
use Rattle.mj_base.specs.declared.object.ObjectName.{ObjectName}
use Rattle.mj_base.specs.declared.object.ObjectName.TheVariants.{File, InoTable, SessionMap}
use Rattle.mj_store.specs.declared.held.HeldObject.{HeldObject}
use Rattle.mj_layout.specs.Striping.{Striping, period}
use Rattle.mj_layout.specs.Header.{header_bytes}
use Rattle.mj_layout.specs.declared.Header.{Header}
use Rattle.mj_layout.specs.declared.Phase.TheVariants.{Serving}
use Rattle.mj_tree.specs.State.{root, new_state}
use Rattle.mj_recovery.specs.Stream.{journal_object}
use Rattle.mj_recovery.specs.Objects.{objects_of}
use Rattle.mj_recovery.specs.Recovered.{Recovery, merged_table}

-- an object without keys
abbrev pub keyless : ObjectName → List ℕ → Option (List ℕ) → HeldObject
keyless name bytes head = record { name = name; bytes = bytes; head = head; pairs = [] }

-- the stream begins with the second set, and nothing is in it
abbrev pub formatted_header : Striping → Header
formatted_header layout = record { trimmed = period layout; expire = period layout; write = period layout; layout = layout; format = 1; phase = Serving; epoch = 0 }

-- The directories of the root and stray with no names and the head 1, an inode table that goes on with the rank's first inode,
-- a session table without sessions, and a header.
unfoldable pub formatted_objects : ℕ → Striping → List HeldObject
formatted_objects rank layout =
    keyless (File root 0) [] (Some (eight 1))
    ∷ keyless (File (stray_ino rank) 0) [] (Some (eight 1))
    ∷ keyless (InoTable rank) [] (Some (eight (first_ino rank)))
    ∷ keyless (SessionMap rank) [] None
    ∷ keyless (journal_object rank 0) (header_bytes (formatted_header layout)) None
    ∷ []

-- no event, the cells that are stored, and the tree of a new rank
abbrev pub formatted_recovery : ℕ → Striping → Recovery
formatted_recovery rank layout = record {
  journal = record { header = formatted_header layout; events = []; tail = period layout };
  table = merged_table rank (objects_of (formatted_objects rank layout)) [];
  tree = new_state rank;
}
