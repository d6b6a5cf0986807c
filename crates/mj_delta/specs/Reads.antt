-- What a cell says of an inode.
use Rattle.std.specs.Prelude.{ℕ, ◌==◌, ◌||◌, Bool, List, Option, Some, None}
use Rattle.std.specs.Option.{option_and_then, option_map}
use Rattle.mj_base.specs.ObjectName.{stray_ino}
use Rattle.mj_base.specs.declared.record.Kind.{Kind}
use Rattle.mj_maps.specs.Map.{Map, get}
use Rattle.mj_maps.specs.Orders.{nat_cmp}
use Rattle.mj_tree.specs.declared.change.Attributes.{Attributes}
use Rattle.mj_tree.specs.State.{PlainState, is_dir, attributes_of}
use Rattle.mj_cells.specs.Table.{Dentry, Table}
use Rattle.mj_cells.specs.Table.Dentry.{Full, Remote}
use Rattle.mj_recovery.specs.Tree.{ino_of}

-- the inode that a dentry names
abbrev pub names : Option Dentry → Option ℕ
names None = None
names (Some d) = Some (ino_of d)

-- the inode of a full dentry, what its record says, and the links that it counts
abbrev pub full_of : Option Dentry → Option ℕ
full_of None = None
full_of (Some (Full version r)) = Some r.ino
full_of (Some (Remote version i kind)) = None

abbrev pub said_by : Option Dentry → Option Attributes
said_by None = None
said_by (Some (Full version r)) = Some (attributes_of r)
said_by (Some (Remote version i kind)) = None

abbrev pub stored_links : Option Dentry → ℕ
stored_links None = 0
stored_links (Some (Full version r)) = r.links
stored_links (Some (Remote version i kind)) = 0

-- the inode and the kind of a remote dentry
abbrev pub remote_of : Option Dentry → Option (ℕ × Kind)
remote_of None = None
remote_of (Some (Full version r)) = None
remote_of (Some (Remote version i kind)) = Some (i, kind)

-- where the full dentry of each inode stands
abbrev pub Places : Type 0
Places = Map nat_cmp (ℕ × List ℕ)

abbrev pub cell_of : Table → Places → ℕ → Option Dentry
cell_of t primary i = option_and_then (get t.dentries) (get primary i)

abbrev pub kind_of : Option Attributes → Option Kind
kind_of o = option_map (λ (a : Attributes). a.kind) o

-- the directories whose dentries count
abbrev pub is_held : ℕ → PlainState → ℕ → Bool
is_held rank s d = is_dir s d || (d == stray_ino rank)
