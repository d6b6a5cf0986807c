use Rattle.std.proofs.Common.{◌≡◌, ◌++◌, ◌==◌, take, filter}
use Rattle.std.specs.List.{flat_map}
use Rattle.mj_base.specs.declared.record.InodeRecord.{InodeRecord}
use Rattle.mj_tree.specs.State.{attributes_of, link_count}
use Rattle.mj_tree.specs.Listing.{kept_line}
use Rattle.mj_tree.specs.Meaning.{state_of}
use Rattle.mj_tree.proofs.plain.PlainTree.put_kept_lines.Given as goal

abbrev pub invariant-loop-inode : goal.invariant-loop-inode
invariant-loop-inode l = l.out.items ≡ l.initial.out.items ++ flat_map (λ (r : InodeRecord). kept_line (r.ino, attributes_of r)) (filter (λ (r : InodeRecord). link_count (state_of l.self) r.ino == 0) (take l.inode-index l.inode-items))
