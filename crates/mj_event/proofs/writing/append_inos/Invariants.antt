use Rattle.std.proofs.Common.{◌≡◌, ◌++◌, take}
use Rattle.std.specs.List.{flat_map}
use Rattle.mj_base.specs.Reading.{eight}
use Rattle.mj_event.proofs.writing.append_inos.Given as goal

abbrev pub invariant-loop-ino : goal.invariant-loop-ino
invariant-loop-ino l = l.out.items ≡ l.initial.out.items ++ flat_map eight (take l.ino-index l.inos)
