use Rattle.std.proofs.Common.{◌≡◌, ◌≤◌, drop, length}
use Rattle.mj_layout.specs.Header.{exactly}
use Rattle.mj_layout.proofs.spelling.exactly.Given as goal

-- what is left to compare
abbrev pub invariant-loop-i : goal.invariant-loop-i
invariant-loop-i l = record { left : exactly l.text l.bytes ≡ exactly (drop l.i l.text) (drop l.i l.bytes); there : l.i ≤ length l.bytes }
