use Rattle.std.proofs.Common.{◌≡◌, ℕ, ◌&&◌, drop}
use Rattle.mj_replay.specs.Lumps.{none_strange, lumps_known}
use Rattle.mj_replay.proofs.lumps.LumpDirs.add_writes.Given as goal

abbrev pub invariant-loop-w : goal.invariant-loop-w
invariant-loop-w l = (next : ℕ) → (none_strange next l.self && lumps_known l.rank next (drop l.w-index l.ws)) ≡ (none_strange next l.fn.self && lumps_known l.rank next l.ws)
