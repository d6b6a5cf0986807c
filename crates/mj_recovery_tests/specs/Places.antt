-- Where the entries of a piece end.
use Rattle.std.specs.Prelude.{ℕ}
use Rattle.mj_replay.specs.declared.piece.Piece.{Piece}
use Rattle.mj_replay.specs.declared.piece.Piece.TheVariants.{More, Tail}

abbrev pub place_of : Piece → ℕ
place_of (Tail at) = at
place_of (More at) = at
