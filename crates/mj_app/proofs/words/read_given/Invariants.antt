use Rattle.std.proofs.Common.{◌≡◌, drop, map}
use Rattle.std.specs.String.{string_bytes}
use Rattle.mj_app.specs.WordsRead.{reading_value, behind_these}
use Rattle.mj_app.proofs.words.read_given.Given as goal

abbrev pub invariant-loop-word : goal.invariant-loop-word
invariant-loop-word l = behind_these (reading_value l.reading) (map string_bytes (drop l.word-index l.words)) ≡ behind_these (reading_value l.initial.reading) (map string_bytes l.words)
