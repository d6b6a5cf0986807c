-- What the program returns, against what the definitions give.
use Rattle.std.specs.Prelude.{◌≡◌, Result, Ok, Err}
use Rattle.mj_base.specs.declared.damage.Damage.{Damage}
use Rattle.mj_replay.specs.Replays.{Fails}
use Rattle.mj_replay.specs.declared.refusal.JournalRefusal.{JournalRefusal}

-- the value as contracts see it, or a refusal
abbrev pub Gives : {X Y : Type 0} → (X → Y) → Result X JournalRefusal → Result Y Damage → Type 0
Gives view (Ok x) r = r ≡ Ok (view x)
Gives view (Err why) r = Fails why r
