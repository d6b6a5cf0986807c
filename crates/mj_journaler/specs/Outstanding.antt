-- What is out, and what is safe below it.
use Rattle.std.specs.Prelude.{ℕ, ◌<◌, ◌≤◌, ◌==◌, min, nat_le, List, [], ◌∷◌, Option, None, Some, if◌then◌else◌}
use Rattle.mj_journaler.specs.declared.sent.Sent.{Sent}

-- where the lowest of them begins, at most the end
abbrev pub lowest : List Sent → ℕ → ℕ
lowest [] end = end
lowest (w ∷ ws) end = min w.from (lowest ws end)

-- the one of this number
abbrev pub found : ℕ → List Sent → Option Sent
found op [] = None
found op (w ∷ ws) = if w.op == op then Some w else found op ws

-- all but those of this number
abbrev pub without : ℕ → List Sent → List Sent
without op [] = []
without op (w ∷ ws) = if w.op == op then without op ws else w ∷ without op ws

-- of two the one with the lesser number
abbrev pub older : Sent → Option Sent → Sent
older w None = w
older w (Some v) = if nat_le w.op v.op then w else v

-- the one with the least number
abbrev pub oldest : List Sent → Option Sent
oldest [] = None
oldest (w ∷ ws) = Some (older w (oldest ws))

-- Each has something, and they follow one another between two places.
abbrev pub Follow : ℕ → List Sent → ℕ → Type 0
Follow from [] to = from ≤ to
Follow from (w ∷ ws) to = (from ≤ w.from) × (w.from < w.to) × Follow w.to ws to

-- each is above the one before
abbrev pub Rises : ℕ → List ℕ → Type 0
Rises before [] = Unit {0}
Rises before (e ∷ ends) = (before < e) × Rises e ends

-- the last of these, or the one before them
abbrev pub final : ℕ → List ℕ → ℕ
final before [] = before
final before (e ∷ ends) = final e ends

-- the last of these ends that is not above a position, else the one before them
abbrev pub last_end : ℕ → List ℕ → ℕ → ℕ
last_end before [] at = before
last_end before (e ∷ ends) at = if nat_le e at then last_end e ends at else before

-- the ends above a position
abbrev pub ends_above : List ℕ → ℕ → List ℕ
ends_above [] at = []
ends_above (e ∷ ends) at = if nat_le e at then ends_above ends at else e ∷ ends
