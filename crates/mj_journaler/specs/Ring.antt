-- Operations in the order in which they were sent.
use Rattle.std.specs.Prelude.{◌≡◌, ℕ, ◌-◌, false, if◌then◌else◌, List, [], ◌∷◌, map}
use Rattle.std.specs.declared.collections.VecDeque.{VecDeque}
use Rattle.std.specs.VecDeque.{deque_len, deque_capacity}
use Rattle.mj_journaler.specs.Outstanding.{Rises}
use Rattle.mj_journaler.specs.declared.sent.Sent.{Sent}
use Rattle.mj_journaler.specs.declared.sent.Slot.{Slot}

-- those that are out, and how many more are taken without memory
pub record Ringed : Type 0 where
  pub sent : List Sent
  pub room : ℕ

abbrev pub numbers : List Slot → List ℕ
numbers slots = map (λ (s : Slot). s.sent.op) slots

-- those that are not acknowledged
abbrev pub out_of : List Slot → List Sent
out_of [] = []
out_of (s ∷ ss) = if s.done then out_of ss else s.sent ∷ out_of ss

abbrev pub spare : {X Z : Type 0} → VecDeque X Z → ℕ
spare q = deque_capacity q - deque_len q

-- each number is above the one before
abbrev pub Ascends : List ℕ → Type 0
Ascends [] = Unit {0}
Ascends (n ∷ ns) = Rises n ns

-- the first is out
abbrev pub BeginsOut : List Slot → Type 0
BeginsOut [] = Unit {0}
BeginsOut (s ∷ ss) = s.done ≡ false

-- the last is out
abbrev pub EndsOut : List Slot → Type 0
EndsOut [] = Unit {0}
EndsOut (s ∷ []) = s.done ≡ false
EndsOut (s ∷ t ∷ ss) = EndsOut (t ∷ ss)
