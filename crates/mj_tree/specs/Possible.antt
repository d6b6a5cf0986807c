-- What a change that was decided on can take for granted.
use Rattle.std.specs.Prelude.{◌≡◌, ◌-◌, ◌^◌, ◌==◌, false, Some, None}
use Rattle.mj_maps.specs.Map.{get}
use Rattle.mj_tree.specs.declared.change.Change.{Change}
use Rattle.mj_tree.specs.declared.change.Change.TheVariants.{Begin, Link, Unlink, Move, Replace}
use Rattle.mj_tree.specs.declared.change.Decision.{Decision}
use Rattle.mj_tree.specs.declared.change.Decision.TheVariants.{Accepted}
use Rattle.mj_tree.specs.State.{PlainState}

-- a new link stands where none is, a link that goes is there, and what it gives way to is another inode's
abbrev pub CanBe : PlainState → Change → Type 0
CanBe s (Begin q a) = (get s.links q ≡ None) × ((s.next == 2 ^ 64 - 1) ≡ false)
CanBe s (Link q i) = get s.links q ≡ None
CanBe s (Unlink q i) = get s.links q ≡ Some i
CanBe s (Move q r i) = (get s.links q ≡ Some i) × (get s.links r ≡ None)
CanBe s (Replace q r i j) = (get s.links q ≡ Some i) × (get s.links r ≡ Some j) × ((i == j) ≡ false)
CanBe s _ = Unit {0}

abbrev pub CanBeDecided : PlainState → Decision → Type 0
CanBeDecided s (Accepted i change) = CanBe s change
CanBeDecided s _ = Unit {0}
