-- What holds of a rank, and of a mount, since the store's count of faults stood at some number.
use Rattle.std.specs.Prelude.{◌≡◌, ◌<◌, ◌≤◌, ℕ, ◌+◌, ◌-◌, ◌*◌, List, [], ◌∷◌, length, map, None, IfSome}
use Rattle.mj_base.specs.declared.object.ObjectName.{ObjectName}
use Rattle.mj_base.specs.Counts.{Rose}
use Rattle.mj_store.specs.Causes.{In, Listed, Counted}
use Rattle.mj_journaler.specs.Journal.{Journal, HasNumber}
use Rattle.mj_texts.specs.declared.steps.MountStep.{MountStep}
use Rattle.mj_texts.specs.declared.steps.MountStep.TheVariants as step
use Rattle.mj_rank.specs.declared.cutting.Cut.{Cut}
use Rattle.mj_rank.specs.declared.mounting.Mounting.{Mounting}
use Rattle.mj_rank.specs.declared.mounting.Stage.{Stage}
use Rattle.mj_rank.specs.declared.mounting.Stage.TheVariants.{Announcing, Announced, Cutting, Opened, Ready}
use Rattle.mj_rank.specs.declared.rank.Rank.{Rank}
use Rattle.mj_rank.specs.Mounts.{mount_value, sent_of}

-- each operation of a journal that is out is listed
abbrev pub AllListed : List Listed → Journal → Type 0
AllListed list j = (op : ℕ) → HasNumber op j → (l : Listed) × In l list × (l.op ≡ op)

-- what is listed was submitted since, and what the journal of a rank that is up has out is listed; a rank that is down has seen the count rise
pub record RankSince {S : Type 0} (faults : S → ℕ) (unreported : S → List Listed) (base : ℕ) (rank : Rank S) : Type 0 where
  pub counted : Counted base (faults rank.store) (unreported rank.store)
  pub down : IfSome rank.fault (λ f. Rose base (faults rank.store))
  pub out : rank.fault ≡ None → AllListed (unreported rank.store) rank.log

-- just operations of these numbers are listed, in this order, and none of them twice
abbrev pub AreOnce : List ℕ → Type 0
AreOnce [] = Unit {0}
AreOnce (op ∷ ops) = (In op ops → ⊥) × AreOnce ops

pub record AreListed (ops : List ℕ) (list : List Listed) : Type 0 where
  pub same : map (λ (l : Listed). l.op) list ≡ ops
  pub once : AreOnce ops

-- the numbers of what a mount has sent and what is not acknowledged
abbrev pub numbers_of : {S : Type 0} → Mounting S → List ℕ
numbers_of m = map (λ (op : ℕ × ObjectName). op.0) (sent_of (mount_value m))

-- truncations are out only while it cuts
abbrev pub OutAt : Stage → List Cut → Type 0
OutAt Cutting out = Unit {0}
OutAt _ out = out ≡ []

abbrev pub OutIn : {S : Type 0} → Mounting S → Type 0
OutIn m = OutAt m.stage m.cuts.out.items

-- A mount that goes on awaits what it has sent, and nothing else.
pub record MountSince {S : Type 0} (faults : S → ℕ) (unreported : S → List Listed) (base : ℕ) (mounting : Mounting S) : Type 0 where
  pub counted : Counted base (faults mounting.store) (unreported mounting.store)
  pub down : IfSome mounting.fault (λ f. Rose base (faults mounting.store))
  pub listed : mounting.fault ≡ None → AreListed (numbers_of mounting) (unreported mounting.store)
  pub out : OutIn mounting

-- How many steps a mount has still to make at most, where so many objects are left to be looked at, and so many truncations out.
abbrev pub steps_at : Stage → ℕ → ℕ → ℕ
steps_at Announcing left out = 2 * left + out + 4
steps_at Announced left out = 2 * left + out + 3
steps_at Cutting left out = 2 * left + out + 2
steps_at Opened left out = 1
steps_at Ready left out = 0

abbrev pub steps_left : {S : Type 0} → Mounting S → ℕ
steps_left m = steps_at m.stage (m.cuts.end - m.cuts.next) (length m.cuts.out.items)

-- A step that sends or takes an acknowledgement leaves fewer to make, and one that waits no more than there were.
abbrev pub Makes : MountStep → ℕ → ℕ → Type 0
Makes (step.Sent name) before after = after < before
Makes (step.Reaped op) before after = after < before
Makes step.Waiting before after = after ≤ before
Makes step.Ready before after = after ≡ before

abbrev pub IsSent : MountStep → Type 0
IsSent (step.Sent name) = Unit {0}
IsSent _ = ⊥

abbrev pub IsWaiting : MountStep → Type 0
IsWaiting step.Waiting = Unit {0}
IsWaiting _ = ⊥

-- what is acknowledged was sent
abbrev pub IsReapedOf : List ℕ → MountStep → Type 0
IsReapedOf ops (step.Reaped op) = In op ops
IsReapedOf ops _ = Unit {0}
