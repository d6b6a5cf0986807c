-- What looking at a store finds and leaves, one look after another.
use Rattle.std.proofs.Common.{◌≡◌, ◌≤◌, ℕ, Option, Some, List, [], ◌∷◌, ◌++◌, refl, sym, ap, subst, ◌∙◌, arith}
use Rattle.mj_base.specs.declared.object.ObjectName.{ObjectName}
use Rattle.mj_store.specs.State.{StoreState, tried}
use Rattle.mj_store.specs.Moves.{Moves, Stays, Still, fronts_applied}
use Rattle.mj_store.specs.Causes.{Listed, IsCounted, RefusesRead}
use Rattle.mj_store.specs.declared.answer.StoreFault.{StoreFault}
use Rattle.mj_store.specs.declared.answer.ReadRefusal.{ReadRefusal}
use Rattle.mj_store.specs.declared.answer.ReadRefusal.TheVariants as read
use Rattle.mj_store.proofs.Rest.{still_fronts}
use Rattle.mj_probe.specs.Looks.{Looks}
use Rattle.mj_probe.specs.Ranges.{RefusesRange, range_refusal}

-- a store that tells its state, with nothing to apply
pub found_still : (P : StoreState → Type 0) (s : StoreState) (old new : Option StoreState) → old ≡ Some s → Still s → Moves P [] old new → P s
found_still P s old new is still moves = let m = moves s is in subst P (still_fronts m.fronts s still) m.found

pub still_after : (s : StoreState) (old new : Option StoreState) → old ≡ Some s → Still s → Stays old new → new ≡ Some s
still_after s old new is still moves = let m = moves s is in m.leads ∙ ap Some (still_fronts m.fronts s still)

pub stays_of : (P : StoreState → Type 0) (old new : Option StoreState) → Moves P [] old new → Stays old new
stays_of P old new moves s is = let m = moves s is in record { fronts = m.fronts; found = tt; possible = tt; leads = m.leads }

fronts-append : (xs ys : List ObjectName) (s : StoreState) → fronts_applied (xs ++ ys) s ≡ fronts_applied ys (fronts_applied xs s)
fronts-append [] ys s = refl
fronts-append (x ∷ xs) ys s = fronts-append xs ys (tried x s)

pub stays_then : (a b c : Option StoreState) → Stays a b → Stays b c → Stays a c
stays_then a b c p q s is =
    let m = p s is in
    let n = q (fronts_applied m.fronts s) m.leads in
    record { fronts = m.fronts ++ n.fronts; found = tt; possible = tt; leads = n.leads ∙ ap Some (sym (fronts-append m.fronts n.fronts s)) }

pub looks_itself : (told : Option StoreState) (list : List Listed) (faults : ℕ) → Looks told told list list faults faults
looks_itself told list faults = record { stays = λ s is. record { fronts = []; found = tt; possible = tt; leads = is }; same_list = refl; later = omega arith }

pub looks_then : {a b c : Option StoreState} {l m n : List Listed} {f g h : ℕ} → Looks a b l m f g → Looks b c m n g h → Looks a c l n f h
looks_then {a = a} {b = b} {c = c} p q = record { stays = stays_then a b c p.stays q.stays; same_list = q.same_list ∙ p.same_list; later = omega (arith, p.later, q.later) }

-- ---- faults

pub counted_since : (base before now : ℕ) (fault : StoreFault) → base ≤ before → IsCounted before now fault → IsCounted base now fault
counted_since base before now fault h k = record { rose = omega (arith, h, k.rose); count = k.count }

pub range_since : (base before now from to : ℕ) (refusal : ReadRefusal) → base ≤ before → RefusesRead before now refusal → RefusesRange base now from to (range_refusal refusal)
range_since base before now from to (read.Failed fault) h k = counted_since base before now fault h k
range_since base before now from to read.Memory h k = tt
