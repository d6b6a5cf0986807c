-- Calls of a store that only read, one after another.
use Rattle.std.proofs.Common.{◌≡◌, List, [], ◌∷◌, ◌++◌, Option, Some, refl, sym, ap, subst, ◌∙◌}
use Rattle.mj_base.specs.declared.object.ObjectName.{ObjectName}
use Rattle.mj_store.specs.State.{StoreState, tried}
use Rattle.mj_store.specs.Moves.{Moves, Stays, Still, fronts_applied}
use Rattle.mj_store.proofs.Rest.{still_fronts}

-- ---- what stays

fronts_append : (xs ys : List ObjectName) (s : StoreState) → fronts_applied (xs ++ ys) s ≡ fronts_applied ys (fronts_applied xs s)
fronts_append [] ys s = refl
fronts_append (x ∷ xs) ys s = fronts_append xs ys (tried x s)

pub stays_itself : (told : Option StoreState) → Stays told told
stays_itself told s is = record { fronts = []; found = tt; possible = tt; leads = is }

pub stays_of : {P : StoreState → Type 0} {a b : Option StoreState} → Moves P [] a b → Stays a b
stays_of m s is = let x = m s is in record { fronts = x.fronts; found = tt; possible = tt; leads = x.leads }

pub stays_then : {P Q : StoreState → Type 0} {a b c : Option StoreState} → Moves P [] a b → Moves Q [] b c → Stays a c
stays_then m n s is =
    let x = m s is in
    let y = n (fronts_applied x.fronts s) x.leads in
    record { fronts = x.fronts ++ y.fronts; found = tt; possible = tt; leads = y.leads ∙ ap Some (sym (fronts_append x.fronts y.fronts s)) }

-- where nothing can be applied, the state is found, and it is the same after
pub still_read : (P : StoreState → Type 0) (s : StoreState) (old new : Option StoreState) → old ≡ Some s → Still s → Moves P [] old new → P s × (new ≡ Some s)
still_read P s old new is still moves =
    let m = moves s is in
    let same = still_fronts m.fronts s still in
    (subst P same m.found, m.leads ∙ ap Some same)
