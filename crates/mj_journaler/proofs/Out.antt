-- What is out, and the safe position below it.
use Rattle.std.proofs.Common.{◌≡◌, ◌⊎◌, inl, inr, ℕ, ◌≤◌, Bool, true, false, cond, List, [], ◌∷◌, refl, ap, subst, arith}
use Rattle.std.specs.Prelude.{◌==◌, nat_le, if◌then◌else◌}
use Rattle.std.proofs.lemmas.Bool.{cond_both, leb-true, eqb-true}
use Rattle.mj_store.specs.Causes.{In}
use Rattle.mj_journaler.specs.declared.sent.Sent.{Sent}
use Rattle.mj_journaler.specs.Outstanding.{Rises, lowest, without, last_end, ends_above}

-- ---- the lowest position that is out

pub lowest_end : (ws : List Sent) (end : ℕ) → lowest ws end ≤ end
lowest_end [] end = omega arith
lowest_end (w ∷ ws) end = omega (arith, lowest_end ws end)

pub lowest_each : (ws : List Sent) (end : ℕ) (w : Sent) → In w ws → lowest ws end ≤ w.from
lowest_each [] end w i = absurd i
lowest_each (v ∷ ws) end w (inl e) = omega (arith, ap (λ (s : Sent). s.from) e)
lowest_each (v ∷ ws) end w (inr i) = omega (arith, lowest_each ws end w i)

pub lowest_most : (ws : List Sent) (end p : ℕ) → p ≤ end → ((w : Sent) → In w ws → p ≤ w.from) → p ≤ lowest ws end
lowest_most [] end p h each = h
lowest_most (w ∷ ws) end p h each = omega (arith, each w (inl refl), lowest_most ws end p h (λ v i. each v (inr i)))

-- ---- without what is acknowledged

less_of : (b : Bool) (v : Sent) (ws vs : List Sent) (w : Sent) → (In w ws → In w vs) → In w (if b then ws else v ∷ ws) → In w (v ∷ vs)
less_of true v ws vs w f i = inr (f i)
less_of false v ws vs w f (inl e) = inl e
less_of false v ws vs w f (inr i) = inr (f i)

pub without_less : (op : ℕ) (ws : List Sent) (w : Sent) → In w (without op ws) → In w ws
without_less op [] w i = i
without_less op (v ∷ ws) w i = less_of (v.op == op) v (without op ws) ws w (without_less op ws w) i

kept_of : (b : Bool) (v : Sent) (ws : List Sent) (w : Sent) (op : ℕ) → (b ≡ true → v.op ≡ op) → In w ws ⊎ (w.op ≡ op) → In w (if b then ws else v ∷ ws) ⊎ (w.op ≡ op)
kept_of true v ws w op f h = h
kept_of false v ws w op f (inl i) = inl (inr i)
kept_of false v ws w op f (inr e) = inr e

first_of_them : (b : Bool) (v : Sent) (ws : List Sent) (op : ℕ) → (b ≡ true → v.op ≡ op) → In v (if b then ws else v ∷ ws) ⊎ (v.op ≡ op)
first_of_them true v ws op f = inr (f refl)
first_of_them false v ws op f = inl (inl refl)

-- what is out still is, but for the one that is acknowledged
pub without_out : (op : ℕ) (ws : List Sent) (w : Sent) → In w ws → In w (without op ws) ⊎ (w.op ≡ op)
without_out op [] w i = absurd i
without_out op (v ∷ ws) w (inl e) = subst (λ (u : Sent). In u (without op (v ∷ ws)) ⊎ (u.op ≡ op)) e (first_of_them (v.op == op) v (without op ws) op (eqb-true v.op op))
without_out op (v ∷ ws) w (inr i) = kept_of (v.op == op) v (without op ws) w op (eqb-true v.op op) (without_out op ws w i)

-- ---- the ends of entries

-- the safe position is at or below what it is taken at
pub last_end_below : (before : ℕ) (ends : List ℕ) (at : ℕ) → before ≤ at → last_end before ends at ≤ at
last_end_below before [] at h = h
last_end_below before (e ∷ ends) at h = cond_both (nat_le e at) (last_end e ends at) before (λ n. n ≤ at) (λ b. last_end_below e ends at (leb-true e at b)) (λ b. h)

-- it never falls
pub last_end_rises : (before : ℕ) (ends : List ℕ) (at : ℕ) → Rises before ends → before ≤ last_end before ends at
last_end_rises before [] at r = omega arith
last_end_rises before (e ∷ ends) at r = cond_both (nat_le e at) (last_end e ends at) before (λ n. before ≤ n) (λ b. omega (arith, r.0, last_end_rises e ends at r.1)) (λ b. omega arith)

rises_by : (b : Bool) (before e last : ℕ) (above ends : List ℕ) → Rises last above → Rises before (e ∷ ends) → Rises (cond b last before) (cond b above (e ∷ ends))
rises_by true before e last above ends h r = h
rises_by false before e last above ends h r = r

-- the ends above it rise from it
pub rises_above : (before : ℕ) (ends : List ℕ) (at : ℕ) → Rises before ends → Rises (last_end before ends at) (ends_above ends at)
rises_above before [] at r = tt
rises_above before (e ∷ ends) at r = rises_by (nat_le e at) before e (last_end e ends at) (ends_above ends at) ends (rises_above e ends at r.1) r
