-- The requests of turns, with the ends of their entries.
use Rattle.std.proofs.Common.{◌≡◌, ℕ, zero, suc, true, false, ◌+◌, ◌≤◌, List, [], ◌∷◌, ◌++◌, take, drop, Some, None, refl, ap, arith}
use Rattle.std.specs.Prelude.{nat_le, filter}
use Rattle.std.proofs.lemmas.Bool.{le-leb, lt-leb}
use Rattle.mj_tree.specs.declared.request.ClientRequest.{ClientRequest}
use Rattle.mj_machine.specs.declared.kept.Kept.{Kept}
use Rattle.mj_machine.specs.Machine as machine
use Rattle.mj_machine.specs.Machine.{ends_by, ends_behind}
use Rattle.mj_delta.specs.Histories.{Turn, events, requests}
use Rattle.mj_facts.specs.Journalled.{size_of}
use Rattle.mj_facts.proofs.Entries.{size_some, ends_from}
use Rattle.mj_rank.specs.History.{members, turns_end}

pub members_append : (at : ℕ) (xs ys : List Turn) → members at (xs ++ ys) ≡ members at xs ++ members (turns_end at xs) ys
members_append at [] ys = refl
members_append at ((e, None) ∷ xs) ys = members_append (at + size_of e) xs ys
members_append at ((e, Some r) ∷ xs) ys = ap (λ (ks : List Kept). record { request = r; ends = at + size_of e } ∷ ks) (members_append (at + size_of e) xs ys)

pub members_requests : (at : ℕ) (xs : List Turn) → machine.requests (members at xs) ≡ requests xs
members_requests at [] = refl
members_requests at ((e, None) ∷ xs) = members_requests (at + size_of e) xs
members_requests at ((e, Some r) ∷ xs) = ap (λ (rs : List ClientRequest). r ∷ rs) (members_requests (at + size_of e) xs)

-- ---- which of them end at or below a position

end_above : (at : ℕ) (xs : List Turn) → at ≤ turns_end at xs
end_above at xs = omega (arith, ends_from (events xs) at)

-- none of those that begin there
pub none_by : (p at : ℕ) (xs : List Turn) → p ≤ at → filter (ends_by p) (members at xs) ≡ []
none_by p at [] h = refl
none_by p at ((e, None) ∷ xs) h = none_by p (at + size_of e) xs (omega (arith, h))
none_by p at ((e, Some r) ∷ xs) h =
    let above : nat_le (at + size_of e) p ≡ false = lt-leb (at + size_of e) p (omega (arith, h, size_some e)) in
    rw above (none_by p (at + size_of e) xs (omega (arith, h)))

pub all_behind : (p at : ℕ) (xs : List Turn) → p ≤ at → filter (ends_behind p) (members at xs) ≡ members at xs
all_behind p at [] h = refl
all_behind p at ((e, None) ∷ xs) h = all_behind p (at + size_of e) xs (omega (arith, h))
all_behind p at ((e, Some r) ∷ xs) h =
    let above : nat_le (at + size_of e) p ≡ false = lt-leb (at + size_of e) p (omega (arith, h, size_some e)) in
    rw above (ap (λ (ks : List Kept). record { request = r; ends = at + size_of e } ∷ ks) (all_behind p (at + size_of e) xs (omega (arith, h))))

-- just those of a front, where it ends
pub front_by : (at : ℕ) (xs ys : List Turn) → filter (ends_by (turns_end at xs)) (members at (xs ++ ys)) ≡ members at xs
front_by at [] ys = none_by at at ys (omega arith)
front_by at ((e, None) ∷ xs) ys = front_by (at + size_of e) xs ys
front_by at ((e, Some r) ∷ xs) ys =
    let below : nat_le (at + size_of e) (turns_end (at + size_of e) xs) ≡ true = le-leb (at + size_of e) (turns_end (at + size_of e) xs) (end_above (at + size_of e) xs) in
    rw below (ap (λ (ks : List Kept). record { request = r; ends = at + size_of e } ∷ ks) (front_by (at + size_of e) xs ys))

pub rest_behind : (at : ℕ) (xs ys : List Turn) → filter (ends_behind (turns_end at xs)) (members at (xs ++ ys)) ≡ members (turns_end at xs) ys
rest_behind at [] ys = all_behind at at ys (omega arith)
rest_behind at ((e, None) ∷ xs) ys = rest_behind (at + size_of e) xs ys
rest_behind at ((e, Some r) ∷ xs) ys =
    let below : nat_le (at + size_of e) (turns_end (at + size_of e) xs) ≡ true = le-leb (at + size_of e) (turns_end (at + size_of e) xs) (end_above (at + size_of e) xs) in
    rw below (rest_behind (at + size_of e) xs ys)

-- ---- fronts by count

pub events_take : (k : ℕ) (xs : List Turn) → take k (events xs) ≡ events (take k xs)
events_take zero xs = refl
events_take (suc k) [] = refl
events_take (suc k) (x ∷ xs) = ap (λ es. x.0 ∷ es) (events_take k xs)

pub events_drop : (k : ℕ) (xs : List Turn) → drop k (events xs) ≡ events (drop k xs)
events_drop zero xs = refl
events_drop (suc k) [] = refl
events_drop (suc k) (x ∷ xs) = events_drop k xs

pub events_append : (xs ys : List Turn) → events (xs ++ ys) ≡ events xs ++ events ys
events_append [] ys = refl
events_append (x ∷ xs) ys = ap (λ es. x.0 ∷ es) (events_append xs ys)
