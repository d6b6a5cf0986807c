-- What is found and counted in a list, against the map that the list makes.
use Rattle.std.proofs.Common.{Ordering, ◌≡◌, ℕ, ◌+◌, Bool, true, false, ◌==◌, ◌&&◌, cond, List, [], ◌∷◌, map, filter, count_by, length, suc, Option, Some, None, is_some, nat_le, refl, sym, ap, ◌∙◌, arith, T}
use Rattle.std.specs.Prelude.{unwrap_or}
use Rattle.std.specs.Option.{option_map, option_and_then}
use Rattle.std.specs.List.{find}
use Rattle.std.specs.Ordering.{eq_by_cmp}
use Rattle.std.specs.Cmp.{unsigned_ties, eq_by_cmp_equiv}
use Rattle.std.specs.FinMap.Entries as in_entries
use Rattle.std.specs.FinMap.Entries.{is_sorted}
use Rattle.std.proofs.lemmas.List.Recursion.{is_count_by}
use Rattle.mj_base.specs.declared.record.InodeRecord.{InodeRecord}
use Rattle.mj_base.specs.InOrder.{same_bytes}
use Rattle.mj_maps.specs.Orders.{nat_cmp, place_cmp, pair_cmp}
use Rattle.mj_maps.specs.Map.{Map, get, len, count, empty, entries, from_entries, passing}
use Rattle.mj_maps.proofs.MapLaws.{Exact, exact_nat, exact_place, exact_pair, get-from_entries, count-from_entries, len-from_entries, entries-from_entries}
use Rattle.mj_maps.proofs.Kept.{place_ties, pair_ties}
use Rattle.mj_tree.specs.declared.plain.PlainLink.{PlainLink}
use Rattle.mj_tree.specs.declared.plain.PlainOpen.{PlainOpen}
use Rattle.mj_tree.specs.declared.session.PlainSession.{PlainSession}
use Rattle.mj_tree.specs.declared.session.KeptReply.{KeptReply}
use Rattle.mj_tree.specs.declared.plain.PlainTree.{PlainTree}
use Rattle.mj_tree.specs.State.{Session, attributes_of, link_count, entry_count, open_count, opens_of}
use Rattle.mj_tree.specs.Row.{names_in}
use Rattle.mj_tree.specs.Answer.{kept_reply}
use Rattle.mj_tree.specs.Sessions.{kept_of}
use Rattle.mj_tree.specs.Lists.{record_entries, link_entries, open_entries, session_entries, session_of}
use Rattle.mj_tree.specs.Replies.{kept_entries}
use Rattle.mj_tree.specs.Meaning.{state_of}

one_or_none : (b : Bool) (n : ℕ) → cond b 1 0 + n ≡ cond b (1 + n) n
one_or_none true n = refl
one_or_none false n = omega arith

some_if : {A B : Type 0} (f : A → B) (b c : Bool) (x : A) (o : Option A) (p : Option B) → b ≡ c → option_map f o ≡ p → option_map f (cond b (Some x) o) ≡ cond c (Some (f x)) p
some_if f true true x o p e h = refl
some_if f true false x o p e h = cc
some_if f false true x o p e h = cc
some_if f false false x o p e h = h

pub some_mapped : {A B : Type 0} (f : A → B) (o : Option A) → is_some o ≡ is_some (option_map f o)
some_mapped f None = refl
some_mapped f (Some x) = refl

module _ {A K X : Type 0} {R : K → K → Ordering} (o : Exact R) (key : A → K) (value : A → X) (test : A → Bool) (k : K) (ties : (x : A) → test x ≡ eq_by_cmp R (key x) k) where
  find_in : (xs : List A) → option_map value (find test xs) ≡ in_entries.find R k (map (λ x. (key x, value x)) xs)
  find_in [] = refl
  find_in (x ∷ xs) = some_if value (test x) (eq_by_cmp R k (key x)) x (find test xs) _ (ties x ∙ (eq_by_cmp_equiv o.total).symm (key x) k) (find_in xs)

  pub found_in_map : (xs : List A) → option_map value (find test xs) ≡ get (from_entries {R = R} (map (λ x. (key x, value x)) xs)) k
  found_in_map xs = find_in xs ∙ sym (get-from_entries o (map (λ x. (key x, value x)) xs) k)

pub record_found : (rs : List InodeRecord) (i : ℕ) → option_map attributes_of (find (λ (r : InodeRecord). r.ino == i) rs) ≡ get (from_entries {R = nat_cmp} (record_entries rs)) i
record_found rs i = found_in_map exact_nat (λ (r : InodeRecord). r.ino) attributes_of (λ r. r.ino == i) i (λ r. unsigned_ties r.ino i) rs

pub link_found : (ls : List PlainLink) (dir : ℕ) (name : List ℕ) → option_map (λ (l : PlainLink). l.ino) (find (λ (l : PlainLink). (l.parent == dir) && same_bytes l.name name) ls) ≡ get (from_entries {R = place_cmp} (link_entries ls)) (dir, name)
link_found ls dir name = found_in_map exact_place (λ (l : PlainLink). (l.parent, l.name)) (λ (l : PlainLink). l.ino) (λ l. (l.parent == dir) && same_bytes l.name name) (dir, name) (λ l. place_ties (l.parent, l.name) (dir, name)) ls

pub open_found : (os : List PlainOpen) (client i : ℕ) → is_some (find (λ (o : PlainOpen). (o.client == client) && (o.ino == i)) os) ≡ is_some (get (from_entries {R = pair_cmp} (open_entries os)) (client, i))
open_found os client i = some_mapped (λ _. tt) (find (λ (o : PlainOpen). (o.client == client) && (o.ino == i)) os)
    ∙ ap is_some (found_in_map exact_pair (λ (o : PlainOpen). (o.client, o.ino)) (λ _. tt) (λ o. (o.client == client) && (o.ino == i)) (client, i) (λ o. pair_ties (o.client, o.ino) (client, i)) os)

pub session_found : (cs : List PlainSession) (client : ℕ) → option_map session_of (find (λ (c : PlainSession). c.client == client) cs) ≡ get (from_entries {R = nat_cmp} (session_entries cs)) client
session_found cs client = found_in_map exact_nat (λ (c : PlainSession). c.client) session_of (λ c. c.client == client) client (λ c. unsigned_ties c.client client) cs

pub reply_found : (ks : List KeptReply) (tid : ℕ) → option_map (λ (k : KeptReply). k.ino) (find (λ (k : KeptReply). k.tid == tid) ks) ≡ get (from_entries {R = nat_cmp} (kept_entries ks)) tid
reply_found ks tid = found_in_map exact_nat (λ (k : KeptReply). k.tid) (λ (k : KeptReply). k.ino) (λ k. k.tid == tid) tid (λ k. unsigned_ties k.tid tid) ks

-- the number of entries that pass is the number of items that do
passing_counted : {A B : Type 0} (f : A → B) (p : B → Bool) (xs : List A) → passing p (map f xs) ≡ count_by (λ x. p (f x)) xs
passing_counted f p xs = is_count_by (λ xs. passing p (map f xs)) (λ x. p (f x)) refl (λ x xs. one_or_none (p (f x)) (passing p (map f xs))) xs

-- ---- of a plain tree

pub passes : (b : Bool) → b ≡ true → T b
passes true e = tt
passes false e = cc

length-map : {A B : Type 0} (f : A → B) (xs : List A) → length (map f xs) ≡ length xs
length-map f [] = refl
length-map f (x ∷ xs) = ap suc (length-map f xs)

module _ (t : PlainTree) where
  pub link_count_is : (i : ℕ) → count_by (λ (l : PlainLink). l.ino == i) t.links ≡ link_count (state_of t) i
  link_count_is i = sym (count-from_entries exact_place (λ (e : (ℕ × List ℕ) × ℕ). e.1 == i) (link_entries t.links) (passes _ t.links_rise)
      ∙ passing_counted (λ (l : PlainLink). ((l.parent, l.name), l.ino)) (λ (e : (ℕ × List ℕ) × ℕ). e.1 == i) t.links)

  pub entry_count_is : (dir : ℕ) → count_by (λ (l : PlainLink). l.parent == dir) t.links ≡ entry_count (state_of t) dir
  entry_count_is dir = sym (count-from_entries exact_place (λ (e : (ℕ × List ℕ) × ℕ). e.0.0 == dir) (link_entries t.links) (passes _ t.links_rise)
      ∙ passing_counted (λ (l : PlainLink). ((l.parent, l.name), l.ino)) (λ (e : (ℕ × List ℕ) × ℕ). e.0.0 == dir) t.links)

  pub open_count_is : (i : ℕ) → count_by (λ (o : PlainOpen). o.ino == i) t.opens ≡ open_count (state_of t) i
  open_count_is i = sym (count-from_entries exact_pair (λ (e : (ℕ × ℕ) × Unit {0}). e.0.1 == i) (open_entries t.opens) (passes _ t.opens_rise)
      ∙ passing_counted (λ (o : PlainOpen). ((o.client, o.ino), tt)) (λ (e : (ℕ × ℕ) × Unit {0}). e.0.1 == i) t.opens)

  pub opens_of_is : (client : ℕ) → count_by (λ (o : PlainOpen). o.client == client) t.opens ≡ opens_of (state_of t) client
  opens_of_is client = sym (count-from_entries exact_pair (λ (e : (ℕ × ℕ) × Unit {0}). e.0.0 == client) (open_entries t.opens) (passes _ t.opens_rise)
      ∙ passing_counted (λ (o : PlainOpen). ((o.client, o.ino), tt)) (λ (e : (ℕ × ℕ) × Unit {0}). e.0.0 == client) t.opens)

  pub records_len : length t.records ≡ len (state_of t).records
  records_len = sym (len-from_entries exact_nat (record_entries t.records) (passes _ t.records_rise) ∙ length-map _ t.records)

  pub links_len : length t.links ≡ len (state_of t).links
  links_len = sym (len-from_entries exact_place (link_entries t.links) (passes _ t.links_rise) ∙ length-map _ t.links)

  pub opens_len : length t.opens ≡ len (state_of t).opens
  opens_len = sym (len-from_entries exact_pair (open_entries t.opens) (passes _ t.opens_rise) ∙ length-map _ t.opens)

  pub sessions_len : length t.sessions ≡ len (state_of t).sessions
  sessions_len = sym (len-from_entries exact_nat (session_entries t.sessions) (passes _ t.sessions_rise) ∙ length-map _ t.sessions)

-- how many replies of a session are kept from a number on
kept_from_is : (oldest : ℕ) (c : PlainSession) → count_by (λ (k : KeptReply). nat_le oldest k.tid) c.kept ≡ count (λ (e : ℕ × ℕ). nat_le oldest e.0) (session_of c).kept
kept_from_is oldest c = sym (count-from_entries exact_nat (λ (e : ℕ × ℕ). nat_le oldest e.0) (kept_entries c.kept) (passes _ c.replies_rise)
    ∙ passing_counted (λ (k : KeptReply). (k.tid, k.ino)) (λ (e : ℕ × ℕ). nat_le oldest e.0) c.kept)

abbrev kept_in : Option Session → Map nat_cmp ℕ
kept_in o = (unwrap_or o (record { oldest = 0; kept = empty })).kept

count_empty : (oldest : ℕ) → count (λ (e : ℕ × ℕ). nat_le oldest e.0) (empty {X = ℕ} {R = nat_cmp}) ≡ 0
unfolding entries empty
count_empty oldest = refl

module _ (t : PlainTree) (client oldest : ℕ) where
  pub kept_in_session : (c : PlainSession) → Some (session_of c) ≡ get (state_of t).sessions client
      → count_by (λ (k : KeptReply). nat_le oldest k.tid) c.kept ≡ count (λ (e : ℕ × ℕ). nat_le oldest e.0) (kept_of (state_of t) client)
  kept_in_session c e = kept_from_is oldest c ∙ ap (λ o. count (λ (e : ℕ × ℕ). nat_le oldest e.0) (kept_in o)) e

  pub none_kept : None ≡ get (state_of t).sessions client → 0 ≡ count (λ (e : ℕ × ℕ). nat_le oldest e.0) (kept_of (state_of t) client)
  none_kept e = sym (count_empty oldest) ∙ ap (λ o. count (λ (e : ℕ × ℕ). nat_le oldest e.0) (kept_in o)) e

pub kept_by : (t : PlainTree) (client tid : ℕ) (c : PlainSession) → Some (session_of c) ≡ get (state_of t).sessions client
    → option_map (λ (k : KeptReply). k.ino) (find (λ (k : KeptReply). k.tid == tid) c.kept) ≡ kept_reply (state_of t) client tid
kept_by t client tid c e = reply_found c.kept tid ∙ ap (option_and_then (λ (c : Session). get c.kept tid)) e

pub filter-map : {A B : Type 0} (f : A → B) (p : B → Bool) (xs : List A) → filter p (map f xs) ≡ map f (filter (λ x. p (f x)) xs)
filter-map f p [] = refl
filter-map f p (x ∷ xs) = elim (p (f x)) as (λ b. cond b (f x ∷ filter p (map f xs)) (filter p (map f xs)) ≡ map f (cond b (x ∷ filter (λ x. p (f x)) xs) (filter (λ x. p (f x)) xs))) [ true ↦ ap (λ ys. f x ∷ ys) (filter-map f p xs) | false ↦ filter-map f p xs ]

map-map : {A B C : Type 0} (f : A → B) (g : B → C) (xs : List A) → map g (map f xs) ≡ map (λ x. g (f x)) xs
map-map f g [] = refl
map-map f g (x ∷ xs) = ap (λ ys. g (f x) ∷ ys) (map-map f g xs)

pub names_are : (t : PlainTree) (dir : ℕ) → map (λ (l : PlainLink). l.name) (filter (λ (l : PlainLink). l.parent == dir) t.links) ≡ names_in (state_of t) dir
names_are t dir =
    let name = λ (e : (ℕ × List ℕ) × ℕ). e.0.1 in
    let here = λ (e : (ℕ × List ℕ) × ℕ). e.0.0 == dir in
    let entry = λ (l : PlainLink). let e : (ℕ × List ℕ) × ℕ = ((l.parent, l.name), l.ino) in e in
    sym (ap (λ es. map name (filter here es)) (entries-from_entries exact_place (link_entries t.links) (passes _ t.links_rise))
    ∙ ap (map name) (filter-map entry here t.links)
    ∙ map-map entry name (filter (λ (l : PlainLink). l.parent == dir) t.links))
