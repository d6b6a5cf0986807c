-- The lists of a plain tree, when an item comes in or goes.
use Rattle.std.proofs.Common.{◌≡◌, ℕ, true, not, ◌==◌, ◌&&◌, List, filter, Result, OnOk, OnErr, is_some, nat_le, refl, sym, ap, ◌∙◌}
use Rattle.std.specs.declared.alloc.AllocError.{AllocError}
use Rattle.std.specs.Cmp.{unsigned_ties}
use Rattle.std.specs.FinMap.Entries.{where_key, is_sorted, is_sorted-where_key}
use Rattle.mj_base.specs.InOrder.{placed, same_bytes}
use Rattle.mj_base.specs.declared.record.InodeRecord.{InodeRecord}
use Rattle.mj_maps.specs.Orders.{nat_cmp, place_cmp, pair_cmp}
use Rattle.mj_maps.specs.Map.{get, insert, remove, retain, from_entries}
use Rattle.mj_maps.proofs.MapLaws.{exact_nat, exact_place, exact_pair, from_entries-where}
use Rattle.mj_maps.proofs.Kept.{place_ties, pair_ties}
use Rattle.mj_tree.specs.declared.plain.PlainLink.{PlainLink}
use Rattle.mj_tree.specs.declared.plain.PlainOpen.{PlainOpen}
use Rattle.mj_tree.specs.declared.session.PlainSession.{PlainSession}
use Rattle.mj_tree.specs.declared.session.KeptReply.{KeptReply}
use Rattle.mj_tree.specs.Placing.{replaced}
use Rattle.mj_tree.specs.Replies.{kept_entries, do_replies_rise}
use Rattle.mj_tree.specs.State.{attributes_of}
use Rattle.mj_tree.specs.Lists.{record_entries, link_entries, open_entries, session_entries, session_of, do_records_rise, do_links_rise, do_opens_rise, do_sessions_rise}
use Rattle.mj_tree.proofs.Entries.{rises_after, map_after, rises_left, map_left, rises_over, map_over, on_ok, passed}
use Rattle.mj_tree.proofs.Listed.{passes, filter-map}

module _ (r : Result (Unit {0}) AllocError) where
  module _ (x : InodeRecord) (old new : List InodeRecord) (ok : OnOk r (new ≡ placed (λ a b. nat_cmp a.ino b.ino) x old)) where
    pub records_rise_after : OnErr r (new ≡ old) → do_records_rise old ≡ true → do_records_rise new ≡ true
    records_rise_after err h = rises_after exact_nat (λ (r : InodeRecord). r.ino) attributes_of (λ a b. nat_cmp a.ino b.ino) (λ _ _. refl) r x old new ok err h

    pub records_after : OnOk r (from_entries {R = nat_cmp} (record_entries new) ≡ insert (from_entries (record_entries old)) x.ino (attributes_of x))
    records_after = map_after exact_nat (λ (r : InodeRecord). r.ino) attributes_of (λ a b. nat_cmp a.ino b.ino) (λ _ _. refl) r x old new ok

  module _ (x : PlainLink) (old new : List PlainLink) (ok : OnOk r (new ≡ placed (λ a b. place_cmp (a.parent, a.name) (b.parent, b.name)) x old)) where
    pub links_rise_after : OnErr r (new ≡ old) → do_links_rise old ≡ true → do_links_rise new ≡ true
    links_rise_after err h = rises_after exact_place (λ (l : PlainLink). (l.parent, l.name)) (λ (l : PlainLink). l.ino) (λ a b. place_cmp (a.parent, a.name) (b.parent, b.name)) (λ _ _. refl) r x old new ok err h

    pub links_after : OnOk r (from_entries {R = place_cmp} (link_entries new) ≡ insert (from_entries (link_entries old)) (x.parent, x.name) x.ino)
    links_after = map_after exact_place (λ (l : PlainLink). (l.parent, l.name)) (λ (l : PlainLink). l.ino) (λ a b. place_cmp (a.parent, a.name) (b.parent, b.name)) (λ _ _. refl) r x old new ok

  module _ (x : PlainOpen) (old new : List PlainOpen) (ok : OnOk r (new ≡ placed (λ a b. pair_cmp (a.client, a.ino) (b.client, b.ino)) x old)) where
    pub opens_rise_after : OnErr r (new ≡ old) → do_opens_rise old ≡ true → do_opens_rise new ≡ true
    opens_rise_after err h = rises_after exact_pair (λ (o : PlainOpen). (o.client, o.ino)) (λ _. tt) (λ a b. pair_cmp (a.client, a.ino) (b.client, b.ino)) (λ _ _. refl) r x old new ok err h

    pub opens_after : OnOk r (from_entries {R = pair_cmp} (open_entries new) ≡ insert (from_entries (open_entries old)) (x.client, x.ino) tt)
    opens_after = map_after exact_pair (λ (o : PlainOpen). (o.client, o.ino)) (λ _. tt) (λ a b. pair_cmp (a.client, a.ino) (b.client, b.ino)) (λ _ _. refl) r x old new ok

  module _ (x : PlainSession) (old new : List PlainSession) (ok : OnOk r (new ≡ placed (λ a b. nat_cmp a.client b.client) x old)) where
    pub sessions_rise_after : OnErr r (new ≡ old) → do_sessions_rise old ≡ true → do_sessions_rise new ≡ true
    sessions_rise_after err h = rises_after exact_nat (λ (c : PlainSession). c.client) session_of (λ a b. nat_cmp a.client b.client) (λ _ _. refl) r x old new ok err h

    pub sessions_after : OnOk r (from_entries {R = nat_cmp} (session_entries new) ≡ insert (from_entries (session_entries old)) x.client (session_of x))
    sessions_after = map_after exact_nat (λ (c : PlainSession). c.client) session_of (λ a b. nat_cmp a.client b.client) (λ _ _. refl) r x old new ok

module _ (ino : ℕ) (old new : List InodeRecord) (e : new ≡ filter (λ (r : InodeRecord). not (r.ino == ino)) old) where
  pub records_rise_left : do_records_rise old ≡ true → do_records_rise new ≡ true
  records_rise_left h = rises_left exact_nat (λ (r : InodeRecord). r.ino) attributes_of (λ r. r.ino == ino) ino (λ r. unsigned_ties r.ino ino) old new e h

  pub records_left : from_entries {R = nat_cmp} (record_entries new) ≡ remove (from_entries (record_entries old)) ino
  records_left = map_left exact_nat (λ (r : InodeRecord). r.ino) attributes_of (λ r. r.ino == ino) ino (λ r. unsigned_ties r.ino ino) old new e

module _ (q : ℕ × List ℕ) (old new : List PlainLink) (e : new ≡ filter (λ (l : PlainLink). not ((l.parent == q.0) && same_bytes l.name q.1)) old) where
  pub links_rise_left : do_links_rise old ≡ true → do_links_rise new ≡ true
  links_rise_left h = rises_left exact_place (λ (l : PlainLink). (l.parent, l.name)) (λ (l : PlainLink). l.ino) (λ l. (l.parent == q.0) && same_bytes l.name q.1) q (λ l. place_ties (l.parent, l.name) q) old new e h

  pub links_left : from_entries {R = place_cmp} (link_entries new) ≡ remove (from_entries (link_entries old)) q
  links_left = map_left exact_place (λ (l : PlainLink). (l.parent, l.name)) (λ (l : PlainLink). l.ino) (λ l. (l.parent == q.0) && same_bytes l.name q.1) q (λ l. place_ties (l.parent, l.name) q) old new e

module _ (client ino : ℕ) (old new : List PlainOpen) (e : new ≡ filter (λ (o : PlainOpen). not ((o.client == client) && (o.ino == ino))) old) where
  pub opens_rise_left : do_opens_rise old ≡ true → do_opens_rise new ≡ true
  opens_rise_left h = rises_left exact_pair (λ (o : PlainOpen). (o.client, o.ino)) (λ _. tt) (λ o. (o.client == client) && (o.ino == ino)) (client, ino) (λ o. pair_ties (o.client, o.ino) (client, ino)) old new e h

  pub opens_left : from_entries {R = pair_cmp} (open_entries new) ≡ remove (from_entries (open_entries old)) (client, ino)
  opens_left = map_left exact_pair (λ (o : PlainOpen). (o.client, o.ino)) (λ _. tt) (λ o. (o.client == client) && (o.ino == ino)) (client, ino) (λ o. pair_ties (o.client, o.ino) (client, ino)) old new e

module _ (client : ℕ) (old new : List PlainSession) (e : new ≡ filter (λ (c : PlainSession). not (c.client == client)) old) where
  pub sessions_rise_left : do_sessions_rise old ≡ true → do_sessions_rise new ≡ true
  sessions_rise_left h = rises_left exact_nat (λ (c : PlainSession). c.client) session_of (λ c. c.client == client) client (λ c. unsigned_ties c.client client) old new e h

  pub sessions_left : from_entries {R = nat_cmp} (session_entries new) ≡ remove (from_entries (session_entries old)) client
  sessions_left = map_left exact_nat (λ (c : PlainSession). c.client) session_of (λ c. c.client == client) client (λ c. unsigned_ties c.client client) old new e

-- a session over the client's own
module _ (x : PlainSession) (old new : List PlainSession) (e : new ≡ replaced (λ a b. nat_cmp a.client b.client) x old) where
  pub sessions_rise_over : do_sessions_rise old ≡ true → do_sessions_rise new ≡ true
  sessions_rise_over h = rises_over exact_nat (λ (c : PlainSession). c.client) session_of (λ a b. nat_cmp a.client b.client) (λ _ _. refl) x old new e h

  pub sessions_over : is_some (get (from_entries {R = nat_cmp} (session_entries old)) x.client) ≡ true → from_entries {R = nat_cmp} (session_entries new) ≡ insert (from_entries (session_entries old)) x.client (session_of x)
  sessions_over h = map_over exact_nat (λ (c : PlainSession). c.client) session_of (λ a b. nat_cmp a.client b.client) (λ _ _. refl) x old new e h

-- the replies that are kept from a number on, and one more
abbrev reply_entry : KeptReply → ℕ × ℕ
reply_entry k = (k.tid, k.ino)

from_number : (oldest : ℕ) (ks : List KeptReply) → kept_entries (filter (λ (k : KeptReply). nat_le oldest k.tid) ks) ≡ where_key nat_cmp (nat_le oldest) (kept_entries ks)
from_number oldest ks = sym (filter-map reply_entry (λ e. nat_le oldest e.0) ks)

module _ (r : Result (Unit {0}) AllocError) (x : KeptReply) (oldest : ℕ) (all old new : List KeptReply) (e : old ≡ filter (λ (k : KeptReply). nat_le oldest k.tid) all) where
  pub replies_rise_after : OnOk r (new ≡ placed (λ a b. nat_cmp a.tid b.tid) x old) → OnErr r (new ≡ old) → do_replies_rise all ≡ true → do_replies_rise new ≡ true
  replies_rise_after ok err h = rises_after exact_nat (λ (k : KeptReply). k.tid) (λ (k : KeptReply). k.ino) (λ a b. nat_cmp a.tid b.tid) (λ _ _. refl) r x old new ok err
      (ap (λ ks. is_sorted nat_cmp (kept_entries ks)) e ∙ ap (is_sorted nat_cmp) (from_number oldest all) ∙ passed _ (is_sorted-where_key nat_cmp (nat_le oldest) (kept_entries all) (passes _ h)))

  pub replies_after : OnOk r (new ≡ placed (λ a b. nat_cmp a.tid b.tid) x old) → OnOk r (from_entries {R = nat_cmp} (kept_entries new) ≡ insert (retain (λ tid _. nat_le oldest tid) (from_entries (kept_entries all))) x.tid x.ino)
  replies_after ok = on_ok r (λ m. m ∙ ap (λ m. insert m x.tid x.ino) (ap (λ ks. from_entries (kept_entries ks)) e ∙ ap from_entries (from_number oldest all) ∙ from_entries-where exact_nat (nat_le oldest) (kept_entries all)))
      (map_after exact_nat (λ (k : KeptReply). k.tid) (λ (k : KeptReply). k.ino) (λ a b. nat_cmp a.tid b.tid) (λ _ _. refl) r x old new ok)
