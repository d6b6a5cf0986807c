-- The parts of a listing, by the lists of a plain tree.
use Rattle.std.proofs.Common.{◌≡◌, ◌≤◌, ℕ, zero, suc, ◌==◌, length, take, arith, List, [], ◌∷◌, ◌++◌, filter, refl, sym, ap, ◌∙◌}
use Rattle.std.specs.List.{flat_map}
use Rattle.std.proofs.lemmas.List.Folds.{flat_map-map}
use Rattle.mj_base.specs.Name.{escaped}
use Rattle.mj_base.specs.declared.record.InodeRecord.{InodeRecord}
use Rattle.mj_maps.specs.Map.{entries}
use Rattle.mj_maps.proofs.MapLaws.{exact_nat, exact_place, exact_pair, entries-from_entries}
use Rattle.mj_tree.specs.declared.change.Attributes.{Attributes}
use Rattle.mj_tree.specs.declared.plain.PlainLink.{PlainLink}
use Rattle.mj_tree.specs.declared.plain.PlainOpen.{PlainOpen}
use Rattle.mj_tree.specs.declared.plain.PlainTree.{PlainTree}
use Rattle.mj_tree.specs.declared.session.KeptReply.{KeptReply}
use Rattle.mj_tree.specs.declared.session.PlainSession.{PlainSession}
use Rattle.mj_tree.specs.State.{attributes_of, link_count}
use Rattle.mj_tree.specs.Listing.{link_line, links_below, kept_line, kept_lines, open_line, reply_line, session_lines}
use Rattle.mj_tree.specs.Lists.{record_entries, link_entries, open_entries, session_entries, session_of}
use Rattle.mj_tree.specs.Replies.{kept_entries}
use Rattle.mj_tree.specs.Meaning.{state_of}
use Rattle.mj_tree.proofs.Listed.{passes, filter-map}

-- the lines of a link of a directory with this path, and of those below it
abbrev pub below_link : PlainTree → ℕ → List ℕ → PlainLink → List ℕ
below_link t n path l = let p = path ++ 47 ∷ escaped l.name in link_line (state_of t) p l.ino ++ links_below n (state_of t) p l.ino

module _ (t : PlainTree) where
  pub below_is : (n : ℕ) (path : List ℕ) (dir : ℕ) → flat_map (below_link t n path) (filter (λ (l : PlainLink). l.parent == dir) t.links) ≡ links_below (suc n) (state_of t) path dir
  below_is n path dir =
      let s = state_of t in
      let here = λ (e : (ℕ × List ℕ) × ℕ). e.0.0 == dir in
      let lines : (ℕ × List ℕ) × ℕ → List ℕ = λ e. let p = path ++ 47 ∷ escaped e.0.1 in link_line s p e.1 ++ links_below n s p e.1 in
      let entry : PlainLink → (ℕ × List ℕ) × ℕ = λ l. ((l.parent, l.name), l.ino) in
      sym (ap (λ es. flat_map lines (filter here es)) (entries-from_entries exact_place (link_entries t.links) (passes _ t.links_rise))
      ∙ ap (flat_map lines) (filter-map entry here t.links)
      ∙ flat_map-map lines entry (filter (λ (l : PlainLink). l.parent == dir) t.links))

  pub kept_are : flat_map (λ (r : InodeRecord). kept_line (r.ino, attributes_of r)) (filter (λ (r : InodeRecord). link_count (state_of t) r.ino == 0) t.records) ≡ kept_lines (state_of t)
  kept_are =
      let unlinked = λ (e : ℕ × Attributes). link_count (state_of t) e.0 == 0 in
      let entry : InodeRecord → ℕ × Attributes = λ r. (r.ino, attributes_of r) in
      sym (ap (λ es. flat_map kept_line (filter unlinked es)) (entries-from_entries exact_nat (record_entries t.records) (passes _ t.records_rise))
      ∙ ap (flat_map kept_line) (filter-map entry unlinked t.records)
      ∙ flat_map-map kept_line entry (filter (λ (r : InodeRecord). link_count (state_of t) r.ino == 0) t.records))

  pub opens_are : flat_map (λ (o : PlainOpen). open_line ((o.client, o.ino), tt)) t.opens ≡ flat_map open_line (entries (state_of t).opens)
  opens_are =
      let entry : PlainOpen → (ℕ × ℕ) × Unit {0} = λ o. ((o.client, o.ino), tt) in
      sym (ap (flat_map open_line) (entries-from_entries exact_pair (open_entries t.opens) (passes _ t.opens_rise)) ∙ flat_map-map open_line entry t.opens)

  pub sessions_are : flat_map (λ (c : PlainSession). session_lines (c.client, session_of c)) t.sessions ≡ flat_map session_lines (entries (state_of t).sessions)
  sessions_are = sym (ap (flat_map session_lines) (entries-from_entries exact_nat (session_entries t.sessions) (passes _ t.sessions_rise)) ∙ flat_map-map session_lines (λ c. (c.client, session_of c)) t.sessions)

pub replies_are : (c : PlainSession) → flat_map (λ (k : KeptReply). reply_line (k.tid, k.ino)) c.kept ≡ flat_map reply_line (entries (session_of c).kept)
replies_are c =
    let entry : KeptReply → ℕ × ℕ = λ k. (k.tid, k.ino) in
    sym (ap (flat_map reply_line) (entries-from_entries exact_nat (kept_entries c.kept) (passes _ c.replies_rise)) ∙ flat_map-map reply_line entry c.kept)

pub take_all : {A : Type 0} (xs : List A) (n : ℕ) → length xs ≤ n → take n xs ≡ xs
take_all [] zero h = refl
take_all [] (suc n) h = refl
take_all (x ∷ xs) zero h = absurd (omega arith)
take_all (x ∷ xs) (suc n) h = ap (λ ys. x ∷ ys) (take_all xs n (omega arith))
