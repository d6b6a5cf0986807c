-- The laws together, and contents with which a rank may begin.
use Rattle.std.proofs.Common.{◌≡◌, ℕ, ◌+◌, ◌-◌, ◌*◌, ◌/◌, ◌^◌, ◌<◌, ◌≤◌, None, List, [], ◌∷◌, length, take, refl, sym, ◌∙◌, ap, subst, arith, inl}
use Rattle.std.specs.Prelude.{slice_get, ◌&&◌, nat_le, nat_lt}
use Rattle.std.proofs.lemmas.List.{take_all}
use Rattle.std.proofs.lemmas.Bool.{leb-true, ltb-true}
use Rattle.std.proofs.lemmas.Nat.{div-add-mod', le-div, mul-le}
use Rattle.mj_base.proofs.Codec.{true_and}
use Rattle.mj_store.specs.Object.{Contents}
use Rattle.mj_store.specs.State.{StoreState, IsImage, at_rest}
use Rattle.mj_layout.specs.Striping.{period}
use Rattle.mj_layout.specs.Place.{object_of, offset_of, position_at}
use Rattle.mj_layout.specs.Placing.{Placing}
use Rattle.mj_layout.specs.Placing as placing_words
use Rattle.mj_layout.specs.Header.{IsHeader}
use Rattle.mj_layout.specs.declared.Header.{Header}
use Rattle.mj_layout.proofs.Striped.{sizes}
use Rattle.mj_layout.proofs.Placed.{placing}
use Rattle.mj_entry.specs.Entry.{entry_at}
use Rattle.mj_recovery.specs.Stream.{journal_object, byte_in, byte_at, stream}
use Rattle.mj_recovery.specs.Orderly.{window_end, IsClearBeyond}
use Rattle.mj_facts.specs.Journalled.{Journalled, IsJournalled, place_of, taken}
use Rattle.mj_facts.specs.Headers.{may_stand}
use Rattle.mj_facts.specs.Ranks.{Rank, Mount}
use Rattle.mj_facts.specs.Serves.{Serves}
use Rattle.mj_facts.specs.Rests.{Rests, IsFront}
use Rattle.mj_facts.specs.Mounts.{Mounts, begun, MountInOrder}
use Rattle.mj_facts.specs.Calls.{IsFormatted, blank_journal}
use Rattle.mj_facts.proofs.Scans.{scan_none, stream_scan}
use Rattle.mj_facts.proofs.Entries.{entry_none}
use Rattle.mj_facts.proofs.Recovers.{byte_there, rests_front}
use Rattle.mj_facts.proofs.WhileServing.{serves_rests}
use Rattle.mj_facts.proofs.WhileMounting.{mount_rests, rests_taken, taken_header, journalled_taken, mount_begins}

-- ---- what stops leave

pub serving_leaves : (r : Rank) (s : StoreState) (image : Contents) → Serves r s → IsImage s image → IsFront r.journal r.count (may_stand r.stood r.heads) image
serving_leaves r s image sv im = rests_front r.journal r.count (may_stand r.stood r.heads) image sv.journalled (serves_rests r s image sv im)

pub mounting_leaves : (k : Mount) (s : StoreState) (image : Contents) → Mounts k s → IsImage s image → IsFront k.journal (length k.journal.events) (may_stand k.stood k.heads) image
mounting_leaves k s image mt im = rests_front k.journal (length k.journal.events) (may_stand k.stood k.heads) image mt.journalled (mount_rests k s image mt im)

-- a mount can begin on what a stop leaves
pub stop_begins : (j : Journalled) (count : ℕ) (image : Contents) (s : StoreState) → IsJournalled j → (r : Rests j count image) → Mounts (begun (taken count j) image r.header) (at_rest image s)
stop_begins j count image s ok r =
    subst (λ h. Mounts (begun (taken count j) image h) (at_rest image s)) (taken_header j count image r)
    (mount_begins (taken count j) image s (journalled_taken j count ok) (rests_taken j count image r))

-- ---- nothing lies beyond the window

no_bytes : (bytes : List ℕ) → slice_get bytes 0 ≡ None → bytes ≡ []
no_bytes [] e = refl
no_bytes (b ∷ bytes) e = absurd cc

-- no object of a later set has bytes
pub rests_clear : (j : Journalled) (count : ℕ) (image : Contents) → IsJournalled j → Rests j count image → IsClearBeyond j.rank j.layout (place_of j count) image
unfolding placing_words.window_end
rests_clear j count image ok r index o far is =
    let l = j.layout in
    let z = sizes l ok.layout in
    let pl = placing l ok.layout in
    let tail = place_of j count in
    let last = window_end l tail in
    let x = position_at l index 0 in
    let there = pl.back index 0 (omega (arith, z.os)) in
    let set : index / l.sc ≡ x / period l = ap (λ i. i / l.sc) (sym there.0) ∙ pl.set x in
    let later : last / period l + 1 ≤ index / l.sc = le-div (last / period l + 1) index l.sc (omega (arith, z.sc)) (omega (arith, far)) in
    let beyond : (last / period l + 1) * period l ≤ x =
    omega (arith, div-add-mod' x (period l), mul-le (last / period l + 1) (period l) (x / period l) (period l) (omega (arith, later, set)) (omega arith)) in
    let none : byte_in 0 (image (journal_object j.rank index)) ≡ None =
    ap (λ i. byte_in 0 (image (journal_object j.rank i))) (sym there.0)
    ∙ (ap (λ b. byte_in b (image (journal_object j.rank (object_of l x)))) (sym there.1) ∙ (sym (byte_there image j.rank l x) ∙ r.clear x beyond)) in
    no_bytes o.bytes (ap (byte_in 0) (sym is) ∙ none)

-- ---- a formatted store

pub record Ordered (h : Header) : Type 0 where
  pub trimmed : period h.layout ≤ h.trimmed
  pub expire : h.trimmed ≤ h.expire
  pub write : h.expire ≤ h.write
  pub below : h.write < 2 ^ 62

pub ordered : (h : Header) → IsHeader h → Ordered h
ordered h k =
    let a = true_and (nat_le (period h.layout) h.trimmed && nat_le h.trimmed h.expire && nat_le h.expire h.write) (nat_lt h.write (2 ^ 62)) k.order in
    let b = true_and (nat_le (period h.layout) h.trimmed && nat_le h.trimmed h.expire) (nat_le h.expire h.write) a.0 in
    let c = true_and (nat_le (period h.layout) h.trimmed) (nat_le h.trimmed h.expire) b.0 in
    record { trimmed = leb-true (period h.layout) h.trimmed c.0; expire = leb-true h.trimmed h.expire c.1; write = leb-true h.expire h.write b.1; below = ltb-true h.write (2 ^ 62) a.1 }

pub blank_journalled : (rank : ℕ) (h : Header) → IsHeader h → IsJournalled (blank_journal rank h)
blank_journalled rank h k =
    let o = ordered h k in
    record { layout = k.layout; aligned = omega (arith, o.trimmed, o.expire); carried = tt; wants = λ i l. absurd (omega arith); below = omega (arith, o.write, o.below) }

pub formatted_rests : (rank : ℕ) (h : Header) (image : Contents) → IsFormatted rank h image → Rests (blank_journal rank h) 0 image
formatted_rests rank h image f =
    let o = ordered h f.sound in
    let pl = placing h.layout f.sound.layout in
    let gap : (x : ℕ) → period h.layout ≤ x → byte_at image rank h.layout x ≡ None = λ x lo.
    byte_there image rank h.layout x ∙ ap (byte_in (offset_of h.layout x)) (f.alone (object_of h.layout x) (pl.first x lo)) in
    let nothing : stream image rank h.layout h.expire ≡ [] =
    stream_scan image rank h.layout (2 ^ 62 - h.expire) h.expire ∙ scan_none (2 ^ 62 - h.expire) (byte_at image rank h.layout) h.expire (gap h.expire (omega (arith, o.trimmed, o.expire))) in
    record {
      header = h;
      stands = f.header;
      bounded = record { sound = f.sound; layout = refl; format = f.format; first = 0; starts = refl; live = omega arith; begins = tt; write = omega (arith, f.write) };
      within = omega arith;
      has = λ x lo hi. absurd (omega (arith, lo, hi));
      part = λ k. ap (λ t. entry_at t h.expire) (ap (take k) nothing ∙ take_all k [] (omega arith)) ∙ entry_none h.expire;
      clear = λ x far. gap x (omega (arith, far, o.trimmed, o.expire, pl.window h.expire h.expire (omega arith) (omega (arith, o.write, o.below))));
    }

-- its mount has nothing to cut
pub formatted_in_order : (rank : ℕ) (h : Header) (image : Contents) → IsFormatted rank h image → MountInOrder (begun (taken 0 (blank_journal rank h)) image h)
formatted_in_order rank h image f =
    let o = ordered h f.sound in
    let pl = placing h.layout f.sound.layout in
    record {
      acked = refl;
      cut = λ x lo hi. inl (byte_there image rank h.layout x ∙ ap (byte_in (offset_of h.layout x)) (f.alone (object_of h.layout x) (pl.first x (omega (arith, lo, o.trimmed, o.expire)))));
    }
