-- Which directories are reachable after a gentle group of writes.
use Rattle.std.proofs.Common.{◌≡◌, ℕ, Bool, true, false, not, ◌&&◌, ◌||◌, List, refl, sym, ap, ◌∙◌, ◌⊎◌, inl, inr}
use Rattle.std.specs.Option.{option_and_then}
use Rattle.std.proofs.lemmas.Bool.{true≢false}
use Rattle.mj_maps.proofs.MapLaws.{none_some}
use Rattle.mj_tree.specs.State.{root}
use Rattle.mj_cells.specs.Table.{Table}
use Rattle.mj_recovery.specs.Tree.{subdir, is_among, reachable, IsReachable}
use Rattle.mj_recovery.specs.Tree.IsReachable.{at_root, below}
use Rattle.mj_recovery.proofs.Reaching.{reached_sound, reached_complete}
use Rattle.mj_index.specs.Gentle.{LeadsTo, IsBare, HasKeptWay, IsGentle}
use Rattle.mj_index.specs.Gentle.HasKeptWay.{starts, goes_down}
use Rattle.mj_index.proofs.GentlePlaces.{one_place, none_to_root}

-- ---- tests

cases : (b : Bool) → (b ≡ true) ⊎ (b ≡ false)
cases true = inl refl
cases false = inr refl

both_ways : (a b : Bool) → (a ≡ true → b ≡ true) → (b ≡ true → a ≡ true) → a ≡ b
both_ways true b f g = sym (f refl)
both_ways false true f g = g refl
both_ways false false f g = refl

-- one of two tests holds alone, or both answer alike
alone : (l n : Bool) → (l ≡ not n) ⊎ (l ≡ n)
alone true true = inr refl
alone true false = inl refl
alone false true = inl refl
alone false false = inr refl

-- a directory is there that is led to, or that was there and was not left
abbrev remains : Bool → Bool → Bool → Bool
remains was l n = (was && (n || not l)) || n

remains_led : (was l n : Bool) → n ≡ true → remains was l n ≡ true
remains_led true l true e = refl
remains_led false l true e = refl
remains_led was l false e = absurd (true≢false (sym e))

remains_kept : (was l n : Bool) → was ≡ true → l ≡ false → remains was l n ≡ true
remains_kept true true n e f = absurd (true≢false f)
remains_kept true false true e f = refl
remains_kept true false false e f = refl
remains_kept false l n e f = absurd (true≢false (sym e))

either : (was l n : Bool) → remains was l n ≡ true → (n ≡ true) ⊎ ((was ≡ true) × (l ≡ false))
either was l true e = inl refl
either true true false e = absurd (true≢false (sym e))
either true false false e = inr (refl, refl)
either false l false e = absurd (true≢false (sym e))

module _ (rank : ℕ) (t after : Table) (is_written : ℕ × List ℕ → Bool) (left led : ℕ → Bool) (gentle : IsGentle rank t after is_written left led) where
  abbrev is_dir : ℕ → Bool
  is_dir d = is_among (reachable t) d

  abbrev is_dir_after : ℕ → Bool
  is_dir_after d = remains (is_dir d) (left d) (led d)

  -- a dentry that is not written leads where it led
  leads_still : (q : ℕ × List ℕ) (i : ℕ) → is_written q ≡ false → LeadsTo t q i → LeadsTo after q i
  leads_still q i unwritten leads = ap (option_and_then subdir) (gentle.others q unwritten) ∙ leads

  led_before : (q : ℕ × List ℕ) (i : ℕ) → is_written q ≡ false → LeadsTo after q i → LeadsTo t q i
  led_before q i unwritten leads = ap (option_and_then subdir) (sym (gentle.others q unwritten)) ∙ leads

  -- nothing in a bare directory leads anywhere, before or after
  bare_before : (d : ℕ) (name : List ℕ) (i : ℕ) → IsBare t is_written d → LeadsTo t (d, name) i → ⊥
  bare_before d name i bare leads = none_some i (ap (option_and_then subdir) (sym (bare.empty name)) ∙ leads)

  bare_after : (d : ℕ) (name : List ℕ) (i : ℕ) → IsBare t is_written d → LeadsTo after (d, name) i → ⊥
  bare_after d name i bare leads = bare_before d name i bare (led_before (d, name) i (bare.unwritten name) leads)

  -- ---- none but these is reachable afterwards

  root_stays : is_dir_after root ≡ true
  root_stays = elim (cases (left root)) [
    | inl l ↦ let from = gentle.left_from root l in absurd (none_to_root rank t gentle.undamaged from.place from.reached from.leads)
    | inr l ↦ remains_kept (is_dir root) (left root) (led root) (reached_complete t root at_root) l
  ]

  -- one of these that has a dentry afterwards was reachable
  was_there : (d : ℕ) (name : List ℕ) (i : ℕ) → is_dir_after d ≡ true → LeadsTo after (d, name) i → IsReachable t d
  was_there d name i there leads = elim (either (is_dir d) (left d) (led d) there) [
    | inr kept ↦ reached_sound t d kept.0
    | inl n ↦ elim (alone (left d) (led d)) [
      | inl one ↦ absurd (bare_after d name i (gentle.bare d one) leads)
      | inr same ↦ let from = gentle.left_from d (same ∙ n) in below from.place.0 from.place.1 d from.reached from.leads
    ]
  ]

  -- a dentry that is not written does not lead to one that is left: no other dentry leads there
  not_left : (q : ℕ × List ℕ) (i : ℕ) → is_written q ≡ false → IsReachable t q.0 → LeadsTo t q i → left i ≡ false
  not_left q i unwritten reached leads = elim (cases (left i)) [
    | inl l ↦
        let from = gentle.left_from i l in
        absurd (true≢false (sym from.written ∙ ap is_written (one_place rank t gentle.undamaged from.place q i from.reached reached from.leads leads) ∙ unwritten))
    | inr l ↦ l
  ]

  goes_on : (d : ℕ) (name : List ℕ) (i : ℕ) → is_dir_after d ≡ true → LeadsTo after (d, name) i → is_dir_after i ≡ true
  goes_on d name i there leads =
      let reached = was_there d name i there leads in
      elim (cases (is_written (d, name))) [
        | inl w ↦ remains_led (is_dir i) (left i) (led i) (gentle.led_all (d, name) i w reached leads)
        | inr w ↦
            let led_there = led_before (d, name) i w leads in
            remains_kept (is_dir i) (left i) (led i) (reached_complete t i (below d name i reached led_there)) (not_left (d, name) i w reached led_there)
      ]

  only : (d : ℕ) → IsReachable after d → is_dir_after d ≡ true
  only _ at_root = root_stays
  only _ (below d name i r leads) = goes_on d name i (only d r) leads

  -- ---- each of these is reachable afterwards

  way_kept : (d : ℕ) → HasKeptWay t is_written d → IsReachable after d
  way_kept _ starts = at_root
  way_kept _ (goes_down q i way unwritten leads) = below q.0 q.1 i (way_kept q.0 way) (leads_still q i unwritten leads)

  moved_there : (i : ℕ) → left i ≡ true → led i ≡ true → IsReachable after i
  moved_there i l n = let m = gentle.moved i l n in below m.place.0 m.place.1 i (way_kept m.place.0 m.way) m.leads

  -- one that has a dentry is led to where it is left
  led_too : (d : ℕ) (name : List ℕ) (i : ℕ) → LeadsTo t (d, name) i → left d ≡ true → led d ≡ true
  led_too d name i leads l = elim (cases (led d)) [
    | inl n ↦ n
    | inr n ↦ absurd (bare_before d name i (gentle.bare d (l ∙ sym (ap not n))) leads)
  ]

  -- one that has a written dentry too
  led_too_written : (q : ℕ × List ℕ) → is_written q ≡ true → left q.0 ≡ true → led q.0 ≡ true
  led_too_written q w l = elim (cases (led q.0)) [
    | inl n ↦ n
    | inr n ↦ absurd (true≢false (sym w ∙ (gentle.bare q.0 (l ∙ sym (ap not n))).unwritten q.1))
  ]

  stays : (d : ℕ) → IsReachable t d → (left d ≡ true → led d ≡ true) → IsReachable after d
  stays _ at_root too = at_root
  stays _ (below d name i r leads) too = elim (cases (is_written (d, name))) [
    | inl w ↦ let l = gentle.left_all (d, name) i w r leads in moved_there i l (too l)
    | inr w ↦ below d name i (stays d r (led_too d name i leads)) (leads_still (d, name) i w leads)
  ]

  each : (d : ℕ) → is_dir_after d ≡ true → IsReachable after d
  each d there = elim (either (is_dir d) (left d) (led d) there) [
    | inl n ↦ let from = gentle.led_from d n in below from.place.0 from.place.1 d (stays from.place.0 from.reached (led_too_written from.place from.written)) from.leads
    | inr kept ↦ stays d (reached_sound t d kept.0) (λ l. absurd (true≢false (sym l ∙ kept.1)))
  ]

  -- a directory is reachable after the writes where it is led to, or where it was reachable and is not left
  pub dirs_after : (d : ℕ) → is_among (reachable after) d ≡ ((is_among (reachable t) d && (led d || not (left d))) || led d)
  dirs_after d = both_ways _ _ (λ h. only d (reached_sound after d h)) (λ h. reached_complete after d (each d h))
