-- A directory moves: where its new parent does not lie below it, each directory is still reached.
use Rattle.std.proofs.Common.{◌≡◌, ℕ, Bool, true, false, if◌then◌else◌, List, [], ◌∷◌, ◌++◌, append_assoc, Some, None, Ok, Err, refl, sym, ap, subst, ◌∙◌, inl, inr}
use Rattle.std.proofs.lemmas.Bool.{false≢true, and_from}
use Rattle.std.proofs.lemmas.Cmp.{nat_list_eq_equiv}
use Rattle.mj_base.specs.InOrder.{same_bytes}
use Rattle.mj_base.specs.Reading.{◌>>=◌}
use Rattle.mj_maps.specs.Map.{get, remove}
use Rattle.mj_maps.proofs.MapLaws.{exact_place, none_some, some_same, cases_key, insert_same, insert_other, remove_other, eq_false, apart}
use Rattle.mj_tree.specs.State.{PlainState, root, is_dir}
use Rattle.mj_tree.specs.Change.{with_moved}
use Rattle.mj_tree.specs.Walk.{Answer, Path, found, step, walk_from, place, parent_from, last_name, begins}
use Rattle.mj_delta.specs.TreeOf.{IsReached}
use Rattle.mj_delta.specs.TreeOf.IsReached.{at_root, below}
use Rattle.mj_delta.proofs.Decided.{AreAway}

ok_same : {A : Type 0} (x y : A) → ◌≡◌ {A = Answer A} (Ok x) (Ok y) → x ≡ y
ok_same x y e = cc

err_ok : {A : Type 0} (n : ℕ) (y : A) → ◌≡◌ {A = Answer A} (Err n) (Ok y) → ⊥
err_ok n y e = absurd cc

bind_ok : {A B : Type 0} (x : Answer A) (f : A → Answer B) (y : B) → (x >>= f) ≡ Ok y → (z : A) × (x ≡ Ok z) × (f z ≡ Ok y)
bind_ok (Ok x) f y e = (x, refl, e)
bind_ok (Err n) f y e = absurd cc

-- a path from its end: the last name first
abbrev pub trail : PlainState → Path → Answer ℕ
trail s [] = Ok root
trail s (n ∷ ns) = trail s ns >>= λ d. step s d n

-- a path whose first names stand from their end
abbrev pub rev_onto : Path → Path → Path
rev_onto [] ys = ys
rev_onto (x ∷ xs) ys = rev_onto xs (x ∷ ys)

pub step_ok : (s : PlainState) (d : ℕ) (n : List ℕ) (c : ℕ) → step s d n ≡ Ok c → (is_dir s d ≡ true) × (get s.links (d, n) ≡ Some c)
step_ok s d n c e = elim (is_dir s d) as (λ b. ◌≡◌ {A = Answer ℕ} (if b then found (get s.links (d, n)) else Err 20) (Ok c) → (b ≡ true) × (get s.links (d, n) ≡ Some c)) [
  | true ↦ λ e. (refl, elim (get s.links (d, n)) as (λ o. found o ≡ Ok c → o ≡ Some c) [ None ↦ λ e. absurd (err_ok 2 c e) | Some x ↦ λ e. ap Some (ok_same x c e) ] e)
  | false ↦ λ e. absurd (err_ok 20 c e)
] e

pub walk_dir : (s : PlainState) (c : ℕ) (ns : Path) (d : ℕ) → walk_from s c ns ≡ Ok d → is_dir s d ≡ true → is_dir s c ≡ true
walk_dir s c [] d e h = ap (is_dir s) (ok_same c d e) ∙ h
walk_dir s c (n ∷ ns) d e h = let w = bind_ok (step s c n) (λ c. walk_from s c ns) d e in (step_ok s c n w.0 w.1).0

module _ (s : PlainState) (no_root : (x : ℕ × List ℕ) → get s.links x ≡ Some 1 → ⊥) (dir_once : (x y : ℕ × List ℕ) (i : ℕ) → is_dir s i ≡ true → get s.links x ≡ Some i → get s.links y ≡ Some i → x ≡ y) where
  -- one path leads to a directory
  pub one_trail : (ns ms : Path) (c : ℕ) → is_dir s c ≡ true → trail s ns ≡ Ok c → trail s ms ≡ Ok c → ns ≡ ms
  one_trail [] [] c h e f = refl
  one_trail [] (m ∷ ms) c h e f =
      let w = bind_ok (trail s ms) (λ d. step s d m) c f in
      absurd (no_root (w.0, m) ((step_ok s w.0 m c w.2).1 ∙ ap Some (sym (ok_same 1 c e))))
  one_trail (n ∷ ns) [] c h e f =
      let w = bind_ok (trail s ns) (λ d. step s d n) c e in
      absurd (no_root (w.0, n) ((step_ok s w.0 n c w.2).1 ∙ ap Some (sym (ok_same 1 c f))))
  one_trail (n ∷ ns) (m ∷ ms) c h e f =
      let w = bind_ok (trail s ns) (λ d. step s d n) c e in
      let u = bind_ok (trail s ms) (λ d. step s d m) c f in
      let a = step_ok s w.0 n c w.2 in
      let b = step_ok s u.0 m c u.2 in
      let same = dir_once (w.0, n) (u.0, m) c h a.1 b.1 in
      let rest = one_trail ns ms w.0 a.0 w.1 (u.1 ∙ ap Ok (ap (λ (x : ℕ × List ℕ). x.0) (sym same))) in
      λ i. (same i).1 ∷ rest i

  module _ (q r : ℕ × List ℕ) (i : ℕ) (link : get s.links q ≡ Some i) (free : get s.links r ≡ None) where
    abbrev moved : PlainState
    moved = with_moved s q r i

    stays : (x : ℕ × List ℕ) (j : ℕ) → (x ≡ q → ⊥) → get s.links x ≡ Some j → get moved.links x ≡ Some j
    stays x j ne l = insert_other exact_place (remove s.links q) r i x (eq_false exact_place x r (λ e. none_some j (sym free ∙ ap (get s.links) (sym e) ∙ l))) ∙ remove_other exact_place s.links q x (eq_false exact_place x q ne) ∙ l

    -- fs is the path of q's directory, from its end
    module _ (fs : Path) (from : trail s fs ≡ Ok q.0) where
      pub follow : (done rest : Path) (c d : ℕ) → trail s done ≡ Ok c → IsReached moved c → walk_from s c rest ≡ Ok d → is_dir s d ≡ true
          → ((zs : Path) → rev_onto (q.1 ∷ fs) zs ≡ rev_onto done rest → ⊥) → IsReached moved d
      follow done [] c d t u w h apart_from = subst (IsReached moved) (ok_same c d w) u
      follow done (n ∷ ns) c d t u w h apart_from =
          let b = bind_ok (step s c n) (λ c. walk_from s c ns) d w in
          let a = step_ok s c n b.0 b.1 in
          elim (cases_key exact_place (c, n) q) [
            | inl same ↦
                let paths = one_trail done fs c a.0 t (from ∙ ap Ok (ap (λ (x : ℕ × List ℕ). x.0) (sym same))) in
                absurd (apart_from ns (λ z. rev_onto ((sym same z).1 ∷ sym paths z) ns))
            | inr ne ↦
                follow (n ∷ done) ns b.0 d ((λ z. (t z >>= λ d. step s d n)) ∙ b.1)
                (below c n b.0 u (stays (c, n) b.0 (apart exact_place (c, n) q ne) a.1) (walk_dir s b.0 ns d b.2 h)) b.2 h apart_from
          ]

    reach_moved : IsReached moved r.0 → (d : ℕ) → IsReached s d → IsReached moved d
    reach_moved u _ at_root = at_root
    reach_moved u _ (below d n j v l h) = elim (cases_key exact_place (d, n) q) [
      | inl same ↦
          let e = some_same j i (sym l ∙ ap (get s.links) same ∙ link) in
          subst (IsReached moved) (sym e) (below r.0 r.1 i u (insert_same exact_place (remove s.links q) r i) (ap (is_dir s) (sym e) ∙ h))
      | inr ne ↦ below d n j (reach_moved u d v) (stays (d, n) j (apart exact_place (d, n) q ne) l) h
    ]

    -- what moves is a file: no path leads through it
    reach_file : is_dir s i ≡ false → (d : ℕ) → IsReached s d → IsReached moved d
    reach_file file _ at_root = at_root
    reach_file file _ (below d n j v l h) = below d n j (reach_file file d v) (stays (d, n) j (λ e. false≢true (sym file ∙ ap (is_dir s) (some_same i j (sym link ∙ ap (get s.links) (sym e) ∙ l)) ∙ h)) l) h

    -- after a move to a directory that is not below what moves, each directory is reached
    pub reached_moved_dir : (fs to : Path) → trail s fs ≡ Ok q.0 → walk_from s root to ≡ Ok r.0 → is_dir s r.0 ≡ true → ((zs : Path) → rev_onto (q.1 ∷ fs) zs ≡ to → ⊥)
        → ((d : ℕ) → is_dir s d ≡ true → IsReached s d) → (d : ℕ) → is_dir (with_moved s q r i) d ≡ true → IsReached (with_moved s q r i) d
    reached_moved_dir fs to from walked h apart_from reached d k = reach_moved (follow fs from [] to 1 r.0 refl at_root walked h apart_from) d (reached d k)

    pub reached_moved_file : is_dir s i ≡ false → ((d : ℕ) → is_dir s d ≡ true → IsReached s d) → (d : ℕ) → is_dir (with_moved s q r i) d ≡ true → IsReached (with_moved s q r i) d
    reached_moved_file file reached d k = reach_file file d (reached d k)

-- ---- from the paths of a request

abbrev pub front : Path → Path
front [] = []
front (n ∷ []) = []
front (n ∷ m ∷ ms) = n ∷ front (m ∷ ms)

if_ok : (b : Bool) (i d : ℕ) → ◌≡◌ {A = Answer ℕ} (if b then Ok i else Err 20) (Ok d) → i ≡ d
if_ok true i d e = ok_same i d e
if_ok false i d e = absurd (err_ok 20 d e)

pub parent_walk : (s : PlainState) (c : ℕ) (path : Path) (d : ℕ) → parent_from s c path ≡ Ok d → walk_from s c (front path) ≡ Ok d
parent_walk s c [] d e = e
parent_walk s c (n ∷ []) d e = ap Ok (if_ok (is_dir s c) c d e)
parent_walk s c (n ∷ m ∷ ms) d e =
    let w = bind_ok (step s c n) (λ c. parent_from s c (m ∷ ms)) d e in
    (λ z. (w.1 z >>= λ c. walk_from s c (front (m ∷ ms)))) ∙ parent_walk s w.0 (m ∷ ms) d w.2

-- the trail of a path's directory
pub parent_trail : (s : PlainState) (c : ℕ) (done : Path) (n : List ℕ) (ns : Path) (d : ℕ) → trail s done ≡ Ok c → parent_from s c (n ∷ ns) ≡ Ok d
    → (fs : Path) × (trail s fs ≡ Ok d) × (rev_onto (last_name (n ∷ ns) ∷ fs) [] ≡ rev_onto done (n ∷ ns))
parent_trail s c done n [] d t e = (done, t ∙ ap Ok (if_ok (is_dir s c) c d e), refl)
parent_trail s c done n (m ∷ ms) d t e =
    let w = bind_ok (step s c n) (λ c. parent_from s c (m ∷ ms)) d e in
    parent_trail s w.0 (n ∷ done) m ms d ((λ z. (t z >>= λ d. step s d n)) ∙ w.1) w.2

pub rev_onto-append : (xs ys : Path) → rev_onto xs ys ≡ rev_onto xs [] ++ ys
rev_onto-append [] ys = refl
rev_onto-append (x ∷ xs) ys = rev_onto-append xs (x ∷ ys) ∙ sym (append_assoc (rev_onto xs []) (x ∷ []) ys) ∙ ap (λ zs. zs ++ ys) (sym (rev_onto-append xs (x ∷ [])))

pub front_last : (n : List ℕ) (ns : Path) → front (n ∷ ns) ++ last_name (n ∷ ns) ∷ [] ≡ n ∷ ns
front_last n [] = refl
front_last n (m ∷ ms) = ap (λ zs. n ∷ zs) (front_last m ms)

name_eq : (xs : List ℕ) → same_bytes xs xs ≡ true
name_eq xs = nat_list_eq_equiv.refl xs

pub begins_more : (xs : Path) (z : List ℕ) (zs : Path) → begins xs (xs ++ z ∷ zs) ≡ true
begins_more [] z zs = refl
begins_more (x ∷ xs) z zs = and_from _ _ (name_eq x) (begins_more xs z zs)

append_some : (zs : Path) (l : List ℕ) → (y : List ℕ) × (ys : Path) × (zs ++ l ∷ [] ≡ y ∷ ys)
append_some [] l = (l, [], refl)
append_some (z ∷ zs) l = (z, zs ++ l ∷ [], refl)

-- where `from` is no proper beginning of `to`, no path to the directory of `to` leads through `from`
pub not_below : (from : Path) (m : List ℕ) (ms : Path) → begins from (m ∷ ms) ≡ false → (zs : Path) → from ++ zs ≡ front (m ∷ ms) → ⊥
not_below from m ms no_beginning zs e =
    let l = last_name (m ∷ ms) in
    let w = append_some zs l in
    let whole : from ++ w.0 ∷ w.1 ≡ m ∷ ms = ap (λ ys. from ++ ys) (sym w.2) ∙ sym (append_assoc from zs (l ∷ [])) ∙ ap (λ ys. ys ++ l ∷ []) e ∙ front_last m ms in
    false≢true (sym no_beginning ∙ ap (begins from) (sym whole) ∙ begins_more from w.0 w.1)

-- the path of the directory of a place from its end, and a walk to that of another, which does not lead through the first
pub record IsApartFrom (s : PlainState) (q r : ℕ × List ℕ) : Type 0 where
  pub trail_to : Path
  pub trail_is : trail s trail_to ≡ Ok q.0
  pub way : Path
  pub way_is : walk_from s root way ≡ Ok r.0
  pub not_through : (zs : Path) → rev_onto (q.1 ∷ trail_to) zs ≡ way → ⊥

paths_apart : (s : PlainState) (q r : ℕ × List ℕ) (from to : Path) → place s from 22 ≡ Ok q → place s to 22 ≡ Ok r → begins from to ≡ false → IsApartFrom s q r
paths_apart s q r [] to f t b = absurd cc
paths_apart s q r (n ∷ ns) [] f t b = absurd cc
paths_apart s q r (n ∷ ns) (k ∷ ks) f t b =
    let x = bind_ok (parent_from s root (n ∷ ns)) (λ dir. Ok (dir, last_name (n ∷ ns))) q f in
    let y = bind_ok (parent_from s root (k ∷ ks)) (λ dir. Ok (dir, last_name (k ∷ ks))) r t in
    let is_q = ok_same (x.0, last_name (n ∷ ns)) q x.2 in
    let is_r = ok_same (y.0, last_name (k ∷ ks)) r y.2 in
    let u = parent_trail s root [] n ns x.0 refl x.1 in
    record {
      trail_to = u.0;
      trail_is = u.1 ∙ ap (λ (q : ℕ × List ℕ). Ok q.0) is_q;
      way = front (k ∷ ks);
      way_is = parent_walk s root (k ∷ ks) y.0 y.1 ∙ ap (λ (r : ℕ × List ℕ). Ok r.0) is_r;
      not_through = λ zs same. not_below (n ∷ ns) k ks b zs (ap (λ xs. xs ++ zs) (sym u.2) ∙ sym (rev_onto-append (last_name (n ∷ ns) ∷ u.0) zs) ∙ (λ z. rev_onto ((is_q z).1 ∷ u.0) zs) ∙ same);
    }

pub away_apart : (s : PlainState) (q r : ℕ × List ℕ) → AreAway s q r → IsApartFrom s q r
away_apart s q r w = paths_apart s q r w.from w.to w.from_is w.to_is w.apart

-- ---- a move over a target that has no entries

module _ (s : PlainState) (no_root : (x : ℕ × List ℕ) → get s.links x ≡ Some 1 → ⊥) (dir_once : (x y : ℕ × List ℕ) (i : ℕ) → is_dir s i ≡ true → get s.links x ≡ Some i → get s.links y ≡ Some i → x ≡ y)
    (q r : ℕ × List ℕ) (i j : ℕ) (link : get s.links q ≡ Some i) (target : get s.links r ≡ Some j) (not_same : i ≡ j → ⊥) (no_entries : (n : List ℕ) → get s.links (j, n) ≡ None)
    (after : PlainState) (stay : (x : ℕ × List ℕ) (k : ℕ) → (x ≡ q → ⊥) → get s.links x ≡ Some k → (k ≡ j → ⊥) → get after.links x ≡ Some k)
    (dirs : (k : ℕ) → (k ≡ j → ⊥) → is_dir after k ≡ is_dir s k) (here : get after.links r ≡ Some i) (no_target : is_dir after j ≡ false) where
  not_parent : (x : ℕ × List ℕ) (k : ℕ) → get s.links x ≡ Some k → x.0 ≡ j → ⊥
  not_parent x k l e = none_some k (sym (no_entries x.1) ∙ ap (λ d. get s.links (d, x.1)) (sym e) ∙ l)

  -- what a walk goes on from is not the target
  not_target : (c : ℕ) (ns : Path) (d : ℕ) → walk_from s c ns ≡ Ok d → (d ≡ j → ⊥) → c ≡ j → ⊥
  not_target c [] d w ne e = ne (sym (ok_same c d w) ∙ e)
  not_target c (n ∷ ns) d w ne e =
      let b = bind_ok (step s c n) (λ c. walk_from s c ns) d w in
      not_parent (c, n) b.0 (step_ok s c n b.0 b.1).1 e

  follow_over : (fs : Path) → trail s fs ≡ Ok q.0 → (done rest : Path) (c d : ℕ) → trail s done ≡ Ok c → IsReached after c → walk_from s c rest ≡ Ok d → is_dir s d ≡ true → (d ≡ j → ⊥)
      → ((zs : Path) → rev_onto (q.1 ∷ fs) zs ≡ rev_onto done rest → ⊥) → IsReached after d
  follow_over fs from done [] c d t u w h ne apart_from = subst (IsReached after) (ok_same c d w) u
  follow_over fs from done (n ∷ ns) c d t u w h ne apart_from =
      let b = bind_ok (step s c n) (λ c. walk_from s c ns) d w in
      let a = step_ok s c n b.0 b.1 in
      let other = not_target b.0 ns d b.2 ne in
      elim (cases_key exact_place (c, n) q) [
        | inl same ↦
            let paths = one_trail s no_root dir_once done fs c a.0 t (from ∙ ap Ok (ap (λ (x : ℕ × List ℕ). x.0) (sym same))) in
            absurd (apart_from ns (λ z. rev_onto ((sym same z).1 ∷ sym paths z) ns))
        | inr nq ↦
            follow_over fs from (n ∷ done) ns b.0 d ((λ z. (t z >>= λ d. step s d n)) ∙ b.1)
            (below c n b.0 u (stay (c, n) b.0 (apart exact_place (c, n) q nq) a.1 other) (dirs b.0 other ∙ walk_dir s b.0 ns d b.2 h)) b.2 h ne apart_from
      ]

  reach_over : IsReached after r.0 → (d : ℕ) → IsReached s d → (d ≡ j → ⊥) → IsReached after d
  reach_over u _ at_root ne = at_root
  reach_over u _ (below d n k v l h) ne = elim (cases_key exact_place (d, n) q) [
    | inl same ↦
        let e = some_same k i (sym l ∙ ap (get s.links) same ∙ link) in
        subst (IsReached after) (sym e) (below r.0 r.1 i u here (dirs i not_same ∙ ap (is_dir s) (sym e) ∙ h))
    | inr nq ↦ below d n k (reach_over u d v (not_parent (d, n) k l)) (stay (d, n) k (apart exact_place (d, n) q nq) l ne) (dirs k ne ∙ h)
  ]

  reach_over_file : is_dir s i ≡ false → (d : ℕ) → IsReached s d → (d ≡ j → ⊥) → IsReached after d
  reach_over_file file _ at_root ne = at_root
  reach_over_file file _ (below d n k v l h) ne = below d n k (reach_over_file file d v (not_parent (d, n) k l))
      (stay (d, n) k (λ e. false≢true (sym file ∙ ap (is_dir s) (some_same i k (sym link ∙ ap (get s.links) (sym e) ∙ l)) ∙ h)) l ne) (dirs k ne ∙ h)

  -- where its directory is reached by a walk that does not lead through what moves
  pub reached_over : (fs to : Path) → trail s fs ≡ Ok q.0 → walk_from s root to ≡ Ok r.0 → is_dir s r.0 ≡ true → ((zs : Path) → rev_onto (q.1 ∷ fs) zs ≡ to → ⊥)
      → ((d : ℕ) → is_dir s d ≡ true → IsReached s d) → (d : ℕ) → is_dir after d ≡ true → IsReached after d
  reached_over fs to from walked h apart_from reached d k =
      let ne : d ≡ j → ⊥ = λ e. false≢true (sym no_target ∙ ap (is_dir after) (sym e) ∙ k) in
      reach_over (follow_over fs from [] to 1 r.0 refl at_root walked h (not_parent r j target) apart_from) d (reached d (sym (dirs d ne) ∙ k)) ne

  pub reached_over_file : is_dir s i ≡ false → ((d : ℕ) → is_dir s d ≡ true → IsReached s d) → (d : ℕ) → is_dir after d ≡ true → IsReached after d
  reached_over_file file reached d k =
      let ne : d ≡ j → ⊥ = λ e. false≢true (sym no_target ∙ ap (is_dir after) (sym e) ∙ k) in
      reach_over_file file d (reached d (sym (dirs d ne) ∙ k)) ne
