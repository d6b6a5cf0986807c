-- Blocks of bytes, one after another.
use Rattle.std.proofs.Common.{◌≡◌, ℕ, suc, ◌+◌, ◌-◌, ◌<◌, ◌≤◌, Bool, true, false, cond, List, [], ◌∷◌, ◌++◌, length, get_or, take, drop, drop-cons, sym, ap, subst, ◌∙◌, append_assoc, length-append, arith}
use Rattle.std.specs.Global.{Vec}
use Rattle.std.proofs.lemmas.List.{append-nil, drop-append-le, length-drop, take-append-le}
use Rattle.std.proofs.Math.Seq.{drop-append-add, take-append-add}
use Rattle.mj_journaler.specs.Buffered.{joined, first_block}

joined_more : (blocks : List (Vec ℕ)) (block : Vec ℕ) → joined (blocks ++ block ∷ []) ≡ joined blocks ++ block.items
joined_more [] block = append-nil block.items
joined_more (b ∷ blocks) block = ap (λ (m : List ℕ). b.items ++ m) (joined_more blocks block) ∙ sym (append_assoc b.items (joined blocks) block.items)

-- a new block behind
pub moved_on : (full now : List (Vec ℕ)) (last : Vec ℕ) (none : List ℕ) → now ≡ full ++ last ∷ [] → none ≡ [] → joined now ++ none ≡ joined full ++ last.items
moved_on full now last none e n = ap (λ (m : List ℕ). joined now ++ m) n ∙ (append-nil (joined now) ∙ (ap joined e ∙ joined_more full last))

pub first_stays : (full now : List (Vec ℕ)) (last : Vec ℕ) (block : List ℕ) → now ≡ full ++ last ∷ [] → first_block now block ≡ first_block full last.items
first_stays [] now last block e = ap (λ (m : List (Vec ℕ)). first_block m block) e
first_stays (b ∷ full) now last block e = ap (λ (m : List (Vec ℕ)). first_block m block) e

pub first_longer : (full : List (Vec ℕ)) (last new : List ℕ) (taken : ℕ) → length last ≤ length new → taken ≤ length (first_block full last) → taken ≤ length (first_block full new)
first_longer [] last new taken h e = omega (arith, h, e)
first_longer (b ∷ full) last new taken h e = e

-- the taken bytes are there
pub taken_within : (full : List (Vec ℕ)) (last : List ℕ) (taken : ℕ) → taken ≤ length (first_block full last) → taken ≤ length (joined full ++ last)
taken_within [] last taken h = h
taken_within (b ∷ full) last taken h = omega (arith, h, length-append (b.items ++ joined full) last, length-append b.items (joined full))

-- an entry behind
pub added : (taken : ℕ) (front last new entry was : List ℕ) (b : Bool) → taken ≤ length (front ++ last) → drop taken (front ++ last) ≡ was → new ≡ cond b (last ++ entry) last → drop taken (front ++ new) ≡ cond b (was ++ entry) was
added taken front last new entry was true h w e =
    ap (λ (m : List ℕ). drop taken (front ++ m)) e
    ∙ (ap (drop taken) (sym (append_assoc front last entry))
    ∙ (drop-append-le taken (front ++ last) entry h ∙ ap (λ (m : List ℕ). m ++ entry) w))
added taken front last new entry was false h w e = ap (λ (m : List ℕ). drop taken (front ++ m)) e ∙ w

-- ---- one block more

-- what is left, from the first block that is not passed
pub ahead : (block : Vec ℕ) (blocks : List (Vec ℕ)) (last : List ℕ) (start : ℕ) → start ≤ length block.items
    → drop start (joined (block ∷ blocks) ++ last) ≡ drop start block.items ++ (joined blocks ++ last)
ahead block blocks last start h = ap (drop start) (append_assoc block.items (joined blocks) last) ∙ drop-append-le start block.items (joined blocks ++ last) h

-- fewer bytes than the block has are taken of it
pub within_block : (block : Vec ℕ) (blocks : List (Vec ℕ)) (last : List ℕ) (start left : ℕ) → start ≤ length block.items → left ≤ length (drop start block.items)
    → take left (drop start (joined (block ∷ blocks) ++ last)) ≡ take left (drop start block.items)
within_block block blocks last start left h e = ap (take left) (ahead block blocks last start h) ∙ take-append-le left (drop start block.items) (joined blocks ++ last) e

-- else all of it is taken, and the rest behind it
pub past_block : (block : Vec ℕ) (blocks : List (Vec ℕ)) (last : List ℕ) (start left : ℕ) → start ≤ length block.items → length (drop start block.items) ≤ left
    → take left (drop start (joined (block ∷ blocks) ++ last)) ≡ drop start block.items ++ take (left - length (drop start block.items)) (joined blocks ++ last)
past_block block blocks last start left h e =
    ap (take left) (ahead block blocks last start h)
    ∙ (ap (λ k. take k (drop start block.items ++ (joined blocks ++ last))) (parted left (length (drop start block.items)) e)
    ∙ take-append-add (drop start block.items) (joined blocks ++ last) (left - length (drop start block.items)))
  where
    parted : (a b : ℕ) → b ≤ a → a ≡ b + (a - b)
    parted a b h = omega arith

pub passed : (block : Vec ℕ) (blocks : List (Vec ℕ)) (last : List ℕ) (start left : ℕ) → start ≤ length block.items → length block.items ≤ start + left
    → drop (start + left) (joined (block ∷ blocks) ++ last) ≡ drop (left - (length block.items - start)) (joined blocks ++ last)
passed block blocks last start left h e =
    ap (drop (start + left)) (append_assoc block.items (joined blocks) last)
    ∙ (ap (λ k. drop k (block.items ++ (joined blocks ++ last))) (parted start left (length block.items) h e)
    ∙ drop-append-add block.items (joined blocks ++ last) (left - (length block.items - start)))
  where
    parted : (s l b : ℕ) → s ≤ b → b ≤ s + l → s + l ≡ b + (l - (b - s))
    parted s l b h e = omega arith

-- the block at a place, and those behind it
pub opened : (full : List (Vec ℕ)) (i : ℕ) (block : Vec ℕ) → i < length full → block ≡ get_or full i block → drop i full ≡ block ∷ drop (i + 1) full
opened full i block h e = drop-cons full i block h ∙ (ap (λ (b : Vec ℕ). b ∷ drop (suc i) full) (sym e) ∙ ap (λ k. block ∷ drop k full) (one_more i))
  where
    one_more : (i : ℕ) → suc i ≡ i + 1
    one_more i = omega arith

pub copied_on : (block : Vec ℕ) (blocks : List (Vec ℕ)) (last bytes new here whole : List ℕ) (start left : ℕ) → start ≤ length block.items → start + left ≤ length (joined (block ∷ blocks) ++ last)
    → here ≡ drop start block.items → length here < left → new ≡ bytes ++ here → bytes ++ take left (drop start (joined (block ∷ blocks) ++ last)) ≡ whole
    → (0 + (left - length here) ≤ length (joined blocks ++ last)) × (new ++ take (left - length here) (joined blocks ++ last) ≡ whole)
copied_on block blocks last bytes new here whole start left inside enough e less n w =
    let rest = joined blocks ++ last in
    let size : length here ≡ length block.items - start = ap length e ∙ length-drop start block.items in
    let all : take left (drop start (joined (block ∷ blocks) ++ last)) ≡ here ++ take (left - length here) rest =
    subst (λ (h : List ℕ). take left (drop start (joined (block ∷ blocks) ++ last)) ≡ h ++ take (left - length h) rest) (sym e) (past_block block blocks last start left inside (omega (arith, less, ap length e))) in (
      omega (arith, size, inside, enough, length-append (block.items ++ joined blocks) last, length-append block.items (joined blocks), length-append (joined blocks) last),
      ap (λ (m : List ℕ). m ++ take (left - length here) rest) n ∙ (append_assoc bytes here (take (left - length here) rest) ∙ (ap (λ (m : List ℕ). bytes ++ m) (sym all) ∙ w)),
    )

pub released_on : (block : Vec ℕ) (blocks : List (Vec ℕ)) (last : List ℕ) (start left here : ℕ) → start ≤ length block.items → start + left ≤ length (joined (block ∷ blocks) ++ last)
    → here ≡ length block.items - start → here ≤ left
    → (0 + (left - here) ≤ length (joined blocks ++ last)) × (drop (0 + (left - here)) (joined blocks ++ last) ≡ drop (start + left) (joined (block ∷ blocks) ++ last))
released_on block blocks last start left here inside enough e less = (
  omega (arith, e, inside, enough, less, length-append (block.items ++ joined blocks) last, length-append block.items (joined blocks), length-append (joined blocks) last),
  ap (λ k. drop k (joined blocks ++ last)) (same left here (length block.items - start) e) ∙ sym (passed block blocks last start left inside (omega (arith, e, less, inside))),
)
  where
    same : (l h k : ℕ) → h ≡ k → 0 + (l - h) ≡ l - k
    same l h k e = omega (arith, e)
