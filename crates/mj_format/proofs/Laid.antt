-- The operations of a formatted store lay its objects over what was there.
use Rattle.std.proofs.Common.{◌≡◌, ℕ, zero, suc, ◌+◌, ◌-◌, true, false, cond, ◌==◌, Option, Some, None, List, [], ◌∷◌, ◌++◌, length, drop, replicate, refl, sym, ◌∙◌, ap, subst, arith}
use Rattle.std.specs.Prelude.{unwrap_or, option_map}
use Rattle.std.specs.List.{AllByRecursion}
use Rattle.std.proofs.lemmas.List.{append-nil}
use Rattle.std.proofs.lemmas.Bool.{ne_eqb}
use Rattle.mj_base.specs.ObjectName.{journal_ino, stray_ino}
use Rattle.mj_base.specs.declared.object.ObjectName.{ObjectName}
use Rattle.mj_store.specs.declared.act.ObjectOp.{ObjectOp}
use Rattle.mj_maps.specs.Map.{from_entries}
use Rattle.mj_store.specs.declared.act.Pair.{Pair}
use Rattle.mj_store.specs.declared.held.HeldObject.{HeldObject}
use Rattle.mj_store.specs.Object.{Content, Contents, Pairs, applied, put, same_name, blank, written}
use Rattle.mj_store.proofs.Names.{same_is}
use Rattle.mj_layout.specs.Striping.{Striping}
use Rattle.mj_recovery.specs.Objects.{content_of, pair_entries, Holds, objects_of}
use Rattle.mj_recovery.specs.Listed.{found, image_of}
use Rattle.mj_recovery.specs.Formatted.{formatted_objects}
use Rattle.mj_recovery.proofs.Stores.{image_is}
use Rattle.mj_format.specs.Formatting.{head_over, laid_over, over, IsFormattedOver}
use Rattle.mj_format.specs.Sending.{after_ops, table_ops, header_op}

abbrev content : List ℕ → Option (List ℕ) → Pairs → Content
content bytes head pairs = record { bytes = bytes; head = head; pairs = pairs }

-- ---- in an order

-- the operation lays the object over what was there
record Lays (op : ObjectOp) (h : HeldObject) : Type 0 where
  name : op.name ≡ h.name
  act : (old : Option Content) → applied op.act old ≡ Some (laid_over h old)

-- so each does, and no name stands twice
abbrev Lay : List ObjectOp → List HeldObject → Type 0
Lay [] [] = Unit {0}
Lay (op ∷ ops) (h ∷ hs) = Lays op h × (found h.name hs ≡ None) × Lay ops hs
Lay _ _ = ⊥

laid : (ops : List ObjectOp) (hs : List HeldObject) → Lay ops hs → (image : Contents) (name : ObjectName) → after_ops ops image name ≡ over (found name hs) (image name)
laid [] [] l image name = refl
laid [] (h ∷ hs) l image name = absurd l
laid (op ∷ ops) [] l image name = absurd l
laid (op ∷ ops) (h ∷ hs) l image name =
    let x = applied op.act (image op.name) in
    laid ops hs l.2 (put image op.name x) name
    ∙ elim (same_name name h.name) as (λ b. same_name name h.name ≡ b → over (found name hs) (cond (same_name name op.name) x (image name)) ≡ over (cond b (Some h) (found name hs)) (image name)) [
      | true ↦ λ e.
          let is : name ≡ h.name = same_is name h.name e in
          let here : same_name name op.name ≡ true = ap (same_name name) l.0.name ∙ e in
          let none : found name hs ≡ None = ap (λ n. found n hs) is ∙ l.1 in
          ap (λ o. over o (cond (same_name name op.name) x (image name))) none ∙ ap (λ b. cond b x (image name)) here ∙ l.0.act (image op.name)
          ∙ ap (λ n. Some (laid_over h (image n))) (l.0.name ∙ sym is)
      | false ↦ λ e. ap (λ b. over (found name hs) (cond b x (image name))) (ap (same_name name) l.0.name ∙ e)
    ] refl

-- ---- these

written_front : (bytes old : List ℕ) → written 0 bytes old ≡ bytes ++ drop (length bytes) old
written_front bytes old =
    let none : 0 - length old ≡ 0 = omega arith in
    let size : 0 + length bytes ≡ length bytes = omega arith in
    (λ i. replicate (none i) 0 ++ bytes ++ drop (size i) old)

all_lay : (rank : ℕ) (layout : Striping) → Lay (table_ops rank ++ header_op rank layout ∷ []) (formatted_objects rank layout)
unfolding formatted_objects
all_lay rank layout =
    let root_stray : (1 == stray_ino rank) ≡ false = ne_eqb 1 (stray_ino rank) (λ e. omega arith) in
    let root_journal : (1 == journal_ino rank) ≡ false = ne_eqb 1 (journal_ino rank) (λ e. omega arith) in
    let stray_journal : (stray_ino rank == journal_ino rank) ≡ false = ne_eqb (stray_ino rank) (journal_ino rank) (λ e. omega arith) in (
      record { name = refl; act = λ old. refl },
      rw (root_stray, root_journal) refl,
      (
        record { name = refl; act = λ old. refl },
        rw stray_journal refl,
        (
          record { name = refl; act = λ old. refl },
          refl,
          (
            record { name = refl; act = λ old. refl },
            refl,
            (
              record { name = refl; act = λ old. ap (λ (bytes : List ℕ). Some (content bytes (unwrap_or old blank).head (unwrap_or old blank).pairs)) (written_front _ (unwrap_or old blank).bytes) },
              refl,
              tt,
            ),
          ),
        ),
      ),
    )

pub all_laid : (rank : ℕ) (layout : Striping) (before : Contents) (name : ObjectName) → after_ops (table_ops rank ++ header_op rank layout ∷ []) before name ≡ over (found name (formatted_objects rank layout)) (before name)
all_laid rank layout before name = laid (table_ops rank ++ header_op rank layout ∷ []) (formatted_objects rank layout) (all_lay rank layout) before name

-- ---- over nothing

abbrev NoKeys : HeldObject → Type 0
NoKeys h = h.pairs ≡ []

found_keyless : (hs : List HeldObject) → AllByRecursion NoKeys hs → (name : ObjectName) (h : HeldObject) → found name hs ≡ Some h → NoKeys h
found_keyless [] all name h e = absurd cc
found_keyless (g ∷ hs) all name h e = elim (same_name name g.name) as (λ b. cond b (Some g) (found name hs) ≡ Some h → NoKeys h) [
  | true ↦ λ q. let same : g ≡ h = cc in subst NoKeys same all.0
  | false ↦ λ q. found_keyless hs all.1 name h q
] e

all_keyless : (rank : ℕ) (layout : Striping) → AllByRecursion NoKeys (formatted_objects rank layout)
unfolding formatted_objects
all_keyless rank layout = (refl, (refl, (refl, (refl, (refl, tt)))))

no_head : (head : Option (List ℕ)) → head_over head None ≡ head
no_head None = refl
no_head (Some head) = refl

drop_none : (n : ℕ) → drop n blank.bytes ≡ blank.bytes
drop_none zero = refl
drop_none (suc n) = refl

alone : (h : HeldObject) → NoKeys h → laid_over h None ≡ content_of h
alone h none =
    let bytes : h.bytes ++ drop (length h.bytes) blank.bytes ≡ h.bytes = ap (λ (rest : List ℕ). h.bytes ++ rest) (drop_none (length h.bytes)) ∙ append-nil h.bytes in
    (λ i. content (bytes i) (no_head h.head i) blank.pairs) ∙ ap (λ (ps : List Pair). content h.bytes h.head (from_entries (pair_entries ps))) (sym none)

pub made : (rank : ℕ) (layout : Striping) (before image : Contents) (name : ObjectName) (h : HeldObject) → IsFormattedOver rank layout before image
    → found name (formatted_objects rank layout) ≡ Some h → before name ≡ None → image name ≡ Some (content_of h)
made rank layout before image name h f e none =
    f name ∙ (λ i. over (e i) (none i)) ∙ ap (λ (c : Content). Some c) (alone h (found_keyless (formatted_objects rank layout) (all_keyless rank layout) name h e))

pub holds : (rank : ℕ) (layout : Striping) (before image : Contents) → ((name : ObjectName) → before name ≡ None) → IsFormattedOver rank layout before image
    → Holds image (objects_of (formatted_objects rank layout))
holds rank layout before image none f name = ap (λ (g : Contents). g name) (sym (image_is (formatted_objects rank layout))) ∙ by (found name (formatted_objects rank layout)) refl
  where
    by : (o : Option HeldObject) → found name (formatted_objects rank layout) ≡ o → image_of (formatted_objects rank layout) name ≡ image name
    by None e = ap (option_map content_of) e ∙ sym (f name ∙ (λ i. over (e i) (none name i)))
    by (Some h) e = ap (option_map content_of) e ∙ sym (made rank layout before image name h f e (none name))
