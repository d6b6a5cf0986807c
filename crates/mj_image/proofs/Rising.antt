-- Fields that each follow the one before are in order.
use Rattle.std.proofs.Common.{◌≡◌, ℕ, ◌^◌, ◌<◌, Bool, true, List, [], ◌∷◌, length, Option, Some, None, refl, arith}
use Rattle.std.specs.Prelude.{◌&&◌, nat_le, option_map}
use Rattle.std.specs.List.{AllByRecursion}
use Rattle.std.specs.Ordering.{is_lt}
use Rattle.std.proofs.lemmas.Bool.{and_from, and_parts, le-leb, leb-true}
use Rattle.mj_base.specs.InOrder.{is_rising}
use Rattle.mj_base.specs.Reading.{all_follow}
use Rattle.mj_base.specs.ObjectName.{object_order}
use Rattle.mj_store.specs.declared.act.Pair.{Pair}
use Rattle.mj_store.specs.declared.held.HeldObject.{HeldObject}
use Rattle.mj_store.specs.Object.{longest_key}
use Rattle.mj_store.specs.Pages.{is_above, rise_above}
use Rattle.mj_memstore.specs.Holding.{names_of}
use Rattle.mj_image.specs.Image.{IsShortPair}
use Rattle.mj_image.specs.Reading.{name_above}

abbrev pub key_of : Option Pair → Option (List ℕ)
key_of before = option_map (λ (p : Pair). p.key) before

abbrev pub pair_follows : Option Pair → Pair → Bool
pair_follows before p = is_above (key_of before) p.key

abbrev pub object_follows : Option HeldObject → HeldObject → Bool
object_follows before h = name_above (option_map (λ (x : HeldObject). x.name) before) h.name

pub rise_from_follow : (before : Option Pair) (ps : List Pair) → AllByRecursion IsShortPair ps → all_follow pair_follows before ps ≡ true → rise_above (key_of before) ps ≡ true
rise_from_follow before [] short e = refl
rise_from_follow before (p ∷ ps) short e =
    let parts = and_parts (pair_follows before p) (all_follow pair_follows (Some p) ps) e in
    and_from (is_above (key_of before) p.key && nat_le (length p.key) longest_key) (rise_above (Some p.key) ps)
    (and_from (is_above (key_of before) p.key) (nat_le (length p.key) longest_key) parts.0 (le-leb (length p.key) longest_key (let key = short.0.0 in omega (arith, key))))
    (rise_from_follow (Some p) ps short.1 parts.1)

pub follow_from_rise : (before : Option Pair) (ps : List Pair) → rise_above (key_of before) ps ≡ true → all_follow pair_follows before ps ≡ true
follow_from_rise before [] e = refl
follow_from_rise before (p ∷ ps) e =
    let parts = and_parts (is_above (key_of before) p.key && nat_le (length p.key) longest_key) (rise_above (Some p.key) ps) e in
    let front = and_parts (is_above (key_of before) p.key) (nat_le (length p.key) longest_key) parts.0 in
    and_from (pair_follows before p) (all_follow pair_follows (Some p) ps) front.0 (follow_from_rise (Some p) ps parts.1)

pub short_keys : (before : Option (List ℕ)) (ps : List Pair) → rise_above before ps ≡ true → AllByRecursion (λ (p : Pair). length p.key < 2 ^ 16) ps
short_keys before [] e = tt
short_keys before (p ∷ ps) e =
    let parts = and_parts (is_above before p.key && nat_le (length p.key) longest_key) (rise_above (Some p.key) ps) e in
    let front = and_parts (is_above before p.key) (nat_le (length p.key) longest_key) parts.0 in
    let le = leb-true (length p.key) longest_key front.1 in
    (omega (arith, le), short_keys (Some p.key) ps parts.1)

names_behind : (h : HeldObject) (hs : List HeldObject) → all_follow object_follows (Some h) hs ≡ true → is_rising object_order (names_of (h ∷ hs)) ≡ true
names_behind h [] e = refl
names_behind h (k ∷ ks) e =
    let parts = and_parts (object_follows (Some h) k) (all_follow object_follows (Some k) ks) e in
    and_from (is_lt (object_order h.name k.name)) (is_rising object_order (names_of (k ∷ ks))) parts.0 (names_behind k ks parts.1)

pub names_rise : (hs : List HeldObject) → all_follow object_follows None hs ≡ true → is_rising object_order (names_of hs) ≡ true
names_rise [] e = refl
names_rise (h ∷ hs) e = names_behind h hs (and_parts (object_follows None h) (all_follow object_follows (Some h) hs) e).1

follow_behind : (h : HeldObject) (hs : List HeldObject) → is_rising object_order (names_of (h ∷ hs)) ≡ true → all_follow object_follows (Some h) hs ≡ true
follow_behind h [] e = refl
follow_behind h (k ∷ ks) e =
    let parts = and_parts (is_lt (object_order h.name k.name)) (is_rising object_order (names_of (k ∷ ks))) e in
    and_from (object_follows (Some h) k) (all_follow object_follows (Some k) ks) parts.0 (follow_behind k ks parts.1)

pub names_follow : (hs : List HeldObject) → is_rising object_order (names_of hs) ≡ true → all_follow object_follows None hs ≡ true
names_follow [] e = refl
names_follow (h ∷ hs) e = and_from (object_follows None h) (all_follow object_follows (Some h) hs) refl (follow_behind h hs e)
