-- The headers that may stand, through each event.
use Rattle.std.proofs.Common.{◌≡◌, ◌⊎◌, inl, inr, ℕ, ◌≤◌, cond, List, [], ◌∷◌, ◌++◌, length, Option, Some, None, Ok, Err, refl, sym, ◌∙◌, ap, subst, arith}
use Rattle.std.specs.Prelude.{◌==◌}
use Rattle.mj_base.specs.declared.damage.Damage.TheVariants as damage
use Rattle.mj_store.specs.Object.{Content, applied}
use Rattle.mj_store.specs.State.{Pending}
use Rattle.mj_store.specs.Causes.{In}
use Rattle.mj_store.specs.Along.{HasOp}
use Rattle.mj_store.specs.declared.act.ObjectAct.TheVariants.{Write}
use Rattle.mj_store.proofs.Numbers.{append_has, append_last}
use Rattle.mj_layout.specs.Header.{header_bytes, header_of, IsHeader}
use Rattle.mj_layout.specs.declared.Header.{Header}
use Rattle.mj_layout.proofs.HeaderLaw.{header_back}
use Rattle.mj_recovery.specs.Journal.{header_in, of_format}
use Rattle.mj_facts.specs.Headers.{HeadSent, may_stand, newest, ArePending, Stands, HoldsJust, HeaderStands, Climbs}
use Rattle.mj_facts.specs.Calls.{with_head}
use Rattle.mj_facts.proofs.Bytes.{held_over}

-- ---- one header in bytes

pub header_long : (h : Header) → length (header_bytes h) ≡ 69
header_long h = refl

-- what an object that holds just a header's bytes is read as
pub header_is : (held : Option Content) (h : Header) → HoldsJust (header_bytes h) held → IsHeader h → h.format ≡ 1 → header_in held ≡ Ok h
header_is None h e sound format = absurd cc
header_is (Some o) h e sound format =
    let is : o.bytes ≡ header_bytes h = cc in
    ap of_format (ap header_of is ∙ header_back h sound) ∙ ap (λ f. cond (f == 0) (Err damage.Legacy) (Ok h)) format

-- ---- which of them stands

pending_map : (hs : List HeadSent) (rest rest' : List Pending) → ((o : ℕ) → HasOp o rest → HasOp o rest') → ArePending hs rest → ArePending hs rest'
pending_map [] rest rest' sub p = tt
pending_map (h ∷ hs) rest rest' sub p = (sub h.op p.0, pending_map hs rest rest' sub p.1)

pub stands_map : (stood : Header) (heads : List HeadSent) (rest rest' : List Pending) (header : Header) → ((o : ℕ) → HasOp o rest → HasOp o rest') → Stands stood heads rest header → Stands stood heads rest' header
stands_map stood [] rest rest' header sub e = e
stands_map stood (h ∷ hs) rest rest' header sub (inl s) = inl (s.0, pending_map (h ∷ hs) rest rest' sub s.1)
stands_map stood (h ∷ hs) rest rest' header sub (inr s) = inr (stands_map h.header hs rest rest' header sub s)

pending_last : (hs : List HeadSent) (k : HeadSent) (rest : List Pending) (q : Pending) → q.op ≡ k.op → ArePending hs rest → ArePending (hs ++ k ∷ []) (rest ++ q ∷ [])
pending_last [] k rest q e p = (subst (λ o. HasOp o (rest ++ q ∷ [])) e (append_last rest q), tt)
pending_last (h ∷ hs) k rest q e p = (append_has h.op rest (q ∷ []) p.0, pending_last hs k rest q e p.1)

-- one more is sent, and is pending
pub stands_early : (stood : Header) (heads : List HeadSent) (k : HeadSent) (rest : List Pending) (q : Pending) (header : Header) → q.op ≡ k.op → Stands stood heads rest header → Stands stood (heads ++ k ∷ []) (rest ++ q ∷ []) header
stands_early stood [] k rest q header e s = inl (s, pending_last [] k rest q e tt)
stands_early stood (h ∷ hs) k rest q header e (inl s) = inl (s.0, pending_last (h ∷ hs) k rest q e s.1)
stands_early stood (h ∷ hs) k rest q header e (inr s) = inr (stands_early h.header hs k rest q header e s)

-- the last one stands
pub stands_last : (stood : Header) (heads : List HeadSent) (k : HeadSent) (rest : List Pending) → Stands stood (heads ++ k ∷ []) rest k.header
stands_last stood [] k rest = inr refl
stands_last stood (h ∷ hs) k rest = inr (stands_last h.header hs k rest)

pending_among : (hs : List HeadSent) (k : HeadSent) (more : List HeadSent) (rest : List Pending) → ArePending (hs ++ k ∷ more) rest → HasOp k.op rest
pending_among [] k more rest p = p.0
pending_among (h ∷ hs) k more rest p = pending_among hs k more rest p.1

-- one is known to be applied, so it stands or one after it
pub stands_settled : (stood : Header) (earlier : List HeadSent) (k : HeadSent) (later : List HeadSent) (rest : List Pending) (header : Header)
    → (HasOp k.op rest → ⊥) → Stands stood (earlier ++ k ∷ later) rest header → Stands k.header later rest header
stands_settled stood [] k later rest header gone (inl s) = absurd (gone s.1.0)
stands_settled stood [] k later rest header gone (inr s) = s
stands_settled stood (h ∷ hs) k later rest header gone (inl s) = absurd (gone (pending_among (h ∷ hs) k later rest s.1))
stands_settled stood (h ∷ hs) k later rest header gone (inr s) = stands_settled h.header hs k later rest header gone s

-- it is one of those that may
pub stands_in : (stood : Header) (heads : List HeadSent) (rest : List Pending) (header : Header) → Stands stood heads rest header → In header (may_stand stood heads)
stands_in stood [] rest header e = inl (sym e)
stands_in stood (h ∷ hs) rest header (inl s) = inl (sym s.0)
stands_in stood (h ∷ hs) rest header (inr s) = inr (stands_in h.header hs rest header s)

pub may_more : (stood : Header) (heads : List HeadSent) (k : HeadSent) (h : Header) → In h (may_stand stood (heads ++ k ∷ [])) → In h (may_stand stood heads) ⊎ (k.header ≡ h)
may_more stood heads k h (inl e) = inl (inl e)
may_more stood [] k h (inr (inl e)) = inr e
may_more stood [] k h (inr (inr i)) = absurd i
may_more stood (x ∷ xs) k h (inr i) = elim (may_more x.header xs k h i) [ inl a ↦ inl (inr a) | inr e ↦ inr e ]

pub may_settled : (stood : Header) (earlier : List HeadSent) (k : HeadSent) (later : List HeadSent) (h : Header) → In h (may_stand k.header later) → In h (may_stand stood (earlier ++ k ∷ later))
may_settled stood [] k later h i = inr i
may_settled stood (x ∷ xs) k later h i = inr (may_settled x.header xs k later h i)

-- ---- their expires

-- none is below the first
pub climbs_low : (stood : Header) (heads : List HeadSent) (h : Header) → Climbs stood heads → In h (may_stand stood heads) → stood.expire ≤ h.expire
climbs_low stood heads h c (inl e) = omega (arith, ap (λ (x : Header). x.expire) e)
climbs_low stood [] h c (inr i) = absurd i
climbs_low stood (x ∷ xs) h c (inr i) = omega (arith, c.0, climbs_low x.header xs h c.1 i)

-- none is above the last
pub climbs_high : (stood : Header) (heads : List HeadSent) (h : Header) → Climbs stood heads → In h (may_stand stood heads) → h.expire ≤ (newest stood heads).expire
climbs_high stood [] h c (inl e) = omega (arith, ap (λ (x : Header). x.expire) e)
climbs_high stood [] h c (inr i) = absurd i
climbs_high stood (x ∷ xs) h c (inl e) = omega (arith, ap (λ (y : Header). y.expire) e, c.0, climbs_high x.header xs x.header c.1 (inl refl))
climbs_high stood (x ∷ xs) h c (inr i) = climbs_high x.header xs h c.1 i

pub climbs_more : (stood : Header) (heads : List HeadSent) (k : HeadSent) → (newest stood heads).expire ≤ k.header.expire → Climbs stood heads → Climbs stood (heads ++ k ∷ [])
climbs_more stood [] k h c = (h, tt)
climbs_more stood (x ∷ xs) k h c = (c.0, climbs_more x.header xs k h c.1)

pub climbs_settled : (stood : Header) (earlier : List HeadSent) (k : HeadSent) (later : List HeadSent) → Climbs stood (earlier ++ k ∷ later) → Climbs k.header later
climbs_settled stood [] k later c = c.1
climbs_settled stood (x ∷ xs) k later c = climbs_settled x.header xs k later c.1

-- ---- the header's object

pub header_stands_map : (stood : Header) (heads : List HeadSent) (held : Option Content) (rest rest' : List Pending) → ((o : ℕ) → HasOp o rest → HasOp o rest') → HeaderStands stood heads held rest → HeaderStands stood heads held rest'
header_stands_map stood heads held rest rest' sub h = record { header = h.header; is = h.is; stands = stands_map stood heads rest rest' h.header sub h.stands }

pub header_stands_early : (stood : Header) (heads : List HeadSent) (op : ℕ) (header : Header) (held : Option Content) (rest : List Pending) (q : Pending) → q.op ≡ op
    → HeaderStands stood heads held rest → HeaderStands stood (with_head op header heads) held (rest ++ q ∷ [])
header_stands_early stood heads op header held rest q e h = record { header = h.header; is = h.is; stands = stands_early stood heads (record { op = op; header = header }) rest q h.header e h.stands }

pub header_stands_last : (stood : Header) (heads : List HeadSent) (op : ℕ) (header : Header) (held : Option Content)
    → HeaderStands stood heads held [] → HeaderStands stood (with_head op header heads) (applied (Write 0 (header_bytes header)) held) []
header_stands_last stood heads op header held h = record {
  header = header;
  is = held_over (header_bytes header) (header_bytes h.header) held (omega (arith, header_long header, header_long h.header)) h.is;
  stands = stands_last stood heads (record { op = op; header = header }) [];
}

pub header_stands_settled : (stood : Header) (earlier : List HeadSent) (k : HeadSent) (later : List HeadSent) (held : Option Content) (rest : List Pending) → (HasOp k.op rest → ⊥)
    → HeaderStands stood (earlier ++ k ∷ later) held rest → HeaderStands k.header later held rest
header_stands_settled stood earlier k later held rest gone h = record { header = h.header; is = h.is; stands = stands_settled stood earlier k later rest h.header gone h.stands }
