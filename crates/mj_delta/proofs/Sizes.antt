-- How many bytes an event in the grammar has.
use Rattle.std.proofs.Common.{◌≡◌, ℕ, ◌+◌, ◌*◌, ◌≤◌, Bool, true, nat_le, List, [], ◌∷◌, ◌++◌, length, Option, Some, None, refl, arith}
use Rattle.std.specs.List.{flat_map, AllByRecursion}
use Rattle.std.proofs.lemmas.List.{length-append}
use Rattle.std.proofs.lemmas.Bool.{and_parts, and_from, leb-true, le-leb, eqb-true}
use Rattle.mj_base.specs.Name.{is_name}
use Rattle.mj_base.specs.Reading.{all_follow, four, eight, optional}
use Rattle.mj_base.specs.Record.{record_bytes, target_length_fits, IsRecord}
use Rattle.mj_base.specs.declared.record.Kind.{Kind}
use Rattle.mj_base.specs.declared.record.Kind.TheVariants.{Dir, File, Symlink}
use Rattle.mj_base.specs.declared.record.InodeRecord.{InodeRecord}
use Rattle.mj_entry.specs.Entry.{IsPayload}
use Rattle.mj_meta.specs.declared.HeadBit.{HeadBit}
use Rattle.mj_meta.specs.declared.HeadBit.TheVariants.{At, Gone}
use Rattle.mj_meta.specs.declared.FullBit.{FullBit}
use Rattle.mj_meta.specs.declared.RemoteBit.{RemoteBit}
use Rattle.mj_meta.specs.declared.NullBit.{NullBit}
use Rattle.mj_meta.specs.declared.DirLump.{DirLump}
use Rattle.mj_meta.specs.Blob.{full_bytes, remote_bytes, null_bytes, head_bytes, lump_front, lump_bytes, blob_bytes, full_names, remote_names, name_follows, full_follows, remote_follows, null_follows, FullFits, RemoteFits, NullFits, IsLump}
use Rattle.mj_event.specs.declared.SessionKind.{SessionKind}
use Rattle.mj_event.specs.declared.SessionKind.TheVariants.{Open, Close}
use Rattle.mj_event.specs.declared.SessionEvent.{SessionEvent}
use Rattle.mj_event.specs.declared.UpdateEvent.{UpdateEvent}
use Rattle.mj_event.specs.declared.Event.{Event}
use Rattle.mj_event.specs.declared.Event.TheVariants.{Session, Update}
use Rattle.mj_event.specs.Event.{most_dropped, numbers, update_front, update_bytes, event_bytes, AreNumbers, IsSessionEvent, IsUpdateEvent}

-- ---- lists, one behind the other

joined_length : (a b : List ℕ) (m n : ℕ) → length a ≤ m → length b ≤ n → length (a ++ b) ≤ m + n
joined_length a b m n p q = simp length-append (omega arith)

-- a list of items, each of which is spelled in so many bytes
spelled_length : {A : Type 0} (spell : A → List ℕ) (Fits : A → Type 0) (follows : Option A → A → Bool) (most : ℕ)
    → ((before : Option A) (x : A) → Fits x → follows before x ≡ true → length (spell x) ≤ most)
    → (before : Option A) (xs : List A) → AllByRecursion Fits xs → all_follow follows before xs ≡ true → length (flat_map spell xs) ≤ length xs * most
spelled_length spell Fits follows most each before [] fit rise = omega arith
spelled_length spell Fits follows most each before (x ∷ xs) fit rise =
    let parts = and_parts (follows before x) _ rise in
    let both = joined_length (spell x) (flat_map spell xs) most (length xs * most) (each before x fit.0 parts.0) (spelled_length spell Fits follows most each (Some x) xs fit.1 parts.1) in
    omega (arith, both)

pub flat_length : (ns : List ℕ) → length (flat_map eight ns) ≡ 8 * length ns
flat_length [] = refl
flat_length (n ∷ ns) = let e = flat_length ns in omega (arith, e)

pub optional_length : (o : Option ℕ) → length (optional eight o) ≤ 9
optional_length None = omega arith
optional_length (Some n) = omega arith

pub few_numbers : (most : ℕ) (ns : List ℕ) → AreNumbers 0 most ns → length ns ≤ most
few_numbers most ns are = leb-true (length ns) most (and_parts (nat_le 0 (length ns)) _ are.0).1

numbers_length : (ns : List ℕ) → length ns ≤ 64 → length (numbers ns) ≤ 516
numbers_length ns few = let e = flat_length ns in omega (arith, e)

-- ---- a dentry

-- a name is short
name_short : (others : List (List ℕ)) (before : Option (List ℕ)) (name : List ℕ) → name_follows others before name ≡ true → length name ≤ 255
name_short others before name h =
    let named = (and_parts (is_name name) _ (and_parts _ _ h).0).0 in
    leb-true (length name) 255 (and_parts (nat_le 1 (length name)) _ (and_parts _ _ (and_parts _ _ named).0).0).1

target_short : (kind : Kind) (n : ℕ) → target_length_fits kind n ≡ true → n ≤ 4095
target_short Dir n h = let e = eqb-true n 0 h in omega (arith, e)
target_short File n h = let e = eqb-true n 0 h in omega (arith, e)
target_short Symlink n h = leb-true n 4095 (and_parts (nat_le 1 n) _ h).1

record_length : (r : InodeRecord) → IsRecord r → length (record_bytes r) ≤ 4137
record_length r fits = let short = target_short r.kind (length r.target) (and_parts _ _ fits.target).0 in omega (arith, short)

full_length : (before : Option FullBit) (b : FullBit) → FullFits b → full_follows before b ≡ true → length (full_bytes b) ≤ 4402
full_length before b fits follows =
    let short = name_short [] _ b.name follows in
    let record_most = record_length b.inode fits.1 in
    simp length-append (omega (arith, short, record_most))

remote_length : (others : List (List ℕ)) (before : Option RemoteBit) (b : RemoteBit) → RemoteFits b → remote_follows others before b ≡ true → length (remote_bytes b) ≤ 274
remote_length others before b fits follows =
    let short = name_short others _ b.name follows in
    simp length-append (omega (arith, short))

null_length : (others : List (List ℕ)) (before : Option NullBit) (b : NullBit) → NullFits b → null_follows others before b ≡ true → length (null_bytes b) ≤ 265
null_length others before b fits follows =
    let short = name_short others _ b.name follows in
    simp length-append (omega (arith, short))

-- ---- lumps

head_length : (h : HeadBit) → length (head_bytes h) ≤ 9
head_length (At version) = omega arith
head_length Gone = omega arith

front_length : (l : DirLump) → length (lump_front l) ≤ 29
front_length l = let head = head_length l.head in simp length-append (omega (arith, head))

-- no more than these bytes
abbrev pub lump_most : DirLump → ℕ
lump_most l = 29 + length l.full * 4402 + length l.remote * 274 + length l.null * 265

abbrev pub lumps_most : List DirLump → ℕ
lumps_most [] = 0
lumps_most (l ∷ ls) = lump_most l + lumps_most ls

lump_length : (l : DirLump) → IsLump l → length (lump_bytes l) ≤ lump_most l
lump_length l is =
    let full = spelled_length full_bytes FullFits full_follows 4402 full_length None l.full is.full.0 is.full.1 in
    let remote = spelled_length remote_bytes RemoteFits (remote_follows (full_names l.full)) 274 (remote_length _) None l.remote is.remote.0 is.remote.1 in
    let null = spelled_length null_bytes NullFits (null_follows (full_names l.full ++ remote_names l.remote)) 265 (null_length _) None l.null is.null.0 is.null.1 in
    let two = joined_length (lump_front l) (flat_map full_bytes l.full) 29 (length l.full * 4402) (front_length l) full in
    let three = joined_length (lump_front l ++ flat_map full_bytes l.full) (flat_map remote_bytes l.remote) _ (length l.remote * 274) two remote in
    joined_length (lump_front l ++ flat_map full_bytes l.full ++ flat_map remote_bytes l.remote) (flat_map null_bytes l.null) _ (length l.null * 265) three null

lumps_length : (ls : List DirLump) → AllByRecursion IsLump ls → length (flat_map lump_bytes ls) ≤ lumps_most ls
lumps_length [] fit = omega arith
lumps_length (l ∷ ls) fit = joined_length (lump_bytes l) (flat_map lump_bytes ls) (lump_most l) (lumps_most ls) (lump_length l fit.0) (lumps_length ls fit.1)

-- ---- events

payload : (e : Event) → length (event_bytes e) ≤ 65516 → IsPayload (event_bytes e)
payload e most = and_from _ _ (le-leb 1 (length (event_bytes e)) (omega arith)) (le-leb (length (event_bytes e)) 65516 most)

few_dropped : (kind : SessionKind) (ns : List ℕ) → AreNumbers 0 (most_dropped kind) ns → length ns ≤ 64
few_dropped Open ns are = let few = few_numbers 0 ns are in omega (arith, few)
few_dropped Close ns are = few_numbers 64 ns are

pub session_fits : (e : SessionEvent) → IsSessionEvent e → IsPayload (event_bytes (Session e))
session_fits e is =
    let few = numbers_length e.dropped (few_dropped e.kind e.dropped is.dropped) in
    payload (Session e) (omega (arith, few))

update_length : (front dropped next opened released blob : List ℕ) → length front ≤ 30 → length dropped ≤ 516 → length next ≤ 9 → length opened ≤ 9 → length released ≤ 9 → length blob ≤ 64939
    → length (front ++ dropped ++ next ++ opened ++ released ++ blob) ≤ 65512
update_length front dropped next opened released blob a b c d e f = simp length-append (omega arith)

pub update_fits : (e : UpdateEvent) → IsUpdateEvent e → lumps_most e.blob.lumps ≤ 64935 → IsPayload (event_bytes (Update e))
update_fits e is most =
    let oldest = optional_length e.oldest in
    let lumps = lumps_length e.blob.lumps is.blob.lumps.0 in
    let dropped = numbers_length e.dropped (few_numbers 64 e.dropped is.dropped) in
    let all = update_length (update_front e) (numbers e.dropped) (optional eight e.next) (optional eight e.opened) (optional eight e.released) (blob_bytes e.blob)
    (omega (arith, oldest)) dropped (optional_length e.next) (optional_length e.opened) (optional_length e.released) (omega (arith, lumps, most)) in
    payload (Update e) (joined_length (four 20) (update_bytes e) 4 65512 (omega arith) all)
