-- What the values of dentries say: equal contents, and what lies in a list.
use Rattle.std.proofs.Common.{◌≡◌, ℕ, zero, suc, true, List, [], ◌∷◌, ◌++◌, Option, Some, None, Ok, refl, sym, ap, ◌∙◌, inl, inr, arith}
use Rattle.std.specs.Prelude.{◌==◌, Contains}
use Rattle.std.proofs.lemmas.Bool.{false≢true, eqb-true, eq-eqb, and_parts, and_from}
use Rattle.std.proofs.lemmas.Cmp.{nat_list_eq_equiv}
use Rattle.mj_base.specs.InOrder.{same_bytes}
use Rattle.mj_base.specs.Reading.{Read}
use Rattle.mj_base.specs.Record.{IsRecord, record_at, record_bytes, same_kind}
use Rattle.mj_base.specs.declared.record.Kind.{Kind}
use Rattle.mj_base.specs.declared.record.Kind.TheVariants.{Dir, File, Symlink}
use Rattle.mj_base.specs.declared.record.InodeRecord.{InodeRecord}
use Rattle.mj_base.proofs.RecordCodec.{record_codec}
use Rattle.mj_cells.specs.declared.cell.CellValue.{CellValue}
use Rattle.mj_cells.specs.declared.cell.CellValue.TheVariants as value
use Rattle.mj_machine.specs.Delta.{same_content}
use Rattle.mj_delta.specs.Plan.Naming.{Full, Remote}
use Rattle.mj_delta.specs.Plan.{Naming}
use Rattle.mj_delta.proofs.Lists.{Lies}
use Rattle.mj_delta.proofs.Plans.{written}
use Rattle.mj_delta.proofs.Planned.{same_names}

pub contains_lies : {A : Type 0} (xs : List A) (x : A) → Contains xs x → Lies x xs
contains_lies [] x c = absurd (omega (arith, c.1))
contains_lies (y ∷ ys) x (zero, lt, e) = inl e
contains_lies (y ∷ ys) x (suc k, lt, e) = inr (contains_lies ys x (k, omega (arith, lt), e))

pub lies_contains : {A : Type 0} (xs : List A) (x : A) → Lies x xs → Contains xs x
lies_contains [] x l = absurd l
lies_contains (y ∷ ys) x (inl e) = (zero, omega arith, e)
lies_contains (y ∷ ys) x (inr l) = let w = lies_contains ys x l in (suc w.0, omega (arith, w.1), w.2)

pub same_bytes_self : (a : List ℕ) → same_bytes a a ≡ true
same_bytes_self a = nat_list_eq_equiv.refl a

-- ---- kinds and records

pub same_kind_is : (k l : Kind) → same_kind k l ≡ true → k ≡ l
same_kind_is Dir Dir e = refl
same_kind_is Dir File e = absurd (false≢true e)
same_kind_is Dir Symlink e = absurd (false≢true e)
same_kind_is File Dir e = absurd (false≢true e)
same_kind_is File File e = refl
same_kind_is File Symlink e = absurd (false≢true e)
same_kind_is Symlink Dir e = absurd (false≢true e)
same_kind_is Symlink File e = absurd (false≢true e)
same_kind_is Symlink Symlink e = refl

same_kind_self : (k : Kind) → same_kind k k ≡ true
same_kind_self Dir = refl
same_kind_self File = refl
same_kind_self Symlink = refl

ok_record : (a b : InodeRecord) (rest : List ℕ) → ◌≡◌ {A = Read InodeRecord} (Ok (a, rest)) (Ok (b, rest)) → a ≡ b
ok_record a b rest e = let pairs : (a, rest) ≡ (b, rest) = cc in ap (λ (p : InodeRecord × List ℕ). p.0) pairs

pub record_same : (a b : InodeRecord) → IsRecord a → IsRecord b → same_bytes (record_bytes a) (record_bytes b) ≡ true → a ≡ b
record_same a b fa fb e = ok_record a b [] (sym (record_codec.again a [] fa) ∙ ap (λ bytes. record_at (bytes ++ [])) (same_names (record_bytes a) (record_bytes b) e) ∙ record_codec.again b [] fb)

-- ---- values

-- what the value of a dentry says
abbrev pub naming_of : CellValue → Option Naming
naming_of (value.Full v r) = Some (Full r)
naming_of (value.Remote v i k) = Some (Remote i k)
naming_of _ = None

abbrev pub IsOfDentry : CellValue → Type 0
IsOfDentry (value.Full v r) = IsRecord r
IsOfDentry (value.Remote v i k) = Unit {0}
IsOfDentry (value.Null v) = Unit {0}
IsOfDentry value.Gone = Unit {0}
IsOfDentry _ = ⊥

full_full : {a b : InodeRecord} → ◌≡◌ {A = Option Naming} (Some (Full a)) (Some (Full b)) → a ≡ b
full_full e = cc

remote_ino : {i j : ℕ} {k l : Kind} → ◌≡◌ {A = Option Naming} (Some (Remote i k)) (Some (Remote j l)) → i ≡ j
remote_ino e = cc

remote_kind : {i j : ℕ} {k l : Kind} → ◌≡◌ {A = Option Naming} (Some (Remote i k)) (Some (Remote j l)) → k ≡ l
remote_kind e = cc

-- what says the same has the same content
pub same_said : (a b : CellValue) → IsOfDentry a → IsOfDentry b → naming_of a ≡ naming_of b → same_content a b ≡ true
same_said (value.Full v r) (value.Full w z) f g e = ap (λ (z : InodeRecord). same_bytes (record_bytes r) (record_bytes z)) (sym (full_full e)) ∙ same_bytes_self (record_bytes r)
same_said (value.Full v r) (value.Remote w j l) f g e = absurd cc
same_said (value.Full v r) (value.Null w) f g e = absurd cc
same_said (value.Full v r) value.Gone f g e = absurd cc
same_said (value.Full v r) (value.Number n) f g e = absurd g
same_said (value.Full v r) value.Present f g e = absurd g
same_said (value.Remote v i k) (value.Full w z) f g e = absurd cc
same_said (value.Remote v i k) (value.Remote w j l) f g e = and_from (i == j) (same_kind k l) (eq-eqb i j (remote_ino e)) (ap (same_kind k) (sym (remote_kind e)) ∙ same_kind_self k)
same_said (value.Remote v i k) (value.Null w) f g e = absurd cc
same_said (value.Remote v i k) value.Gone f g e = absurd cc
same_said (value.Remote v i k) (value.Number n) f g e = absurd g
same_said (value.Remote v i k) value.Present f g e = absurd g
same_said (value.Null v) (value.Full w z) f g e = absurd cc
same_said (value.Null v) (value.Remote w j l) f g e = absurd cc
same_said (value.Null v) (value.Null w) f g e = refl
same_said (value.Null v) value.Gone f g e = refl
same_said (value.Null v) (value.Number n) f g e = absurd g
same_said (value.Null v) value.Present f g e = absurd g
same_said value.Gone (value.Full w z) f g e = absurd cc
same_said value.Gone (value.Remote w j l) f g e = absurd cc
same_said value.Gone (value.Null w) f g e = refl
same_said value.Gone value.Gone f g e = refl
same_said value.Gone (value.Number n) f g e = absurd g
same_said value.Gone value.Present f g e = absurd g
same_said (value.Number n) b f g e = absurd f
same_said value.Present b f g e = absurd f

-- and what has the same content says the same
pub said_same : (a b : CellValue) → IsOfDentry a → IsOfDentry b → same_content a b ≡ true → naming_of a ≡ naming_of b
said_same (value.Full v r) (value.Full w z) f g e = ap (λ (z : InodeRecord). Some (Full z)) (record_same r z f g e)
said_same (value.Full v r) (value.Remote w j l) f g e = absurd (false≢true e)
said_same (value.Full v r) (value.Null w) f g e = absurd (false≢true e)
said_same (value.Full v r) value.Gone f g e = absurd (false≢true e)
said_same (value.Full v r) (value.Number n) f g e = absurd g
said_same (value.Full v r) value.Present f g e = absurd g
said_same (value.Remote v i k) (value.Full w z) f g e = absurd (false≢true e)
said_same (value.Remote v i k) (value.Remote w j l) f g e = let w = and_parts (i == j) (same_kind k l) e in (λ z. Some (Remote (eqb-true i j w.0 z) (same_kind_is k l w.1 z)))
said_same (value.Remote v i k) (value.Null w) f g e = absurd (false≢true e)
said_same (value.Remote v i k) value.Gone f g e = absurd (false≢true e)
said_same (value.Remote v i k) (value.Number n) f g e = absurd g
said_same (value.Remote v i k) value.Present f g e = absurd g
said_same (value.Null v) (value.Full w z) f g e = absurd (false≢true e)
said_same (value.Null v) (value.Remote w j l) f g e = absurd (false≢true e)
said_same (value.Null v) (value.Null w) f g e = refl
said_same (value.Null v) value.Gone f g e = refl
said_same (value.Null v) (value.Number n) f g e = absurd g
said_same (value.Null v) value.Present f g e = absurd g
said_same value.Gone (value.Full w z) f g e = absurd (false≢true e)
said_same value.Gone (value.Remote w j l) f g e = absurd (false≢true e)
said_same value.Gone (value.Null w) f g e = refl
said_same value.Gone value.Gone f g e = refl
said_same value.Gone (value.Number n) f g e = absurd g
said_same value.Gone value.Present f g e = absurd g
said_same (value.Number n) b f g e = absurd f
said_same value.Present b f g e = absurd f

pub naming_of_written : (v : ℕ) (n : Option Naming) → naming_of (written v n) ≡ n
naming_of_written v None = refl
naming_of_written v (Some (Full r)) = refl
naming_of_written v (Some (Remote i k)) = refl

-- what is planned for a dentry has a spelling
abbrev pub SaidFits : Option Naming → Type 0
SaidFits (Some (Full r)) = IsRecord r
SaidFits _ = Unit {0}

pub written_of_dentry : (v : ℕ) (n : Option Naming) → SaidFits n → IsOfDentry (written v n)
written_of_dentry v None f = tt
written_of_dentry v (Some (Full r)) f = f
written_of_dentry v (Some (Remote i k)) f = tt
