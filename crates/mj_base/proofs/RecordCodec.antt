-- A record's two laws.
use Rattle.std.proofs.Common.{◌≡◌, ℕ, ◌^◌, ◌<◌, ◌≤◌, Bool, true, false, cond, List, [], ◌∷◌, ◌++◌, length, Ok, Some, None, refl, sym, ap, subst, ◌∙◌, append_assoc, arith}
use Rattle.std.specs.Prelude.{IsTrue, ◌&&◌, ◌==◌, nat_le}
use Rattle.std.proofs.lemmas.Bool.{eqb-true, leb-true, le-leb}
use Rattle.mj_base.specs.declared.record.Kind.{Kind}
use Rattle.mj_base.specs.declared.record.Kind.TheVariants.{Dir, File, Symlink}
use Rattle.mj_base.specs.declared.record.InodeRecord.{InodeRecord}
use Rattle.mj_base.specs.Reading.{such, bytes_at, two, four, eight}
use Rattle.mj_base.specs.Record.{kind_code, kind_of, kind_at, target_at, record_at, record_bytes, IsRecord, target_length_fits}
use Rattle.mj_base.specs.Target.{has_no_zero}
use Rattle.mj_base.proofs.Codec.{IsBytes, IsCodec, first_takes, first_again, ok_is, u8_codec, u16_codec, u32_codec, u64_codec, bytes_codec, such_codec, standing_codec}

by_tests : (x : ℕ) (k : Kind) (a b c : Bool) → (a ≡ true → x ≡ 1) → (b ≡ true → x ≡ 2) → (c ≡ true → x ≡ 3) → cond a (Some Dir) (cond b (Some File) (cond c (Some Symlink) None)) ≡ Some k → x ≡ kind_code k
by_tests x Dir true b c f g h e = f refl
by_tests x File true b c f g h e = absurd cc
by_tests x Symlink true b c f g h e = absurd cc
by_tests x Dir false true c f g h e = absurd cc
by_tests x File false true c f g h e = g refl
by_tests x Symlink false true c f g h e = absurd cc
by_tests x Dir false false true f g h e = absurd cc
by_tests x File false false true f g h e = absurd cc
by_tests x Symlink false false true f g h e = h refl
by_tests x k false false false f g h e = absurd cc

kind_only : (x : ℕ) (k : Kind) → kind_of x ≡ Some k → x ≡ kind_code k
kind_only x k e = by_tests x k (x == 1) (x == 2) (x == 3) (eqb-true x 1) (eqb-true x 2) (eqb-true x 3) e

kind_there : (k : Kind) → kind_of (kind_code k) ≡ Some k
kind_there Dir = refl
kind_there File = refl
kind_there Symlink = refl

kind_small : (k : Kind) → kind_code k < 256
kind_small Dir = omega arith
kind_small File = omega arith
kind_small Symlink = omega arith

pub kind_codec : IsCodec kind_at (λ k. kind_code k ∷ []) (λ k. Unit {0})
kind_codec = standing_codec kind_of kind_code kind_only kind_there kind_small u8_codec

both_true : (a b : Bool) → a ≡ true → b ≡ true → (a && b) ≡ true
both_true true b p q = q
both_true false b p q = absurd cc

target_codec : (kind : Kind) → IsCodec (target_at kind) (λ t. two (length t) ++ t) (λ t. IsTrue (target_length_fits kind (length t)) × IsTrue (has_no_zero t) × (length t < 2 ^ 16))
unfolding target_at
target_codec kind = record { takes = takes kind; again = again kind }
  where
    takes : (kind : Kind) (bytes t rest : List ℕ) → IsBytes bytes → target_at kind bytes ≡ Ok (t, rest) → (bytes ≡ (two (length t) ++ t) ++ rest) × IsBytes rest × (IsTrue (target_length_fits kind (length t)) × IsTrue (has_no_zero t) × (length t < 2 ^ 16))
    takes kind bytes t rest fits e =
        first_takes (such_codec (target_length_fits kind) u16_codec) (λ n. such has_no_zero (bytes_at n.0) n.1) (t, rest) bytes _ fits e (λ n mid is mid_fits fit e1.
        let x = (such_codec has_no_zero (bytes_codec n)).takes mid t rest mid_fits e1 in
        let len : length t ≡ n = x.2.0 in (
          is ∙ ap (λ r. two n ++ r) x.0 ∙ ap (λ k. two k ++ (t ++ rest)) (sym len) ∙ sym (append_assoc (two (length t)) t rest),
          x.1,
          (rw len fit.1, x.2.1, rw len fit.0),
        ))

    again : (kind : Kind) (t rest : List ℕ) → IsTrue (target_length_fits kind (length t)) × IsTrue (has_no_zero t) × (length t < 2 ^ 16) → target_at kind ((two (length t) ++ t) ++ rest) ≡ Ok (t, rest)
    again kind t rest fits =
        ap (target_at kind) (append_assoc (two (length t)) t rest)
        ∙ first_again (such_codec (target_length_fits kind) u16_codec) (λ n. such has_no_zero (bytes_at n.0) n.1) (Ok (t, rest)) (length t) (t ++ rest) (fits.2, fits.0)
        ((such_codec has_no_zero (bytes_codec (length t))).again t rest (refl, fits.1))

parts : (a b : Bool) → (a && b) ≡ true → (a ≡ true) × (b ≡ true)
parts true b p = (refl, p)
parts false b p = absurd cc

length_small : (kind : Kind) (n : ℕ) → IsTrue (target_length_fits kind n) → n < 2 ^ 16
length_small Symlink n e = let le : n ≤ 4095 = leb-true n 4095 (parts (nat_le 1 n) (nat_le n 4095) e).1 in omega arith
length_small Dir n e = let is : n ≡ 0 = eqb-true n 0 e in omega arith
length_small File n e = let is : n ≡ 0 = eqb-true n 0 e in omega arith

record_takes : (bytes : List ℕ) (r : InodeRecord) (rest : List ℕ) → IsBytes bytes → record_at bytes ≡ Ok (r, rest) → (bytes ≡ record_bytes r ++ rest) × IsBytes rest × IsRecord r
unfolding record_at
record_takes bytes r rest fits e =
    first_takes (such_codec (λ v. v == 1) u8_codec) _ (r, rest) bytes _ fits e (λ version m1 s1 b1 f1 e1.
    first_takes u64_codec _ (r, rest) m1 _ b1 e1 (λ ino m2 s2 b2 f2 e2.
    first_takes kind_codec _ (r, rest) m2 _ b2 e2 (λ kind m3 s3 b3 f3 e3.
    first_takes (such_codec (λ m. nat_le m 0o7777) u16_codec) _ (r, rest) m3 _ b3 e3 (λ mode m4 s4 b4 f4 e4.
    first_takes u32_codec _ (r, rest) m4 _ b4 e4 (λ uid m5 s5 b5 f5 e5.
    first_takes u32_codec _ (r, rest) m5 _ b5 e5 (λ gid m6 s6 b6 f6 e6.
    first_takes u64_codec _ (r, rest) m6 _ b6 e6 (λ size m7 s7 b7 f7 e7.
    first_takes u64_codec _ (r, rest) m7 _ b7 e7 (λ mtime m8 s8 b8 f8 e8.
    first_takes u32_codec _ (r, rest) m8 _ b8 e8 (λ links m9 s9 b9 f9 e9.
    first_takes (target_codec kind) _ (r, rest) m9 _ b9 e9 (λ target m10 s10 b10 f10 e10.
    let made : InodeRecord × List ℕ = (record { ino = ino; kind = kind; mode = mode; uid = uid; gid = gid; size = size; mtime = mtime; links = links; target = target }, m10) in
    subst (λ (p : InodeRecord × List ℕ). (bytes ≡ record_bytes p.0 ++ p.1) × IsBytes p.1 × IsRecord p.0) (ok_is made (r, rest) e10) (
      s1 ∙ ap (λ (v : ℕ). v ∷ m1) (eqb-true _ _ f1.1) ∙ ap (λ (m : List ℕ). 1 ∷ m) (s2 ∙ ap (λ (m : List ℕ). eight ino ++ m) (s3 ∙ ap (λ (m : List ℕ). kind_code kind ∷ m) (s4 ∙ ap (λ (m : List ℕ). two mode ++ m) (s5
          ∙ ap (λ (m : List ℕ). four uid ++ m) (s6 ∙ ap (λ (m : List ℕ). four gid ++ m) (s7 ∙ ap (λ (m : List ℕ). eight size ++ m) (s8 ∙ ap (λ (m : List ℕ). eight mtime ++ m) (s9 ∙ ap (λ (m : List ℕ). four links ++ m) s10)))))))),
      b10,
      record { ino = f2; mode = leb-true _ _ f4.1; uid = f5; gid = f6; size = f7; mtime = f8; links = f9; target = both_true _ _ f10.0 f10.1 },
    )
    ))))))))))

record_again : (r : InodeRecord) (rest : List ℕ) → IsRecord r → record_at (record_bytes r ++ rest) ≡ Ok (r, rest)
unfolding record_at
record_again r rest fits =
    let t = parts _ _ fits.target in
    let m9 : List ℕ = (two (length r.target) ++ r.target) ++ rest in
    let m8 : List ℕ = four r.links ++ m9 in
    let m7 : List ℕ = eight r.mtime ++ m8 in
    let m6 : List ℕ = eight r.size ++ m7 in
    let m5 : List ℕ = four r.gid ++ m6 in
    let m4 : List ℕ = four r.uid ++ m5 in
    let m3 : List ℕ = two r.mode ++ m4 in
    let m2 : List ℕ = kind_code r.kind ∷ m3 in
    first_again u64_codec _ (Ok (r, rest)) r.ino m2 fits.ino
    (first_again kind_codec _ (Ok (r, rest)) r.kind m3 tt
    (first_again (such_codec (λ m. nat_le m 0o7777) u16_codec) _ (Ok (r, rest)) r.mode m4 (omega (arith, fits.mode), le-leb _ _ fits.mode)
    (first_again u32_codec _ (Ok (r, rest)) r.uid m5 fits.uid
    (first_again u32_codec _ (Ok (r, rest)) r.gid m6 fits.gid
    (first_again u64_codec _ (Ok (r, rest)) r.size m7 fits.size
    (first_again u64_codec _ (Ok (r, rest)) r.mtime m8 fits.mtime
    (first_again u32_codec _ (Ok (r, rest)) r.links m9 fits.links
    (first_again (target_codec r.kind) _ (Ok (r, rest)) r.target rest (t.0, t.1, length_small r.kind (length r.target) t.0) refl))))))))

pub record_codec : IsCodec record_at record_bytes IsRecord
record_codec = record { takes = record_takes; again = record_again }
