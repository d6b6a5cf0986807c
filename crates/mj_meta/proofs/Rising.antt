-- The names of bits that were read rise.
use Rattle.std.proofs.Common.{◌≡◌, ℕ, Bool, true, cond, ◌&&◌, not, List, [], ◌∷◌, length, Option, Some, None, Ok, Err, refl, sym, ap, ◌∙◌}
use Rattle.std.specs.Prelude.{option_map, nat_le}
use Rattle.std.specs.declared.cmp.Ordering.{Ordering}
use Rattle.std.specs.declared.cmp.Ordering.TheVariants.{Less, Equal, Greater}
use Rattle.std.specs.Ordering.{is_lt}
use Rattle.mj_base.specs.InOrder.{bytes_cmp}
use Rattle.mj_base.specs.Reading.{such, bytes_at, u16_at, u64_at, all_follow, run_at}
use Rattle.mj_base.specs.Record.{kind_at, record_at}
use Rattle.mj_base.proofs.Codec.{bind_ok, guard_ok, ok_is, true_and}
use Rattle.mj_meta.specs.declared.FullBit.{FullBit}
use Rattle.mj_meta.specs.declared.RemoteBit.{RemoteBit}
use Rattle.mj_meta.specs.Blob.{name_follows, full_follows, remote_follows, is_no_dir, is_in}
use Rattle.mj_meta.specs.BlobReading.{name_at, full_at, remote_at}
use Rattle.mj_meta.specs.Earlier.{NamesRise}
use Rattle.mj_meta.proofs.Runs.{run_follows}

name_follows-read : (others : List (List ℕ)) (before : Option (List ℕ)) (bytes name rest : List ℕ) → name_at others before bytes ≡ Ok (name, rest) → name_follows others before name ≡ true
unfolding name_at
name_follows-read others before bytes name rest e =
    let a = bind_ok (such (λ n. nat_le 1 n && nat_le n 255) u16_at bytes) (λ n. such (name_follows others before) (bytes_at n.0) n.1) (name, rest) e in
    let b = bind_ok (bytes_at a.0.0 a.0.1) (λ x. cond (name_follows others before x.0) (Ok x) (Err (length a.0.1))) (name, rest) a.2 in
    let g = guard_ok (name_follows others before b.0.0) (length a.0.1) b.0 (name, rest) b.2 in
    ap (λ (p : List ℕ × List ℕ). name_follows others before p.0) (sym g.1) ∙ g.0

full_follows-read : (before : Option FullBit) (bytes : List ℕ) (b : FullBit) (rest : List ℕ) → full_at before bytes ≡ Ok (b, rest) → full_follows before b ≡ true
unfolding full_at
full_follows-read before bytes b rest e =
    let a = bind_ok (name_at [] (option_map (λ (x : FullBit). x.name) before) bytes) _ (b, rest) e in
    let v = bind_ok (u64_at a.0.1) _ (b, rest) a.2 in
    let r = bind_ok (record_at v.0.1) _ (b, rest) v.2 in
    let made : FullBit × List ℕ = (record { name = a.0.0; version = v.0.0; inode = r.0.0 }, r.0.1) in
    ap (λ (p : FullBit × List ℕ). full_follows before p.0) (sym (ok_is made (b, rest) r.2)) ∙ name_follows-read [] _ bytes a.0.0 a.0.1 a.1

remote_follows-read : (others : List (List ℕ)) (before : Option RemoteBit) (bytes : List ℕ) (b : RemoteBit) (rest : List ℕ) → remote_at others before bytes ≡ Ok (b, rest) → remote_follows others before b ≡ true
unfolding remote_at
remote_follows-read others before bytes b rest e =
    let a = bind_ok (name_at others (option_map (λ (x : RemoteBit). x.name) before) bytes) _ (b, rest) e in
    let v = bind_ok (u64_at a.0.1) _ (b, rest) a.2 in
    let i = bind_ok (u64_at v.0.1) _ (b, rest) v.2 in
    let k = bind_ok (such is_no_dir kind_at i.0.1) _ (b, rest) i.2 in
    let made : RemoteBit × List ℕ = (record { name = a.0.0; version = v.0.0; ino = i.0.0; kind = k.0.0 }, k.0.1) in
    ap (λ (p : RemoteBit × List ℕ). remote_follows others before p.0) (sym (ok_is made (b, rest) k.2)) ∙ name_follows-read others _ bytes a.0.0 a.0.1 a.1

is_less : (o : Ordering) → is_lt o ≡ true → o ≡ Less
is_less Less e = refl
is_less Equal e = absurd cc
is_less Greater e = absurd cc

above : (others : List (List ℕ)) (a b : List ℕ) → name_follows others (Some a) b ≡ true → bytes_cmp a b ≡ Less
above others a b e = is_less _ (true_and _ _ (true_and _ (not (is_in others b)) e).0).1

module _ {B : Type 0} (name : B → List ℕ) (follows : Option B → B → Bool) (less : (x y : B) → follows (Some x) y ≡ true → bytes_cmp (name x) (name y) ≡ Less) where
  rising : (before : Option B) (xs : List B) → all_follow follows before xs ≡ true → NamesRise name xs
  rising before [] e = tt
  rising before (x ∷ []) e = tt
  rising before (x ∷ y ∷ xs) e =
      let rest = (true_and (follows before x) (all_follow follows (Some x) (y ∷ xs)) e).1 in
      (less x y (true_and (follows (Some x) y) (all_follow follows (Some y) xs) rest).0, rising (Some x) (y ∷ xs) rest)

pub fulls_rise : (n : ℕ) (bytes : List ℕ) (bits : List FullBit) (rest : List ℕ) → run_at full_at n None bytes ≡ Ok (bits, rest) → NamesRise (λ (b : FullBit). b.name) bits
fulls_rise n bytes bits rest e =
    rising (λ (b : FullBit). b.name) full_follows (λ x y h. above [] x.name y.name h) None bits
    (run_follows full_at full_follows full_follows-read n None bytes bits rest e)

pub remotes_rise : (others : List (List ℕ)) (n : ℕ) (bytes : List ℕ) (bits : List RemoteBit) (rest : List ℕ) → run_at (remote_at others) n None bytes ≡ Ok (bits, rest) → NamesRise (λ (b : RemoteBit). b.name) bits
remotes_rise others n bytes bits rest e =
    rising (λ (b : RemoteBit). b.name) (remote_follows others) (λ x y h. above others x.name y.name h) None bits
    (run_follows (remote_at others) (remote_follows others) (remote_follows-read others) n None bytes bits rest e)
