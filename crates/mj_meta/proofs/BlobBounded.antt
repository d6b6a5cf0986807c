-- Reading a blob goes forward.
use Rattle.std.proofs.Common.{◌≡◌, ℕ, ◌≤◌, List, [], length, ◌&&◌, ◌++◌, Option, None, Ok, Err}
use Rattle.std.specs.Prelude.{nat_le, nat_lt, option_map}
use Rattle.mj_base.specs.Reading.{is_above}
use Rattle.mj_base.proofs.Bounded.{IsBounded, field_within, then_within, such_bounded, bytes_bounded, u16_bounded, u32_bounded, u64_bounded, optional_bounded, run_bounded}
use Rattle.mj_base.proofs.RecordBounded.{kind_bounded, record_bounded}
use Rattle.mj_meta.specs.declared.FullBit.{FullBit}
use Rattle.mj_meta.specs.declared.RemoteBit.{RemoteBit}
use Rattle.mj_meta.specs.declared.NullBit.{NullBit}
use Rattle.mj_meta.specs.declared.DirLump.{DirLump}
use Rattle.mj_meta.specs.declared.MetaBlob.{MetaBlob}
use Rattle.mj_meta.specs.Blob.{name_follows, is_no_dir, full_names, remote_names}
use Rattle.mj_meta.specs.BlobReading.{name_at, full_at, remote_at, null_at, head_at, lump_at, blob_at}

name_bounded : (others : List (List ℕ)) (before : Option (List ℕ)) → IsBounded (name_at others before)
unfolding name_at
name_bounded others before = record {
  bound = λ bytes. then_within (length bytes) _ _ ((such_bounded (λ n. nat_le 1 n && nat_le n 255) u16_bounded).bound bytes) (λ n le. field_within (such_bounded (name_follows others before) (bytes_bounded n.0)) (length bytes) n.1 le);
}

full_bounded : (before : Option FullBit) → IsBounded (full_at before)
unfolding full_at
full_bounded before = record {
  bound = λ bytes. let limit = length bytes in
      then_within limit _ _ ((name_bounded [] (option_map (λ (b : FullBit). b.name) before)).bound bytes) (λ name w0.
      then_within limit _ _ (field_within u64_bounded limit name.1 w0) (λ version w1.
      then_within limit _ _ (field_within record_bounded limit version.1 w1) (λ inode w2. w2)));
}

remote_bounded : (others : List (List ℕ)) (before : Option RemoteBit) → IsBounded (remote_at others before)
unfolding remote_at
remote_bounded others before = record {
  bound = λ bytes. let limit = length bytes in
      then_within limit _ _ ((name_bounded others (option_map (λ (b : RemoteBit). b.name) before)).bound bytes) (λ name w0.
      then_within limit _ _ (field_within u64_bounded limit name.1 w0) (λ version w1.
      then_within limit _ _ (field_within u64_bounded limit version.1 w1) (λ ino w2.
      then_within limit _ _ (field_within (such_bounded is_no_dir kind_bounded) limit ino.1 w2) (λ kind w3. w3))));
}

null_bounded : (others : List (List ℕ)) (before : Option NullBit) → IsBounded (null_at others before)
unfolding null_at
null_bounded others before = record {
  bound = λ bytes. let limit = length bytes in
      then_within limit _ _ ((name_bounded others (option_map (λ (b : NullBit). b.name) before)).bound bytes) (λ name w0.
      then_within limit _ _ (field_within u64_bounded limit name.1 w0) (λ version w1. w1));
}

head_bounded : IsBounded head_at
head_bounded = record { bound = λ bytes. then_within (length bytes) _ _ ((optional_bounded u64_bounded).bound bytes) (λ o w. w) }

lump_bounded : (before : Option DirLump) → IsBounded (lump_at before)
unfolding lump_at
lump_bounded before = record {
  bound = λ bytes. let limit = length bytes in
      then_within limit _ _ ((such_bounded (is_above nat_lt (option_map (λ (l : DirLump). l.dir) before)) u64_bounded).bound bytes) (λ dir w0.
      then_within limit _ _ (field_within head_bounded limit dir.1 w0) (λ head w1.
      then_within limit _ _ (field_within u32_bounded limit head.1 w1) (λ fulls w2.
      then_within limit _ _ (field_within u32_bounded limit fulls.1 w2) (λ remotes w3.
      then_within limit _ _ (field_within u32_bounded limit remotes.1 w3) (λ nulls w4.
      then_within limit _ _ (field_within (run_bounded full_at full_bounded fulls.0 None) limit nulls.1 w4) (λ full w5.
      then_within limit _ _ (field_within (run_bounded (remote_at (full_names full.0)) (remote_bounded (full_names full.0)) remotes.0 None) limit full.1 w5) (λ remote w6.
      then_within limit _ _ (field_within (run_bounded (null_at (full_names full.0 ++ remote_names remote.0)) (null_bounded (full_names full.0 ++ remote_names remote.0)) nulls.0 None) limit remote.1 w6) (λ null w7. w7))))))));
}

pub blob_bounded : IsBounded blob_at
unfolding blob_at
blob_bounded = record {
  bound = λ bytes. let limit = length bytes in
      then_within limit _ _ (u32_bounded.bound bytes) (λ count w0.
      then_within limit _ _ (field_within (run_bounded lump_at lump_bounded count.0 None) limit count.1 w0) (λ lumps w1. w1));
}

pub blob_ends : (bytes : List ℕ) (b : MetaBlob) (rest : List ℕ) → blob_at bytes ≡ Ok (b, rest) → length rest ≤ length bytes
blob_ends bytes b rest e = rw e at (blob_bounded.bound bytes)

pub blob_stops : (bytes : List ℕ) (left : ℕ) → blob_at bytes ≡ Err left → left ≤ length bytes
blob_stops bytes left e = rw e at (blob_bounded.bound bytes)
