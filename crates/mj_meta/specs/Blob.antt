-- A blob in bytes.
use Rattle.std.specs.Prelude.{ℕ, ◌<◌, ◌^◌, Bool, not, ◌&&◌, ◌==◌, nat_lt, List, [], ◌∷◌, ◌++◌, length, map, IsTrue, Option, None, option_map}
use Rattle.std.specs.List.{flat_map, list_any, AllByRecursion}
use Rattle.std.specs.Ordering.{is_lt}
use Rattle.mj_base.specs.Reading.{is_above, all_follow, two, four, eight}
use Rattle.mj_base.specs.InOrder.{bytes_cmp, same_bytes}
use Rattle.mj_base.specs.Name.{is_name}
use Rattle.mj_base.specs.Record.{kind_code, record_bytes, IsRecord}
use Rattle.mj_base.specs.declared.record.Kind.{Kind}
use Rattle.mj_meta.specs.declared.HeadBit.{HeadBit}
use Rattle.mj_meta.specs.declared.HeadBit.TheVariants.{At, Gone}
use Rattle.mj_meta.specs.declared.FullBit.{FullBit}
use Rattle.mj_meta.specs.declared.RemoteBit.{RemoteBit}
use Rattle.mj_meta.specs.declared.NullBit.{NullBit}
use Rattle.mj_meta.specs.declared.DirLump.{DirLump}
use Rattle.mj_meta.specs.declared.MetaBlob.{MetaBlob}

abbrev pub name_bytes : List ℕ → List ℕ
name_bytes name = two (length name) ++ name

abbrev pub full_bytes : FullBit → List ℕ
full_bytes b = name_bytes b.name ++ eight b.version ++ record_bytes b.inode

abbrev pub remote_bytes : RemoteBit → List ℕ
remote_bytes b = name_bytes b.name ++ eight b.version ++ eight b.ino ++ kind_code b.kind ∷ []

abbrev pub null_bytes : NullBit → List ℕ
null_bytes b = name_bytes b.name ++ eight b.version

abbrev pub head_bytes : HeadBit → List ℕ
head_bytes (At version) = 1 ∷ eight version
head_bytes Gone = 0 ∷ []

-- a lump's directory, head and counts, before its bits
abbrev pub lump_front : DirLump → List ℕ
lump_front l = eight l.dir ++ head_bytes l.head ++ four (length l.full) ++ four (length l.remote) ++ four (length l.null)

abbrev pub lump_bytes : DirLump → List ℕ
lump_bytes l = lump_front l
    ++ flat_map full_bytes l.full ++ flat_map remote_bytes l.remote ++ flat_map null_bytes l.null

abbrev pub blob_bytes : MetaBlob → List ℕ
blob_bytes b = four (length b.lumps) ++ flat_map lump_bytes b.lumps

-- what has a spelling

abbrev pub full_names : List FullBit → List (List ℕ)
full_names bs = map (λ (b : FullBit). b.name) bs

abbrev pub remote_names : List RemoteBit → List (List ℕ)
remote_names bs = map (λ (b : RemoteBit). b.name) bs

abbrev pub is_in : List (List ℕ) → List ℕ → Bool
is_in names name = list_any (same_bytes name) names

-- A name is above the one before it, and not among those of the lists before.
abbrev pub name_follows : List (List ℕ) → Option (List ℕ) → List ℕ → Bool
name_follows others before name = is_name name && is_above (λ a b. is_lt (bytes_cmp a b)) before name && not (is_in others name)

abbrev pub full_follows : Option FullBit → FullBit → Bool
full_follows before b = name_follows [] (option_map (λ (x : FullBit). x.name) before) b.name

abbrev pub remote_follows : List (List ℕ) → Option RemoteBit → RemoteBit → Bool
remote_follows others before b = name_follows others (option_map (λ (x : RemoteBit). x.name) before) b.name

abbrev pub null_follows : List (List ℕ) → Option NullBit → NullBit → Bool
null_follows others before b = name_follows others (option_map (λ (x : NullBit). x.name) before) b.name

abbrev pub lump_follows : Option DirLump → DirLump → Bool
lump_follows before l = is_above nat_lt (option_map (λ (x : DirLump). x.dir) before) l.dir

-- a remote dentry is of no directory
abbrev pub is_no_dir : Kind → Bool
is_no_dir k = not (kind_code k == 1)

abbrev pub HeadFits : HeadBit → Type 0
HeadFits (At version) = version < 2 ^ 64
HeadFits Gone = Unit {0}

abbrev pub FullFits : FullBit → Type 0
FullFits b = (b.version < 2 ^ 64) × IsRecord b.inode

abbrev pub RemoteFits : RemoteBit → Type 0
RemoteFits b = (b.version < 2 ^ 64) × (b.ino < 2 ^ 64) × IsTrue (is_no_dir b.kind)

abbrev pub NullFits : NullBit → Type 0
NullFits b = b.version < 2 ^ 64

pub record IsLump (l : DirLump) : Type 0 where
  pub dir : l.dir < 2 ^ 64
  pub head : HeadFits l.head
  pub counts : (length l.full < 2 ^ 32) × (length l.remote < 2 ^ 32) × (length l.null < 2 ^ 32)
  pub full : AllByRecursion FullFits l.full × IsTrue (all_follow full_follows None l.full)
  pub remote : AllByRecursion RemoteFits l.remote × IsTrue (all_follow (remote_follows (full_names l.full)) None l.remote)
  pub null : AllByRecursion NullFits l.null × IsTrue (all_follow (null_follows (full_names l.full ++ remote_names l.remote)) None l.null)

pub record IsBlob (b : MetaBlob) : Type 0 where
  pub count : length b.lumps < 2 ^ 32
  pub lumps : AllByRecursion IsLump b.lumps × IsTrue (all_follow lump_follows None b.lumps)
