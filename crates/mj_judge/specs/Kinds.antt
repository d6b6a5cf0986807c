-- Full dentries by their inodes and kinds.
use Rattle.std.specs.Prelude.{ℕ, Bool}
use Rattle.mj_base.specs.declared.record.Kind.{Kind}
use Rattle.mj_base.specs.declared.record.Kind.TheVariants.{Dir, File, Symlink}
use Rattle.mj_judge.specs.Rows.{is_counted}
use Rattle.mj_judge.specs.declared.kinds.Kinds.{Kinds}

abbrev pub is_kind : Kinds → ℕ → Kind → Bool
is_kind k i Dir = is_counted k.dirs i
is_kind k i File = is_counted k.files i
is_kind k i Symlink = is_counted k.symlinks i
