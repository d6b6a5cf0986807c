-- Reading a record goes forward.
use Rattle.std.proofs.Common.{length}
use Rattle.std.specs.Prelude.{nat_le, ◌==◌}
use Rattle.mj_base.specs.declared.record.Kind.{Kind}
use Rattle.mj_base.specs.Reading.{such, u16_at}
use Rattle.mj_base.specs.Target.{has_no_zero}
use Rattle.mj_base.specs.Record.{kind_of, kind_at, target_at, record_at, target_length_fits}
use Rattle.mj_base.proofs.Bounded.{IsBounded, field_within, then_within, such_bounded, standing_bounded, bytes_bounded, u8_bounded, u16_bounded, u32_bounded, u64_bounded}

pub kind_bounded : IsBounded kind_at
kind_bounded = standing_bounded kind_of u8_bounded

pub target_bounded : (kind : Kind) → IsBounded (target_at kind)
unfolding target_at
target_bounded kind = record {
  bound = λ bytes. then_within (length bytes) (such (target_length_fits kind) u16_at bytes) _ ((such_bounded (target_length_fits kind) u16_bounded).bound bytes) (λ n le. field_within (such_bounded has_no_zero (bytes_bounded n.0)) (length bytes) n.1 le);
}

pub record_bounded : IsBounded record_at
unfolding record_at
record_bounded = record {
  bound = λ bytes. let limit = length bytes in
      then_within limit _ _ ((such_bounded (λ v. v == 1) u8_bounded).bound bytes) (λ version w0.
      then_within limit _ _ (field_within u64_bounded limit version.1 w0) (λ ino w1.
      then_within limit _ _ (field_within kind_bounded limit ino.1 w1) (λ kind w2.
      then_within limit _ _ (field_within (such_bounded (λ m. nat_le m 0o7777) u16_bounded) limit kind.1 w2) (λ mode w3.
      then_within limit _ _ (field_within u32_bounded limit mode.1 w3) (λ uid w4.
      then_within limit _ _ (field_within u32_bounded limit uid.1 w4) (λ gid w5.
      then_within limit _ _ (field_within u64_bounded limit gid.1 w5) (λ size w6.
      then_within limit _ _ (field_within u64_bounded limit size.1 w6) (λ mtime w7.
      then_within limit _ _ (field_within u32_bounded limit mtime.1 w7) (λ links w8.
      then_within limit _ _ (field_within (target_bounded kind.0) limit links.1 w8) (λ target w9. w9))))))))));
}
