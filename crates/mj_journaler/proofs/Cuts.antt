-- Whether a byte of an object is at or above the tail.
use Rattle.std.proofs.Common.{◌≡◌, inl, inr, ℕ, ◌<◌, ◌≤◌, min, arith}
use Rattle.std.proofs.lemmas.Bool.{cases_lt}
use Rattle.mj_base.specs.ObjectName.{journal_ino}
use Rattle.mj_base.specs.declared.object.ObjectName.TheVariants.{File}
use Rattle.mj_store.specs.declared.act.ObjectAct.TheVariants.{Truncate}
use Rattle.mj_store.specs.declared.act.ObjectOp.{ObjectOp}
use Rattle.mj_layout.specs.Striping.{Striping, IsStriping}
use Rattle.mj_layout.specs.Place.{position_at}
use Rattle.mj_layout.specs.Cutting.{IsCut}
use Rattle.mj_layout.proofs.Placed.{placing}
use Rattle.mj_journaler.specs.Cutting.{IsBelowTail, Truncates}

-- it needs no truncation
pub is_below : (l : Striping) (tail index len size : ℕ) → IsStriping l → IsCut l index tail len → min size l.os ≤ len → IsBelowTail l tail index size
is_below l tail index len size ok cut h = record { len = len; cut = cut; none = λ x e up. omega (arith, cut.above x e up, (placing l ok).within x, h) }

-- or it does
pub is_above : (rank : ℕ) (l : Striping) (tail index len size : ℕ) (op : ObjectOp) → IsStriping l → IsCut l index tail len → len < min size l.os
    → op ≡ record { name = File (journal_ino rank) index; act = Truncate len } → Truncates rank l tail index size op
is_above rank l tail index len size op ok cut h is =
    let x = position_at l index len in
    let back = (placing l ok).back index len (omega (arith, h)) in
    record {
      len = len;
      cut = cut;
      is = is;
      byte = x;
      there = back.0;
      above = elim (cases_lt x tail) as (λ _. tail ≤ x) [ inl less ↦ absurd (omega (arith, cut.below x back.0 less, back.1)) | inr more ↦ more ];
      held = omega (arith, back.1, h);
    }
