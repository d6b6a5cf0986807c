use Rattle.std.proofs.Common.{◌≡◌, ℕ, ◌+◌, ◌-◌, ◌%◌, ◌<◌, min, ap, sym, subst, arith, ◌∙◌}
use Rattle.mj_layout.specs.Striping.{Striping, IsStriping}
use Rattle.mj_layout.specs.Place.{object_of, offset_of, place, unit_end, extent_of}
use Rattle.mj_layout.specs.declared.layout.Spot.{Spot}
use Rattle.mj_layout.proofs.Striped.{Sizes, sizes}
use Rattle.mj_layout.proofs.Placed.{placing, unit_ends, in_one_unit}
use Rattle.mj_layout.proofs.Cut.{offset_in_unit}
use Rattle.mj_layout.proofs.layout.Layout.extent.Goals as goal

-- the length, by how much room the unit has from the offset on
len_is : (s : Striping) → Sizes s → (from to : ℕ) → from < to → min to (unit_end s from) - from ≡ min (to - from) (s.su - offset_of s from % s.su)
len_is s z from to h = omega (arith, unit_ends s z from, offset_in_unit s z from)

extent_is : (s : Striping) → Sizes s → (spot : Spot) (from to len : ℕ) → spot ≡ place s from → from < to → len ≡ min (to - from) (s.su - spot.offset % s.su)
    → record { index = spot.index; offset = spot.offset; len = len } ≡ extent_of s from to
extent_is s z spot from to len e h l =
    let p : len ≡ min to (unit_end s from) - from = l ∙ (ap (λ (p : Spot). min (to - from) (s.su - p.offset % s.su)) e ∙ sym (len_is s z from to h)) in
    let a : spot.index ≡ object_of s from = ap (λ (p : Spot). p.index) e in
    let b : spot.offset ≡ offset_of s from = ap (λ (p : Spot). p.offset) e in
    cc

runs : (s : Striping) → Sizes s → IsStriping s → (spot : Spot) (from to len : ℕ) → spot ≡ place s from → from < to → len ≡ min (to - from) (s.su - spot.offset % s.su)
    → (i : ℕ) → i < len → (object_of s (from + i) ≡ spot.index) × (offset_of s (from + i) ≡ spot.offset + i)
runs s z fits spot from to len e h l i less =
    let p : len ≡ min to (unit_end s from) - from = l ∙ (ap (λ (p : Spot). min (to - from) (s.su - p.offset % s.su)) e ∙ sym (len_is s z from to h)) in
    let r = (placing s fits).run from i i (omega arith) (in_one_unit s z from i (omega (arith, p, less))) in
    (r.0 ∙ sym (ap (λ (p : Spot). p.index) e), omega (arith, r.1, ap (λ (p : Spot). p.offset) e))

pub returns-then-to-from-clause-is : goal.returns-then-to-from-clause-is
returns-then-to-from-clause-is c =
    let s : Striping = record { su = c.self.inside.su; sc = c.self.inside.sc; os = c.self.inside.os } in
    let spot : c.place-spot.result ≡ place s c.args.from = subst (λ (t : Striping). c.place-spot.result ≡ place t c.args.from) (sym c.self.view_is) c.place-spot.ensures.is in
    subst (λ (t : Striping). record { index = c.place-spot.result.index; offset = c.place-spot.result.offset; len = c.args.to - c.args.from } ≡ extent_of t c.args.from c.args.to) c.self.view_is
    (extent_is s (sizes s c.self.invariant) c.place-spot.result c.args.from c.args.to _ spot c.requires (omega (arith, c.if-to-from.true)))

pub returns-then-to-from-clause-run : goal.returns-then-to-from-clause-run
returns-then-to-from-clause-run c i h =
    let s : Striping = record { su = c.self.inside.su; sc = c.self.inside.sc; os = c.self.inside.os } in
    let spot : c.place-spot.result ≡ place s c.args.from = subst (λ (t : Striping). c.place-spot.result ≡ place t c.args.from) (sym c.self.view_is) c.place-spot.ensures.is in
    subst (λ (t : Striping). (object_of t (c.args.from + i) ≡ c.place-spot.result.index) × (offset_of t (c.args.from + i) ≡ c.place-spot.result.offset + i)) c.self.view_is
    (runs s (sizes s c.self.invariant) c.self.invariant c.place-spot.result c.args.from c.args.to _ spot c.requires (omega (arith, c.if-to-from.true)) i h)

pub returns-else-to-from-clause-is : goal.returns-else-to-from-clause-is
returns-else-to-from-clause-is c =
    let s : Striping = record { su = c.self.inside.su; sc = c.self.inside.sc; os = c.self.inside.os } in
    let spot : c.place-spot.result ≡ place s c.args.from = subst (λ (t : Striping). c.place-spot.result ≡ place t c.args.from) (sym c.self.view_is) c.place-spot.ensures.is in
    subst (λ (t : Striping). record { index = c.place-spot.result.index; offset = c.place-spot.result.offset; len = c.self.inside.su - c.place-spot.result.offset % c.self.inside.su } ≡ extent_of t c.args.from c.args.to) c.self.view_is
    (extent_is s (sizes s c.self.invariant) c.place-spot.result c.args.from c.args.to _ spot c.requires (omega (arith, c.if-to-from.false)))

pub returns-else-to-from-clause-run : goal.returns-else-to-from-clause-run
returns-else-to-from-clause-run c i h =
    let s : Striping = record { su = c.self.inside.su; sc = c.self.inside.sc; os = c.self.inside.os } in
    let spot : c.place-spot.result ≡ place s c.args.from = subst (λ (t : Striping). c.place-spot.result ≡ place t c.args.from) (sym c.self.view_is) c.place-spot.ensures.is in
    subst (λ (t : Striping). (object_of t (c.args.from + i) ≡ c.place-spot.result.index) × (offset_of t (c.args.from + i) ≡ c.place-spot.result.offset + i)) c.self.view_is
    (runs s (sizes s c.self.invariant) c.self.invariant c.place-spot.result c.args.from c.args.to _ spot c.requires (omega (arith, c.if-to-from.false)) i h)
