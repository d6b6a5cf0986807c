use Rattle.std.proofs.Common.{◌≡◌, ℕ, ◌∙◌, ◌<◌, ◌^◌, ap, sym, subst, arith}
use Rattle.mj_layout.specs.Striping.{Striping}
use Rattle.mj_layout.specs.Place.{position_at, place, position_of}
use Rattle.mj_layout.specs.declared.layout.Spot.{Spot}
use Rattle.mj_layout.proofs.Striped.{sizes}
use Rattle.mj_layout.proofs.Placed.{placing, parts}
use Rattle.mj_layout.proofs.layout.Layout.position_of.Goals as goal

abbrev spot_at : ℕ → ℕ → Spot
spot_at i o = record { index = i; offset = o }

same_spot : (a b : Spot) → a.index ≡ b.index → a.offset ≡ b.offset → a ≡ b
same_spot a b p q = ap (λ i. spot_at i a.offset) p ∙ ap (λ o. spot_at b.index o) q

pub overflow_mul-stripe : goal.overflow_mul-stripe
overflow_mul-stripe c =
    let s : Striping = record { su = c.self.inside.su; sc = c.self.inside.sc; os = c.self.inside.os } in
    let below : position_at s c.args.spot.index c.args.spot.offset < 2 ^ 62 = subst (λ (t : Striping). position_at t c.args.spot.index c.args.spot.offset < 2 ^ 62) (sym c.self.view_is) c.requires.below in
    omega (arith, below, (parts s (sizes s c.self.invariant) c.args.spot.index c.args.spot.offset).sets)

pub overflow_add-stripe : goal.overflow_add-stripe
overflow_add-stripe c =
    let s : Striping = record { su = c.self.inside.su; sc = c.self.inside.sc; os = c.self.inside.os } in
    let below : position_at s c.args.spot.index c.args.spot.offset < 2 ^ 62 = subst (λ (t : Striping). position_at t c.args.spot.index c.args.spot.offset < 2 ^ 62) (sym c.self.view_is) c.requires.below in
    omega (arith, below, (parts s (sizes s c.self.invariant) c.args.spot.index c.args.spot.offset).stripe)

pub overflow_mul-block : goal.overflow_mul-block
overflow_mul-block c =
    let s : Striping = record { su = c.self.inside.su; sc = c.self.inside.sc; os = c.self.inside.os } in
    let below : position_at s c.args.spot.index c.args.spot.offset < 2 ^ 62 = subst (λ (t : Striping). position_at t c.args.spot.index c.args.spot.offset < 2 ^ 62) (sym c.self.view_is) c.requires.below in
    omega (arith, below, (parts s (sizes s c.self.invariant) c.args.spot.index c.args.spot.offset).columns)

pub overflow_add-block : goal.overflow_add-block
overflow_add-block c =
    let s : Striping = record { su = c.self.inside.su; sc = c.self.inside.sc; os = c.self.inside.os } in
    let below : position_at s c.args.spot.index c.args.spot.offset < 2 ^ 62 = subst (λ (t : Striping). position_at t c.args.spot.index c.args.spot.offset < 2 ^ 62) (sym c.self.view_is) c.requires.below in
    omega (arith, below, (parts s (sizes s c.self.invariant) c.args.spot.index c.args.spot.offset).block)

pub overflow_mul-result : goal.overflow_mul-result
overflow_mul-result c =
    let s : Striping = record { su = c.self.inside.su; sc = c.self.inside.sc; os = c.self.inside.os } in
    let below : position_at s c.args.spot.index c.args.spot.offset < 2 ^ 62 = subst (λ (t : Striping). position_at t c.args.spot.index c.args.spot.offset < 2 ^ 62) (sym c.self.view_is) c.requires.below in
    omega (arith, below, (parts s (sizes s c.self.invariant) c.args.spot.index c.args.spot.offset).units)

pub overflow_add-result : goal.overflow_add-result
unfolding position_at
overflow_add-result c =
    let s : Striping = record { su = c.self.inside.su; sc = c.self.inside.sc; os = c.self.inside.os } in
    let below : position_at s c.args.spot.index c.args.spot.offset < 2 ^ 62 = subst (λ (t : Striping). position_at t c.args.spot.index c.args.spot.offset < 2 ^ 62) (sym c.self.view_is) c.requires.below in
    omega (arith, below)

pub returns-clause-is : goal.returns-clause-is
unfolding position_at
returns-clause-is c = ap (λ s. position_of s c.args.spot) c.self.view_is

pub returns-clause-back : goal.returns-clause-back
unfolding position_at
returns-clause-back c =
    let s : Striping = record { su = c.self.inside.su; sc = c.self.inside.sc; os = c.self.inside.os } in
    let within : c.args.spot.offset < s.os = subst (λ (t : Striping). c.args.spot.offset < t.os) (sym c.self.view_is) c.requires.within in
    let x = position_of s c.args.spot in
    let back = (placing s c.self.invariant).back c.args.spot.index c.args.spot.offset within in
    let spot : place s x ≡ c.args.spot = same_spot (place s x) c.args.spot back.0 back.1 in
    subst (λ (t : Striping). place t x ≡ c.args.spot) c.self.view_is spot
