use Rattle.std.proofs.Common.{ap, subst, arith, ◌<◌, ◌≡◌}
use Rattle.mj_layout.specs.Striping.{Striping}
use Rattle.mj_layout.specs.Place.{object_of, offset_of, position_at, place}
use Rattle.mj_layout.proofs.Striped.{sizes}
use Rattle.mj_layout.proofs.Placed.{within, placing}
use Rattle.mj_layout.proofs.layout.Layout.place.Goals as goal

pub overflow_cast-result : goal.overflow_cast-result
unfolding offset_of
overflow_cast-result c =
    let s : Striping = record { su = c.self.inside.su; sc = c.self.inside.sc; os = c.self.inside.os } in
    omega (arith, within s (sizes s c.self.invariant) c.args.x, (sizes s c.self.invariant).os_most)

pub returns-clause-is : goal.returns-clause-is
unfolding object_of offset_of
returns-clause-is c = ap (λ s. place s c.args.x) c.self.view_is

pub returns-clause-within : goal.returns-clause-within
unfolding offset_of
returns-clause-within c =
    let s : Striping = record { su = c.self.inside.su; sc = c.self.inside.sc; os = c.self.inside.os } in
    subst (λ (t : Striping). offset_of s c.args.x < t.os) c.self.view_is (within s (sizes s c.self.invariant) c.args.x)

pub returns-clause-back : goal.returns-clause-back
unfolding object_of offset_of
returns-clause-back c =
    let s : Striping = record { su = c.self.inside.su; sc = c.self.inside.sc; os = c.self.inside.os } in
    subst (λ (t : Striping). position_at t (object_of s c.args.x) (offset_of s c.args.x) ≡ c.args.x) c.self.view_is ((placing s c.self.invariant).there c.args.x)
