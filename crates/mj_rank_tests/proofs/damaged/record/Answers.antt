use Rattle.std.proofs.Common.{[], refl, sym, subst, arith}
use Rattle.std.specs.Prelude.{◌≢◌, IsTrue}
use Rattle.mj_base.specs.declared.record.Kind.{Kind}
use Rattle.mj_base.specs.declared.record.Kind.TheVariants.{Dir, File, Symlink}
use Rattle.mj_base.specs.Record.{target_fits}
use Rattle.mj_rank_tests.proofs.damaged.record.Goals as goal

no_target : (k : Kind) → k ≢ Symlink → IsTrue (target_fits k [])
no_target Dir other = refl
no_target File other = refl
no_target Symlink other = absurd (other refl)

pub returns : goal.returns
returns c = record {
  ino = c.ranges.ino.fits;
  mode = omega arith;
  uid = omega arith;
  gid = omega arith;
  size = omega arith;
  mtime = omega arith;
  links = c.ranges.links.fits;
  target = subst (λ t. IsTrue (target_fits c.args.kind t)) (sym c.empty.ensures) (no_target c.args.kind c.requires);
}
