use Rattle.std.proofs.Common.{◌∷◌, [], length-append, arith}
use Rattle.mj_memstore.specs.Content.{map_of}
use Rattle.mj_memstore.proofs.ContentLemmas.{set_one_more, sorted_put}
use Rattle.mj_memstore.proofs.apply.set_all.Goals as goal

pub loop-pair-preserved : goal.loop-pair-preserved
loop-pair-preserved c =
    let inv = c.loop-pair.invariant in
    record {
      pairs = set_one_more c.loop-pair.yielded c.in-Some.pair c.loop-pair.pairs.items c.place.new.pairs.items (map_of c.args.pairs.now.items) inv.pairs c.place.ensures.entries;
      sorted = sorted_put c.in-Some.pair c.loop-pair.pairs.items c.place.new.pairs.items inv.sorted c.place.ensures.entries;
      len = omega (arith, inv.len, c.place.ensures.len, length-append c.loop-pair.yielded (c.in-Some.pair ∷ []));
      capacity = omega (arith, inv.capacity, c.place.ensures.capacity);
    }
