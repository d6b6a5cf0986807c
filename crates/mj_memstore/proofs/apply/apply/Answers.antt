use Rattle.std.proofs.Common.{List, sym, subst, ap, ◌∙◌}
use Rattle.mj_store.specs.declared.act.Pair.{Pair}
use Rattle.mj_store.specs.Object.{Content, HasShortKeys, longest_key}
use Rattle.std.specs.List.{All}
use Rattle.std.specs.Prelude.{length, ◌≤◌}
use Rattle.mj_memstore.specs.Content.{map_of, IsShort}
use Rattle.mj_memstore.proofs.ContentLemmas.{short_set, short_dropped}
use Rattle.mj_memstore.proofs.apply.apply.Goals as goal

pub returns-in-Keys-clause-sound : goal.returns-in-Keys-clause-sound
returns-in-Keys-clause-sound c =
    let was = c.or_blank-object-in-Keys.ensures.sound in
    let object = c.or_blank-object-in-Keys.result in
    let keys = subst HasShortKeys c.in-Keys.is c.requires.keys in
    record {
      named = c.keyed_object.ensures.name ∙ was.named;
      sorted = c.keyed_object.ensures.sorted;
      short = subst IsShort (sym (ap (λ (x : Content). x.pairs) c.keyed_object.ensures.content))
          (short_set c.into_vec.result.items _ (subst (λ (ps : List Pair). All (λ (p : Pair). length p.key ≤ longest_key) ps) (sym c.into_vec.ensures) keys.0) (short_dropped c.as_slice-in-Keys.result.now (map_of object.pairs) was.short));
    }
