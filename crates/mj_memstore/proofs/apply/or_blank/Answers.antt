use Rattle.std.proofs.Common.{T, List, sym, subst, refl, ◌∙◌}
use Rattle.std.specs.FinMap.Entries.{is_sorted}
use Rattle.mj_maps.specs.Orders.{bytes_cmp}
use Rattle.mj_store.specs.declared.act.Pair.{Pair}
use Rattle.mj_memstore.specs.Pairs.{entries_of}
use Rattle.mj_memstore.specs.Content.{map_of, IsShort}
use Rattle.mj_memstore.proofs.ContentLemmas.{short_empty}
use Rattle.mj_memstore.proofs.apply.or_blank.Goals as goal

pub returns-in-None-clause-sound : goal.returns-in-None-clause-sound
returns-in-None-clause-sound c =
    let none = c.from_vec-in-None.ensures ∙ c.new-in-None.ensures.items in
    record {
      named = refl;
      sorted = subst (λ (ps : List Pair). T (is_sorted bytes_cmp (entries_of ps))) (sym none) tt;
      short = subst (λ (ps : List Pair). IsShort (map_of ps)) (sym none) short_empty;
    }
