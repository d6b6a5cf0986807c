use Rattle.std.proofs.Common.{◌≡◌, ◌+◌, ◌∷◌, ◌++◌, [], take, List, ℕ, sym, subst, ap, ◌∙◌, arith}
use Rattle.std.proofs.lemmas.List.{take_more}
use Rattle.std.specs.FinMap.Entries.{where_key}
use Rattle.std.specs.Prelude.{not}
use Rattle.std.specs.Ordering.{eq_by_cmp}
use Rattle.mj_maps.specs.Orders.{bytes_cmp}
use Rattle.mj_store.specs.Object.{dropped}
use Rattle.mj_memstore.specs.Pairs.{entries_of}
use Rattle.mj_memstore.specs.Content.{map_of}
use Rattle.mj_memstore.proofs.ContentLemmas.{drop_one_more, sorted_without}
use Rattle.mj_memstore.proofs.apply.drop_all.Goals as goal

pub loop-key-preserved : goal.loop-key-preserved
loop-key-preserved c =
    let inv = c.loop-key.invariant in
    let key = c.key-item.result in
    let i = c.loop-key.key-index in
    let keys = c.args.keys.now in
    let before = c.loop-key.pairs.items in
    let after = c.drop_key.new.pairs.items in
    let start = map_of c.args.pairs.now.items in
    let taken = subst (λ (k : List ℕ). entries_of after ≡ where_key bytes_cmp (λ x. not (eq_by_cmp bytes_cmp k x)) (entries_of before)) c.as_slice.ensures c.drop_key.ensures.entries in
    let more : take (i + 1) keys ≡ take i keys ++ key ∷ [] = take_more keys i key c.loop-key-test.true ∙ ap (λ (k : List ℕ). take i keys ++ k ∷ []) (sym c.key-item.is) in
    record {
      pairs = drop_one_more (take i keys) key before after start inv.pairs taken ∙ ap (λ (ks : List (List ℕ)). dropped ks start) (sym more);
      sorted = sorted_without key before after inv.sorted taken;
      len = omega (arith, inv.len, c.drop_key.ensures.len);
      capacity = omega (arith, inv.capacity, c.drop_key.ensures.capacity);
    }
