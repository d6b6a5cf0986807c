use Rattle.std.proofs.Common.{◌≡◌, ℕ, List, [], ◌∷◌, ◌++◌, Some, sym, ap, ◌∙◌, arith}
use Rattle.std.specs.Prelude.{filter}
use Rattle.mj_tree.specs.Row.{names_in}
use Rattle.mj_cells.specs.declared.cell.CellKey.TheVariants as key
use Rattle.mj_cache.specs.Cached.{early_tree}
use Rattle.mj_cache.specs.Reads.{name_below, name_of, next_name}
use Rattle.mj_cache.proofs.Names.{names_push, names_fewer}
use Rattle.mj_cache.proofs.over_keys.push_names.Goals as goal

pub loop-key-smaller : goal.loop-key-smaller
loop-key-smaller c =
    let next : next_name (early_tree c.args.cache.now) c.args.dir (name_of c.loop-key.after.now) ≡ Some (name_of c.in-Some.key.now) = sym c.in-Some.ensures.name ∙ ap Some (sym (ap name_of c.in-Some.ensures.key)) in
    let fewer = names_fewer c.args.cache.now c.requires.tree c.args.dir c.requires.dir (name_of c.loop-key.after.now) (name_of c.in-Some.key.now) next in
    omega (arith, fewer)

pub loop-key-preserved : goal.loop-key-preserved
loop-key-preserved c =
    let own : name_of c.in-Some.key.now ≡ c.in-Some.name.now = ap name_of c.in-Some.ensures.key in
    let next : next_name (early_tree c.args.cache.now) c.args.dir (name_of c.loop-key.after.now) ≡ Some (name_of c.in-Some.key.now) = sym c.in-Some.ensures.name ∙ ap Some (sym own) in
    let all : List (List ℕ) = names_in (early_tree c.args.cache.now) c.args.dir in
    record {
      here = c.in-Some.ensures.key ∙ ap (key.Dentry c.args.dir) (sym own);
      so_far =
          ap (λ (xs : List (List ℕ)). xs ++ filter (name_below (name_of c.in-Some.key.now)) all)
          (c.in_ok-push.ensures.items ∙ ap (λ (n : List ℕ). c.loop-key.names.items ++ n ∷ []) (c.in_ok-copy.ensures.same ∙ sym own))
          ∙ names_push c.args.cache.now c.requires.tree c.args.dir c.requires.dir (name_of c.loop-key.after.now) (name_of c.in-Some.key.now) c.loop-key.names.items _ next c.loop-key.invariant.so_far;
    }
