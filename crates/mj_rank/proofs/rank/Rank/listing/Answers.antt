use Rattle.std.proofs.Common.{◌≡◌, ℕ, Option, Result, Ok, Err, ap, ◌∙◌}
use Rattle.std.specs.Prelude.{Bool, IfOk}
use Rattle.std.specs.Global.{Global}
use Rattle.std.specs.declared.vec.Vec.{Vec}
use Rattle.mj_store.specs.State.{StoreState}
use Rattle.mj_tree.specs.State.{PlainState}
use Rattle.mj_tree.specs.Listing.{listing}
use Rattle.mj_cache.specs.Cached.{early_tree}
use Rattle.mj_machine.specs.Machine.{LogMachine, early_state}
use Rattle.mj_rank.specs.declared.rank.Rank.{Rank}
use Rattle.mj_rank.specs.Live.{RankLives}
use Rattle.mj_rank.proofs.Living.{tree_of_lives}
use Rattle.mj_rank.proofs.rank.Rank.listing.Goals as goal

lists : {S E : Type 0} (state : S → Option StoreState) (k : Rank S) (full : Bool) → k.cache.rank ≡ k.number → (result : Result (Vec ℕ Global) E) → IfOk result (λ t. t.items ≡ listing (early_tree k.cache) full)
    → IfOk result (λ t. (m : LogMachine) → RankLives state k m → t.items ≡ listing (early_state m) full)
lists state k full own (Ok t) is = λ m l. is ∙ ap (λ (s : PlainState). listing s full) (tree_of_lives state k m l own)
lists state k full own (Err e) is = tt

pub returns-clause-live : goal.returns-clause-live
returns-clause-live g c = lists g.S.ObjectStore.state c.args.self.now c.args.full c.args.self.now.cells _ c.listing.ensures
