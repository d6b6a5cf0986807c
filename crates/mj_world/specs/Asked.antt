-- What a request, the tree and the state are answered, and what they leave of the rank.
use Rattle.std.specs.Prelude.{◌≡◌, Bool, false, true, None, Result, Ok, Err}
use Rattle.mj_tree.specs.declared.request.ClientRequest.{ClientRequest}
use Rattle.mj_tree.specs.Listing.{listing}
use Rattle.mj_cache.specs.Cached.{early_tree}
use Rattle.mj_rank.specs.declared.rank.Rank.{Rank}
use Rattle.mj_rank.specs.Request as request
use Rattle.mj_texts.specs.declared.steps.Said.{Said}
use Rattle.mj_texts.specs.declared.steps.Said.TheVariants.{Asked, State, Tree}
use Rattle.mj_texts.specs.declared.steps.Step.{Step}
use Rattle.mj_texts.specs.declared.steps.Step.TheVariants as step
use Rattle.mj_world.specs.declared.refusal.WorldRefusal.{WorldRefusal}
use Rattle.mj_world.specs.declared.refusal.WorldRefusal.TheVariants as refusal

-- the rank is the one after the request, or as it was, over the same store
abbrev pub Accepts : {S : Type 0} → ClientRequest → Rank S → Rank S → Type 0
Accepts r old new = (request.value_of new ≡ request.after_request (request.value_of old) r) × (new.store ≡ old.store)

abbrev pub Keeps : {S : Type 0} → Rank S → Rank S → Type 0
Keeps old new = (request.value_of new ≡ request.value_of old) × (new.store ≡ old.store)

-- the rank's answer to a request, and the rank that is left
abbrev pub Answers : {S : Type 0} → ClientRequest → Rank S → Result Said WorldRefusal → Rank S → Type 0
Answers r old (Ok (Asked early)) new = (early ≡ request.early_of (request.value_of old) r) × (request.cause_of (request.value_of old) r ≡ None) × Accepts r old new
Answers r old (Err (refusal.Rank e)) new = request.Says e (request.cause_of (request.value_of old) r) × Keeps old new
Answers r old (Err refusal.Memory) new = Keeps old new
Answers r old result new = ⊥

-- the step that lists the tree, or in full the state
abbrev pub listing_step : Bool → Step
listing_step false = step.Tree
listing_step true = step.State

-- The tree of all requests that were accepted, in full with the next inode and the sessions.
abbrev pub Lists : {S : Type 0} → Bool → Rank S → Result Said WorldRefusal → Rank S → Type 0
Lists false old (Ok (Tree text)) new = (text ≡ listing (early_tree old.cache) false) × (new ≡ old)
Lists true old (Ok (State text)) new = (text ≡ listing (early_tree old.cache) true) × (new ≡ old)
Lists full old (Err refusal.Memory) new = new ≡ old
Lists full old result new = ⊥
