use Rattle.std.proofs.Common.{rules}
use Rattle.std.proofs.lemmas.Map.Made.{map_same_pairs}
use Rattle.mj_memstore.specs.Memory.{quiet}
use Rattle.mj_memstore.proofs.objects.settle_all.Goals as goal

pub returns : goal.returns
returns c = map_same_pairs _ quiet _ (λ k v b w f t. (search rules, search rules, search rules)) _ _ c.retain.ensures.filtered
