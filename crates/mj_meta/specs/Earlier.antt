-- The names that a lump's lists have so far, in order.
use Rattle.std.specs.Prelude.{◌≡◌, ℕ, List, [], ◌∷◌, ◌++◌}
use Rattle.std.specs.declared.cmp.Ordering.TheVariants.{Less}
use Rattle.mj_base.specs.InOrder.{bytes_cmp}
use Rattle.mj_meta.specs.declared.FullBit.{FullBit}
use Rattle.mj_meta.specs.declared.RemoteBit.{RemoteBit}
use Rattle.mj_meta.specs.declared.naming.Earlier.{Earlier}
use Rattle.mj_meta.specs.declared.naming.Earlier.TheVariants.{Nothing, Full, Both}
use Rattle.mj_meta.specs.Blob.{full_names, remote_names}

-- each name is below the next
abbrev pub NamesRise : {B : Type 0} → (B → List ℕ) → List B → Type 0
NamesRise name [] = Unit {0}
NamesRise name (b ∷ []) = Unit {0}
NamesRise name (b ∷ c ∷ bs) = (bytes_cmp (name b) (name c) ≡ Less) × NamesRise name (c ∷ bs)

abbrev pub earlier_names : Earlier → List (List ℕ)
earlier_names Nothing = []
earlier_names (Full fulls) = full_names fulls.now
earlier_names (Both fulls remotes) = full_names fulls.now ++ remote_names remotes.now

abbrev pub DoRise : Earlier → Type 0
DoRise Nothing = Unit {0}
DoRise (Full fulls) = NamesRise (λ (b : FullBit). b.name) fulls.now
DoRise (Both fulls remotes) = NamesRise (λ (b : FullBit). b.name) fulls.now × NamesRise (λ (b : RemoteBit). b.name) remotes.now
