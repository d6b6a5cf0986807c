-- The buffer as its owner sees it.
use Rattle.std.specs.Prelude.{ℕ, List, [], ◌∷◌, ◌++◌}
use Rattle.std.specs.Global.{Vec}

-- the bytes that are kept, in order, and how many more are taken without memory
pub record Buffered : Type 0 where
  pub bytes : List ℕ
  pub room : ℕ

-- the bytes of blocks, one after another
abbrev pub joined : List (Vec ℕ) → List ℕ
joined [] = []
joined (block ∷ blocks) = block.items ++ joined blocks

-- the block that is taken from
abbrev pub first_block : List (Vec ℕ) → List ℕ → List ℕ
first_block [] last = last
first_block (block ∷ blocks) last = block.items
