-- The grammar of a line, as texts.
use Rattle.std.specs.Prelude.{◌≡◌, ℕ, true, List, [], ◌∷◌, codes}
use Rattle.std.specs.List.{list_all}
use Rattle.std.specs.Char.{is_ascii}
use Rattle.mj_base.specs.ObjectName.{object_text, IsObjectName}
use Rattle.mj_tree.specs.Listing.{words}
use Rattle.mj_texts.specs.Spelling.{SpellsRequest, RequestInRange}
use Rattle.mj_texts.specs.declared.line.Line.{Line}
use Rattle.mj_texts.specs.declared.line.Line.TheVariants as line
use Rattle.mj_texts.specs.declared.steps.Step.TheVariants.{Apply, Ask, Flush, Reap, Restart, State, Tree}
use Rattle.mj_texts.specs.Line.{is_blank}

-- the words of a line that has some
abbrev pub SpellsWords : Line → List (List ℕ) → Type 0
SpellsWords line.Mount ws = ws ≡ codes "mount" ∷ []
SpellsWords (line.One Restart) ws = ws ≡ codes "restart" ∷ []
SpellsWords (line.One Flush) ws = ws ≡ codes "flush" ∷ []
SpellsWords (line.One (Apply name)) ws = ws ≡ codes "step" ∷ object_text name ∷ []
SpellsWords (line.One Reap) ws = ws ≡ codes "reap" ∷ []
SpellsWords (line.One Tree) ws = ws ≡ codes "tree" ∷ []
SpellsWords (line.One State) ws = ws ≡ codes "state" ∷ []
SpellsWords (line.One (Ask r)) ws = (request : List (List ℕ)) × SpellsRequest r request × (ws ≡ codes "req" ∷ request)
SpellsWords _ ws = ⊥

-- An empty line is nothing, or ASCII that begins with '#'; the others are words that are parted by one space.
abbrev pub IsSpelling : List ℕ → Line → Type 0
IsSpelling text line.Blank = (list_all is_ascii text ≡ true) × (is_blank text ≡ true)
IsSpelling text line = (ws : List (List ℕ)) × SpellsWords line ws × (text ≡ words ws)

-- the ranges of the numbers in a line, and its paths and targets
abbrev pub InRange : Line → Type 0
InRange (line.One (Ask r)) = RequestInRange r
InRange (line.One (Apply name)) = IsObjectName name
InRange _ = Unit {0}
