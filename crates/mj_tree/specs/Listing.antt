-- A tree as text.
use Rattle.std.specs.Prelude.{ℕ, zero, suc, ◌+◌, ◌/◌, ◌%◌, Bool, ◌==◌, List, [], ◌∷◌, ◌++◌, filter, codes, if◌then◌else◌}
use Rattle.std.specs.Option.{unwrap_or}
use Rattle.std.specs.List.{flat_map}
use Rattle.std.specs.Fmt.{decimal}
use Rattle.mj_base.specs.Name.{escaped}
use Rattle.mj_base.specs.declared.record.Kind.{Kind}
use Rattle.mj_base.specs.declared.record.Kind.TheVariants.{Dir, File, Symlink}
use Rattle.mj_maps.specs.Map.{entries, len}
use Rattle.mj_tree.specs.declared.change.Attributes.{Attributes}
use Rattle.mj_tree.specs.State.{PlainState, Session, root, root_attributes, attributes, link_count}

-- words each behind a space, words parted by one, and a line of them
abbrev pub spaced : List (List ℕ) → List ℕ
spaced [] = []
spaced (w ∷ ws) = 32 ∷ w ++ spaced ws

abbrev pub words : List (List ℕ) → List ℕ
words [] = []
words (w ∷ ws) = w ++ spaced ws

abbrev pub line : List (List ℕ) → List ℕ
line ws = words ws ++ 10 ∷ []

abbrev pub kind_word : Kind → List ℕ
kind_word Dir = codes "dir"
kind_word File = codes "file"
kind_word Symlink = codes "symlink"

-- the four octal digits of a mode
abbrev pub octal : ℕ → List ℕ
octal mode = (48 + mode / 512 % 8) ∷ (48 + mode / 64 % 8) ∷ (48 + mode / 8 % 8) ∷ (48 + mode % 8) ∷ []

abbrev pub attribute_words : Attributes → List (List ℕ)
attribute_words a = kind_word a.kind ∷ octal a.mode ∷ decimal a.uid ∷ decimal a.gid ∷ decimal a.size ∷ decimal a.mtime ∷ []

-- where a symlink leads
abbrev pub arrow_to : Kind → List ℕ → List (List ℕ)
arrow_to Symlink target = codes "->" ∷ escaped target ∷ []
arrow_to _ target = []

abbrev pub arrow : Attributes → List (List ℕ)
arrow a = arrow_to a.kind a.target

abbrev pub link_line : PlainState → List ℕ → ℕ → List ℕ
link_line s path i = let a = unwrap_or (attributes s i) root_attributes in line (path ∷ attribute_words a ++ decimal (link_count s i) ∷ decimal i ∷ arrow a)

-- the links of a directory, in the order of their names
abbrev pub links_in : PlainState → ℕ → List ((ℕ × List ℕ) × ℕ)
links_in s dir = filter (λ (e : (ℕ × List ℕ) × ℕ). e.0.0 == dir) (entries s.links)

-- The links below a directory, each before those below it. No path is longer than there are links.
abbrev pub links_below : ℕ → PlainState → List ℕ → ℕ → List ℕ
links_below zero s path dir = []
links_below (suc n) s path dir = flat_map (λ (e : (ℕ × List ℕ) × ℕ). let p = path ++ 47 ∷ escaped e.0.1 in link_line s p e.1 ++ links_below n s p e.1) (links_in s dir)

abbrev pub kept_line : ℕ × Attributes → List ℕ
kept_line e = line (codes "kept" ∷ decimal e.0 ∷ attribute_words e.1 ++ codes "0" ∷ arrow e.1)

-- the records without links
abbrev pub kept_lines : PlainState → List ℕ
kept_lines s = flat_map kept_line (filter (λ (e : ℕ × Attributes). link_count s e.0 == 0) (entries s.records))

abbrev pub open_line : (ℕ × ℕ) × Unit {0} → List ℕ
open_line e = line (codes "open" ∷ decimal e.0.0 ∷ decimal e.0.1 ∷ [])

abbrev pub next_line : ℕ → List ℕ
next_line next = line (codes "next" ∷ decimal next ∷ [])

abbrev pub reply_line : ℕ × ℕ → List ℕ
reply_line e = line (codes "reply" ∷ decimal e.0 ∷ decimal e.1 ∷ [])

abbrev pub session_lines : ℕ × Session → List ℕ
session_lines e = line (codes "session" ∷ decimal e.0 ∷ decimal e.1.oldest ∷ []) ++ flat_map reply_line (entries e.1.kept)

-- what the full listing adds
abbrev pub rest_of_listing : PlainState → Bool → List ℕ
rest_of_listing s full = if full then next_line s.next ++ flat_map session_lines (entries s.sessions) else []

unfoldable pub listing : PlainState → Bool → List ℕ
listing s full = 47 ∷ 10 ∷ links_below (len s.links) s [] root ++ kept_lines s ++ flat_map open_line (entries s.opens) ++ rest_of_listing s full
