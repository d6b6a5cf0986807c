-- The words of a call, and the command that they spell.
--     pieces        the words behind the mode: options with their values, and arguments
--     given_by      what they give, each at most once
--     command_of    the command
-- An option stands anywhere behind the mode, as `--x V` or `--x=V`. `--` ends the options: what follows are arguments.
use Rattle.std.specs.Prelude.{ℕ, ◌+◌, ◌-◌, ◌^◌, Bool, false, ◌==◌, ◌&&◌, not, List, [], ◌∷◌, map, take, drop, codes, position, if◌then◌else◌, Option, None, Some, option_map, Result, Ok, Err, String}
use Rattle.std.specs.Global.{Global}
use Rattle.std.specs.String.{string_bytes}
use Rattle.mj_base.specs.InOrder.{same_bytes}
use Rattle.mj_layout.specs.Striping.{Striping, striping_of}
use Rattle.mj_texts.specs.Number.{number_of}
use Rattle.mj_texts.specs.Words.{◌>>=◌}

-- what a call is to do
pub data CommandValue : Type 0 where
  Format : (rank : ℕ) → (layout : Striping) → CommandValue
  Play : (rank : ℕ) → (script : List ℕ) → CommandValue
  Model : (rank : ℕ) → (chronicle : List ℕ) → CommandValue

-- ---- the words behind the mode

pub data Piece : Type 0 where
  Setting : (name value : List ℕ) → Piece
  Argument : (text : List ℕ) → Piece

-- What a word looks like: `--`, an argument, `--x`, `--x=V`, or else it begins with a dash.
pub data Form : Type 0 where
  Dashes : Form
  Plain : Form
  Named : (name : List ℕ) → Form
  Whole : (name value : List ℕ) → Form
  Dashed : Form

-- it begins with a dash, and is no dash alone
abbrev pub is_dashed : List ℕ → Bool
is_dashed [] = false
is_dashed (c ∷ []) = false
is_dashed (c ∷ d ∷ text) = c == 45

-- what stands behind two dashes
abbrev pub named_form : List ℕ → Option ℕ → Form
named_form text None = Named text
named_form text (Some at) = Whole (take at text) (drop (at + 1) text)

abbrev pub option_form : List ℕ → Form
option_form [] = Dashes
option_form (c ∷ text) = named_form (c ∷ text) (position (λ b. b == 61) (c ∷ text))

abbrev pub form_of : List ℕ → Form
form_of [] = Plain
form_of (c ∷ []) = Plain
form_of (c ∷ d ∷ text) = if c == 45 then (if d == 45 then option_form text else Dashed) else Plain

-- What a word may be: any piece, the value of an option, or only an argument.
pub data Next : Type 0 where
  Anything : Next
  Value : (name : List ℕ) → Next
  Only : Next

-- What a word is and what may follow it; none where it may not stand there.
pub record Read : Type 0 where
  pub piece : Option Piece
  pub next : Next

abbrev pub read_form : List ℕ → Form → Option Read
read_form word Dashes = Some (record { piece = None; next = Only })
read_form word Plain = Some (record { piece = Some (Argument word); next = Anything })
read_form word (Named name) = Some (record { piece = None; next = Value name })
read_form word (Whole name value) = Some (record { piece = Some (Setting name value); next = Anything })
read_form word Dashed = None

abbrev pub read_word : Next → List ℕ → Option Read
read_word Anything word = read_form word (form_of word)
read_word (Value name) word = if is_dashed word then None else Some (record { piece = Some (Setting name word); next = Anything })
read_word Only word = Some (record { piece = Some (Argument word); next = Only })

-- a value is missing
abbrev pub at_end : Next → Option (List Piece)
at_end (Value name) = None
at_end _ = Some []

abbrev pub with_piece : Option Piece → List Piece → List Piece
with_piece None ps = ps
with_piece (Some p) ps = p ∷ ps

abbrev pub pieces : Next → List (List ℕ) → Option (List Piece)
pieces next [] = at_end next
pieces next (word ∷ words) = do
  read ← read_word next word
  ps ← pieces read.next words
  Some (with_piece read.piece ps)

-- ---- what they give

-- the values of the options, and the argument
pub record GivenValue : Type 0 where
  pub rank : Option (List ℕ)
  pub su : Option (List ℕ)
  pub sc : Option (List ℕ)
  pub os : Option (List ℕ)
  pub argument : Option (List ℕ)

abbrev pub nothing : GivenValue
nothing = record { rank = None; su = None; sc = None; os = None; argument = None }

-- each at most once
abbrev pub once : Option (List ℕ) → List ℕ → Option (List ℕ)
once None text = Some text
once (Some before) text = None

abbrev pub set : List ℕ → List ℕ → GivenValue → Option GivenValue
set name value g =
    if same_bytes name (codes "rank") then option_map (λ x. record g { rank = Some x }) (once g.rank value) else
    if same_bytes name (codes "su") then option_map (λ x. record g { su = Some x }) (once g.su value) else
    if same_bytes name (codes "sc") then option_map (λ x. record g { sc = Some x }) (once g.sc value) else
    if same_bytes name (codes "os") then option_map (λ x. record g { os = Some x }) (once g.os value) else None

abbrev pub given : Piece → GivenValue → Option GivenValue
given (Setting name value) g = set name value g
given (Argument text) g = option_map (λ x. record g { argument = Some x }) (once g.argument text)

abbrev pub given_by : List Piece → GivenValue → Option GivenValue
given_by [] g = Some g
given_by (p ∷ ps) g = given p g >>= given_by ps

-- ---- the command

-- what a value spells, or what stands for none
abbrev pub value_or : ℕ → ℕ → Option (List ℕ) → Option ℕ
value_or most default None = Some default
value_or most default (Some text) = number_of most text

-- it is not given
abbrev pub absent : {A : Type 0} → Option (List ℕ) → Option A → Option A
absent None x = x
absent (Some text) x = None

abbrev pub rank_of : GivenValue → Option ℕ
rank_of g = value_or 15 0 g.rank

abbrev pub layout_if : {E : Type 0} → Result Striping E → Option Striping
layout_if (Ok layout) = Some layout
layout_if (Err why) = None

abbrev pub layout_of : GivenValue → Option Striping
layout_of g = do
  su ← value_or (2 ^ 32 - 1) 4194304 g.su
  sc ← value_or (2 ^ 32 - 1) 1 g.sc
  os ← value_or (2 ^ 32 - 1) 4194304 g.os
  layout_if (striping_of su sc os)

-- no argument
abbrev pub format_of : GivenValue → Option CommandValue
format_of g = absent g.argument (do
  rank ← rank_of g
  layout ← layout_of g
  Some (Format rank layout))

-- a file's name, and no layout
abbrev pub file_of : GivenValue → Option (List ℕ)
file_of g = absent g.su (absent g.sc (absent g.os g.argument))

abbrev pub play_of : GivenValue → Option CommandValue
play_of g = do
  script ← file_of g
  rank ← rank_of g
  Some (Play rank script)

abbrev pub model_of : GivenValue → Option CommandValue
model_of g = do
  chronicle ← file_of g
  rank ← rank_of g
  Some (Model rank chronicle)

abbrev pub in_mode : List ℕ → GivenValue → Option CommandValue
in_mode mode g =
    if same_bytes mode (codes "format") then format_of g else
    if same_bytes mode (codes "play") then play_of g else
    if same_bytes mode (codes "model") then model_of g else None

abbrev pub behind : List (List ℕ) → Option GivenValue
behind words = pieces Anything words >>= λ ps. given_by ps nothing

-- the command that the words spell, if they spell one
unfoldable pub command_of : List (String Global) → Option CommandValue
command_of [] = None
command_of (mode ∷ words) = behind (map string_bytes words) >>= in_mode (string_bytes mode)
