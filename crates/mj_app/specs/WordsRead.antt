-- How far words are read, and what the values of that stand for.
use Rattle.std.specs.Prelude.{ℕ, List, [], ◌∷◌, Option, None, Some, option_map}
use Rattle.std.specs.Borrow.{Bor}
use Rattle.mj_texts.specs.Words.{◌>>=◌}
use Rattle.mj_app.specs.declared.words.Command.{Command}
use Rattle.mj_app.specs.declared.words.Command.TheVariants as command
use Rattle.mj_app.specs.declared.words.Form as declared_form
use Rattle.mj_app.specs.declared.words.Form.TheVariants as form
use Rattle.mj_app.specs.declared.words.Next as declared_next
use Rattle.mj_app.specs.declared.words.Next.TheVariants as next
use Rattle.mj_app.specs.declared.words.Given.{Given}
use Rattle.mj_app.specs.declared.words.Reading.{Reading}
use Rattle.mj_app.specs.Words.{CommandValue, Format, Play, Model, Form, Dashes, Plain, Named, Whole, Dashed, Next, Anything, Value, Only, Piece, Read, GivenValue, read_word, at_end, given, pieces, given_by}

abbrev pub command_value : Command → CommandValue
command_value (command.Format rank layout) = Format rank layout
command_value (command.Play rank script) = Play rank script.now
command_value (command.Model rank chronicle) = Model rank chronicle.now

abbrev pub form_value : declared_form.Form → Form
form_value form.Dashes = Dashes
form_value form.Plain = Plain
form_value (form.Named name) = Named name.now
form_value (form.Whole name value) = Whole name.now value.now
form_value form.Dashed = Dashed

abbrev pub next_value : declared_next.Next → Next
next_value next.Anything = Anything
next_value (next.Value name) = Value name.now
next_value next.Only = Only

abbrev pub text_in : Option (Bor (List ℕ)) → Option (List ℕ)
text_in text = option_map (λ (t : Bor (List ℕ)). t.now) text

abbrev pub given_value : Given → GivenValue
given_value g = record { rank = text_in g.rank; su = text_in g.su; sc = text_in g.sc; os = text_in g.os; argument = text_in g.argument }

-- what the words so far give, and what the next one may be
pub record ReadingValue : Type 0 where
  pub given : GivenValue
  pub next : Next

abbrev pub reading_value : Reading → ReadingValue
reading_value r = record { given = given_value r.given; next = next_value r.next }

abbrev pub given_if : Option Piece → GivenValue → Option GivenValue
given_if None g = Some g
given_if (Some p) g = given p g

-- one word more
abbrev pub after_word : ReadingValue → List ℕ → Option ReadingValue
after_word r word = do
  read ← read_word r.next word
  g ← given_if read.piece r.given
  Some (record { given = g; next = read.next })

-- no word more
abbrev pub at_last : ReadingValue → Option GivenValue
at_last r = at_end r.next >>= λ ps. Some r.given

-- all that is left
abbrev pub behind_these : ReadingValue → List (List ℕ) → Option GivenValue
behind_these r words = pieces r.next words >>= λ ps. given_by ps r.given
