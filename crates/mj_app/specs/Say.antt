-- What a call prints, and why it may not.
use Rattle.std.specs.Prelude.{ℕ, List, [], ◌∷◌, codes, Result, Ok, Err}
use Rattle.mj_image.specs.declared.refusal.ImageRefusal.{ImageRefusal}
use Rattle.mj_image.specs.declared.refusal.ImageRefusal.TheVariants as image
use Rattle.mj_layout.specs.Striping.{Striping, period}
use Rattle.mj_format.specs.declared.refusal.FormatRefusal.{FormatRefusal}
use Rattle.mj_format.specs.declared.refusal.FormatRefusal.TheVariants as format
use Rattle.mj_texts.specs.Text.{numbered}
use Rattle.mj_app.specs.declared.read.ReadRefusal.{ReadRefusal}
use Rattle.mj_app.specs.declared.read.ReadRefusal.TheVariants as read
use Rattle.mj_app.specs.declared.say.Unsaid.{Unsaid}
use Rattle.mj_app.specs.declared.say.Unsaid.TheVariants as unsaid
use Rattle.mj_model.specs.Took.{SinkState, TookAll, TookNone, FailedIn}

-- the text of a refusal; want of memory has none
abbrev pub refusal_text : ReadRefusal → List ℕ
refusal_text read.Words = numbered (codes "words refused") []
refusal_text read.FileMissing = numbered (codes "file missing") []
refusal_text (read.FileTooLong n) = numbered (codes "file toolong") (n ∷ [])
refusal_text read.FileFault = numbered (codes "file fault") []
refusal_text (read.BadLine n) = numbered (codes "line") (n ∷ [])
refusal_text read.Memory = []

-- the text of an image that is none, with the place of what is wrong
abbrev pub image_text : ImageRefusal → List ℕ
image_text image.BadMagic = numbered (codes "image BadMagic") (0 ∷ [])
image_text (image.TooLarge n) = numbered (codes "image TooLarge") (n ∷ [])
image_text (image.Truncated at) = numbered (codes "image Truncated") (at ∷ [])
image_text (image.BadName at) = numbered (codes "image BadName") (at ∷ [])
image_text (image.BadOrder at) = numbered (codes "image BadOrder") (at ∷ [])
image_text (image.BadFlag at) = numbered (codes "image BadFlag") (at ∷ [])
image_text (image.Trailing at) = numbered (codes "image Trailing") (at ∷ [])
image_text image.Memory = []

-- the text of a store that was formatted, and of one that was not
abbrev pub formatted_text : ℕ → Striping → List ℕ
formatted_text rank layout = numbered (codes "formatted") (rank ∷ period layout ∷ [])

abbrev pub unformatted_text : FormatRefusal → List ℕ
unformatted_text format.Formatted = numbered (codes "refused formatted") []
unformatted_text (format.Store fault) = numbered (codes "store") (fault.faults ∷ [])
unformatted_text (format.Waiting op) = numbered (codes "waiting") (op ∷ [])
unformatted_text format.Memory = []

-- The sink took all of a text, or failed in it. Want of memory leaves it as it was.
abbrev pub Prints : {T : Type 0} → List ℕ → SinkState → SinkState → Result T Unsaid → Type 0
Prints text old new (Ok _) = TookAll text old new
Prints text old new (Err unsaid.Sink) = FailedIn text old new
Prints text old new (Err unsaid.Memory) = TookNone old new

-- the texts that take no memory
abbrev pub HasFixedText : ReadRefusal → Type 0
HasFixedText (read.FileTooLong n) = ⊥
HasFixedText (read.BadLine n) = ⊥
HasFixedText _ = Unit {0}
