-- Words as text, and the texts of replies.
use Rattle.std.specs.Prelude.{ℕ, List, [], ◌∷◌, ◌++◌, map, codes, Option, None, Some}
use Rattle.std.specs.Fmt.{decimal}
use Rattle.mj_base.specs.Name.{escaped}
use Rattle.mj_base.specs.ObjectName.{object_text}
use Rattle.mj_base.specs.declared.record.InodeRecord.{InodeRecord}
use Rattle.mj_tree.specs.State.{attributes_of}
use Rattle.mj_tree.specs.declared.request.Reply.{Reply}
use Rattle.mj_tree.specs.declared.request.Reply.TheVariants as reply
use Rattle.mj_tree.specs.Listing.{line, words, octal, attribute_words}
use Rattle.mj_texts.specs.declared.steps.Early.{Early}
use Rattle.mj_texts.specs.declared.text.Word.{Word}
use Rattle.mj_texts.specs.declared.text.Word.TheVariants.{Text, Number, Object, Escaped, Mode}

-- a word of a text
abbrev pub word_text : Word → List ℕ
word_text (Text text) = text.now
word_text (Number n) = decimal n
word_text (Object name) = object_text name
word_text (Escaped bytes) = escaped bytes.now
word_text (Mode mode) = octal mode

-- a line of these words
abbrev pub line_text : List Word → List ℕ
line_text ws = line (map word_text ws)

-- ---- replies

abbrev pub found_words : InodeRecord → List (List ℕ)
found_words r = codes "found" ∷ decimal r.ino ∷ attribute_words (attributes_of r) ++ decimal r.links ∷ []

abbrev pub reply_words : Reply → List (List ℕ)
reply_words (reply.Done i) = codes "done" ∷ decimal i ∷ []
reply_words (reply.Error code) = codes "error" ∷ decimal code ∷ []
reply_words (reply.Found r) = found_words r
reply_words (reply.Names ns) = codes "names" ∷ map escaped ns
reply_words (reply.Link target) = codes "target" ∷ escaped target ∷ []

abbrev pub reply_text : Reply → List ℕ
reply_text x = words (reply_words x)

abbrev pub ends_words : Option ℕ → List (List ℕ)
ends_words None = []
ends_words (Some e) = codes "ends" ∷ decimal e ∷ []

-- a reply, and where the request's event ends
abbrev pub early_words : Early → List (List ℕ)
early_words early = reply_words early.reply ++ ends_words early.ends_at

-- a word and numbers
abbrev pub numbered : List ℕ → List ℕ → List ℕ
numbered word ns = line (word ∷ map decimal ns)
