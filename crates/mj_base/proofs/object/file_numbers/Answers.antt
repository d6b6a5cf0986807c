use Rattle.std.proofs.Common.{◌≡◌, ℕ, ◌-◌, ◌==◌, length, position, Some, ap, ◌∙◌}
use Rattle.mj_base.specs.ObjectText.{hex}
use Rattle.mj_base.proofs.HexReading.{position-file_object_text, ino-part, index-part}
use Rattle.mj_base.proofs.object.file_numbers.Goals as goal

pub returns-in_err-dot : goal.returns-in_err-dot
returns-in_err-dot c = λ ino index a b is.
    let some = c.first_dot.ensures ∙ ap (position (λ x. x == 46)) is ∙ position-file_object_text ino index a in
    let none = c.in_err-dot.was in
    absurd cc

pub returns-in_err-ino : goal.returns-in_err-ino
returns-in_err-ino c = λ ino index a b is.
    let some = c.first_dot.ensures ∙ ap (position (λ x. x == 46)) is ∙ position-file_object_text ino index a in
    let was = c.in_ok-dot.was in
    let at : c.in_ok-dot.dot ≡ length (hex ino) = cc in
    let read = c.hex_number.ensures 0 ino a (ino-part ino index c.in_ok-dot.dot c.args.text.now a is at) in
    let none = c.in_err-ino.was in
    absurd cc

pub returns-in_err-index : goal.returns-in_err-index
returns-in_err-index c = λ ino index a b is.
    let some = c.first_dot.ensures ∙ ap (position (λ x. x == 46)) is ∙ position-file_object_text ino index a in
    let was = c.in_ok-dot.was in
    let at : c.in_ok-dot.dot ≡ length (hex ino) = cc in
    let read = c.hex_number-2.ensures (8 - length (hex index)) index b (index-part ino index c.in_ok-dot.dot c.args.text.now a is at) in
    let none = c.in_err-index.was in
    absurd cc

pub returns : goal.returns
returns c = λ ino index a b is.
    let some = c.first_dot.ensures ∙ ap (position (λ x. x == 46)) is ∙ position-file_object_text ino index a in
    let was = c.in_ok-dot.was in
    let at : c.in_ok-dot.dot ≡ length (hex ino) = cc in
    let read_ino = c.hex_number.ensures 0 ino a (ino-part ino index c.in_ok-dot.dot c.args.text.now a is at) in
    let read_index = c.hex_number-2.ensures (8 - length (hex index)) index b (index-part ino index c.in_ok-dot.dot c.args.text.now a is at) in
    let was_ino = c.in_ok-ino.was in
    let was_index = c.in_ok-index.was in
    let same_ino : c.in_ok-ino.ino ≡ ino = cc in
    let same_index : c.in_ok-index.index ≡ index = cc in
    ap (λ (i : ℕ). Some (i, c.in_ok-index.index)) same_ino ∙ ap (λ (x : ℕ). Some (ino, x)) same_index
