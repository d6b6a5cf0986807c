use Rattle.std.proofs.Common.{◌≡◌, ℕ, List, [], ◌∷◌, ◌++◌, length, ap, sym, ◌∙◌, append_assoc, arith}
use Rattle.std.proofs.lemmas.List.{append-nil, length-append}
use Rattle.mj_base.specs.ObjectText.{hex, hex_padded}
use Rattle.mj_base.proofs.HexLemmas.{hex_padded-full, length-hex_padded-le}
use Rattle.mj_base.proofs.object.file_text.Goals as goal

pub prepend_hex-requires : goal.prepend_hex-requires
prepend_hex-requires c = omega (arith, length-hex_padded-le 8 c.args.index (omega arith) (omega arith), ap length c.new-text.ensures)

pub prepend_all-requires : goal.prepend_all-requires
prepend_all-requires c =
    omega (arith, length-hex_padded-le 8 c.args.index (omega arith) (omega arith), ap length c.new-text.ensures, ap length c.prepend_hex.ensures, length-append (hex_padded 8 c.args.index) c.new-text.result)

pub prepend_hex-requires-2 : goal.prepend_hex-requires-2
prepend_hex-requires-2 c =
    omega (
      arith,
      length-hex_padded-le 8 c.args.index (omega arith) (omega arith),
      length-hex_padded-le 1 c.args.ino (omega arith) (omega arith),
      ap length c.new-text.ensures,
      ap length c.prepend_hex.ensures,
      length-append (hex_padded 8 c.args.index) c.new-text.result,
      ap length c.prepend_all.ensures,
    )

pub returns : goal.returns
returns c =
    let index = hex_padded 8 c.args.index in
    let had : c.prepend_hex.new.self ≡ index = c.prepend_hex.ensures ∙ ap (λ (x : List ℕ). index ++ x) c.new-text.ensures ∙ append-nil index in
    c.prepend_hex-2.ensures ∙ ap (λ (x : List ℕ). x ++ c.prepend_all.new.self) (hex_padded-full 1 c.args.ino (omega arith) (omega arith))
    ∙ ap (λ (x : List ℕ). hex c.args.ino ++ x) (c.prepend_all.ensures ∙ ap (λ (x : List ℕ). 46 ∷ x) had) ∙ sym (append_assoc (hex c.args.ino) (46 ∷ []) index)
