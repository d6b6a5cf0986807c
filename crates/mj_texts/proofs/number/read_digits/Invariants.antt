use Rattle.std.proofs.Common.{◌≡◌, ◌<◌, ◌^◌, true, take}
use Rattle.std.specs.List.{list_all}
use Rattle.std.specs.Char.{is_digit}
use Rattle.std.specs.Str.Parse.{digits_value}
use Rattle.mj_texts.proofs.number.read_digits.Given as goal

abbrev pub invariant-loop-b : goal.invariant-loop-b
invariant-loop-b l = record {
  digits : list_all (λ b. is_digit b l.base) (take l.b-index l.word) ≡ true;
  value : digits_value l.base (take l.b-index l.word) ≡ l.value;
  fits : l.value < 2 ^ 64;
}
