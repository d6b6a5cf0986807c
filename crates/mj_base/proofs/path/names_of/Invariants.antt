use Rattle.std.proofs.Common.{◌≡◌, ◌==◌, length, take, drop, true}
use Rattle.std.specs.List.{slice_split, list_all}
use Rattle.mj_base.specs.Name.{is_name}
use Rattle.mj_base.specs.PathText.{bad_name}
use Rattle.mj_base.proofs.path.names_of.Given as goal

abbrev pub invariant-loop-part : goal.invariant-loop-part
invariant-loop-part l =
    let parts = slice_split (λ b. b == 47) l.bytes in
    let n = length l.yielded in
    record {
      read : l.names.items ≡ take n parts;
      all : list_all is_name l.names.items ≡ true;
      later : bad_name 0 parts ≡ bad_name n (drop n parts);
    }
