use Rattle.std.proofs.Common.{◌≡◌, ◌∷◌, ◌++◌, take}
use Rattle.std.specs.List.{flat_map}
use Rattle.mj_base.specs.Name.{escaped}
use Rattle.mj_texts.proofs.reply.append_spaced_names.Given as goal

abbrev pub invariant-loop-name : goal.invariant-loop-name
invariant-loop-name l = l.out.items ≡ l.fn.out.items ++ flat_map (λ n. 32 ∷ escaped n) (take l.name-index l.names)
