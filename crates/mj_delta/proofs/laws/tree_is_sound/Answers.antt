use Rattle.mj_delta.proofs.Sound.{no_damage, own_cell_dirs}
use Rattle.mj_delta.proofs.laws.tree_is_sound.Goals as goal

pub returns : goal.returns
returns c = record { undamaged = λ rank t s lumps is all. no_damage rank t s is lumps all; cells = own_cell_dirs }
