-- Writes of some groups fit where those of all do, and what one group more makes of the early cells.
use Rattle.std.proofs.Common.{◌≡◌, Bool, true, false, cond, List, [], ◌∷◌, ◌++◌, append-nil, sym, ap, ◌∙◌}
use Rattle.std.specs.Prelude.{filter, Result, Ok, Err, OnOk, OnErr}
use Rattle.std.specs.List.{AllByRecursion}
use Rattle.mj_maps.specs.Map.{Map}
use Rattle.mj_cells.specs.declared.cell.CellValue.{CellValue}
use Rattle.mj_cells.specs.declared.cell.CellWrite.{CellWrite}
use Rattle.mj_cells.specs.Cell.{key_cmp, WriteFits}
use Rattle.mj_cells.specs.Table.{put_all}
use Rattle.mj_tables.specs.declared.group.Group.{Group}
use Rattle.mj_tables.specs.Layered.{all_writes, early_of}
use Rattle.mj_tables.proofs.Writes.{put_all-append}

left_fit : (xs ys : List CellWrite) → AllByRecursion WriteFits (xs ++ ys) → AllByRecursion WriteFits xs
left_fit [] ys h = tt
left_fit (x ∷ xs) ys h = (h.0, left_fit xs ys h.1)

right_fit : (xs ys : List CellWrite) → AllByRecursion WriteFits (xs ++ ys) → AllByRecursion WriteFits ys
right_fit [] ys h = h
right_fit (x ∷ xs) ys h = right_fit xs ys h.1

both_fit : (xs ys : List CellWrite) → AllByRecursion WriteFits xs → AllByRecursion WriteFits ys → AllByRecursion WriteFits (xs ++ ys)
both_fit [] ys h k = k
both_fit (x ∷ xs) ys h k = (h.0, both_fit xs ys h.1 k)

pub some_fit : (p : Group → Bool) (gs : List Group) → AllByRecursion WriteFits (all_writes gs) → AllByRecursion WriteFits (all_writes (filter p gs))
some_fit p [] h = tt
some_fit p (g ∷ gs) h = elim (p g) as (λ b. AllByRecursion WriteFits (all_writes (cond b (g ∷ filter p gs) (filter p gs)))) [
  | true ↦ both_fit g.writes (all_writes (filter p gs)) (left_fit g.writes (all_writes gs) h) (some_fit p gs (right_fit g.writes (all_writes gs) h))
  | false ↦ some_fit p gs (right_fit g.writes (all_writes gs) h)
]

pub one_fits : (gs : List Group) (g : Group) → AllByRecursion WriteFits (all_writes gs) → AllByRecursion WriteFits g.writes → AllByRecursion WriteFits (all_writes (gs ++ g ∷ []))
one_fits [] g h k = both_fit g.writes [] k tt
one_fits (x ∷ gs) g h k = both_fit x.writes (all_writes (gs ++ g ∷ [])) (left_fit x.writes (all_writes gs) h) (one_fits gs g (right_fit x.writes (all_writes gs) h) k)

-- one group more is its writes over the early cells
pub early_more : (safe : Map key_cmp CellValue) (gs : List Group) (g : Group) → early_of safe (gs ++ g ∷ []) ≡ put_all (early_of safe gs) g.writes
early_more safe [] g = ap (put_all safe) (append-nil g.writes)
early_more safe (x ∷ gs) g = put_all-append safe x.writes (all_writes (gs ++ g ∷ [])) ∙ early_more (put_all safe x.writes) gs g ∙ ap (λ m. put_all m g.writes) (sym (put_all-append safe x.writes (all_writes gs)))

-- what follows from either outcome holds
pub either_way : {X E : Type 0} (r : Result X E) (P Q R : Type 0) → OnOk r P → OnErr r Q → (P → R) → (Q → R) → R
either_way (Ok x) P Q R p q f g = f p
either_way (Err e) P Q R p q f g = g q
