-- Damaged objects in a list.
use Rattle.std.specs.Prelude.{ℕ, Bool, true, false, ◌||◌, List, is_none, is_some, filter, if◌then◌else◌, Option, Some, None, option_map, option_and_then}
use Rattle.mj_base.specs.declared.object.ObjectName.TheVariants.{File, InoTable, SessionMap}
use Rattle.mj_base.specs.declared.damage.Damage.{Damage}
use Rattle.mj_base.specs.declared.damage.Damage.TheVariants as damage
use Rattle.mj_store.specs.declared.held.HeldObject.{HeldObject}
use Rattle.mj_recovery.specs.Damage.{least}
use Rattle.mj_recovery.specs.Listed.{found, listed_bad}

abbrev pub inotable_bad : Option HeldObject → Bool
inotable_bad None = true
inotable_bad (Some h) = is_none h.head || is_some (listed_bad h)

abbrev pub is_bad_inotable : ℕ → List HeldObject → Bool
is_bad_inotable rank hs = inotable_bad (found (InoTable rank) hs)

abbrev pub sessionmap_bad : Option HeldObject → Bool
sessionmap_bad None = false
sessionmap_bad (Some h) = is_some (listed_bad h)

abbrev pub is_bad_sessionmap : ℕ → List HeldObject → Bool
is_bad_sessionmap rank hs = sessionmap_bad (found (SessionMap rank) hs)

abbrev pub listed_bad_table : ℕ → List HeldObject → Option Damage
listed_bad_table rank hs =
    if is_bad_inotable rank hs then Some (damage.TableBad (InoTable rank))
    else if is_bad_sessionmap rank hs then Some (damage.TableBad (SessionMap rank)) else None

abbrev pub listed_bad_key : List HeldObject → ℕ → Option (List ℕ)
listed_bad_key hs d = option_and_then listed_bad (found (File d 0) hs)

abbrev pub named_bad : List HeldObject → ℕ → Option Damage
named_bad hs d = option_map (damage.DirfragBad d) (listed_bad_key hs d)

abbrev pub listed_bad_dirfrag : List HeldObject → List ℕ → Option Damage
listed_bad_dirfrag hs dirs = option_and_then (named_bad hs) (least (filter (λ d. is_some (listed_bad_key hs d)) dirs))
