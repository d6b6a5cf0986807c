-- Objects that are none of a rank's journal, and what no operation commits to.
use Rattle.std.specs.Prelude.{◌≡◌, ℕ, Option, option_map, List, []}
use Rattle.mj_base.specs.declared.object.ObjectName.{ObjectName}
use Rattle.mj_store.specs.Object.{Content, Contents, Pairs}
use Rattle.mj_store.specs.State.{StoreState, Pending}
use Rattle.mj_store.specs.Along.{Always}
use Rattle.mj_recovery.specs.Stream.{journal_object}

abbrev pub IsElsewhere : ℕ → ObjectName → Type 0
IsElsewhere rank name = (index : ℕ) → name ≡ journal_object rank index → ⊥

-- what an object holds beside its bytes
abbrev pub keys_of : Option Content → Option (Option (List ℕ) × Pairs)
keys_of held = option_map (λ (o : Content). (o.head, o.pairs)) held

-- An object elsewhere holds what it held, and nothing is pending there. The header's object holds the same keys.
pub record IsUncommitted (rank : ℕ) (base : Contents) (name : ObjectName) (held : Option Content) (rest : List Pending) : Type 0 where
  pub same : IsElsewhere rank name → held ≡ base name
  pub idle : IsElsewhere rank name → rest ≡ []
  pub keys : name ≡ journal_object rank 0 → keys_of held ≡ keys_of (base name)

-- Nothing was committed since the store held these contents: no operation was sent but to the journal.
abbrev pub NothingCommitted : ℕ → Contents → StoreState → Type 0
NothingCommitted rank base s = Always (IsUncommitted rank base) s
