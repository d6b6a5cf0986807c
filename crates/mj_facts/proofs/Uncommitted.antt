-- As long as nothing is committed, each image stores the same cells.
use mathlib.Core.Path.{fun_ext}
use Rattle.mj_cells.proofs.Tables.{same_table}
use Rattle.mj_recovery.proofs.Stores.{stored_look}
use Rattle.mj_recovery.specs.Recovered.{stored_table}
use Rattle.mj_recovery.specs.Objects.{Objects, Holds}
use Rattle.std.proofs.Common.{◌≡◌, inl, inr, ℕ, ◌≤◌, Option, Some, None, List, ◌++◌, refl, sym, ◌∙◌, ap, subst, arith}
use Rattle.std.specs.Prelude.{filter_map}
use Rattle.std.proofs.lemmas.Bool.{cases_eq}
use Rattle.mj_maps.specs.Map.{entries, get}
use Rattle.mj_base.specs.ObjectName.{journal_ino}
use Rattle.mj_base.specs.declared.object.ObjectName.{ObjectName}
use Rattle.mj_base.specs.declared.object.ObjectName.TheVariants.{File, InoTable, SessionMap}
use Rattle.mj_store.specs.declared.act.ObjectAct.{ObjectAct}
use Rattle.mj_store.specs.declared.act.ObjectAct.TheVariants.{Write}
use Rattle.mj_store.specs.Object.{Content, Contents, Pairs, applied}
use Rattle.mj_store.specs.State.{StoreState, IsImage, submitted, at_rest}
use Rattle.mj_store.proofs.Always.{always_image, always_submitted, always_rest}
use Rattle.mj_layout.specs.declared.Header.{Header}
use Rattle.mj_layout.specs.Header.{header_bytes}
use Rattle.mj_cells.specs.declared.cell.CellKey.{CellKey}
use Rattle.mj_cells.specs.declared.cell.CellKey.TheVariants as key
use Rattle.mj_cells.specs.declared.cell.CellValue.{CellValue}
use Rattle.mj_cells.specs.declared.cell.CellValue.TheVariants as value
use Rattle.mj_cells.specs.Table.{last_of}
use Rattle.mj_recovery.specs.Stream.{journal_object}
use Rattle.mj_recovery.specs.Stored.{stored_cell, among, head_cells, pair_cell}
use Rattle.mj_facts.specs.Elsewhere.{IsElsewhere, keys_of, IsUncommitted, NothingCommitted}
use Rattle.mj_facts.specs.Calls.{header_op}
use Rattle.mj_facts.proofs.WhileServing.{same_index}

-- ---- the events

pub uncommitted_begins : (rank : ℕ) (base image : Contents) (s : StoreState) → ((name : ObjectName) → IsElsewhere rank name → image name ≡ base name)
    → keys_of (image (journal_object rank 0)) ≡ keys_of (base (journal_object rank 0)) → NothingCommitted rank base (at_rest image s)
uncommitted_begins rank base image s same keys = always_rest (IsUncommitted rank base) image s (λ name. record {
  same = same name;
  idle = λ e. refl;
  keys = λ e. subst (λ n. keys_of (image n) ≡ keys_of (base n)) (sym e) keys;
})

-- bytes are written over an object that is there
keys_written : (at : ℕ) (bytes : List ℕ) (held : Option Content) (keys : Option (List ℕ) × Pairs) → keys_of held ≡ Some keys → keys_of (applied (Write at bytes) held) ≡ Some keys
keys_written at bytes None keys e = absurd cc
keys_written at bytes (Some o) keys e = e

pub uncommitted_header : (rank : ℕ) (base : Contents) (s : StoreState) (op : ℕ) (h : Header) (keys : Option (List ℕ) × Pairs) → keys_of (base (journal_object rank 0)) ≡ Some keys → NothingCommitted rank base s → NothingCommitted rank base (submitted (header_op rank h) op s)
uncommitted_header rank base s op h keys there u = always_submitted (IsUncommitted rank base) (IsUncommitted rank base) s (header_op rank h) op (λ k ne held rest sub mo. mo)
    (λ held rest sub mo. record { same = λ e. absurd (e 0 refl); idle = λ e. absurd (e 0 refl); keys = mo.keys })
    (λ held mo. record { same = λ e. absurd (e 0 refl); idle = λ e. absurd (e 0 refl); keys = λ e. keys_written 0 (header_bytes h) held keys (mo.keys e ∙ there) ∙ sym there }) u

pub uncommitted_journal : (rank : ℕ) (base : Contents) (s : StoreState) (op index : ℕ) (act : ObjectAct) → 1 ≤ index → NothingCommitted rank base s → NothingCommitted rank base (submitted (record { name = journal_object rank index; act = act }) op s)
uncommitted_journal rank base s op index act one u = always_submitted (IsUncommitted rank base) (IsUncommitted rank base) s (record { name = journal_object rank index; act = act }) op (λ k ne held rest sub mo. mo)
    (λ held rest sub mo. record { same = λ e. absurd (e index refl); idle = λ e. absurd (e index refl); keys = λ e. absurd (omega (arith, one, same_index rank index 0 e)) })
    (λ held mo. record { same = λ e. absurd (e index refl); idle = λ e. absurd (e index refl); keys = λ e. absurd (omega (arith, one, same_index rank index 0 e)) }) u

-- ---- what is stored

pub uncommitted_elsewhere : (rank : ℕ) (base : Contents) (s : StoreState) (image : Contents) → NothingCommitted rank base s → IsImage s image → (name : ObjectName) → IsElsewhere rank name → image name ≡ base name
uncommitted_elsewhere rank base s image u im name e = (always_image (IsUncommitted rank base) s image u im name).1.same e

elsewhere_file : (rank d : ℕ) → (d ≡ journal_ino rank → ⊥) → IsElsewhere rank (File d 0)
elsewhere_file rank d ne index e = ne cc

-- the first object of each file holds the same keys
pub uncommitted_keys : (rank : ℕ) (base : Contents) (s : StoreState) (image : Contents) → NothingCommitted rank base s → IsImage s image → (d : ℕ) → keys_of (image (File d 0)) ≡ keys_of (base (File d 0))
uncommitted_keys rank base s image u im d = elim (cases_eq d (journal_ino rank)) [
  | inl same ↦ (always_image (IsUncommitted rank base) s image u im (File d 0)).1.keys (ap (λ (i : ℕ). File i 0) same)
  | inr other ↦ ap keys_of (uncommitted_elsewhere rank base s image u im (File d 0) (elsewhere_file rank d other))
]

abbrev among_keys : CellKey → ObjectName → Option (Option (List ℕ) × Pairs) → CellValue
among_keys k name None = value.Gone
among_keys k name (Some x) = last_of k (head_cells name x.0 ++ filter_map (pair_cell name) (entries x.1)) value.Gone

among_is : (k : CellKey) (name : ObjectName) (held : Option Content) → among k name held ≡ among_keys k name (keys_of held)
among_is k name None = refl
among_is k name (Some o) = refl

among_file : (rank : ℕ) (base : Contents) (s : StoreState) (image : Contents) → NothingCommitted rank base s → IsImage s image → (k : CellKey) (d : ℕ) → among k (File d 0) (image (File d 0)) ≡ among k (File d 0) (base (File d 0))
among_file rank base s image u im k d =
    among_is k (File d 0) (image (File d 0)) ∙ (ap (among_keys k (File d 0)) (uncommitted_keys rank base s image u im d) ∙ sym (among_is k (File d 0) (base (File d 0))))

pub uncommitted_cells : (rank : ℕ) (base : Contents) (s : StoreState) (image : Contents) → NothingCommitted rank base s → IsImage s image → (k : CellKey) → stored_cell image rank k ≡ stored_cell base rank k
uncommitted_cells rank base s image u im (key.Dentry d name) = among_file rank base s image u im (key.Dentry d name) d
uncommitted_cells rank base s image u im (key.DirHead d) = among_file rank base s image u im (key.DirHead d) d
uncommitted_cells rank base s image u im key.NextIno = ap (among key.NextIno (InoTable rank)) (uncommitted_elsewhere rank base s image u im (InoTable rank) (λ index e. cc))
uncommitted_cells rank base s image u im (key.Session client) = ap (among (key.Session client) (SessionMap rank)) (uncommitted_elsewhere rank base s image u im (SessionMap rank) (λ index e. cc))
uncommitted_cells rank base s image u im (key.Done client tid) = ap (among (key.Done client tid) (SessionMap rank)) (uncommitted_elsewhere rank base s image u im (SessionMap rank) (λ index e. cc))
uncommitted_cells rank base s image u im (key.OpenOf client ino) = refl

-- ---- the table

pub uncommitted_table : (rank : ℕ) (base : Contents) (s : StoreState) (image : Contents) (m n : Objects) → NothingCommitted rank base s → IsImage s image → Holds image m → Holds base n → stored_table rank m ≡ stored_table rank n
uncommitted_table rank base s image m n u im h g =
    let here : get m ≡ image = fun_ext h in
    let there : get n ≡ base = fun_ext g in
    same_table (stored_table rank m) (stored_table rank n) (λ k.
    stored_look rank m k ∙ (ap (λ (c : Contents). stored_cell c rank k) here ∙ (uncommitted_cells rank base s image u im k ∙ (ap (λ (c : Contents). stored_cell c rank k) (sym there) ∙ sym (stored_look rank n k)))))
