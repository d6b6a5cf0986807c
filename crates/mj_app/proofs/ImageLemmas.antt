-- An image that is written from a store rests as the store would, and is what is read again.
use mathlib.Core.Path.{fun_ext}
use Rattle.std.proofs.Common.{◌≡◌, ℕ, List, Option, Some, None, Ok, refl, sym, ap, subst, ◌∙◌}
use Rattle.std.specs.Prelude.{bytes_eq, option_map}
use Rattle.std.proofs.lemmas.Map.{update_same}
use Rattle.std.proofs.lemmas.Slice.Eq.{bytes_eq-Decides}
use Rattle.mj_base.specs.Files.{FilesByName, with_file}
use Rattle.mj_base.specs.declared.object.ObjectName.{ObjectName}
use Rattle.mj_format.specs.Formatting.{IsFormattedOver}
use Rattle.mj_format.proofs.Laid.{holds}
use Rattle.mj_image.specs.Whole.{image_of}
use Rattle.mj_layout.specs.Striping.{Striping, IsStriping}
use Rattle.mj_memstore.specs.Store.{memory_state, memory_objects}
use Rattle.mj_memstore.specs.declared.memory.MemStore.{MemStore}
use Rattle.mj_store.specs.Object.{Contents}
use Rattle.mj_store.specs.State.{StoreState, contents, at_rest}
use Rattle.mj_store.specs.declared.held.HeldObject.{HeldObject}
use Rattle.mj_memstore.specs.Holding.{AreAll, contents_of, holding}
use Rattle.mj_machine.specs.Machine.{LogMachine}
use Rattle.mj_rank.specs.Live.{Rested}
use Rattle.mj_app.specs.Call.{FilesState}
use Rattle.mj_app.specs.Headline.{IsFormatted, RestsAgain}
use Rattle.mj_app.specs.ImageFile.{IsImageOf, IsRead, IsWritten}

-- which number comes next is nothing to a store that rests
numbered : (n : ℕ) → StoreState → StoreState
numbered n s = record { objects = s.objects; completed = s.completed; next = n }

rests_numbered : (rank : ℕ) (m : LogMachine) (n : ℕ) (s : StoreState) → Rested rank m s → Rested rank m (numbered n s)
unfolding numbered
rests_numbered rank m n s k = record {
  journal = k.journal;
  journalled = k.journalled;
  older = k.older;
  newer = k.newer;
  history = k.history;
  count = k.count;
  enough = k.enough;
  rests = k.rests;
  whole = k.whole;
  quiet = record { pending = k.quiet.pending; free = k.quiet.free; completed = k.quiet.completed };
  new = record { base = k.new.base; new = k.new.new; uncommitted = k.new.uncommitted; names = k.new.names; few = k.new.few };
}

pub written_rests : (rank : ℕ) (m : LogMachine) (s : StoreState) (hs : List HeldObject) → AreAll hs (contents s) → RestsAgain rank m s → Rested rank m (holding hs)
unfolding numbered
written_rests rank m s hs all again =
    let same : contents s ≡ contents_of hs = fun_ext all.each in
    let rests : Rested rank m (numbered 1 (at_rest (contents s) s)) = rests_numbered rank m 1 (at_rest (contents s) s) (again (contents s) (λ name. (0, refl))) in
    subst (λ (image : Contents). Rested rank m (numbered 1 (at_rest image s))) same rests

-- what was formatted over nothing
pub written_begins : (rank : ℕ) (layout : Striping) (before : Contents) (s : StoreState) (hs : List HeldObject) → IsStriping layout → ((name : ObjectName) → before name ≡ None) → IsFormattedOver rank layout before (contents s) → AreAll hs (contents s) → IsFormatted rank layout (holding hs)
written_begins rank layout before s hs sound none formatted all = record {
  sound = sound;
  quiet = record { pending = λ name. refl; free = λ name. refl; completed = refl };
  held = λ name. holds rank layout before (contents s) none formatted name ∙ all.each name;
}

-- ---- the file

written_file : (name bytes : List ℕ) (held : FilesByName) → with_file name bytes held name ≡ Some bytes
written_file name bytes held = update_same bytes_eq held name (Some bytes) name ((bytes_eq-Decides name name).1 refl)

pub read_again : (old new : FilesState) (held : FilesByName) (name : List ℕ) (left next : MemStore) → old.told ≡ Some held → IsWritten old new name left → IsRead new.told name next → memory_state next ≡ holding (memory_objects left)
read_again old new held name left next told w r =
    let files : new.told ≡ Some (with_file name w.bytes held) = w.files ∙ ap (option_map (with_file name w.bytes)) told in
    let image : IsImageOf (with_file name w.bytes held name) r.objects = r.image (with_file name w.bytes held) files in
    let read : image_of w.bytes ≡ Ok r.objects = subst (λ o. IsImageOf o r.objects) (written_file name w.bytes held) image in
    let same : r.objects ≡ memory_objects left = cc (w.again, read) in
    r.new.state ∙ ap holding same
