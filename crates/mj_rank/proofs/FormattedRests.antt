-- A formatted store rests with an empty history of a new rank.
use mathlib.Core.Path.{fun_ext}
use Rattle.std.proofs.Common.{◌≡◌, inl, inr, ℕ, ◌^◌, ◌≤◌, true, false, cond, ◌==◌, List, [], ◌∷◌, map, Option, Some, None, refl, sym, ap, ◌∙◌, arith}
use Rattle.std.specs.Prelude.{nat_le, option_map, is_some}
use Rattle.std.specs.Option.{option_and_then}
use Rattle.std.proofs.lemmas.Bool.{eq-eqb, ne_eqb, and_from, le-leb, lt-ltb}
use Rattle.mj_base.specs.ObjectName.{journal_ino, stray_ino}
use Rattle.mj_base.specs.declared.object.ObjectName.{ObjectName}
use Rattle.mj_base.specs.declared.damage.Damage.TheVariants as damage
use Rattle.mj_maps.specs.Map.{get, empty}
use Rattle.mj_tree.specs.State.{root, new_state}
use Rattle.mj_store.specs.Object.{Content, Contents, same_name}
use Rattle.mj_store.specs.State.{StoreState, Quiet, contents}
use Rattle.mj_store.specs.Causes.{In}
use Rattle.mj_store.specs.declared.held.HeldObject.{HeldObject}
use Rattle.mj_store.proofs.Names.{same_is}
use Rattle.mj_layout.specs.Striping.{Striping, IsStriping, period}
use Rattle.mj_layout.specs.Header.{IsHeader, header_bytes}
use Rattle.mj_layout.specs.declared.Header.{Header}
use Rattle.mj_layout.proofs.Striped.{sizes}
use Rattle.mj_recovery.specs.Stream.{journal_object}
use Rattle.mj_recovery.specs.Objects.{Holds, content_of, objects_of}
use Rattle.mj_recovery.specs.Listed.{found, image_of}
use Rattle.mj_recovery.specs.Damage.{least}
use Rattle.mj_recovery.specs.Recovered.{bad_table, bad_key_of, bad_dirfrag}
use Rattle.mj_recovery.specs.Formatted.{keyless, formatted_header, formatted_objects}
use Rattle.mj_recovery.proofs.Stores.{image_is}
use Rattle.mj_machine.specs.Machine.{opened}
use Rattle.mj_facts.specs.Rests.{Rests}
use Rattle.mj_facts.specs.Calls.{IsFormatted, blank_journal}
use Rattle.mj_facts.specs.Elsewhere.{keys_of, IsUncommitted}
use Rattle.mj_facts.specs.Few.{IsAbsentBut}
use Rattle.mj_facts.proofs.Few.{few_rest}
use Rattle.mj_facts.proofs.Heads.{header_is}
use Rattle.mj_facts.proofs.Laws.{blank_journalled, formatted_rests}
use Rattle.mj_facts.proofs.Quiet.{always_quiet}
use Rattle.mj_facts.proofs.Uncommitted.{uncommitted_begins}
use Rattle.mj_replay.proofs.Formatted.{tables_inside, dirs_inside, stored_fresh}
use Rattle.mj_rank.specs.History.{IsHistory}
use Rattle.mj_rank.specs.Live.{Rested, StoresNew, IsNewStore}
use Rattle.mj_rank.proofs.Inverted.{ok_is}

-- what is not among these names is not found
not_found : (hs : List HeldObject) (name : ObjectName) → (In name (map (λ (h : HeldObject). h.name) hs) → ⊥) → found name hs ≡ None
not_found [] name none = refl
not_found (h ∷ hs) name none = elim (same_name name h.name) as (λ b. same_name name h.name ≡ b → cond b (Some h) (found name hs) ≡ None) [
  | true ↦ λ e. absurd (none (inl (sym (same_is name h.name e))))
  | false ↦ λ e. not_found hs name (λ i. none (inr i))
] refl

-- a directory by itself
alone_fine : (c : Contents) (d : ℕ) (o : Option (List ℕ)) → bad_key_of c d ≡ o → bad_dirfrag c (d ∷ []) ≡ None → o ≡ None
alone_fine c d None e h = refl
alone_fine c d (Some key) e h =
    let bad : bad_dirfrag c (d ∷ []) ≡ Some (damage.DirfragBad d key) =
    ap (λ (o : Option (List ℕ)). option_and_then (λ x. option_map (damage.DirfragBad x) (bad_key_of c x)) (least (cond (is_some o) (d ∷ []) []))) e ∙ ap (option_map (damage.DirfragBad d)) e in
    let none : None ≡ Some (damage.DirfragBad d key) = sym h ∙ bad in
    absurd cc

module _ (rank : ℕ) (small : rank ≤ 15) (layout : Striping) (sound : IsStriping layout) where
  abbrev objects : List HeldObject
  objects = formatted_objects rank layout

  abbrev h : Header
  h = formatted_header layout

  journal_root : (journal_ino rank == root) ≡ false
  journal_root = ne_eqb (journal_ino rank) root (λ e. omega arith)

  journal_stray : (journal_ino rank == stray_ino rank) ≡ false
  journal_stray = ne_eqb (journal_ino rank) (stray_ino rank) (λ e. omega arith)

  header_there : found (journal_object rank 0) objects ≡ Some (keyless (journal_object rank 0) (header_bytes h) None)
  unfolding formatted_objects
  header_there = rw (journal_root, journal_stray, eq-eqb (journal_ino rank) (journal_ino rank) refl) refl

  none_later : (n : ℕ) → 1 ≤ n → found (journal_object rank n) objects ≡ None
  unfolding formatted_objects
  none_later n le = let later : (n == 0) ≡ false = ne_eqb n 0 (λ e. omega (arith, le)) in rw (journal_root, journal_stray, eq-eqb (journal_ino rank) (journal_ino rank) refl, later) refl

  header_sound : IsHeader h
  header_sound =
      let z = sizes layout sound in
      let p = period layout in
      let same : nat_le p p ≡ true = le-leb p p (omega arith) in
      record {
        layout = sound;
        format = omega arith;
        epoch = omega arith;
        order = and_from _ _ (and_from _ _ (and_from _ _ same same) same) (lt-ltb p (2 ^ 62) (omega (arith, z.period_most)));
      }

  -- ---- a store that holds them

  module _ (s : StoreState) (quiet : Quiet s) (holds : Holds (contents s) (objects_of objects)) where
    image_objects : (name : ObjectName) → image_of objects name ≡ contents s name
    image_objects name = (λ z. image_is objects z name) ∙ holds name

    header_held : contents s (journal_object rank 0) ≡ Some (content_of (keyless (journal_object rank 0) (header_bytes h) None))
    header_held = sym (image_objects (journal_object rank 0)) ∙ ap (λ (o : Option HeldObject). option_map content_of o) header_there

    formatted : IsFormatted rank h (contents s)
    formatted = record {
      header = ap (λ (o : Option Content). option_map (λ (c : Content). c.bytes) o) header_held;
      sound = header_sound;
      format = refl;
      trimmed = refl;
      write = refl;
      epoch = refl;
      alone = λ index up. sym (image_objects (journal_object rank index)) ∙ ap (λ (o : Option HeldObject). option_map content_of o) (none_later index up);
    }

    stores : StoresNew rank (contents s)
    stores = record {
      objects = objects_of objects;
      holds = holds;
      stored = stored_fresh rank small layout sound;
      tables = ap (λ (c : Contents). bad_table c rank) (sym (fun_ext holds)) ∙ tables_inside rank small layout sound;
      dirfrags = λ d. ap (λ (c : Contents). bad_key_of c d) (sym (fun_ext holds)) ∙ alone_fine (get (objects_of objects)) d _ refl (dirs_inside rank small layout sound (d ∷ []));
      keys = (None, empty);
      header = ap keys_of header_held;
    }

    new : IsNewStore rank s
    new = record {
      base = contents s;
      new = stores;
      uncommitted = always_quiet (IsUncommitted rank (contents s)) s quiet (uncommitted_begins rank (contents s) (contents s) s (λ name e. refl) refl);
      names = map (λ (h : HeldObject). h.name) objects;
      few = always_quiet (IsAbsentBut (map (λ (h : HeldObject). h.name) objects)) s quiet
          (few_rest (map (λ (h : HeldObject). h.name) objects) (contents s) s (λ name none. sym (image_objects name) ∙ ap (λ (o : Option HeldObject). option_map content_of o) (not_found objects name none)));
    }

    nothing : IsHistory rank (blank_journal rank h) [] [] (opened (new_state rank))
    nothing = record { number = refl; small = small; events = refl; carries = tt; opening = refl; history = refl; on_the_way = refl }

    rests : Rests (blank_journal rank h) 0 (contents s)
    rests = formatted_rests rank h (contents s) formatted

    -- one header is held
    header_is_it : rests.header ≡ h
    header_is_it = ok_is rests.header h
        (sym (header_is (contents s (journal_object rank 0)) rests.header rests.stands rests.bounded.sound rests.bounded.format) ∙ header_is (contents s (journal_object rank 0)) h formatted.header header_sound refl)

    pub formatted_rested : Rested rank (opened (new_state rank)) s
    formatted_rested = record {
      journal = blank_journal rank h;
      journalled = blank_journalled rank h header_sound;
      older = [];
      newer = [];
      history = nothing;
      count = 0;
      enough = omega arith;
      rests = rests;
      whole = ap (λ (x : Header). x.expire) header_is_it;
      quiet = quiet;
      new = new;
    }
