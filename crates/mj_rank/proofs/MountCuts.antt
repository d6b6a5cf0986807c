-- What the parts of a step come to.
use Rattle.std.proofs.Common.{◌≡◌, inl, inr, ℕ, ◌≤◌, true, Option, Some, Result, Ok, Err, OnErr, refl, sym, ap, subst, ◌∙◌, arith}
use Rattle.std.specs.Prelude.{IfOk, IsErrAnd}
use Rattle.std.proofs.lemmas.Result.{err_from_is_err_and}
use Rattle.mj_store.specs.declared.act.ObjectOp.{ObjectOp}
use Rattle.mj_store.specs.State.{StoreState}
use Rattle.mj_store.specs.Moves.{Stays, Reaps}
use Rattle.mj_texts.specs.declared.steps.MountStep.{MountStep}
use Rattle.mj_texts.specs.declared.steps.MountStep.TheVariants as step
use Rattle.mj_rank.specs.declared.mounting.Mounting as mounting
use Rattle.mj_rank.specs.declared.mounting.Stage.{Stage}
use Rattle.mj_rank.specs.declared.mounting.Stage.TheVariants.{Announcing, Announced, Cutting, Opened, Ready}
use Rattle.mj_rank.specs.declared.refusal.MountRefusal.{MountRefusal}
use Rattle.mj_rank.specs.Cutting.{Passes, Finds}
use Rattle.mj_rank.specs.Cutting.Passes.{Nothing}
use Rattle.mj_rank.specs.Mounts.{MountValue, mount_value, LooksTo, HasLooked, SendsAt, AwaitsAt, acked_stage, acked_out, SendsTruncation, IsUnmoved, TakesAck, IsHeldUp, MountSteps}
use Rattle.mj_rank.proofs.Cuts.{passes_up, passes_then, finds_stays}
use Rattle.mj_rank.proofs.StillReads.{stays_then}

-- ---- where it looks at nothing

looks_by : {S : Type 0} (stage : Stage) (state : S → Option StoreState) (k : mounting.Mounting S) → LooksTo stage state k k.cuts.next (state k.store)
looks_by Announcing state k = (refl, refl)
looks_by Announced state k = (refl, refl)
looks_by Cutting state k = Nothing k.cuts.next (state k.store)
looks_by Opened state k = (refl, refl)
looks_by Ready state k = (refl, refl)

pub looks_none : {S : Type 0} (state : S → Option StoreState) (k : mounting.Mounting S) → LooksTo k.stage state k k.cuts.next (state k.store)
looks_none state k = looks_by k.stage state k

-- nothing was submitted
pub refused : {S : Type 0} (state : S → Option StoreState) (old new : mounting.Mounting S) → mount_value new ≡ mount_value old → Stays (state old.store) (state new.store) → IsHeldUp state old new
refused state old new e stays = record {
  told = state old.store;
  looks = subst (λ (n : ℕ). LooksTo old.stage state old n (state old.store)) (sym (ap (λ (v : MountValue). v.next) e)) (looks_none state old);
  value = e ∙ (λ z. record (mount_value old) {
    header = record old.header { phase = sym (ap (λ (v : MountValue). v.header.phase) e) z };
    next = sym (ap (λ (v : MountValue). v.next) e) z;
    fault = sym (ap (λ (v : MountValue). v.fault) e) z;
  });
  rest = inl (stays, ap (λ (v : MountValue). v.fault) e);
}

pub refused_steps : {S : Type 0} (state : S → Option StoreState) (old new : mounting.Mounting S) (Q : MountRefusal → Type 0) (r : Result MountStep MountRefusal) → IsErrAnd r Q → IsHeldUp state old new → MountSteps state r old new
refused_steps state old new Q r is h = let p = err_from_is_err_and r is in subst (λ (x : Result MountStep MountRefusal). MountSteps state x old new) (sym p.1) h

-- an acknowledgement was taken
pub taken : {S : Type 0} (state : S → Option StoreState) (old new : mounting.Mounting S) (mid : S) (op : ℕ) → new.store ≡ mid
    → mount_value new ≡ record (mount_value old) { stage = acked_stage old.stage; out = acked_out old.stage op old.cuts.out.items } → Reaps (Some (record { op = op; done = true })) (state old.store) (state mid)
    → AwaitsAt old.stage (mount_value old) → HasLooked old.stage (mount_value old) old.cuts.next → TakesAck state op old new
taken {S = S} state old new mid op store e reaps awaits looked =
    let next : new.cuts.next ≡ old.cuts.next = ap (λ (v : MountValue). v.next) e in
    record {
      told = state old.store;
      looks = subst (λ (n : ℕ). LooksTo old.stage state old n (state old.store)) (sym next) (looks_none state old);
      looked = subst (λ (n : ℕ). HasLooked old.stage (mount_value old) n) (sym next) looked;
      awaited = awaits;
      value = e ∙ (λ z. record (mount_value old) { stage = acked_stage old.stage; out = acked_out old.stage op old.cuts.out.items; next = sym next z });
      reaps = subst (λ (s : S). Reaps (Some (record { op = op; done = true })) (state old.store) (state s)) (sym store) reaps;
    }

-- ---- where it has looked at all objects near the tail

module _ {S : Type 0} (state : S → Option StoreState) (old : mounting.Mounting S) (cutting : old.stage ≡ Cutting) (store : S) (order : old.cuts.end ≤ old.cuts.end) (cells : old.found.cache.rank ≡ old.number) where
  abbrev pub looked : mounting.Mounting S
  looked = record old { store = store; cuts = record old.cuts { next = old.cuts.end; in_order = order }; cells = cells }

  abbrev v : MountValue
  v = mount_value old

  abbrev w : MountValue
  w = mount_value looked

  may_back : SendsAt old.stage w → SendsAt old.stage v
  may_back may = subst (λ (stage : Stage). SendsAt stage v) (sym cutting) (subst (λ (stage : Stage). SendsAt stage w) cutting may)

  looked_back : (next : ℕ) → HasLooked old.stage w next → HasLooked old.stage v next
  looked_back next h = subst (λ (stage : Stage). HasLooked stage v next) (sym cutting) (subst (λ (stage : Stage). HasLooked stage w next) cutting h)

  awaits_back : AwaitsAt old.stage w → AwaitsAt old.stage v
  awaits_back h = subst (λ (stage : Stage). AwaitsAt stage v) (sym cutting) (subst (λ (stage : Stage). AwaitsAt stage w) cutting h)

  not_ready : old.stage ≡ Ready → ⊥
  not_ready e = let both : Cutting ≡ Ready = sym cutting ∙ e in cc

  -- all were passed
  module _ (passes : Passes old.number old.found.header.layout old.found.tail old.cuts.next old.cuts.end (state old.store) (state store)) where
    looks_back : (next : ℕ) (told : Option StoreState) → LooksTo old.stage state looked next told → LooksTo old.stage state old next told
    looks_back next told h = subst (λ (stage : Stage). LooksTo stage state old next told) (sym cutting)
        (passes_then old.number old.found.header.layout old.found.tail old.cuts.next (state old.store) old.cuts.end next (state store) told (subst (λ (stage : Stage). LooksTo stage state looked next told) cutting h) passes)

    pub looked_steps : (new : mounting.Mounting S) (result : Result MountStep MountRefusal) → MountSteps state result looked new → MountSteps state result old new
    looked_steps new (Ok (step.Sent name)) (inl h) = inl (
      h.0,
      looks_back new.cuts.next h.0 h.1,
      record { may = may_back h.2.may; looked = looked_back new.cuts.next h.2.looked; object = h.2.object; value = h.2.value; submits = h.2.submits },
    )
    looked_steps new (Ok (step.Sent name)) (inr h) =
        absurd (omega (arith, h.finds.within, passes_up old.number old.found.header.layout old.found.tail old.cuts.end h.index (state store) h.finds.mid h.finds.passes))
    looked_steps new (Ok (step.Reaped op)) h = record {
      told = h.told;
      looks = looks_back new.cuts.next h.told h.looks;
      looked = looked_back new.cuts.next h.looked;
      awaited = awaits_back h.awaited;
      value = h.value;
      reaps = h.reaps;
    }
    looked_steps new (Ok step.Waiting) h = record {
      told = h.told;
      looks = looks_back new.cuts.next h.told h.looks;
      looked = looked_back new.cuts.next h.looked;
      awaited = awaits_back h.awaited;
      value = h.value;
      reaps = h.reaps;
    }
    looked_steps new (Ok step.Ready) h = absurd (not_ready h.0)
    looked_steps new (Err e) h = record { told = h.told; looks = looks_back new.cuts.next h.told h.looks; value = h.value; rest = h.rest }

-- ---- where it has found an object that is to be cut

module _ {S : Type 0} (state : S → Option StoreState) (old : mounting.Mounting S) (cutting : old.stage ≡ Cutting) (store : S) (cells : old.found.cache.rank ≡ old.number) (index : ℕ) (op : ObjectOp)
    (finds : Finds old.number old.found.header.layout old.found.tail old.cuts.next old.cuts.end index op (state old.store) (state store)) where
  abbrev pub asked : mounting.Mounting S
  asked = record old { store = store; cells = cells }

  pub cut_steps : (new : mounting.Mounting S) (result : Result MountStep MountRefusal) → IfOk result (λ said. SendsTruncation state index op said asked new) → OnErr result (IsUnmoved state asked new) → MountSteps state result old new
  cut_steps new (Ok said) sends unmoved = subst (λ (x : MountStep). MountSteps state (Ok x) old new) (sym sends.says) (inr (record {
    cutting = cutting;
    index = index;
    op = op;
    told = state store;
    finds = finds;
    object = refl;
    number = sends.number;
    value = sends.value;
    submits = sends.submits;
  }))
  cut_steps new (Err e) sends unmoved =
      refused state old new unmoved.value (stays_then (finds_stays old.number old.found.header.layout old.found.tail old.cuts.next old.cuts.end index op (state old.store) (state store) finds) unmoved.stays)
