use Rattle.std.proofs.Common.{◌≡◌, ◌∙◌, ℕ, ◌+◌, List, [], ◌∷◌, ◌++◌, None, length, length-append, ap, sym, subst, arith}
use Rattle.mj_entry.specs.Entry.{entry_bytes, entry_length}
use Rattle.mj_journaler.specs.Journal.{Journal}
use Rattle.mj_journaler.specs.Inside.{journal_in}
use Rattle.mj_journaler.specs.Calls.{append_refusal}
use Rattle.mj_journaler.proofs.Kept.{entry_long, appended_as, payload_some, room_left}
use Rattle.mj_journaler.proofs.journaler.Journaler.push.Goals as goal

pub invariant_of-self-2 : goal.invariant_of-self-2
invariant_of-self-2 c =
    let j = journal_in c.self.inside in
    let payload : List ℕ = c.args.payload.now in
    let end = c.self.inside.end in
    let bytes : c.push_entry.new.self.bytes ≡ c.self.inside.buffer.bytes ++ entry_bytes end payload = c.in_ok-push_entry.ensures.bytes in
    record {
      journal = appended_as j payload c.push_entry.new.self.bytes c.push_back_reserved.new.self.items c.saturating_sub-self-inside.result end c.self.invariant.journal
          (subst (λ (k : Journal). append_refusal k payload ≡ None) (sym c.self.view_is) c.requires.fits)
          c.self.invariant.end bytes
          (c.push_back_reserved.ensures.items ∙ ap (λ (m : List ℕ). m ++ (end + (length payload + 20)) ∷ []) c.in_ok-reserve.ensures.items)
          c.saturating_sub-self-inside.ensures;
      end = omega (arith, ap length bytes, length-append c.self.inside.buffer.bytes (entry_bytes end payload), entry_long end payload, c.self.invariant.end);
      bytes = omega (arith, c.saturating_sub-self-inside.ensures, room_left c.self.inside.room c.self.inside.buffer.room c.push_entry.new.self.room (entry_length payload) c.self.invariant.bytes (λ h. (c.in_ok-push_entry.ensures.room h).1));
      entries = omega (arith, c.saturating_sub-self-inside.ensures, c.self.invariant.entries, c.push_back_reserved.ensures.len, c.push_back_reserved.ensures.capacity, c.in_ok-reserve.ensures.len, c.in_ok-reserve.ensures.capacity, payload_some payload c.requires.payload);
      given = c.self.invariant.given;
    }
