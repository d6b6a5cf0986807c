use Rattle.std.proofs.Common.{◌≡◌, ℕ, length, Option, None, Some, ◌∙◌, ap}
use Rattle.std.specs.Prelude.{option_map, unwrap_or}
use Rattle.mj_base.specs.declared.object.ObjectName.{ObjectName}
use Rattle.mj_store.specs.Object.{Content}
use Rattle.mj_store.specs.State.{contents}
use Rattle.mj_store.specs.Moves.{HasSize}
use Rattle.mj_recovery.specs.Stream.{journal_object}
use Rattle.mj_probe.specs.Missing.{size_of}
use Rattle.mj_probe.proofs.Looking.{found_still, stays_of}
use Rattle.mj_probe.proofs.look.size_of.Goals as goal

size_is : (o : Option Content) (size : Option ℕ) (n : ℕ) → size ≡ option_map (λ (c : Content). length c.bytes) o → n ≡ unwrap_or size 0 → n ≡ size_of o
size_is None size n e u = u ∙ ap (λ (m : Option ℕ). unwrap_or m 0) e
size_is (Some o) size n e u = u ∙ ap (λ (m : Option ℕ). unwrap_or m 0) e

pub returns-clause-told : goal.returns-clause-told
returns-clause-told g c = λ s is still.
    let told = g.S.ObjectStore.state in
    let name = c.journal_object.result in
    let size = c.in_ok-size.size in
    size_is (contents s (journal_object c.args.rank c.args.index)) size c.unwrap_or.result
    (found_still (HasSize name size) s (told c.args.store.now) (told c.size.new.self) is still c.in_ok-size.ensures.ok ∙ ap (λ (q : ObjectName). option_map (λ (c : Content). length c.bytes) (contents s q)) c.journal_object.ensures)
    c.unwrap_or.ensures

pub returns-clause-looks : goal.returns-clause-looks
returns-clause-looks g c =
    let told = g.S.ObjectStore.state in
    record {
      stays = stays_of (HasSize c.journal_object.result c.in_ok-size.size) (told c.args.store.now) (told c.size.new.self) c.in_ok-size.ensures.ok;
      same_list = c.in_ok-size.ensures.same_list;
      later = c.in_ok-size.ensures.later;
    }
