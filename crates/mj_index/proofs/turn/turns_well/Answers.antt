use Rattle.std.proofs.Common.{◌≡◌, ℕ, List, sym, ap, ◌∙◌}
use Rattle.mj_cells.specs.Table.{table_of}
use Rattle.mj_recovery.specs.Tree.{is_among}
use Rattle.mj_tables.specs.Layered.{early_cells}
use Rattle.mj_index.specs.Places.{dentry_key}
use Rattle.mj_index.specs.Said.{written_dirs}
use Rattle.mj_index.specs.Turning.{is_written, keys_have, all_pass, leaves_well}
use Rattle.mj_index.proofs.Turning.{leads_along, no_items, quiet_turn}
use Rattle.mj_index.proofs.turn.turns_well.Goals as goal

pub returns-then-is_empty-2 : goal.returns-then-is_empty-2
returns-then-is_empty-2 c t =
    quiet_turn c.args.known.now c.args.layers.now c.args.ws.now c.args.turn.now.left.items c.args.turn.now.led.items (rw c.in-Some.is at c.in_ok-keys.ensures).once c.requires.left c.requires.led
    (no_items c.args.turn.now.left (sym c.is_empty.ensures ∙ c.if-is_empty.true)) (no_items c.args.turn.now.led (sym c.is_empty-then-is_empty.ensures ∙ c.if-is_empty-2.true))

pub returns : goal.returns
returns c t =
    let written : is_among c.in_ok-written.written.keys ≡ is_among (written_dirs c.args.ws.now) = λ i d. (c.in_ok-written.ensures d ∙ ap (λ (ds : List ℕ). is_among ds d) (c.deref.ensures.value ∙ c.in_ok-dirs.ensures)) i in
    let left : is_among c.in_ok-left.left.keys ≡ is_among c.args.turn.now.left.items = λ i d. (c.in_ok-left.ensures d ∙ ap (λ (ds : List ℕ). is_among ds d) c.deref-2.ensures.value) i in
    let led : is_among c.in_ok-led.led.keys ≡ is_among c.args.turn.now.led.items = λ i d. (c.in_ok-led.ensures d ∙ ap (λ (ds : List ℕ). is_among ds d) c.deref-3.ensures.value) i in
    record {
      once = (rw c.in-Some.is at c.in_ok-keys.ensures).once;
      left_is = c.requires.left;
      led_is = c.requires.led;
      leaves = (λ i. all_pass (leaves_well c.args.known.now (sym written i) (sym led i)) (sym c.deref-4.ensures.value i)) ∙ sym c.leaves_well.ensures ∙ c.if-not-leaves_well.false;
      leads = leads_along c.args.known.now (table_of (early_cells c.args.layers.now)) c.args.ws.now (λ q. keys_have c.in-Some.keys (dentry_key q)) (is_written c.args.ws.now) (is_among c.in_ok-written.written.keys) (is_among (written_dirs c.args.ws.now))
          (is_among c.in_ok-left.left.keys) (is_among c.args.turn.now.left.items) (λ i q. (rw c.in-Some.is at c.in_ok-keys.ensures).are (dentry_key q) i) written left (c.leads_well.ensures t);
    }
