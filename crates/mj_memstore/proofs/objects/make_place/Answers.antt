use Rattle.std.proofs.Common.{◌≡◌, Option, Some, None, false, cond, sym, ap, ◌∙◌, refl}
use Rattle.std.specs.Prelude.{is_some}
use Rattle.std.specs.BTreeMap.{is_at, insert_entry}
use Rattle.mj_base.specs.ObjectName.{object_order}
use Rattle.mj_memstore.specs.HeldView.{HeldView}
use Rattle.mj_memstore.specs.Memory.{found}
use Rattle.mj_memstore.proofs.ObjectsLemmas.{placed_new}
use Rattle.mj_memstore.proofs.objects.make_place.Goals as goal

none_from : (o : Option HeldView) → is_some o ≡ false → o ≡ None
none_from None e = refl
none_from (Some v) e = absurd cc

pub returns-clause-ok : goal.returns-clause-ok
returns-clause-ok c =
    let es = c.args.objects.now.entries in
    let name = c.args.name in
    placed_new name es c.insert.new.self.entries (none_from (found name es) (sym c.contains_key.ensures ∙ c.if-contains_key.false))
    (c.in_ok-insert.ensures.entries ∙ ap (insert_entry object_order es name) c.absent.ensures)
    c.in_ok-insert.ensures.was_ordered
    (λ q. c.in_ok-insert.ensures.updates.0 q ∙ ap (λ (v : HeldView). cond (is_at (object_order name) q) (Some v) (found q es)) c.absent.ensures)
