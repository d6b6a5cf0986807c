use Rattle.std.proofs.Common.{◌≡◌, true, List, [], ◌∷◌, refl, sym, ap, subst, ◌∙◌}
use Rattle.std.specs.Prelude.{codes, None}
use Rattle.std.specs.Fmt.{digits}
use Rattle.std.specs.List.{AllByRecursion}
use Rattle.mj_base.specs.InOrder.{is_rising}
use Rattle.mj_base.specs.ObjectName.{object_order}
use Rattle.mj_store.specs.declared.act.Pair.{Pair}
use Rattle.mj_store.specs.declared.held.HeldObject.{HeldObject}
use Rattle.mj_store.specs.Pages.{rise_above}
use Rattle.mj_memstore.specs.Holding.{names_of, HasKeysInOrder}
use Rattle.mj_store_tests.proofs.memstore.two_objects.Goals as goal

two_rise : (p q : Pair) → p.key ≡ codes "a" → q.key ≡ codes "b" → rise_above None (p ∷ q ∷ []) ≡ true
two_rise p q a b = rw (a, b) refl

pub returns : goal.returns
unfolding digits
returns c =
    let items = c.in_ok-vec-2.ensures.items in
    record {
      names = ap (λ (hs : List HeldObject). is_rising object_order (names_of hs)) items;
      keys = subst (AllByRecursion HasKeysInOrder) (sym items) (ap (rise_above None) (c.from_vec.ensures ∙ c.new.ensures.items), (ap (rise_above None) (c.from_vec-2.ensures ∙ c.in_ok-vec.ensures.items) ∙ two_rise c.in_ok-pair.field-0 c.in_ok-pair-2.field-0 c.in_ok-pair.ensures c.in_ok-pair-2.ensures, tt));
    }
