use Rattle.std.proofs.Common.{rules, ◌≡◌, ℕ, eqb, List, [], ◌∷◌, ◌++◌, length, take, drop, Ok, Err, refl, sym, ap, subst, ◌∙◌, arith, tests, vec_len}
use Rattle.std.proofs.lemmas.Iterator.Splits.{YieldsList-from_slice_split}
use Rattle.std.proofs.lemmas.Iterator.Consumers.{YieldsList-turn, YieldsList-end}
use Rattle.std.proofs.lemmas.List.{length_push, length-take}
use Rattle.std.proofs.lemmas.List.Folds.{list_all-append}
use Rattle.std.proofs.lemmas.Bool.{and_from}
use Rattle.std.specs.List.{list_all}
use Rattle.mj_base.specs.Name.{is_name}
use Rattle.mj_base.specs.PathText.{names_of, bad_name, refusal_at, IsPathRefusal}
use Rattle.mj_base.specs.declared.path.PathRefusal.{PathRefusal}
use Rattle.mj_base.specs.declared.path.PathRefusal.TheVariants.{TooDeep}
use Rattle.mj_base.proofs.PathLemmas.{parts_of, bad_name-good, take-part, IsPathRefusal-at, names_of-deep, names_of-whole}
use Rattle.mj_base.proofs.path.names_of.Goals as goal
use Rattle.mj_base.proofs.path.names_of.Goals.{In-None}

pub loop-part-preserved : goal.loop-part-preserved
loop-part-preserved c =
    let bytes = c.args.bytes.now in
    let n = length c.loop-part.yielded in
    let t = YieldsList-turn (YieldsList-from_slice_split _ (λ (b : ℕ). eqb b 47) bytes (cc) (cc) (cc) (λ x b q k. search (rules, tests))) c.loop-part.yielded _ c.loop-part.yielded_by _ _ c.in-Some.part c.in-Some.is c.next.ensures.steps in
    let part = c.in-Some.part.now in
    let had = c.loop-part.names.items in
    let pushed = c.in_ok-push-in-Ok.ensures.items in
    let one_more = length_push c.loop-part.yielded c.in-Some.part in
    record {
      read = pushed ∙ ap (λ (x : List ℕ). had ++ x ∷ []) c.in-Ok.ensures.name ∙ ap (λ (xs : List (List ℕ)). xs ++ part ∷ []) c.loop-part.invariant.read ∙ sym (take-part (parts_of bytes) n part t)
          ∙ ap (λ (k : ℕ). take k (parts_of bytes)) (sym one_more);
      all = ap (list_all is_name) pushed ∙ list_all-append is_name had (c.in-Ok.name ∷ []) ∙ and_from _ _ c.loop-part.invariant.all (and_from _ _ c.in-Ok.ensures.is_name refl);
      later = c.loop-part.invariant.later ∙ bad_name-good (parts_of bytes) n part t c.in-Ok.ensures.accepted ∙ ap (λ (k : ℕ). bad_name k (drop k (parts_of bytes))) (sym one_more);
    }

pub returns-in-Err : goal.returns-in-Err
returns-in-Err c =
    let bytes = c.args.bytes.now in
    let n = length c.loop-part.yielded in
    let t = YieldsList-turn (YieldsList-from_slice_split _ (λ (b : ℕ). eqb b 47) bytes (cc) (cc) (cc) (λ x b q k. search (rules, tests))) c.loop-part.yielded _ c.loop-part.yielded_by _ _ c.in-Some.part c.in-Some.is c.next.ensures.steps in
    let len : c.len.result ≡ n = omega (arith, c.len.ensures, c.loop-part.names.ok.0, ap length c.loop-part.invariant.read, length-take n (parts_of bytes), t.0) in
    let refused = IsPathRefusal-at bytes n c.in-Some.part.now (sym c.is_empty.ensures ∙ c.if-is_empty.false) c.loop-part.invariant.later t c.in-Err.why c.in-Err.ensures.refused in
    record {
      names = tt;
      is_path = tt;
      refused = subst (λ (r : PathRefusal). IsPathRefusal r (names_of bytes)) (sym (c.bad_name.ensures ∙ ap (λ (k : ℕ). refusal_at k c.in-Err.why) len)) refused;
    }

ended : (c : In-None) → length c.loop-part.yielded ≡ length (parts_of c.args.bytes.now)
ended c =
    (YieldsList-end (YieldsList-from_slice_split _ (λ (b : ℕ). eqb b 47) c.args.bytes.now (cc) (cc) (cc) (λ x b q k. search (rules, tests))) c.loop-part.yielded _ c.loop-part.yielded_by _ _ c.in-None.is c.next.ensures.steps).1

names_len : (c : In-None) → vec_len c.loop-part.names ≡ length c.loop-part.yielded
names_len c =
    let n = length c.loop-part.yielded in
    omega (arith, c.loop-part.names.ok.0, ap length c.loop-part.invariant.read, length-take n (parts_of c.args.bytes.now), ended c)

pub returns-then-len-gt-MAX_PATH-clause-refused : goal.returns-then-len-gt-MAX_PATH-clause-refused
returns-then-len-gt-MAX_PATH-clause-refused c =
    let at = (goal.at.returns-then-len-gt-MAX_PATH-clause-refused c).In-None in
    let len = c.len-then-len-gt-MAX_PATH.ensures ∙ names_len at in
    names_of-deep c.args.bytes.now (length c.loop-part.yielded) (sym c.is_empty.ensures ∙ c.if-is_empty.false) c.loop-part.invariant.later (ended at) (omega (arith, names_len at, c.len-2.ensures))
    ∙ ap (λ (k : ℕ). Err (TooDeep k)) (sym len)

pub returns-clause-names : goal.returns-clause-names
returns-clause-names c =
    let at = (goal.at.returns-clause-names c).In-None in
    names_of-whole c.args.bytes.now (length c.loop-part.yielded) (sym c.is_empty.ensures ∙ c.if-is_empty.false) c.loop-part.invariant.later (ended at) (omega (arith, names_len at, c.len-2.ensures))
    ∙ ap (λ (xs : List (List ℕ)). Ok xs) (sym c.loop-part.invariant.read)
