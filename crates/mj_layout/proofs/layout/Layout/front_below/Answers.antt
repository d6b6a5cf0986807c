use Rattle.std.proofs.Common.{◌≡◌, ℕ, ◌+◌, ◌-◌, ◌/◌, ◌%◌, ◌<◌, ◌≤◌, ap, sym, subst, arith, ◌∙◌}
use Rattle.mj_layout.specs.Striping.{Striping}
use Rattle.mj_layout.specs.Place.{object_of, offset_of, place}
use Rattle.mj_layout.specs.Cutting.{IsCut}
use Rattle.mj_layout.specs.declared.layout.Spot.{Spot}
use Rattle.mj_layout.proofs.Striped.{sizes}
use Rattle.mj_layout.proofs.Cut.{unit_begins, cut_later, cut_earlier, cut_own, cut_left, cut_right, own}
use Rattle.mj_layout.proofs.layout.Layout.front_below.Goals as goal

-- an object that is of no earlier set and of no later one
same_set : (m n : ℕ) → n ≤ m → m ≤ n → n ≡ m
same_set m n h e = omega arith

pub returns-then-spot-sc : goal.returns-then-spot-sc
returns-then-spot-sc c =
    let s : Striping = record { su = c.self.inside.su; sc = c.self.inside.sc; os = c.self.inside.os } in
    let z = sizes s c.self.invariant in
    let n = c.args.index in
    let at = c.args.at in
    let spot : c.place-spot.result ≡ place s at = subst (λ (t : Striping). c.place-spot.result ≡ place t at) (sym c.self.view_is) c.place-spot.ensures.is in
    let index : c.place-spot.result.index ≡ object_of s at = ap (λ (p : Spot). p.index) spot in
    let offset : c.place-spot.result.offset ≡ offset_of s at = ap (λ (p : Spot). p.offset) spot in
    let later : object_of s at / s.sc < n / s.sc = subst (λ i. i / s.sc < n / s.sc) index c.if-spot-sc.true in
    subst (λ (t : Striping). IsCut t n at (0)) c.self.view_is (cut_later s z n at later)

pub returns-then-index-sc : goal.returns-then-index-sc
returns-then-index-sc c =
    let s : Striping = record { su = c.self.inside.su; sc = c.self.inside.sc; os = c.self.inside.os } in
    let z = sizes s c.self.invariant in
    let n = c.args.index in
    let at = c.args.at in
    let spot : c.place-spot.result ≡ place s at = subst (λ (t : Striping). c.place-spot.result ≡ place t at) (sym c.self.view_is) c.place-spot.ensures.is in
    let index : c.place-spot.result.index ≡ object_of s at = ap (λ (p : Spot). p.index) spot in
    let offset : c.place-spot.result.offset ≡ offset_of s at = ap (λ (p : Spot). p.offset) spot in
    let earlier : n / s.sc < object_of s at / s.sc = subst (λ i. n / s.sc < i / s.sc) index c.if-index-sc.true in
    subst (λ (t : Striping). IsCut t n at c.self.inside.os) c.self.view_is (cut_earlier s z n at earlier)

pub returns-then-index-sc-2 : goal.returns-then-index-sc-2
returns-then-index-sc-2 c =
    let s : Striping = record { su = c.self.inside.su; sc = c.self.inside.sc; os = c.self.inside.os } in
    let z = sizes s c.self.invariant in
    let n = c.args.index in
    let at = c.args.at in
    let spot : c.place-spot.result ≡ place s at = subst (λ (t : Striping). c.place-spot.result ≡ place t at) (sym c.self.view_is) c.place-spot.ensures.is in
    let index : c.place-spot.result.index ≡ object_of s at = ap (λ (p : Spot). p.index) spot in
    let offset : c.place-spot.result.offset ≡ offset_of s at = ap (λ (p : Spot). p.offset) spot in
    let same = same_set (object_of s at / s.sc) (n / s.sc) (subst (λ i. n / s.sc ≤ i / s.sc) index c.if-spot-sc.false) (subst (λ i. i / s.sc ≤ n / s.sc) index c.if-index-sc.false) in
    let left : n % s.sc < object_of s at % s.sc = subst (λ i. n % s.sc < i % s.sc) index c.if-index-sc-2.true in
    let unit = ap (λ o. o - o % s.su + s.su) offset ∙ ap (λ u. u + s.su) (unit_begins s z at) in
    subst (λ (t : Striping). IsCut t n at (c.place-spot.result.offset - c.place-spot.result.offset % c.self.inside.su + c.self.inside.su)) c.self.view_is (subst (λ len. IsCut s n at len) (sym unit) (cut_left s z n at same left))

pub returns-then-spot-sc-2 : goal.returns-then-spot-sc-2
returns-then-spot-sc-2 c =
    let s : Striping = record { su = c.self.inside.su; sc = c.self.inside.sc; os = c.self.inside.os } in
    let z = sizes s c.self.invariant in
    let n = c.args.index in
    let at = c.args.at in
    let spot : c.place-spot.result ≡ place s at = subst (λ (t : Striping). c.place-spot.result ≡ place t at) (sym c.self.view_is) c.place-spot.ensures.is in
    let index : c.place-spot.result.index ≡ object_of s at = ap (λ (p : Spot). p.index) spot in
    let offset : c.place-spot.result.offset ≡ offset_of s at = ap (λ (p : Spot). p.offset) spot in
    let same = same_set (object_of s at / s.sc) (n / s.sc) (subst (λ i. n / s.sc ≤ i / s.sc) index c.if-spot-sc.false) (subst (λ i. i / s.sc ≤ n / s.sc) index c.if-index-sc.false) in
    let right : object_of s at % s.sc < n % s.sc = subst (λ i. i % s.sc < n % s.sc) index c.if-spot-sc-2.true in
    let unit = ap (λ o. o - o % s.su) offset ∙ unit_begins s z at in
    subst (λ (t : Striping). IsCut t n at (c.place-spot.result.offset - c.place-spot.result.offset % c.self.inside.su)) c.self.view_is (subst (λ len. IsCut s n at len) (sym unit) (cut_right s z n at same right))

pub returns-else-spot-sc-2 : goal.returns-else-spot-sc-2
returns-else-spot-sc-2 c =
    let s : Striping = record { su = c.self.inside.su; sc = c.self.inside.sc; os = c.self.inside.os } in
    let z = sizes s c.self.invariant in
    let n = c.args.index in
    let at = c.args.at in
    let spot : c.place-spot.result ≡ place s at = subst (λ (t : Striping). c.place-spot.result ≡ place t at) (sym c.self.view_is) c.place-spot.ensures.is in
    let index : c.place-spot.result.index ≡ object_of s at = ap (λ (p : Spot). p.index) spot in
    let offset : c.place-spot.result.offset ≡ offset_of s at = ap (λ (p : Spot). p.offset) spot in
    let same = same_set (object_of s at / s.sc) (n / s.sc) (subst (λ i. n / s.sc ≤ i / s.sc) index c.if-spot-sc.false) (subst (λ i. i / s.sc ≤ n / s.sc) index c.if-index-sc.false) in
    let left : object_of s at % s.sc ≤ n % s.sc = subst (λ i. i % s.sc ≤ n % s.sc) index c.if-index-sc-2.false in
    let right : n % s.sc ≤ object_of s at % s.sc = subst (λ i. n % s.sc ≤ i % s.sc) index c.if-spot-sc-2.false in
    subst (λ (t : Striping). IsCut t n at (c.place-spot.result.offset)) c.self.view_is (subst (λ len. IsCut s n at len) (sym offset) (cut_own s z n at (own s n at same left right)))
