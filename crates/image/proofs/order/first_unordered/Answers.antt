use Rattle.std.proofs.Common.{◌≡◌, Some, None, length, drop, sym, ap, ◌∙◌, arith, rules}
use Rattle.std.proofs.lemmas.Iterator.Consumers.{YieldsList-turn, YieldsList-end}
use Rattle.std.proofs.lemmas.List.{length_push}
use Rattle.std.proofs.lemmas.List.FromFn.{length-enumerate_from}
use Rattle.image.proofs.Unordered.{enumerated, turned, on_here, on_first, on_next, on_end, unordered_on}
use Rattle.image.proofs.order.first_unordered.Goals as goal
use Rattle.image.proofs.order.first_unordered.Goals.{in_default-via-in-None-1, in_default-via-in-Some-previous+else-not-stands_before}

pub returns-in-loop-place : goal.returns-in-loop-place
returns-in-loop-place g c = λ ks e.
    let road = enumerated c.into_iter-place-iterator.ensures.into_iter_gives c.enumerate-place-items.ensures.source c.enumerate-place-items.ensures.count e in
    let t = turned g.K.Ordered.before ks _ _ _ (YieldsList-turn road c.loop-place.yielded _ c.loop-place.yielded_by _ _ (c.in-Some.place, c.in-Some.key) c.in-Some.is c.next.ensures.steps) in
    sym (on_here g.K.Ordered.before ks _ _ _ _ t (sym c.if-not-stands_before.ensures))
    ∙ ap (λ q. unordered_on g.K.Ordered.before q (length c.loop-place.yielded) (drop (length c.loop-place.yielded) ks)) (sym c.in-Some-previous.is)
    ∙ c.loop-place.invariant.2 ks e

pub loop-place-preserved : goal.loop-place-preserved
loop-place-preserved g c = (
  search rules,
  search rules,
  λ ks e.
      let road = enumerated c.into_iter-place-iterator.ensures.into_iter_gives c.enumerate-place-items.ensures.source c.enumerate-place-items.ensures.count e in
      let t = turned g.K.Ordered.before ks _ _ _ (YieldsList-turn road c.loop-place.yielded _ c.loop-place.yielded_by _ _ (c.in-Some.place, c.in-Some.key) c.in-Some.is c.next.ensures.steps) in
      let n = length_push c.loop-place.yielded (c.in-Some.place, c.in-Some.key) in
      ap (λ n. unordered_on g.K.Ordered.before (Some c.in-Some.key) n (drop n ks)) n
      ∙ elim c.in_default.branch [
        | in_default-via-in-None-1 w ↦
            let none : c.loop-place.previous ≡ None = search rules in
            on_first g.K.Ordered.before ks _ _ _ t
            ∙ ap (λ q. unordered_on g.K.Ordered.before q (length c.loop-place.yielded) (drop (length c.loop-place.yielded) ks)) (sym none)
            ∙ c.loop-place.invariant.2 ks e
        | in_default-via-in-Some-previous+else-not-stands_before w ↦
            on_next g.K.Ordered.before ks _ _ _ _ t (sym w.if-not-stands_before.ensures)
            ∙ ap (λ q. unordered_on g.K.Ordered.before q (length c.loop-place.yielded) (drop (length c.loop-place.yielded) ks)) (sym w.in-Some-previous.is)
            ∙ c.loop-place.invariant.2 ks e
      ],
)

pub returns : goal.returns
returns g c = λ ks e.
    let road = enumerated c.into_iter-place-iterator.ensures.into_iter_gives c.enumerate-place-items.ensures.source c.enumerate-place-items.ensures.count e in
    let t = YieldsList-end road c.loop-place.yielded _ c.loop-place.yielded_by _ _ c.in-None.is c.next.ensures.steps in
    sym (on_end g.K.Ordered.before ks c.loop-place.previous _ (omega (arith, t.1, length-enumerate_from 0 ks))) ∙ c.loop-place.invariant.2 ks e
