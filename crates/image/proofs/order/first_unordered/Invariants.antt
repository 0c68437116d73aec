use Rattle.std.proofs.Common.{◌≡◌, List, length, drop}
use Rattle.std.proofs.lemmas.Iterator.{YieldsList}
use Rattle.image.specs.Verdict.{first_unordered}
use Rattle.image.proofs.Unordered.{unordered_on}
use Rattle.image.proofs.order.first_unordered.Given as goal

abbrev pub invariant-loop-place : goal.invariant-loop-place
invariant-loop-place g l =
    (goal.iterator-loop-place g).can_next l.place-iterator
    × (goal.iterator-loop-place g).is_finite l.place-iterator
    × ((ks : List g.row.K.Denot) → YieldsList g.I.Iterator.next_gives (λ k. k) l.fn.keys ks
    → unordered_on g.K.Ordered.before l.previous (length l.yielded) (drop (length l.yielded) ks) ≡ first_unordered g.K.Ordered.before ks)
