use Rattle.std.proofs.Common.{◌≡◌, ◌-◌, ◌<◌, ◌≤◌, true, false, length, get_or}
use Rattle.nodes.proofs.halving.parting.Given as goal

abbrev pub invariant-loop-low : goal.invariant-loop-low
invariant-loop-low g l =
    (l.low ≤ l.high) × (l.high ≤ length l.keys) × (0 < l.low → g.K.Ordered.before (get_or l.keys (l.low - 1) l.k) l.k ≡ true)
    × (l.high < length l.keys → g.K.Ordered.before (get_or l.keys l.high l.k) l.k ≡ false)

abbrev pub decreases-loop-low : goal.decreases-loop-low
decreases-loop-low g l = l.high - l.low
