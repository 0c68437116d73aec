use Rattle.std.proofs.Common.{rules}
use Rattle.std.specs.List.{slice_get}
use Rattle.nodes.specs.Chains.{bind}
use Rattle.bwtree.specs.Builds.{split_taken}
use Rattle.bwtree.specs.Memory.{Memory}
use Rattle.bwtree.proofs.Rules.{filled_not, filled_same, filled_then, promised_known, promised_none}
use Rattle.bwtree.proofs.memory.LentMemory.build_split.Goals as goal

pub returns-in_err-fill : goal.returns-in_err-fill
returns-in_err-fill g c =
    let filled = simp c.cut.ensures at c.in_err-fill.ensures in
    (promised_known _ _ _ _ c.in_ok-place.ensures (filled_not _ _ _ _ _ _ filled), filled_same _ _ _ _ filled)

pub returns-in_err-key : goal.returns-in_err-key
returns-in_err-key g c =
    let filled = simp c.cut.ensures at c.in_ok-fill.ensures in
    let old = c.args.old.now in
    let taken = c.args.taken in
    let then = λ (m : Memory g.row.K.Denot). bind (slice_get m.keys c.in_ok-place.place) (split_taken m c.args.turn.number c.args.turn.seat old.slot old.head old.attributes taken.frame taken.target taken.split taken.separator) in
    (promised_known _ _ _ _ c.in_ok-place.ensures (filled_then _ _ _ _ then _ filled (promised_none _ _ _ c.in_err-key.ensures)), filled_same _ _ _ _ filled)

pub returns : goal.returns
returns g c =
    let filled = simp c.cut.ensures at c.in_ok-fill.ensures in
    let old = c.args.old.now in
    let taken = c.args.taken in
    let then = λ (m : Memory g.row.K.Denot). bind (slice_get m.keys c.in_ok-place.place) (split_taken m c.args.turn.number c.args.turn.seat old.slot old.head old.attributes taken.frame taken.target taken.split taken.separator) in
    (promised_known _ _ _ _ c.in_ok-place.ensures (filled_then _ _ _ _ then _ filled (promised_known _ _ _ _ c.in_ok-key.ensures c.fill_split.ensures.0)), search (rules, filled_same _ _ _ _ filled))
