use Rattle.std.proofs.Common.{◌≡◌}
use Rattle.pool.specs.Waits.{Pools, leaves}
use Rattle.pool.proofs.waits.leave.Given as goal

abbrev pub invariant-loop-frame : goal.invariant-loop-frame
invariant-loop-frame g l =
    ◌≡◌ {A = Pools g.row.K.Denot} (record { records = l.records; frames = l.frames }) (leaves (record { records = l.initial.records; frames = l.initial.frames }) l.seat l.frame-index)
