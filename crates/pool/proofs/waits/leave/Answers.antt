use Rattle.std.proofs.Common.{sym, ap, ◌∙◌, add-one, arith}
use Rattle.std.specs.List.{slice_get}
use Rattle.std.proofs.lemmas.Option.{slice_get-get_or}
use Rattle.pool.specs.Waits.{Pools, left_frame}
use Rattle.pool.proofs.Leaving.{left_among}
use Rattle.pool.proofs.waits.leave.Goals as goal

pub loop-frame-preserved : goal.loop-frame-preserved
loop-frame-preserved g c =
    let at = slice_get-get_or c.loop-frame.frames c.loop-frame.frame-index c.frame-item.result (omega arith) in
    rw add-one
    (left_among c.loop-frame.records c.leave_frame.new.records c.loop-frame.frames c.loop-frame.frame-index _ c.leave_frame.new.frame at c.args.seat c.leave_frame.ensures
    ∙ ap (left_frame (record { records = c.loop-frame.records; frames = c.loop-frame.frames }) c.args.seat c.loop-frame.frame-index) (sym at)
    ∙ ap (λ (p : Pools g.row.K.Denot). left_frame p c.args.seat c.loop-frame.frame-index (slice_get p.frames c.loop-frame.frame-index)) c.loop-frame.invariant)
