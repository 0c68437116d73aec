use Rattle.std.proofs.Common.{Some, rules}
use Rattle.nodes.specs.declared.node.FrameState.TheVariants as states
use Rattle.nodes.specs.declared.node.Head.TheVariants as heads
use Rattle.bwtree.specs.declared.seat.Phase.TheVariants as phases
use Rattle.bwtree.specs.Builds.{frame_cursor}
use Rattle.bwtree.specs.Deltas.{consolidated_of}
use Rattle.bwtree.specs.Memory.{Memory, goes, set_frame}
use Rattle.bwtree.proofs.Rules.{filled_not, filled_same, filled_then}
use Rattle.bwtree.proofs.memory.LentMemory.fill_frame.Goals as goal

pub returns-in_err-fill : goal.returns-in_err-fill
returns-in_err-fill g c = (filled_not _ _ _ _ _ _ c.in_err-fill.ensures, filled_same _ _ _ _ c.in_err-fill.ensures)

pub returns : goal.returns
returns g c =
    let old = c.args.old.now in
    let then = λ (m : Memory g.row.K.Denot). Some (goes (set_frame m c.args.number (record { state = states.Used; attributes = consolidated_of old.attributes }))
    c.args.turn.number (frame_cursor c.args.turn.seat c.args.number) (phases.Swap old.slot old.head (heads.Frame c.args.number))) in
    (filled_then _ _ _ _ then _ c.in_ok-fill.ensures (search rules), search (rules, filled_same _ _ _ _ c.in_ok-fill.ensures))
