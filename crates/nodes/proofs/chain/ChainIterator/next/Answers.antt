use Rattle.std.proofs.Common.{◌≡◌, ◌-◌, length, ap, refl, ◌∙◌, arith, rules}
use Rattle.std.proofs.lemmas.Option.{slice_get_past, slice_get_read}
use Rattle.nodes.proofs.Descents.{deltas_down, deltas_none}
use Rattle.nodes.proofs.chain.ChainIterator.next.Goals as goal

pub returns-in_err-delta-clause-steps : goal.returns-in_err-delta-clause-steps
returns-in_err-delta-clause-steps g c =
    let at = c.in_err-delta.ensures in
    let e = deltas_none c.args.self.now.records.now c.args.self.now.depth c.in-Record.number c.args.self.now.head c.in-Record.is
    (slice_get_past c.args.self.now.records.now c.in-Record.number at.lookup.3) in
    search rules

pub returns-clause-steps : goal.returns-clause-steps
returns-clause-steps g c =
    let at = c.in_ok-delta.ensures in
    let left : c.args.self.now.depth - 1 ≡ c.in_ok-left.left = omega (arith, c.in_ok-left.ensures) in
    deltas_down c.args.self.now.records.now c.args.self.now.depth c.in-Record.number c.args.self.now.head c.in_ok-delta.field-0.now (omega (arith, c.in_ok-left.ensures)) c.in-Record.is
    (slice_get_read c.args.self.now.records.now _ c.in-Record.number _ refl at.lookup.3.0 at.lookup.1)
    ∙ rw left

pub returns-clause-goes : goal.returns-clause-goes
returns-clause-goes g c =
    let at = c.in_ok-delta.ensures in
    let left : c.args.self.now.depth - 1 ≡ c.in_ok-left.left = omega (arith, c.in_ok-left.ensures) in
    let e = ap length (deltas_down c.args.self.now.records.now c.args.self.now.depth c.in-Record.number c.args.self.now.head c.in_ok-delta.field-0.now (omega (arith, c.in_ok-left.ensures)) c.in-Record.is
    (slice_get_read c.args.self.now.records.now _ c.in-Record.number _ refl at.lookup.3.0 at.lookup.1)) in
    let f = rw left at e in
    search (rules, f)
