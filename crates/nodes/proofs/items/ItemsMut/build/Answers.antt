use Rattle.std.proofs.Common.{leb}
use Rattle.nodes.proofs.Building.{build_promised, build_refused, not_in_arrays, too_many}
use Rattle.nodes.proofs.items.ItemsMut.build.Goals as goal

pub returns-in_err-floor-clause-filled : goal.returns-in_err-floor-clause-filled
returns-in_err-floor-clause-filled g c =
    let source = simp (c.read-items.ensures.keys, c.read-items.ensures.values) at c.in_ok-source.ensures in
    let floor = simp (c.read-items.ensures.keys, c.read-items.ensures.values) at c.in_err-floor.ensures.place in
    build_refused c.args.records.now c.args.frames.now c.args.self.now.keys.now c.args.self.now.values.now c.args.head g.K.Ordered.before c.args.level c.args.first c.args.target
    c.in_ok-source.source source.source _
    (not_in_arrays c.args.self.now.keys.now c.args.self.now.values.now c.args.target (leb c.in_ok-source.source.count 64) floor)
    source.room.0 source.room.1

pub returns-then-source-gt-PLACES-clause-filled : goal.returns-then-source-gt-PLACES-clause-filled
returns-then-source-gt-PLACES-clause-filled g c =
    let source = simp (c.read-items.ensures.keys, c.read-items.ensures.values) at c.in_ok-source.ensures in
    build_refused c.args.records.now c.args.frames.now c.args.self.now.keys.now c.args.self.now.values.now c.args.head g.K.Ordered.before c.args.level c.args.first c.args.target
    c.in_ok-source.source source.source _
    (too_many c.args.self.now.keys.now c.args.self.now.values.now c.args.target c.in_ok-source.source.count c.if-source-gt-PLACES.true)
    source.room.0 source.room.1

pub returns-clause-filled : goal.returns-clause-filled
returns-clause-filled g c =
    let source = simp (c.read-items.ensures.keys, c.read-items.ensures.values) at c.in_ok-source.ensures in
    let floor = simp (c.read-items.ensures.keys, c.read-items.ensures.values) at c.in_ok-floor.ensures.place in
    build_promised c.args.records.now c.args.frames.now c.args.self.now.keys.now c.args.self.now.values.now c.args.head g.K.Ordered.before c.args.level c.args.first c.args.target
    c.in_ok-source.source source.source _ c.in_ok-floor.floor c.saturating_sub.result floor c.saturating_sub.ensures
    source.room.0 source.room.1 c.fill_level.ensures.filled
