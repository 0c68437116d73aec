use Rattle.std.proofs.Common.{◌≡◌, ◌<◌, ◌+◌, ◌-◌, length, sym, refl, ◌∙◌, arith, rules}
use borrow.Author.Rules.{scaled_Fits}
use Rattle.std.proofs.lemmas.Option.{get_or_from_slice_get, slice_get_past, slice_get_read}
use Rattle.pool.proofs.Freeing.{chain_at_frame, chain_leaves, chain_more}
use Rattle.pool.proofs.free.free_chain.Goals as goal

pub returns-in_default : goal.returns-in_default
returns-in_default g c = sym (chain_at_frame _ c.loop.records c.loop.at c.in_default.field-0 c.in_default.is) ∙ c.loop.invariant

pub returns-in_default-get : goal.returns-in_default-get
returns-in_default-get g c =
    sym (chain_leaves _ c.loop.records c.loop.at c.in-Record.number c.in-Record.is (slice_get_past c.loop.records c.in-Record.number c.in_default-get.ensures.lookup.3)) ∙ c.loop.invariant

pub offset_bounds-records-number : goal.offset_bounds-records-number
offset_bounds-records-number g c =
    let h : c.in-Record.number < length c.loop.records = c.in-Some.ensures.lookup.3.0 in
    scaled_Fits c.in-Record.number (length c.loop.records) _ h (search rules)

pub loop-preserved : goal.loop-preserved
loop-preserved g c =
    let at = c.in-Some.ensures in
    let there = slice_get_read c.loop.records _ c.in-Record.number c.in-Some.record.now refl at.lookup.3.0 at.lookup.1 in
    let read = get_or_from_slice_get c.loop.records c.in-Record.number c.in-Some.record.now c.index-records-number.result there in
    let left : c.args.count - (c.loop.counter + 1) ≡ c.args.count - c.loop.counter - 1 = omega arith in
    rw (left, read)
    (chain_more (c.args.count - c.loop.counter) c.loop.records c.loop.at c.in-Record.number c.in-Some.record.now (omega arith) c.in-Record.is there ∙ c.loop.invariant)
