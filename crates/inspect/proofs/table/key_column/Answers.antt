use Rattle.std.proofs.Common.{◌+◌, length, drop, sym, ap, ◌∙◌, arith}
use Rattle.std.proofs.lemmas.List.{drop_all}
use Rattle.inspect.specs.Table.{larger_of, widest_after}
use Rattle.inspect.proofs.Entries.{drop_item, max_larger}
use Rattle.inspect.proofs.table.key_column.Goals as goal

pub loop-entry-preserved : goal.loop-entry-preserved
loop-entry-preserved g c =
    let item = drop_item c.args.entries.now c.loop-entry.entry-index c.entry-item.result (omega arith) c.entry-item.is in
    let rest = drop (c.loop-entry.entry-index + 1) c.args.entries.now in
    ap (λ w. widest_after g.K.Shown.shown_as w rest)
    (c.max-width.ensures ∙ max_larger c.loop-entry.width _
    ∙ ap (λ s. larger_of c.loop-entry.width (length s)) (c.as_str.ensures.value ∙ c.in_ok-key.ensures))
    ∙ ap (widest_after g.K.Shown.shown_as c.loop-entry.width) (sym item) ∙ c.loop-entry.invariant

pub returns : goal.returns
returns g c =
    ap (widest_after g.K.Shown.shown_as c.loop-entry.width) (sym (drop_all c.loop-entry.entry-index c.args.entries.now c.loop-entry-test.false))
    ∙ c.loop-entry.invariant
