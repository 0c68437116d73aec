use Rattle.std.proofs.Common.{◌≡◌, drop}
use Rattle.inspect.specs.Table.{key_column, widest_after}
use Rattle.inspect.proofs.table.key_column.Given as goal

abbrev pub invariant-loop-entry : goal.invariant-loop-entry
invariant-loop-entry g l =
    widest_after g.K.Shown.shown_as l.width (drop l.entry-index l.entries) ≡ key_column g.K.Shown.shown_as l.entries
