use Rattle.std.proofs.Common.{◌≡◌, ◌++◌, drop, string_bytes}
use Rattle.inspect.specs.Table.{lines_from}
use Rattle.inspect.proofs.lines.Columns.lines.Given as goal

abbrev pub invariant-loop-place : goal.invariant-loop-place
invariant-loop-place g l =
    string_bytes l.text ++ lines_from g.K.Shown.shown_as l.self.place l.self.key l.place (drop l.place l.entries)
    ≡ lines_from g.K.Shown.shown_as l.self.place l.self.key 0 l.entries
