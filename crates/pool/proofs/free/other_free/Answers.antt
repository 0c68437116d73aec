use Rattle.std.proofs.Common.{◌∙◌, ◌+◌, arith}
use Rattle.std.proofs.Math.ListN.{drop_of_length-le}
use Rattle.std.proofs.lemmas.List.{take_all}
use Rattle.pool.proofs.Firsts.{first_whole}
use Rattle.pool.proofs.free.other_free.Goals as goal

pub returns-then-i-xs : goal.returns-then-i-xs
returns-then-i-xs g c =
    rw (drop_of_length-le c.args.xs.now {i = c.args.i + 1} (omega (arith, c.if-i-xs.true)), take_all c.args.i c.args.xs.now c.if-i-xs.true)
    (c.first_free.ensures ∙ first_whole g.T.Pooled.free c.args.xs.now)
