use Rattle.std.proofs.Common.{◌+◌, sym, ap, ◌∙◌}
use Rattle.std.specs.Option.{option_map}
use Rattle.pool.proofs.Firsts.{first_past}
use Rattle.pool.proofs.free.first_from.Goals as goal

pub returns-in_err-place : goal.returns-in_err-place
returns-in_err-place g c =
    c.from_residual-in_err-place.ensures ∙ ap (option_map (λ n. c.args.from + n)) (sym c.in_err-place.was)
    ∙ first_past g.T.Pooled.free c.args.xs.now c.in_ok-get.field-0.now c.args.from c.first_free.result c.in_ok-get.ensures.lookup.0.2 c.first_free.ensures

pub returns : goal.returns
returns g c =
    ap (option_map (λ n. c.args.from + n)) (sym c.in_ok-place.was)
    ∙ first_past g.T.Pooled.free c.args.xs.now c.in_ok-get.field-0.now c.args.from c.first_free.result c.in_ok-get.ensures.lookup.0.2 c.first_free.ensures
