use Rattle.std.proofs.Common.{arith}
use Rattle.keys.proofs.number.read_number.Goals as goal

pub try_from-requires : goal.try_from-requires
try_from-requires g c = omega (arith, g.met.T.Number.few)
