use Rattle.std.proofs.Common.{arith, rules}
use Rattle.keys.proofs.Hex.{padded_hex, hex_of-append}
use Rattle.keys.proofs.token.TokenDisplay.fmt.Goals as goal

pub returns-clause-writes : goal.returns-clause-writes
returns-clause-writes g c =
    let first = padded_hex c.args.self.now.first (omega arith) in
    let second = padded_hex c.args.self.now.second (omega arith) in
    search (rules, hex_of-append)
