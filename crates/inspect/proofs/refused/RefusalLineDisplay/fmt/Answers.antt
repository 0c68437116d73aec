use Rattle.std.proofs.Common.{ℕ, subst}
use Rattle.std.specs.Fmt.{HasWritten}
use Rattle.inspect.specs.Refused.{meaning_of, refusal_text}
use Rattle.inspect.proofs.refused.RefusalLineDisplay.fmt.Goals as goal

pub returns-clause-writes : goal.returns-clause-writes
returns-clause-writes g c = λ plain ok.
    let line = c.args.self.now in
    subst (λ (number : ℕ). HasWritten g.W.Write.write_str_gives c.args.f.now (refusal_text line.name.now line.bytes number (meaning_of line.width line.refusal)) c.writeln.new.self)
    c.from-number.ensures (c.writeln.ensures.writes plain ok)
