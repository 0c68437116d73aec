use Rattle.std.proofs.Common.{rules}
use Rattle.bwtree.specs.Lent.{held}
use Rattle.bwtree.proofs.Rules.{split_finds_no_second}
use Rattle.bwtree.proofs.memory.LentMemory.take_for_split.Goals as goal

pub returns-in_err-separator : goal.returns-in_err-separator
returns-in_err-separator g c =
    let none = split_finds_no_second (held c.args.self.now) c.args.cursors c.in_ok-frame.frame c.in_ok-target.target c.in_ok-split.split (search rules) (search rules) (search rules) (search rules) in
    search (rules, none)
