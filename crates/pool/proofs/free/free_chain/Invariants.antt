use Rattle.std.proofs.Common.{◌≡◌, ◌-◌}
use Rattle.pool.specs.Free.{free_chain}
use Rattle.pool.proofs.free.free_chain.Given as goal

abbrev pub invariant-loop : goal.invariant-loop
invariant-loop g l = free_chain (l.count - l.counter) l.records l.at ≡ free_chain l.count l.fn.records l.fn.head
