-- a call as a value, and its rule
use Rattle.std.specs.Prelude.{Bool, Option}
use Rattle.bwtree.specs.declared.call.Call.{Call}
use Rattle.bwtree.specs.declared.call.Call.TheVariants as calls
use Rattle.bwtree.specs.declared.sizes.Sizes.{Sizes}
use Rattle.bwtree.specs.Memory.{Memory, Outcome}
use Rattle.bwtree.specs.Steps.{begin, step}
use Rattle.bwtree.specs.Reports.{report}

module _ {K : Type 0} (before : K → K → Bool) where
  abbrev pub call : Sizes → Memory K → Call K → Option (Outcome K)
  call z m (calls.Begin s r) = begin z m s r
  call z m (calls.Step s) = step before z m s
  call z m (calls.Report s) = report z m s
