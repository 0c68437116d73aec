-- a refused call changes nothing
use Rattle.std.proofs.Common.{◌≡◌, ℕ, Bool, Some, Err}
use Rattle.bwtree.specs.declared.answer.Refusal.{Refusal}
use Rattle.bwtree.specs.declared.call.Call.{Call}
use Rattle.bwtree.specs.declared.sizes.Sizes.{Sizes}
use Rattle.bwtree.specs.Calls.{call}
use Rattle.bwtree.specs.Memory.{Memory, Outcome}
use Rattle.laws.specs.Calls.{Did}
use Rattle.refinement.proofs.Calling.{Called, keeps, sets, called}

module _ {K : Type 0} where
  kept : {z : Sizes} {m : Memory K} {s : ℕ} {d : Did} {o : Outcome K} (r : Refusal) → Called z m s d o → o.answer ≡ Err r → o.memory ≡ m
  kept r (keeps same nothing) e = same
  kept r (sets it seat at_s seats installed failed answered lengths) e = absurd (answered r e)

  pub refusal_keeps : (before : K → K → Bool) (z : Sizes) (m : Memory K) (c : Call K) (o : Outcome K) (r : Refusal) → call before z m c ≡ Some o → o.answer ≡ Err r → o.memory ≡ m
  refusal_keeps before z m c o r e = kept r (called before z m c o e)
