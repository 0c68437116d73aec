-- rules that give an outcome or are impossible, put together by `bind`
use Rattle.std.proofs.Common.{◌≡◌, ℕ, Some, None, Option, Err, Result, sym, refl, subst, inr, arith}
use Rattle.nodes.specs.Build.{Arrays, Promised}
use Rattle.nodes.specs.Chains.{bind}
use Rattle.bwtree.specs.declared.answer.Refusal.{Refusal}
use Rattle.bwtree.specs.declared.memory.LentMemory.{LentMemory}
use Rattle.bwtree.specs.declared.answer.End.TheVariants as ends
use Rattle.bwtree.specs.declared.seat.Cursors.{Cursors}
use Rattle.bwtree.specs.Builds.{second_record_for}
use Rattle.bwtree.specs.Lent.{Fills, SameArrays, TakesForSplit, free_frame_from, free_record_from, free_slot_from, held}
use Rattle.bwtree.specs.Memory.{Memory, Outcome, with_arrays}

-- a part of the rule is known to have a value, or to be impossible
pub promised_known : {X Y : Type 0} (o : Option X) (x : X) (f : X → Option Y) (out : Y) → o ≡ Some x → Promised (f x) out → Promised (bind o f) out
promised_known o x f out e p = subst (λ z. Promised (bind z f) out) (sym e) p

pub promised_none : {X Y : Type 0} (o : Option X) (f : X → Option Y) (out : Y) → o ≡ None → Promised (bind o f) out
promised_none o f out e = subst (λ z. Promised (bind z f) out) (sym e) tt

module _ {K : Type 0} (old new : LentMemory K) where
  -- a build that was carried out, and what follows it in the memory that it leaves
  pub filled_then : (rule : Option (Arrays K)) (r : Result Unit Refusal) (f : Memory K → Option (Outcome K)) (o : Outcome K) → Fills rule old new r
      → Promised (f (held new)) o → Promised (bind rule (λ a. f (with_arrays (held old) a))) o
  filled_then None r f o h p = tt
  filled_then (Some a) r f o h p = subst (λ m. Promised (f m) o) h.0.0 p

  -- a build that was not is impossible
  pub filled_not : (rule : Option (Arrays K)) (e : Refusal) (f : Arrays K → Option (Outcome K)) (o : Outcome K) → Fills rule old new (Err e) → Promised (bind rule f) o
  filled_not None e f o h = tt
  filled_not (Some a) e f o h = let z : ◌≡◌ {A = ℕ} 0 1 = cc in absurd (omega arith)

  pub filled_same : (rule : Option (Arrays K)) (r : Result Unit Refusal) → Fills rule old new r → SameArrays old new
  filled_same None r h = h
  filled_same (Some a) r h = h.0.1

-- the fourth thing that a split takes is not free
pub split_finds_no_second : {K : Type 0} (m : Memory K) (c : Cursors) (f n i : ℕ) → free_frame_from m c ≡ Some f → free_slot_from m c ≡ Some n
    → free_record_from m c ≡ Some i → second_record_for m i ≡ None → TakesForSplit m c (Err ends.TooFewRecords)
split_finds_no_second m c f n i a b d e = inr (f, a, inr (n, b, refl, inr (i, d, e)))
