-- what a pass over a chain, and the walk down to its frame, come to
use Rattle.std.proofs.Common.{◌≡◌, ℕ, zero, suc, Bool, List, [], ◌∷◌, Some, None, Option, refl}
use Rattle.std.specs.List.{slice_get, fold}
use Rattle.nodes.specs.declared.node.Delta.{Delta}
use Rattle.nodes.specs.declared.node.Head.{Head}
use Rattle.nodes.specs.declared.node.Head.TheVariants as heads
use Rattle.nodes.specs.declared.node.Record.{Record}
use Rattle.nodes.specs.declared.scan.Seen.{Seen}
use Rattle.nodes.specs.Chains.{deltas_from, frame_under}
use Rattle.nodes.specs.Scan.{looked, scanned}

-- the frame that a head names
abbrev pub frame_at : Head → Option ℕ
frame_at (heads.Record i) = None
frame_at (heads.Frame f) = Some f

module _ {K : Type 0} where
  pub scanned_fold : (before : K → K → Bool) (last : Option K) (s : Seen K) (ds : List (Delta K)) → fold (λ s d. looked before last s d d.kind) s ds ≡ scanned before last s ds
  scanned_fold before last s [] = refl
  scanned_fold before last s (d ∷ ds) = scanned_fold before last (looked before last s d d.kind) ds

  under_record : (n i : ℕ) (records : List (Record K)) (o : Option (Record K)) → ((h : Head) → frame_at (fold (λ _ d. d.next) h (deltas_from n records h)) ≡ frame_under n records h)
      → frame_at (fold (λ (at : Head) (d : Delta K). d.next) (heads.Record i) (elim o [ None ↦ [] | Some r ↦ r.delta ∷ deltas_from n records r.delta.next ])) ≡ elim o [ None ↦ None | Some r ↦ frame_under n records r.delta.next ]
  under_record n i records None f = refl
  under_record n i records (Some r) f = f r.delta.next

  pub frame_fold : (n : ℕ) (records : List (Record K)) (at : Head) → frame_at (fold (λ _ d. d.next) at (deltas_from n records at)) ≡ frame_under n records at
  frame_fold zero records (heads.Record i) = refl
  frame_fold zero records (heads.Frame f) = refl
  frame_fold (suc n) records (heads.Frame f) = refl
  frame_fold (suc n) records (heads.Record i) = under_record n i records (slice_get records i) (frame_fold n records)
