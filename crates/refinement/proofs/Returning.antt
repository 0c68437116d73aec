-- what a seat took is given back: a record, a frame
use Rattle.std.proofs.Common.{◌≡◌, ℕ, Bool, true, false, eqb, List, set, Some, Option, sym, refl, subst, inr, arith}
use Rattle.std.specs.List.{slice_get}
use Rattle.nodes.specs.declared.node.Attributes.{Attributes}
use Rattle.nodes.specs.declared.node.Delta.{Delta}
use Rattle.nodes.specs.declared.node.Frame.{Frame}
use Rattle.nodes.specs.declared.node.FrameState.TheVariants as states
use Rattle.nodes.specs.declared.node.Head.{Head}
use Rattle.nodes.specs.declared.node.Head.TheVariants as heads
use Rattle.nodes.specs.declared.node.Item.{Item}
use Rattle.nodes.specs.declared.node.Record.{Record}
use Rattle.pool.specs.Free.{free_chain, freed}
use Rattle.pool.specs.Waits.{state_set}
use Rattle.bwtree.specs.declared.seat.Seat.{Seat}
use Rattle.bwtree.specs.Memory.{Memory, with_frames, with_records}
use Rattle.bwtree.specs.Swaps.{given_back}
use Rattle.laws.specs.Worlds.{World}
use Rattle.refinement.specs.Relation.{busy, Owner, Free, Chained, Held, Group, Reachable, states_of, Related}
use Rattle.refinement.specs.Resolved.{store_of}
use Rattle.refinement.proofs.Pooling.{related_pooled, restated, seen_restated, unwaited}
use Rattle.refinement.proofs.Resolving.{frame_read, record_read}
use Rattle.refinement.proofs.Taking.{mine_chained, mine_group, mine_held, mine_seen, owned, owned_keep, owned_same, related_filled}

module _ {K : Type 0} where
  -- one record is freed
  free_one : (rs : List (Record K)) (i : ℕ) (r : Record K) → slice_get rs i ≡ Some r → free_chain 1 rs (heads.Record i) ≡ set rs i (freed r)
  free_one rs i r e = rw (e, free_chain) refl

-- the seat s that held it is not busy any more
module _ {K : Type 0} (before : K → K → Bool) (top : Item K) (m : Memory K) (w : World K) (own : Head → Owner) (related : Related before top m w own) (s : ℕ)
    (others : (u : ℕ) (it : Seat K) → slice_get m.seats u ≡ Some it → busy it.phase ≡ true → eqb u s ≡ false) where
  pub record_returned : (i : ℕ) (d : Delta K) → slice_get (store_of m).deltas i ≡ Some d → own (heads.Record i) ≡ Held s → Related before top (given_back m (heads.Record i)) w (owned own (heads.Record i) Free)
  record_returned i d there held =
      let z = record_read m i d there in
      subst (λ (rs : List (Record K)). Related before top (with_records m rs) w (owned own (heads.Record i) Free)) (sym (free_one m.records i z.0 z.1))
      (related_filled before top m w own related s i z.0 z.1 (inr held) true Free (λ _. refl) z.0.delta (λ u it e b. mine_held s u (own (heads.Record i)) (others u it e b) (inr held)))

  pub frame_returned : (f : ℕ) (a : Attributes K) → slice_get (store_of m).attributes f ≡ Some a → own (heads.Frame f) ≡ Held s → Related before top (given_back m (heads.Frame f)) w (owned own (heads.Frame f) Free)
  frame_returned f a there held =
      let z = frame_read m f a there in
      let keep = λ (P : Owner → Type 0) (v : Head). owned_keep P own (heads.Frame f) Free v in
      subst (λ (o : Option (Frame K)). Related before top (with_frames m (state_set m.frames f states.Free o)) w (owned own (heads.Frame f) Free)) (sym z.1)
      (related_pooled before top m w own (owned own (heads.Frame f) Free) m.records f z.0 states.Free related refl z.1 (record {
        chained = λ j v d. keep (λ o. o ≡ Chained j) v (mine_chained s j (own (heads.Frame f)) (inr held)) d;
        seen = λ u v d b k g. keep (Reachable (states_of (restated m.frames f z.0 states.Free)) u) k (mine_seen s u (states_of (restated m.frames f z.0 states.Free)) (own (heads.Frame f)) (inr held))
            (seen_restated m.frames f z.0 states.Free u (unwaited before top m w own related f z.0 z.1 (mine_group s f (own (heads.Frame f)) (inr held)) u) (own k) g);
        held = λ u v d b k g. keep (λ o. o ≡ Held u) k (mine_held s u (own (heads.Frame f)) (others u v d b) (inr held)) g;
        free_records = related.free_records;
        free_frames = λ j d g. rw d g;
        free_here = λ d. owned_same own (heads.Frame f) Free;
        groups = λ j d v g. keep (λ o. o ≡ Group j) v (mine_group s j (own (heads.Frame f)) (inr held)) g;
        group_here = λ marks g k d. absurd (grind (arith, d));
      }))
