-- a step that changes one seat alone
use Rattle.std.proofs.Common.{◌≡◌, ℕ, Bool, false, eqb, ◌⊎◌, List, set, Some, Option, Ok, sym, refl, ◌∙◌, subst, inl, inr, length-set}
use Rattle.std.specs.List.{slice_get}
use Rattle.std.proofs.lemmas.Bool.{eq-eqb}
use Rattle.nodes.specs.declared.node.FrameState.{FrameState}
use Rattle.nodes.specs.declared.node.Head.{Head}
use Rattle.nodes.specs.declared.node.Item.{Item}
use Rattle.bwtree.specs.declared.answer.Answer.TheVariants as answers
use Rattle.bwtree.specs.declared.seat.Phase.{Phase}
use Rattle.bwtree.specs.declared.seat.Phase.TheVariants as phases
use Rattle.bwtree.specs.declared.seat.Seat.{Seat}
use Rattle.bwtree.specs.Memory.{Memory, Outcome, at_phase, goes, idle, set_seat}
use Rattle.laws.specs.Calls.{Did, Turn, at, turn}
use Rattle.laws.specs.Worlds.{Idle, Phase as Place, Seat as Worker, World, sit}
use Rattle.refinement.specs.Following.{Follows}
use Rattle.refinement.proofs.Places.{nth_set_cases}
use Rattle.refinement.specs.Relation.{Owner, Chained, Seen, Reachable, view, PhaseAs, SeatAs, Related, idle as at_idle}

-- what a slot's chain owns, every seat may read
pub chained_seen : (own : Head → Owner) (ss : List FrameState) (u n : ℕ) (x : Head) → own x ≡ Chained n → Seen own ss u x
chained_seen own ss u n x e = subst (Reachable ss u) (sym e) tt

module _ {K : Type 0} (before : K → K → Bool) (top : Item K) where
  pub follows_by : {o p : Option (Outcome K)} {t : Turn K} → o ≡ p → Follows before top p t → Follows before top o t
  follows_by e f = record { outcome = f.outcome; is = e ∙ f.is; answer = f.answer; owner = f.owner; related = f.related }

  abbrev pub seated : World K → ℕ → Worker K → World K
  seated w s y = record { clock = w.clock; root = w.root; first = w.first; leaves = w.leaves; seats = sit w.seats s y }

  sit_there : (ys : ℕ → Worker K) (s u : ℕ) (y : Worker K) → u ≡ s → sit ys s y u ≡ y
  sit_there ys s u y e = rw (eq-eqb u s e) refl

  sit_other : (ys : ℕ → Worker K) (s u : ℕ) (y : Worker K) → eqb u s ≡ false → sit ys s y u ≡ ys u
  sit_other ys s u y e = rw e refl

  module _ (m : Memory K) (w : World K) (own : Head → Owner) (related : Related before top m w own) (s : ℕ) where
    seats_sit : (it : Seat K) (y : Worker K) → SeatAs before top (view m w own) s it y → (u : ℕ) (x : Seat K) → slice_get (set m.seats s it) u ≡ Some x → SeatAs before top (view m w own) u x (sit w.seats s y u)
    seats_sit it y e u x h = go (nth_set_cases m.seats s u it x h)
      where
        go : ((u ≡ s) × (x ≡ it)) ⊎ ((eqb u s ≡ false) × (slice_get m.seats u ≡ Some x)) → SeatAs before top (view m w own) u x (sit w.seats s y u)
        go (inl q) =
            let a : SeatAs before top (view m w own) u it y = subst (λ (t : ℕ). SeatAs before top (view m w own) t it y) (sym q.0) e in
            let b : SeatAs before top (view m w own) u x y = subst (λ (z : Seat K). SeatAs before top (view m w own) u z y) (sym q.1) a in
            subst (λ (z : Worker K). SeatAs before top (view m w own) u x z) (sym (sit_there w.seats s u y q.0)) b
        go (inr q) = subst (λ (z : Worker K). SeatAs before top (view m w own) u x z) (sym (sit_other w.seats s u y q.0)) (related.seats u x q.1)

    -- the seat s is set, in memory and without
    pub related_sit : (it : Seat K) (y : Worker K) → SeatAs before top (view m w own) s it y → Related before top (set_seat m s it) (seated w s y) own
    related_sit it y e = record {
      first = related.first;
      root_head = related.root_head;
      root_slot = related.root_slot;
      root_chain = related.root_chain;
      root_place = related.root_place;
      root_stamp = related.root_stamp;
      leaves = related.leaves;
      no_root_leaf = related.no_root_leaf;
      leaf_stamps = related.leaf_stamps;
      seats = seats_sit it y e;
      free_records = related.free_records;
      free_frames = related.free_frames;
      groups = related.groups;
      sized = record { records = related.sized.records; keys = related.sized.keys; values = related.sized.values; seats = length-set m.seats s it ∙ related.sized.seats };
    }

    -- the operation is over
    pub related_idle : (it : Seat K) → it.request ≡ (w.seats s).request → Related before top (idle m s it) (at w s Idle) own
    related_idle it r = related_sit (at_phase it phases.Idle) (record { request = (w.seats s).request; phase = Idle }) (record { request = r; phase = at_idle })

    -- the operation goes on with a phase
    pub follows_goes : (it : Seat K) (d : Did) (p : Phase) (q : Place K) → it.request ≡ (w.seats s).request → PhaseAs before top (view m w own) s (w.seats s).request p q
        → Follows before top (Some (goes m s it p)) (turn d (Ok answers.Going) (at w s q))
    follows_goes it d p q r e = record {
      outcome = goes m s it p;
      is = refl;
      answer = refl;
      owner = own;
      related = related_sit (at_phase it p) (record { request = (w.seats s).request; phase = q }) (record { request = r; phase = e });
    }
