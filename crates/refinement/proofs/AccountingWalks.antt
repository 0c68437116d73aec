-- reads and walks keep the account; a walk may take a record
use Rattle.std.proofs.Common.{◌≡◌, ℕ, ◌+◌, Bool, true, false, List, [], length, set, Some, None, Option, refl, ap, arith}
use Rattle.std.specs.List.{slice_get}
use Rattle.nodes.specs.declared.node.Attributes.{Attributes}
use Rattle.nodes.specs.declared.node.Head.{Head}
use Rattle.nodes.specs.declared.node.Head.TheVariants as heads
use Rattle.nodes.specs.declared.node.Kind.{Kind}
use Rattle.nodes.specs.declared.node.Record.{Record}
use Rattle.nodes.specs.Chains.{bind, attributes_of}
use Rattle.nodes.specs.Frames.{separators_in_frame}
use Rattle.pool.specs.Free.{next_free}
use Rattle.bwtree.specs.declared.seat.Phase.{Phase}
use Rattle.bwtree.specs.declared.seat.Phase.TheVariants as phases
use Rattle.bwtree.specs.declared.seat.Request.{Request}
use Rattle.bwtree.specs.declared.seat.Request.TheVariants as requests
use Rattle.bwtree.specs.declared.seat.Seat.{Seat}
use Rattle.bwtree.specs.declared.walk.Look.{Look}
use Rattle.bwtree.specs.declared.walk.Look.TheVariants as looks
use Rattle.bwtree.specs.declared.walk.Verdict.{Verdict}
use Rattle.bwtree.specs.declared.walk.Verdict.TheVariants as verdicts
use Rattle.bwtree.specs.Deltas.{delta_on}
use Rattle.bwtree.specs.Memory.{Memory, Outcome, at_phase, goes, head_in, idle, leaving, set_record, set_seat}
use Rattle.bwtree.specs.Reports.{total}
use Rattle.bwtree.specs.Walks.{after_leaf_read, after_root_read, best_after, beyond, judged, key_of, leaf_found, leaf_read, leaf_walk, look_at, looked, put, record_cursor, root_look, root_read, root_walk, separator_at, verdict}
use Rattle.refinement.specs.Accounts.{Accounted, held_at}
use Rattle.refinement.proofs.Accounting.{closes, elsewhere, settled_left}
use Rattle.refinement.proofs.Places.{next_free_lem}
use Rattle.refinement.proofs.Settled.{Settled, settled_hand, settled_taken}

module _ {K : Type 0} where
  -- where a rule is possible, it leaves memory that is accounted for
  pub data Keeps : Option (Outcome K) → Type 0 where
    impossible : Keeps None
    kept : {o : Outcome K} → Accounted o.memory → Keeps (Some o)

  pub keeps_bind : {X : Type 0} (o : Option X) (g : X → Option (Outcome K)) → ((x : X) → o ≡ Some x → Keeps (g x)) → Keeps (bind o g)
  keeps_bind None g h = impossible
  keeps_bind (Some x) g h = h x refl

  -- ---- the phases after a read hold nothing

  root_read_holds : (r : Request K) (h : Head) → held_at (after_root_read r h) ≡ []
  root_read_holds (requests.Lookup k) h = refl
  root_read_holds (requests.Insert k v) h = refl
  root_read_holds (requests.Delete k) h = refl
  root_read_holds (requests.Consolidate k) h = refl
  root_read_holds (requests.Split k) h = refl
  root_read_holds requests.ConsolidateRoot h = refl

  leaf_read_holds : (r : Request K) (n : ℕ) (h : Head) → held_at (after_leaf_read r n h) ≡ []
  leaf_read_holds (requests.Lookup k) n h = refl
  leaf_read_holds (requests.Insert k v) n h = refl
  leaf_read_holds (requests.Delete k) n h = refl
  leaf_read_holds (requests.Consolidate k) n h = refl
  leaf_read_holds (requests.Split k) n h = refl
  leaf_read_holds requests.ConsolidateRoot n h = refl

module _ {K : Type 0} (m : Memory K) (s : ℕ) (it₀ : Seat K) (at_s : slice_get m.seats s ≡ Some it₀) where
  -- what the other seats hold
  abbrev pub others : (ℕ → ℕ) → ℕ
  others = elsewhere m.seats s it₀

  -- ---- how a step comes out, where it changes no seat but s

  pub goes_on : (m' : Memory K) (it : Seat K) (p : Phase) → m'.seats ≡ m.seats → Settled m'.slots m'.records m'.frames (λ f. total f (held_at p) + others f) → Accounted (goes m' s it p).memory
  goes_on m' it p e a = closes (set_seat m' s (at_phase it p)) m.seats s it₀ (at_phase it p) at_s (ap (λ (xs : List (Seat K)). set xs s (at_phase it p)) e) a

  pub leaves_all : (m' : Memory K) (it : Seat K) → m'.seats ≡ set m.seats s (at_phase it phases.Idle) → Settled m'.slots m'.records m'.frames others → Accounted (leaving m' s)
  leaves_all m' it e a =
      closes (leaving m' s) m.seats s it₀ (at_phase it phases.Idle) at_s e
      (settled_hand (λ f. omega arith) (settled_left m'.slots others s (record { records = m'.records; frames = m'.frames }) (length m'.frames) a))

  pub ends_all : (m' : Memory K) (it : Seat K) → m'.seats ≡ m.seats → Settled m'.slots m'.records m'.frames others → Accounted (leaving (idle m' s it) s)
  ends_all m' it q a = leaves_all (idle m' s it) it (ap (λ (xs : List (Seat K)). set xs s (at_phase it phases.Idle)) q) a

module _ {K : Type 0} (m : Memory K) (s : ℕ) (it : Seat K) (at_s : slice_get m.seats s ≡ Some it) (settled : Settled m.slots m.records m.frames (others m s it at_s)) where
  -- the seat goes on to a phase that holds nothing, or ends
  pub walks_on : (it' : Seat K) (p : Phase) → held_at p ≡ [] → Accounted (goes m s it' p).memory
  walks_on it' p e = goes_on m s it at_s m it' p refl (settled_hand (λ f. let z = ap (total f) e in omega arith) settled)

  pub walk_ends : (it' : Seat K) → Accounted (leaving (idle m s it') s)
  walk_ends it' = ends_all m s it at_s m it' refl settled

  pub keeps_root_read : Keeps (root_read m s it)
  keeps_root_read = keeps_bind (head_in m 0) _ (λ h e. kept (walks_on it (after_root_read it.request h) (root_read_holds it.request h)))

  -- a record is taken
  keeps_put : (n : ℕ) (h : Head) (a : Attributes K) (k : K) (kind : Kind) (v : ℕ) (o : Option ℕ) → next_free (λ (r : Record K). r.free) m.records it.cursors.records ≡ o → Keeps (put m s it n h a k kind v o)
  keeps_put n h a k kind v None e = kept (walk_ends it)
  keeps_put n h a k kind v (Some i) e =
      let z = next_free_lem (λ (r : Record K). r.free) m.records it.cursors.records i e in
      keeps_bind (delta_on kind k v h a) _ (λ d q. kept (goes_on m s it at_s (set_record m i (record { free = false; delta = d })) (record_cursor it i) (phases.Swap n h (heads.Record i)) refl
      (settled_hand (λ f. omega arith) (settled_taken (others m s it at_s) i z.0 z.1 settled z.2 d))))

  keeps_judged : (n : ℕ) (h : Head) (a : Attributes K) (k : K) (v : Verdict) → Keeps (judged m s it n h a k v)
  keeps_judged n h a k (verdicts.Ends e v) = kept (walk_ends it)
  keeps_judged n h a k (verdicts.Puts kind v) = keeps_put n h a k kind v _ refl

  keeps_looked : (n : ℕ) (h : Head) (a : Attributes K) (k : K) (l : Look Head) → Keeps (looked m s it n h a k l)
  keeps_looked n h a k (looks.Onward at) = kept (walks_on it (phases.LeafWalk n h at) refl)
  keeps_looked n h a k (looks.Decided o) = keeps_bind (verdict it.request a.size o) _ (λ v e. keeps_judged n h a k v)

  module _ (before : K → K → Bool) where
    keeps_root_look : (k : K) (best : Option ℕ) (at : Head) → Keeps (root_look before m s it k best at)
    keeps_root_look k best (heads.Record i) = go (slice_get m.records i)
      where
        go : (o : Option (Record K)) → Keeps (bind (bind o (λ r. Some (phases.RootWalk r.delta.next (best_after before k (separator_at m.records best) i r.delta.key best r.delta.kind)))) (λ p. Some (goes m s it p)))
        go None = impossible
        go (Some r) = kept (walks_on it _ refl)
    keeps_root_look k best (heads.Frame f) =
        keeps_bind (slice_get m.frames f) _ (λ x e.
        keeps_bind (separators_in_frame before k m.keys m.values f x.attributes.size) _ (λ found q. kept (walks_on it (phases.LeafRead _) refl)))

    pub keeps_root_walk : (at : Head) (best : Option ℕ) → Keeps (root_walk before m s it at best)
    keeps_root_walk at best = keeps_bind (key_of it.request) _ (λ k e. keeps_root_look k best at)

    keeps_leaf_found : (n : ℕ) (h : Head) (right : Option ℕ) (b : Bool) → Keeps (leaf_found before m s it n h right b)
    keeps_leaf_found n h right true = keeps_bind right _ (λ r e. kept (walks_on it (phases.LeafRead r) refl))
    keeps_leaf_found n h right false = kept (walks_on it (after_leaf_read it.request n h) (leaf_read_holds it.request n h))

    pub keeps_leaf_read : (n : ℕ) → Keeps (leaf_read before m s it n)
    keeps_leaf_read n =
        keeps_bind (key_of it.request) _ (λ k e.
        keeps_bind (head_in m n) _ (λ h q.
        keeps_bind (attributes_of m.records m.frames h) _ (λ a p. keeps_leaf_found n h a.right (beyond before k a.high))))

    pub keeps_leaf_walk : (n : ℕ) (h at : Head) → Keeps (leaf_walk before m s it n h at)
    keeps_leaf_walk n h at =
        keeps_bind (key_of it.request) _ (λ k e.
        keeps_bind (attributes_of m.records m.frames h) _ (λ a q.
        keeps_bind (look_at before m.records m.frames m.keys m.values k at) _ (λ l p. keeps_looked n h a k l)))
