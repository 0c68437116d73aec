-- what a rule does to memory leaves the lengths of its lists, so that memory that fits the sizes still does
use Rattle.std.proofs.Common.{◌≡◌, ℕ, zero, suc, Bool, true, false, cond, not, ◌&&◌, eqb, leb, List, length, drop, set, Some, None, Option, sym, refl, ap, ◌∙◌, length-set}
use Rattle.std.specs.List.{slice_get}
use Rattle.std.proofs.lemmas.Option.{none-some, same_Some}
use Rattle.nodes.specs.declared.build.Source.{Source}
use Rattle.nodes.specs.declared.node.Frame.{Frame}
use Rattle.nodes.specs.declared.node.FrameState.{FrameState}
use Rattle.nodes.specs.declared.node.FrameState.TheVariants as states
use Rattle.nodes.specs.declared.node.Head.{Head}
use Rattle.nodes.specs.declared.node.Head.TheVariants as heads
use Rattle.nodes.specs.declared.node.Item.{Item}
use Rattle.nodes.specs.declared.node.Level.{Level}
use Rattle.nodes.specs.declared.node.Record.{Record}
use Rattle.nodes.specs.Build.{Arrays, built, in_frame, items_of, source_of}
use Rattle.nodes.specs.Chains.{bind}
use Rattle.nodes.specs.Frames.{in_arrays, place_of}
use Rattle.pool.specs.Free.{free_chain, freed}
use Rattle.pool.specs.Waits.{Pools, anyone, leaves, left_frame, left_state, set_state, state_set, waits_on}
use Rattle.bwtree.specs.declared.seat.Seat.{Seat}
use Rattle.bwtree.specs.declared.sizes.Sizes.{Sizes}
use Rattle.bwtree.specs.Memory.{Memory, leaving, set_frame, set_record, set_seat, set_slot, with_arrays}
use Rattle.bwtree.specs.Steps.{fits}
use Rattle.bwtree.specs.Swaps.{given_back, retiring}
use Rattle.refinement.proofs.Places.{keys_of, length_puts, values_of}

module _ {K : Type 0} where
  -- ---- the pools

  length_freed : (n : ℕ) (rs : List (Record K)) (h : Head) → length (free_chain n rs h) ≡ length rs
  length_freed zero rs h = refl
  length_freed (suc n) rs (heads.Frame f) = refl
  length_freed (suc n) rs (heads.Record i) = go (λ r. length_freed n (set rs i (freed r)) r.delta.next) (slice_get rs i)
    where
      go : ((r : Record K) → length (free_chain n (set rs i (freed r)) r.delta.next) ≡ length (set rs i (freed r))) → (o : Option (Record K)) → length {A = Record K} (elim o [ None ↦ rs | Some r ↦ free_chain n (set rs i (freed r)) r.delta.next ]) ≡ length rs
      go rest None = refl
      go rest (Some r) = rest r ∙ length-set rs i (freed r)

  length_stated : (xs : List (Frame K)) (f : ℕ) (st : FrameState) → length (set_state xs f st) ≡ length xs
  length_stated xs f st = go (slice_get xs f)
    where
      go : (o : Option (Frame K)) → length (state_set xs f st o) ≡ length xs
      go None = refl
      go (Some x) = length-set xs f _

  -- two pools of the same lengths
  record SamePools (p q : Pools K) : Type 0 where
    records : length q.records ≡ length p.records
    frames : length q.frames ≡ length p.frames

  left_pools : (p : Pools K) (s n : ℕ) → SamePools p (leaves p s n)
  left_pools p s zero = record { records = refl; frames = refl }
  left_pools p s (suc n) = let z = left_pools p s n in let y = frame (leaves p s n) (slice_get (leaves p s n).frames n) in record { records = y.records ∙ z.records; frames = y.frames ∙ z.frames }
    where
      waits : (q : Pools K) (marks : List Bool) (h : Head) (k : ℕ) (b : Bool) → SamePools q (waits_on q n marks h k b)
      waits q marks h k true = record { records = refl; frames = length_stated q.frames n _ }
      waits q marks h k false = record { records = length_freed k q.records h; frames = length_stated q.frames n _ }

      state : (q : Pools K) (st : FrameState) → SamePools q (left_state q s n st)
      state q states.Free = record { records = refl; frames = refl }
      state q states.Used = record { records = refl; frames = refl }
      state q (states.Waiting marks h k) = waits q (set marks s false) h k (anyone (set marks s false))

      frame : (q : Pools K) (o : Option (Frame K)) → SamePools q (left_frame q s n o)
      frame q None = record { records = refl; frames = refl }
      frame q (Some x) = state q x.state

  -- ---- memory

  -- the lists of a memory, but for its seats, are as long as those of another
  pub record SameLengths (m n : Memory K) : Type 0 where
    pub slots : length n.slots ≡ length m.slots
    pub records : length n.records ≡ length m.records
    pub frames : length n.frames ≡ length m.frames
    pub keys : length n.keys ≡ length m.keys
    pub values : length n.values ≡ length m.values

  pub long_itself : {m : Memory K} → SameLengths m m
  long_itself = record { slots = refl; records = refl; frames = refl; keys = refl; values = refl }

  module _ {m n : Memory K} (l : SameLengths m n) where
    pub long_seat : (s : ℕ) (it : Seat K) → SameLengths m (set_seat n s it)
    long_seat s it = record { slots = l.slots; records = l.records; frames = l.frames; keys = l.keys; values = l.values }

    pub long_slot : (i : ℕ) (h : Option Head) → SameLengths m (set_slot n i h)
    long_slot i h = record { slots = length-set n.slots i _ ∙ l.slots; records = l.records; frames = l.frames; keys = l.keys; values = l.values }

    pub long_record : (i : ℕ) (r : Record K) → SameLengths m (set_record n i r)
    long_record i r = record { slots = l.slots; records = length-set n.records i r ∙ l.records; frames = l.frames; keys = l.keys; values = l.values }

    pub long_frame : (f : ℕ) (x : Frame K) → SameLengths m (set_frame n f x)
    long_frame f x = record { slots = l.slots; records = l.records; frames = length-set n.frames f x ∙ l.frames; keys = l.keys; values = l.values }

    pub long_left : (s : ℕ) → SameLengths m (leaving n s)
    long_left s =
        let z = left_pools (record { records = n.records; frames = n.frames }) s (length n.frames) in
        record { slots = l.slots; records = z.records ∙ l.records; frames = z.frames ∙ l.frames; keys = l.keys; values = l.values }

    pub long_returned : (h : Head) → SameLengths m (given_back n h)
    long_returned (heads.Record i) = record { slots = l.slots; records = length_freed 1 n.records (heads.Record i) ∙ l.records; frames = l.frames; keys = l.keys; values = l.values }
    long_returned (heads.Frame f) = record { slots = l.slots; records = l.records; frames = length_stated n.frames f states.Free ∙ l.frames; keys = l.keys; values = l.values }

    pub long_retired : (f : ℕ) (h : Head) (depth : ℕ) → SameLengths m (retiring n f h depth)
    long_retired f h depth = record { slots = l.slots; records = l.records; frames = length_stated n.frames f _ ∙ l.frames; keys = l.keys; values = l.values }

  -- a build writes over the item arrays
  pub long_built : (before : K → K → Bool) (level : Level) (m : Memory K) (h : Head) (first f : ℕ) (a : Arrays K) → built before level m.records m.frames m.keys m.values h first f ≡ Some a → SameLengths m (with_arrays m a)
  long_built before level m h first f a e = go (source_of m.records m.frames m.keys m.values h) (items_of before level m.records m.frames m.keys m.values h) e
    where
      filled : (xs : List (Item K)) → in_frame m.keys m.values f (drop first xs) ≡ a → SameLengths m (with_arrays m a)
      filled xs q =
          record {
            slots = refl;
            records = refl;
            frames = refl;
            keys = ap (λ (b : Arrays K). length b.keys) (sym q) ∙ length_puts m.keys (place_of f) (keys_of (drop first xs));
            values = ap (λ (b : Arrays K). length b.values) (sym q) ∙ length_puts m.values (place_of f) (values_of (drop first xs));
          }

      test : (xs : List (Item K)) (b : Bool) → cond b (Some (in_frame m.keys m.values f (drop first xs))) None ≡ Some a → SameLengths m (with_arrays m a)
      test xs true q = filled xs (same_Some _ _ q)
      test xs false q = absurd (none-some _ q)

      go : (o : Option Source) (p : Option (List (Item K)))
          → bind o (λ s. bind p (λ xs. cond (not (eqb s.frame f) && (eqb (length xs) s.count && (leb s.count 64 && in_arrays m.keys m.values f))) (Some (in_frame m.keys m.values f (drop first xs))) None)) ≡ Some a
          → SameLengths m (with_arrays m a)
      go None p q = absurd (none-some _ q)
      go (Some s) None q = absurd (none-some _ q)
      go (Some s) (Some xs) q = test xs _ q

  -- memory of the same lengths fits the same sizes
  pub long_fits : (z : Sizes) {m n : Memory K} → SameLengths m n → length n.seats ≡ length m.seats → fits z n ≡ fits z m
  long_fits z l e = rw (l.slots, l.records, l.frames, l.keys, l.values, e) refl
