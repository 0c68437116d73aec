-- every record is accounted for: in an index at rest, after begin, and while a seat has its records in hand
use Rattle.std.proofs.Common.{◌≡◌, ℕ, zero, suc, ◌+◌, Bool, true, false, cond, eqb, leb, List, [], ◌∷◌, ◌++◌, map, length, set, Some, None, Option, sym, refl, ap, ◌∙◌, subst, arith}
use Rattle.std.specs.List.{slice_get}
use Rattle.std.proofs.lemmas.Option.{none-some, same_Some}
use Rattle.std.proofs.lemmas.Bool.{cond_both}
use Rattle.image.specs.declared.entry.Entry.{Entry}
use Rattle.nodes.specs.declared.node.Frame.{Frame}
use Rattle.nodes.specs.declared.node.FrameState.{FrameState}
use Rattle.nodes.specs.declared.node.FrameState.TheVariants as states
use Rattle.nodes.specs.declared.node.Head.{Head}
use Rattle.nodes.specs.declared.node.Head.TheVariants as heads
use Rattle.nodes.specs.declared.node.Record.{Record}
use Rattle.nodes.specs.declared.node.Slot.{Slot}
use Rattle.nodes.specs.Chains.{bind}
use Rattle.pool.specs.Free.{freed}
use Rattle.pool.specs.Waits.{Pools, anyone, leaves, left_frame, left_state, state_set, waits_on, with_state}
use Rattle.bwtree.specs.declared.seat.Phase.{Phase}
use Rattle.bwtree.specs.declared.seat.Phase.TheVariants as phases
use Rattle.bwtree.specs.declared.seat.Request.{Request}
use Rattle.bwtree.specs.declared.seat.Seat.{Seat}
use Rattle.bwtree.specs.Memory.{Memory, Outcome, at_phase, set_seat}
use Rattle.bwtree.specs.Reports.{depth_of, total}
use Rattle.bwtree.specs.Steps.{begin_at, begin_on, opened}
use Rattle.bwtree.specs.Swaps.{is_open}
use Rattle.laws.proofs.Items.{never}
use Rattle.index.specs.Loads.{frame_at, fresh_seat, index_over, leaves_for, numbered, slot_at}
use Rattle.refinement.specs.Accounts.{Accounted, Leads, account_of, chain_from, chain_in, chained_records, at_frame, free_from, free_records, held_at, held_records, numbers, waiting_at, waiting_records}
use Rattle.refinement.proofs.Numbered.{nth_numbered}
use Rattle.refinement.proofs.Settled.{Settled, chain_frame, settled_chain, settled_frame, settled_hand}
use Rattle.refinement.proofs.Weights.{total_append, total_joined, total_set}

-- ---- what the seats hold

module _ {K : Type 0} where
  -- the weight of what all seats hold
  abbrev pub in_seats : List (Seat K) → (ℕ → ℕ) → ℕ
  in_seats seats f = total (λ (x : Seat K). total f (held_at x.phase)) seats

  account_sum : (m : Memory K) (f : ℕ → ℕ) → total f (account_of m) ≡ in_seats m.seats f
      + (total f (free_from 0 m.records) + (total (λ (x : Slot). total f (chain_in m.records m.frames x.head)) m.slots + total (λ (x : Frame K). total f (waiting_at m.records x.state)) m.frames))
  account_sum m f =
      let b = total_append f (free_records m) (chained_records m ++ (held_records m ++ waiting_records m)) in
      let c = total_append f (chained_records m) (held_records m ++ waiting_records m) in
      let d = total_append f (held_records m) (waiting_records m) in
      let x = total_joined f (λ (x : Slot). chain_in m.records m.frames x.head) m.slots in
      let y = total_joined f (λ (x : Seat K). held_at x.phase) m.seats in
      let z = total_joined f (λ (x : Frame K). waiting_at m.records x.state) m.frames in omega arith

  pub settles : (m : Memory K) → Accounted m → Settled m.slots m.records m.frames (in_seats m.seats)
  settles m a = record { once = λ f. sym (account_sum m f) ∙ a.once f; depths = a.depths }

  pub accounts : (m : Memory K) → Settled m.slots m.records m.frames (in_seats m.seats) → Accounted m
  accounts m a = record { once = λ f. account_sum m f ∙ a.once f; depths = a.depths }

  -- what the seats other than s hold
  abbrev pub elsewhere : List (Seat K) → ℕ → Seat K → (ℕ → ℕ) → ℕ
  elsewhere seats s it f = in_seats (set seats s (at_phase it phases.Idle)) f

  -- seat s has what it holds in hand
  pub opens : (m : Memory K) (s : ℕ) (it : Seat K) → slice_get m.seats s ≡ Some it → Accounted m → Settled m.slots m.records m.frames (λ f. total f (held_at it.phase) + elsewhere m.seats s it f)
  opens m s it e a = settled_hand (λ f. let h = total_set (λ (x : Seat K). total f (held_at x.phase)) m.seats s it (at_phase it phases.Idle) e in omega arith) (settles m a)

  -- what is in hand is what seat s holds from now on
  pub closes : (m : Memory K) (seats : List (Seat K)) (s : ℕ) (it y : Seat K) → slice_get seats s ≡ Some it → m.seats ≡ set seats s y
      → Settled m.slots m.records m.frames (λ f. total f (held_at y.phase) + elsewhere seats s it f) → Accounted m
  closes m seats s it y e q a =
      accounts m (settled_hand (λ f.
      let h = total_set (λ (x : Seat K). total f (held_at x.phase)) seats s it (at_phase it phases.Idle) e in
      let g = total_set (λ (x : Seat K). total f (held_at x.phase)) seats s it y e in
      let p = ap (λ (xs : List (Seat K)). in_seats xs f) q in omega arith) a)

-- ---- a seat leaves the waits

module _ {K : Type 0} (slots : List Slot) (hand : (ℕ → ℕ) → ℕ) (s : ℕ) where
  abbrev SettledIn : Pools K → Type 0
  SettledIn p = Settled slots p.records p.frames hand

  left_waits : (p : Pools K) (k : ℕ) (x : Frame K) (marks : List Bool) (h : Head) (n : ℕ) → slice_get p.frames k ≡ Some x → x.state ≡ states.Waiting marks h n → SettledIn p → (b : Bool) → SettledIn (waits_on p k (set marks s false) h n b)
  left_waits p k x marks h n e q a true =
      subst (λ (o : Option (Frame K)). Settled slots p.records (state_set p.frames k (states.Waiting (set marks s false) h n) o) hand) (sym e)
      (settled_frame a k x (with_state x (states.Waiting (set marks s false) h n)) hand e (λ f. let z = ap (λ (st : FrameState). total f (waiting_at p.records st)) q in omega arith) (λ d. d))
  left_waits p k x marks h n e q a false =
      settled_chain n p.records h hand
      (subst (λ (o : Option (Frame K)). Settled slots p.records (state_set p.frames k states.Free o) (λ f. total f (chain_from n p.records h) + hand f)) (sym e)
      (settled_frame a k x (with_state x states.Free) (λ f. total f (chain_from n p.records h) + hand f) e (λ f. let z = ap (λ (st : FrameState). total f (waiting_at p.records st)) q in omega arith) (λ d. d)))

  left_state_lem : (p : Pools K) (k : ℕ) (x : Frame K) (st : FrameState) → slice_get p.frames k ≡ Some x → x.state ≡ st → SettledIn p → SettledIn (left_state p s k st)
  left_state_lem p k x states.Free e q a = a
  left_state_lem p k x states.Used e q a = a
  left_state_lem p k x (states.Waiting marks h n) e q a = left_waits p k x marks h n e q a (anyone (set marks s false))

  left_frame_lem : (p : Pools K) (k : ℕ) (o : Option (Frame K)) → slice_get p.frames k ≡ o → SettledIn p → SettledIn (left_frame p s k o)
  left_frame_lem p k None e a = a
  left_frame_lem p k (Some x) e a = left_state_lem p k x x.state e refl a

  pub settled_left : (p : Pools K) (n : ℕ) → SettledIn p → SettledIn (leaves p s n)
  settled_left p zero a = a
  settled_left p (suc n) a = left_frame_lem (leaves p s n) n (slice_get (leaves p s n).frames n) refl (settled_left p n a)

-- ---- begin

module _ {K : Type 0} (m : Memory K) (s : ℕ) (r : Request K) (a : Accounted m) where
  -- a seat that is not open holds nothing
  idle_holds : (p : Phase) → is_open p ≡ false → held_at p ≡ []
  idle_holds phases.Idle e = refl
  idle_holds _ e = never (sym e)

  begun : (it : Seat K) → slice_get m.seats s ≡ Some it → (b : Bool) → is_open it.phase ≡ b → Accounted (begin_on m s r it b).memory
  begun it e true q = a
  begun it e false q = closes (set_seat m s (opened it r)) m.seats s it (opened it r) e refl (settled_hand (λ f. let z = ap (total f) (idle_holds it.phase q) in omega arith) (opens m s it e a))

  -- begin keeps the account
  pub accounted_begin : (o : Outcome K) → begin_at m s r ≡ Some o → Accounted o.memory
  accounted_begin o e = go (slice_get m.seats s) refl e
    where
      go : (x : Option (Seat K)) → slice_get m.seats s ≡ x → bind x (λ it. Some (begin_on m s r it (is_open it.phase))) ≡ Some o → Accounted o.memory
      go None q p = absurd (none-some _ p)
      go (Some it) q p = subst (λ (z : Outcome K). Accounted z.memory) (same_Some _ _ p) (begun it q (is_open it.phase) refl)

-- ---- an index at rest

module _ {K : Type 0} where
  all_free : (f : ℕ → ℕ) (b : ℕ) (rs : List (Record K)) → total f (free_from b (map freed rs)) ≡ total f (numbers b (length (map freed rs)))
  all_free f b [] = refl
  all_free f b (r ∷ rs) = let h = all_free f (suc b) rs in omega arith

-- elements that weigh nothing
numbered_nothing : {X : Type 0} (g : X → ℕ) (f : ℕ → X → X) → ((i : ℕ) (x : X) → g (f i x) ≡ 0) → (i : ℕ) (xs : List X) → total g (numbered f i xs) ≡ 0
numbered_nothing g f e i [] = refl
numbered_nothing g f e i (x ∷ xs) = let a = e i x in let h = numbered_nothing g f e (suc i) xs in omega arith

module _ {K : Type 0} (m : Memory K) (es : List (Entry K)) where
  abbrev rest : Memory K
  rest = index_over m es

  slot_nothing : (f : ℕ → ℕ) (n i : ℕ) (x : Slot) → total f (chain_in rest.records rest.frames (slot_at n i x).head) ≡ 0
  slot_nothing f n i x = cond_both (leb i n) (Some (heads.Frame i)) None (λ (o : Option Head). total f (chain_in rest.records rest.frames o) ≡ 0) (λ _. ap (total f) (chain_frame (depth_of rest.records rest.frames (Some (heads.Frame i))) rest.records i)) (λ _. refl)

  frame_nothing : (f : ℕ → ℕ) (i : ℕ) (x : Frame K) → total f (waiting_at rest.records (frame_at es i x).state) ≡ 0
  frame_nothing f i x =
      cond_both (eqb i 0) _ _ (λ (y : Frame K). total f (waiting_at rest.records y.state) ≡ 0) (λ _. refl)
      (λ _. cond_both (leb i (leaves_for (length es))) _ _ (λ (y : Frame K). total f (waiting_at rest.records y.state) ≡ 0) (λ _. refl) (λ _. refl))

  seat_nothing : (f : ℕ → ℕ) (xs : List (Seat K)) → in_seats (map (λ (x : Seat K). fresh_seat {K = K}) xs) f ≡ 0
  seat_nothing f [] = refl
  seat_nothing f (x ∷ xs) = let h = seat_nothing f xs in omega arith

  -- the root and the leaves are frames without records
  frame_flat : (n : ℕ) → leb n (leaves_for (length es)) ≡ true → depth_of rest.records rest.frames (Some (heads.Frame n)) ≡ 0
  frame_flat n l = ap depth_at (nth_numbered (frame_at es) m.frames n) ∙ go (slice_get m.frames n)
    where
      depth_at : Option (Frame K) → ℕ
      depth_at o = elim (bind o (λ x. Some x.attributes)) [ None ↦ 0 | Some a ↦ a.depth ]

      go : (o : Option (Frame K)) → depth_at (bind o (λ (x : Frame K). Some (frame_at es n x))) ≡ 0
      go None = refl
      go (Some x) = cond_both (eqb n 0) _ _ (λ (y : Frame K). y.attributes.depth ≡ 0) (λ _. refl) (λ _. rw l refl)

  slot_flat : (n : ℕ) (h : Head) (o : Option Slot) → bind (bind o (λ (x : Slot). Some (slot_at (leaves_for (length es)) n x))) (λ x. x.head) ≡ Some h → Leads rest.records (depth_of rest.records rest.frames (Some h)) h
  slot_flat n h None e = absurd (none-some _ e)
  slot_flat n h (Some x) e = go (leb n (leaves_for (length es))) refl e
    where
      go : (b : Bool) → leb n (leaves_for (length es)) ≡ b → cond b (Some (heads.Frame n)) None ≡ Some h → Leads rest.records (depth_of rest.records rest.frames (Some h)) h
      go true q p = subst (λ (y : Head). Leads rest.records (depth_of rest.records rest.frames (Some y)) y) (same_Some _ _ p) (subst (λ (d : ℕ). Leads rest.records d (heads.Frame n)) (sym (frame_flat n q)) at_frame)
      go false q p = absurd (none-some _ p)

  -- an index at rest is accounted for: all its records are free
  pub accounted_start : Accounted rest
  accounted_start = accounts rest (record {
    once = λ f.
        let a = all_free f 0 m.records in
        let b = numbered_nothing (λ (x : Slot). total f (chain_in rest.records rest.frames x.head)) (slot_at (leaves_for (length es))) (slot_nothing f (leaves_for (length es))) 0 m.slots in
        let c = numbered_nothing (λ (x : Frame K). total f (waiting_at rest.records x.state)) (frame_at es) (frame_nothing f) 0 m.frames in
        let d = seat_nothing f m.seats in
        omega arith;
    depths = λ n h e. slot_flat n h (slice_get m.slots n) (ap (λ (o : Option Slot). bind o (λ x. x.head)) (sym (nth_numbered (slot_at (leaves_for (length es))) m.slots n)) ∙ e);
  })
