-- what every call leaves, by its rule alone: the memory as it was, or one seat set, with its counters
use Rattle.std.proofs.Common.{◌≡◌, ℕ, ◌+◌, ◌*◌, Bool, true, false, cond, eqb, ltb, List, [], ◌∷◌, length, set, Some, None, Option, Err, sym, refl, ap, ◌∙◌, subst, arith, length-set}
use Rattle.std.specs.List.{slice_get}
use Rattle.std.proofs.lemmas.Option.{slice_get_past, none-some, same_Some}
use Rattle.std.proofs.lemmas.Bool.{and_parts, both_ways, eqb-true, ltb-false}
use Rattle.nodes.specs.Chains.{bind}
use Rattle.bwtree.specs.declared.answer.Refusal.{Refusal}
use Rattle.bwtree.specs.declared.answer.Refusal.TheVariants as refusals
use Rattle.bwtree.specs.declared.call.Call.{Call}
use Rattle.bwtree.specs.declared.call.Call.TheVariants as calls
use Rattle.bwtree.specs.declared.seat.Phase.{Phase}
use Rattle.bwtree.specs.declared.seat.Phase.TheVariants as phases
use Rattle.bwtree.specs.declared.seat.Request.{Request}
use Rattle.bwtree.specs.declared.seat.Seat.{Seat}
use Rattle.bwtree.specs.declared.sizes.Sizes.{Sizes}
use Rattle.bwtree.specs.Calls.{call}
use Rattle.bwtree.specs.Memory.{Memory, Outcome}
use Rattle.bwtree.specs.Reports.{chained_in, free_in, held_all, report_at, report_of, reported, waiting_all}
use Rattle.bwtree.specs.Steps.{begin_at, begin_on, fits, opened, refused, step_at, step_for}
use Rattle.bwtree.specs.Swaps.{is_open}
use Rattle.laws.specs.Calls.{Did, Otherwise, seat_of}
use Rattle.refinement.specs.Service.{Served, did, did_at, did_step, event_of, first, serve, without_memory}
use Rattle.refinement.proofs.Lengths.{SameLengths, long_fits, long_itself, long_seat}
use Rattle.refinement.proofs.Shaping.{answer_refused, Sets, installed_after, failed_after, step_sets}

module _ {K : Type 0} where
  -- a call of seat s that did d left the memory as it was, and did nothing if the memory fits the sizes; or it is no
  -- refusal, and set the seat alone, with the counters of what it did
  pub data Called (z : Sizes) (m : Memory K) (s : ℕ) (d : Did) (o : Outcome K) : Type 0 where
    keeps : o.memory ≡ m → (fits z m ≡ true → d ≡ Otherwise) → Called z m s d o
    sets : (it seat : Seat K) → slice_get m.seats s ≡ Some it → o.memory.seats ≡ set m.seats s seat → seat.installed ≡ installed_after d it.installed → seat.failed ≡ failed_after d it.failed
        → ((r : Refusal) → o.answer ≡ Err r → ⊥) → SameLengths m o.memory → Called z m s d o

module _ {K : Type 0} (z : Sizes) (m : Memory K) (c : Call K) where
  -- the same of what the rule of a call gives, if it gives something
  abbrev Leaves : Option (Outcome K) → Type 0
  Leaves x = (o : Outcome K) → x ≡ Some o → Called z m (seat_of (without_memory c)) (did m c o.answer) o

  leaves_some : (o : Outcome K) → Called z m (seat_of (without_memory c)) (did m c o.answer) o → Leaves (Some o)
  leaves_some o a p e = subst (λ (x : Outcome K). Called z m (seat_of (without_memory c)) (did m c x.answer) x) (same_Some _ _ e) a

  leaves_refused : (r : Refusal) → (fits z m ≡ true → did m c (Err r) ≡ Otherwise) → Leaves (Some (refused m r))
  leaves_refused r h = leaves_some (refused m r) (keeps refl h)

  -- sizes and seat are tested before anything else
  leaves_tested : (x : Option (Outcome K)) → (fits z m ≡ true → ltb (seat_of (without_memory c)) 4 ≡ false → did m c (Err refusals.NoSuchSeat) ≡ Otherwise) → Leaves x
      → Leaves (cond (fits z m) (cond (ltb (seat_of (without_memory c)) 4) x (Some (refused m refusals.NoSuchSeat))) (Some (refused m refusals.WrongSizes)))
  leaves_tested x h y = sizes (fits z m) refl
    where
      seat : (b : Bool) → ltb (seat_of (without_memory c)) 4 ≡ b → Leaves (cond b x (Some (refused m refusals.NoSuchSeat)))
      seat true e = y
      seat false e = leaves_refused refusals.NoSuchSeat (λ f. h f e)

      sizes : (b : Bool) → fits z m ≡ b → Leaves (cond b (cond (ltb (seat_of (without_memory c)) 4) x (Some (refused m refusals.NoSuchSeat))) (Some (refused m refusals.WrongSizes)))
      sizes true e = seat (ltb (seat_of (without_memory c)) 4) refl
      sizes false e = leaves_refused refusals.WrongSizes (λ f. absurd (both_ways (fits z m) e f))

-- memory that fits has four seats
pub four_seats : {K : Type 0} (z : Sizes) (m : Memory K) → fits z m ≡ true → length m.seats ≡ 4
four_seats z m e =
    let a = and_parts (eqb (length m.slots) z.slots) _ e in
    let b = and_parts (eqb (length m.records) z.records) _ a.1 in
    let c = and_parts (eqb (length m.frames) z.frames) _ b.1 in
    let d = and_parts (eqb (length m.keys) (64 * z.frames)) _ c.1 in
    eqb-true _ _ (and_parts (eqb (length m.values) (64 * z.frames)) _ d.1).1

module _ {K : Type 0} (before : K → K → Bool) (z : Sizes) (m : Memory K) (s : ℕ) where
  begins : (r : Request K) (o : Option (Seat K)) → slice_get m.seats s ≡ o → Leaves z m (calls.Begin s r) (bind o (λ it. Some (begin_on m s r it (is_open it.phase))))
  begins r None e = λ o q. absurd (none-some _ q)
  begins r (Some it) e = on (is_open it.phase)
    where
      on : (b : Bool) → Leaves z m (calls.Begin s r) (Some (begin_on m s r it b))
      on true = leaves_refused z m (calls.Begin s r) refusals.SeatOpen (λ _. refl)
      on false = leaves_some z m (calls.Begin s r) _ (sets it (opened it r) e refl refl refl (answer_refused _) (long_seat long_itself s _))

  -- a step of a seat at this phase
  module _ (it : Seat K) (at_s : slice_get m.seats s ≡ Some it) (o : Outcome K) where
    opened_steps : (d : Did) → Sets m s it d o → Called z m s d o
    opened_steps d y = sets it y.seat at_s y.seats y.installed y.failed y.answered y.lengths

    phase_steps : (p : Phase) → (is_open p ≡ true → Sets m s it (did_step m p) o) → step_for before m s it p ≡ Some o → Called z m s (did_step m p) o
    phase_steps phases.Idle h q = keeps (ap (λ (x : Outcome K). x.memory) (sym (same_Some _ _ q))) (λ _. refl)
    phase_steps _ h q = opened_steps _ (h refl)

  steps : (y : Option (Seat K)) → slice_get m.seats s ≡ y → Leaves z m (calls.Step s) (bind y (λ it. step_for before m s it it.phase))
  steps None e o q = absurd (none-some _ q)
  steps (Some it) e o q = subst (λ (x : Option (Seat K)). Called z m s (did_at m x) o) (sym e) (phase_steps it e o it.phase (λ b. step_sets before m s it o b q) q)

  reports : (y : Option (Seat K)) → Leaves z m (calls.Report s) (bind y (reported m))
  reports None = λ o q. absurd (none-some _ q)
  reports (Some it) = told (eqb (free_in m + (chained_in m + (held_all m + waiting_all m))) (length m.records))
    where
      told : (b : Bool) → Leaves z m (calls.Report s) (cond b (Some (report_of m it)) None)
      told true = leaves_some z m (calls.Report s) (report_of m it) (keeps refl (λ _. refl))
      told false = λ o q. absurd (none-some _ q)

  -- there is no fifth seat
  no_step : fits z m ≡ true → ltb s 4 ≡ false → did_at m (slice_get m.seats s) ≡ Otherwise
  no_step f e = let l = four_seats z m f in let h = ltb-false s 4 e in rw (slice_get_past m.seats s (omega arith)) refl

module _ {K : Type 0} (before : K → K → Bool) (z : Sizes) (m : Memory K) where
  pub called : (c : Call K) (o : Outcome K) → call before z m c ≡ Some o → Called z m (seat_of (without_memory c)) (did m c o.answer) o
  called (calls.Begin s r) = leaves_tested z m (calls.Begin s r) (begin_at m s r) (λ _ _. refl) (begins before z m s r (slice_get m.seats s) refl)
  called (calls.Step s) = leaves_tested z m (calls.Step s) (step_at before m s) (no_step before z m s) (steps before z m s (slice_get m.seats s) refl)
  called (calls.Report s) = leaves_tested z m (calls.Report s) (report_at m s) (λ _ _. refl) (reports before z m s (slice_get m.seats s))

  -- memory that fits the sizes still does after a call
  pub call_fits : (c : Call K) (o : Outcome K) → call before z m c ≡ Some o → fits z m ≡ true → fits z o.memory ≡ true
  call_fits c o e f = go (called c o e)
    where
      go : Called z m (seat_of (without_memory c)) (did m c o.answer) o → fits z o.memory ≡ true
      go (keeps a h) = ap (fits z) a ∙ f
      go (sets it seat a b i j r l) = long_fits z l (ap length b ∙ length-set m.seats (seat_of (without_memory c)) seat) ∙ f

module _ {K : Type 0} (before : K → K → Bool) where
  -- calls that are possible: the first, and then the others
  pub serve_first : (z : Sizes) (m : Memory K) (c : Call K) (cs : List (Call K)) (r : Served K) → serve before z m (c ∷ cs) ≡ Some r
      → (o : Outcome K) × (call before z m c ≡ Some o) × (q : Served K) × (serve before z o.memory cs ≡ Some q) × (r ≡ first (event_of m c o) q)
  serve_first z m c cs r e = go (call before z m c) refl e
    where
      others : (o : Outcome K) → call before z m c ≡ Some o → (q : Option (Served K)) → serve before z o.memory cs ≡ q → bind q (λ x. Some (first (event_of m c o) x)) ≡ Some r
          → (p : Outcome K) × (call before z m c ≡ Some p) × (x : Served K) × (serve before z p.memory cs ≡ Some x) × (r ≡ first (event_of m c p) x)
      others o is None f h = absurd (none-some _ h)
      others o is (Some q) f h = (o, is, q, f, sym (same_Some _ _ h))

      go : (o : Option (Outcome K)) → call before z m c ≡ o → bind o (λ p. bind (serve before z p.memory cs) (λ x. Some (first (event_of m c p) x))) ≡ Some r
          → (p : Outcome K) × (call before z m c ≡ Some p) × (x : Served K) × (serve before z p.memory cs ≡ Some x) × (r ≡ first (event_of m c p) x)
      go None is h = absurd (none-some _ h)
      go (Some o) is h = others o is (serve before z o.memory cs) refl h

  pub serve_fits : (z : Sizes) (m : Memory K) (cs : List (Call K)) (r : Served K) → serve before z m cs ≡ Some r → fits z m ≡ true → fits z r.memory ≡ true
  serve_fits z m [] r e f = subst (λ (x : Served K). fits z x.memory ≡ true) (same_Some _ _ e) f
  serve_fits z m (c ∷ cs) r e f =
      let (o, is, q, rest, whole) = serve_first z m c cs r e in
      subst (λ (x : Served K). fits z x.memory ≡ true) (sym whole) (serve_fits z o.memory cs q rest (call_fits before z m c o is f))
