-- calls one after the other: memory follows the index without memory, and leaves the same history
use Rattle.std.proofs.Common.{◌≡◌, ℕ, ◌<◌, ◌≤◌, Bool, true, false, eqb, ltb, List, [], ◌∷◌, Some, None, Err, sym, refl, ap, ◌∙◌, subst, ⊎_elim, arith}
use Rattle.std.specs.List.{slice_get}
use Rattle.std.proofs.lemmas.Option.{slice_get_past}
use Rattle.std.proofs.lemmas.Bool.{cases_Bool, eqb-true, le-ltb, ltb-false, ltb-true}
use Rattle.keys.specs.Order.{Lawful}
use Rattle.nodes.specs.declared.node.Head.{Head}
use Rattle.nodes.specs.declared.node.Item.{Item}
use Rattle.bwtree.specs.declared.answer.Refusal.TheVariants as refusals
use Rattle.bwtree.specs.declared.call.Call.{Call}
use Rattle.bwtree.specs.declared.call.Call.TheVariants as calls
use Rattle.bwtree.specs.declared.seat.Phase.TheVariants as phases
use Rattle.bwtree.specs.declared.seat.Request.{Request}
use Rattle.bwtree.specs.declared.seat.Request.TheVariants as requests
use Rattle.bwtree.specs.declared.seat.Seat.{Seat}
use Rattle.bwtree.specs.declared.sizes.Sizes.{Sizes}
use Rattle.bwtree.specs.Calls.{call as call_in}
use Rattle.bwtree.specs.Memory.{Memory, Outcome}
use Rattle.bwtree.specs.Reports.{report_of}
use Rattle.bwtree.specs.Steps.{fits, lawful_sizes, refused as refused_in}
use Rattle.laws.specs.Calls.{Event, Made, Otherwise, Turn, after, begin, call, event, is_idle, refused, run, seat_of, seated}
use Rattle.laws.specs.Worlds.{Granted, Seat as Worker, World}
use Rattle.laws.proofs.Keeping.{call_kept}
use Rattle.laws.proofs.Running.{seated_possible}
use Rattle.laws.proofs.Settling.{other_seat}
use Rattle.laws.proofs.Standing.{Invariant}
use Rattle.refinement.specs.Accounts.{Accounted}
use Rattle.refinement.proofs.Granting.{granting}
use Rattle.refinement.specs.Relation.{Owner, Related}
use Rattle.refinement.specs.Service.{Served, did, did_at, did_begin, event_of, first, request_of, serve, without_memory}
use Rattle.refinement.proofs.Doing.{does_same}
use Rattle.refinement.proofs.Accounting.{accounted_begin}
use Rattle.refinement.proofs.AccountingSteps.{accounted_step}
use Rattle.refinement.proofs.Calling.{call_fits}
use Rattle.refinement.proofs.Measuring.{measured, slots_few}
use Rattle.refinement.proofs.Places.{nth_there}
use Rattle.refinement.proofs.Reporting.{report_is}
use Rattle.refinement.proofs.Steps.{begin_follows, steps_follow}

module _ {K : Type 0} where
  begin_did : (w : World K) (s : ℕ) (r : Request K) (b : Bool) → did_begin (begin w s r b).answer ≡ (begin w s r b).did
  begin_did w s r true = refl
  begin_did w s r false = refl

module _ {K : Type 0} (before : K → K → Bool) (law : Lawful K before) (z : Sizes) (lawful : lawful_sizes z ≡ true) (top : Item K) where
  -- what holds between calls
  pub record Keeps (m : Memory K) (w : World K) : Type 0 where
    pub own : Head → Owner
    pub related : Related before top m w own
    pub invariant : Invariant before w
    pub lengths : fits z m ≡ true
    pub accounted : Accounted m
    -- seats past the fourth are never used
    pub unused : (s : ℕ) → 4 ≤ s → (w.seats s).request ≡ requests.ConsolidateRoot

  -- a call that memory and the index without it answer and record alike
  pub record Followed (m : Memory K) (w : World K) (c : Call K) : Type 0 where
    pub outcome : Outcome K
    pub is : call_in before z m c ≡ Some outcome
    pub granted : Granted
    pub keeps : Keeps outcome.memory (call before w granted (without_memory c)).world
    pub answer : outcome.answer ≡ (call before w granted (without_memory c)).answer
    pub does : did m c outcome.answer ≡ (call before w granted (without_memory c)).did

  -- the request of a seat is the same
  pub request_same : {m : Memory K} {w : World K} → Keeps m w → (s : ℕ) → request_of (slice_get m.seats s) ≡ (w.seats s).request
  request_same {m} {w} k s = ⊎_elim (λ e. near (ltb-true s 4 e)) (λ e. far (ltb-false s 4 e)) (cases_Bool (ltb s 4))
    where
      near : s < 4 → request_of (slice_get m.seats s) ≡ (w.seats s).request
      near l = let x = nth_there m.seats s (omega (arith, k.related.sized.seats)) in ap request_of x.1 ∙ (k.related.seats s x.0 x.1).request

      far : 4 ≤ s → request_of (slice_get m.seats s) ≡ (w.seats s).request
      far l = ap request_of (slice_get_past m.seats s (omega (arith, k.related.sized.seats))) ∙ sym (k.unused s l)

  -- ---- one call

  module _ (m : Memory K) (w : World K) (k : Keeps m w) where
    unused_kept : (g : Granted) (c : Call K) (s : ℕ) → 4 ≤ s → ((call before w g (without_memory c)).world.seats s).request ≡ requests.ConsolidateRoot
    unused_kept g c s l =
        ⊎_elim (λ e. let q : ltb (seat_of (without_memory c)) 4 ≡ false = le-ltb (seat_of (without_memory c)) 4 (omega (arith, eqb-true (seat_of (without_memory c)) s e)) in rw q (k.unused s l))
        (λ e. ap (λ (x : Worker K). x.request) (other_seat before w s (record { granted = g; call = without_memory c }) e) ∙ k.unused s l) (cases_Bool (eqb (seat_of (without_memory c)) s))

    keeps_on : (g : Granted) (c : Call K) (o : Outcome K) (own : Head → Owner) → Related before top o.memory (call before w g (without_memory c)).world own → call_in before z m c ≡ Some o → Accounted o.memory → Keeps o.memory (call before w g (without_memory c)).world
    keeps_on g c o own r e a = record {
      own = own;
      related = r;
      invariant = call_kept law w k.invariant (record { granted = g; call = without_memory c });
      lengths = call_fits before z m c o e k.lengths;
      accounted = a;
      unused = unused_kept g c;
    }

    -- a seat that is not there
    absent : (c : Call K) (g : Granted) → ltb (seat_of (without_memory c)) 4 ≡ false → call_in before z m c ≡ Some (refused_in m refusals.NoSuchSeat) → did m c (Err refusals.NoSuchSeat) ≡ Otherwise → Followed m w c
    absent c g e q d =
        let t : call before w g (without_memory c) ≡ refused w refusals.NoSuchSeat = rw e refl in
        record {
          outcome = refused_in m refusals.NoSuchSeat;
          is = q;
          granted = g;
          keeps = keeps_on g c (refused_in m refusals.NoSuchSeat) k.own (subst (λ (v : World K). Related before top m v k.own) (sym (ap (λ (x : Turn K). x.world) t)) k.related) q k.accounted;
          answer = sym (ap (λ (x : Turn K). x.answer) t);
          does = d ∙ sym (ap (λ (x : Turn K). x.did) t);
        }

    -- what memory grants to a seat that is not there is of no account
    abbrev nothing : Granted
    nothing = granting m (record { request = requests.ConsolidateRoot; phase = phases.Idle; cursors = record { records = 0; frames = 0; slots = 0 }; installed = 0; failed = 0 })

    -- a seat that is there
    module _ (s : ℕ) (e : ltb s 4 ≡ true) (it : Seat K) (at_s : slice_get m.seats s ≡ Some it) where
      present : (c : Call K) → seat_of (without_memory c) ≡ s → (o : Outcome K) → call_in before z m c ≡ Some o → (own : Head → Owner) → Related before top o.memory (seated before w (granting m it) (without_memory c)).world own → o.answer ≡ (seated before w (granting m it) (without_memory c)).answer
          → did m c o.answer ≡ (seated before w (granting m it) (without_memory c)).did → Accounted o.memory → Followed m w c
      present c q o i own r a d n =
          let t : call before w (granting m it) (without_memory c) ≡ seated before w (granting m it) (without_memory c) = rw (ap (λ (x : ℕ). ltb x 4) q ∙ e) refl in
          record {
            outcome = o;
            is = i;
            granted = granting m it;
            keeps = keeps_on (granting m it) c o own (subst (λ (v : World K). Related before top o.memory v own) (sym (ap (λ (x : Turn K). x.world) t)) r) i n;
            answer = a ∙ sym (ap (λ (x : Turn K). x.answer) t);
            does = d ∙ sym (ap (λ (x : Turn K). x.did) t);
          }

      step_here : Followed m w (calls.Step s)
      step_here =
          let p = seated_possible law w k.invariant (granting m it) (without_memory (calls.Step s)) in
          let f = steps_follow before law top m w k.own k.related (measured law top m w k.own k.invariant k.related (slots_few z m k.lengths lawful)) s it at_s p in
          present (calls.Step s) refl f.outcome (rw (k.lengths, e, at_s) f.is) f.owner f.related f.answer
          (ap (did_at m) at_s ∙ does_same before top m w k.own s (granting m it) (w.seats s).request it.phase (w.seats s).phase (k.related.seats s it at_s).phase (w.seats s).request p)
          (accounted_step before top m w k.own k.related s it at_s k.accounted f.outcome f.is)

      report_here : Followed m w (calls.Report s)
      report_here =
          present (calls.Report s) refl (report_of m it) (rw (k.lengths, e) (report_is before top m w k.own k.related k.accounted s it at_s)) k.own k.related refl refl k.accounted

      begin_here : (r : Request K) → Followed m w (calls.Begin s r)
      begin_here r =
          let f = begin_follows before top m w k.own k.related s (ltb-true s 4 e) r in
          present (calls.Begin s r) refl f.outcome (rw (k.lengths, e) f.is) f.owner f.related f.answer
          (ap did_begin f.answer ∙ begin_did w s r (is_idle (w.seats s).phase)) (accounted_begin m s r k.accounted f.outcome f.is)

    there : (s : ℕ) → ltb s 4 ≡ true → (it : Seat K) × (slice_get m.seats s ≡ Some it)
    there s e = nth_there m.seats s (omega (arith, ltb-true s 4 e, k.related.sized.seats))

    not_there : (s : ℕ) → ltb s 4 ≡ false → slice_get m.seats s ≡ None
    not_there s e = slice_get_past m.seats s (omega (arith, ltb-false s 4 e, k.related.sized.seats))

    -- every call
    pub call_follows : (c : Call K) → Followed m w c
    call_follows (calls.Begin s r) =
        ⊎_elim (λ e. begin_here s e (there s e).0 (there s e).1 r) (λ e. absent (calls.Begin s r) nothing e (rw (k.lengths, e) refl) refl) (cases_Bool (ltb s 4))
    call_follows (calls.Step s) =
        ⊎_elim (λ e. step_here s e (there s e).0 (there s e).1) (λ e. absent (calls.Step s) nothing e (rw (k.lengths, e) refl) (ap (did_at m) (not_there s e))) (cases_Bool (ltb s 4))
    call_follows (calls.Report s) =
        ⊎_elim (λ e. report_here s e (there s e).0 (there s e).1) (λ e. absent (calls.Report s) nothing e (rw (k.lengths, e) refl) refl) (cases_Bool (ltb s 4))

  -- ---- all calls

  -- what memory records of a call is what the index without memory does
  event_same : {m : Memory K} {w : World K} {c : Call K} (f : Followed m w c) → event_of m c f.outcome ≡ event before (record { granted = f.granted; call = without_memory c }) (call before w f.granted (without_memory c))
  event_same {m} {w} {c} f =
      let q = request_same f.keeps (seat_of (without_memory c)) in
      λ i. record { seat = seat_of (without_memory c); request = q i; did = f.does i; answer = f.answer i }

  pub record Follow (m : Memory K) (w : World K) (cs : List (Call K)) : Type 0 where
    pub served : Served K
    pub is : serve before z m cs ≡ Some served
    pub made : List (Made K)
    pub keeps : Keeps served.memory (after before w made)
    pub history : served.history ≡ run before w made

  pub calls_follow : (cs : List (Call K)) (m : Memory K) (w : World K) → Keeps m w → Follow m w cs
  calls_follow [] m w k = record { served = record { memory = m; history = [] }; is = refl; made = []; keeps = k; history = refl }
  calls_follow (c ∷ cs) m w k =
      let f = call_follows m w k c in
      let g = calls_follow cs f.outcome.memory (call before w f.granted (without_memory c)).world f.keeps in
      record {
        served = first (event_of m c f.outcome) g.served;
        is = rw (f.is, g.is) refl;
        made = record { granted = f.granted; call = without_memory c } ∷ g.made;
        keeps = g.keeps;
        history = ap (λ (x : Event K). x ∷ g.served.history) (event_same f) ∙ ap (λ (x : List (Event K)). event before (record { granted = f.granted; call = without_memory c }) (call before w f.granted (without_memory c)) ∷ x) g.history;
      }
