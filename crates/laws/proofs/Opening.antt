-- each operation of a history was opened by the call that it names
use Rattle.std.proofs.Common.{◌≡◌, ℕ, suc, ◌<◌, ◌≤◌, Bool, true, false, cond, eqb, ltb, ◌⊎◌, List, [], ◌∷◌, Some, None, Option, Ok, Err, Result, sym, refl, ap, ◌∙◌, inl, inr, ⊎_elim, arith}
use Rattle.std.specs.List.{AllByRecursion}
use Rattle.std.proofs.ByRecursion.{All-append}
use Rattle.std.proofs.lemmas.Option.{none-some, same_Some}
use Rattle.std.proofs.lemmas.Bool.{cases_Bool, both_ways, cond_both, eqb-true, eqb-false, eq-eqb, cases_lt}
use Rattle.std.proofs.lemmas.Bool.Decides.{nat_tests}
use Rattle.bwtree.specs.declared.answer.Answer.{Answer}
use Rattle.bwtree.specs.declared.answer.Answer.TheVariants as answers
use Rattle.bwtree.specs.declared.answer.Ending.{Ending}
use Rattle.bwtree.specs.declared.answer.Refusal.{Refusal}
use Rattle.bwtree.specs.declared.seat.Request.{Request}
use Rattle.laws.specs.Worlds.{Phase, Idle, RootRead, PostRead, Seat, World, Granted, sit, Call, Begin, Step, Tell}
use Rattle.laws.specs.Acts.{Act, Reads, Fails, Goes, Ends, Replaces, Divides, Roots, Refuses, act}
use Rattle.laws.specs.Calls.{Did, Opened, ReadLeaf, Installed, Otherwise, Event, Turn, Made, perform, begin, is_idle, seat_of, seated, taking, event, run}
use Rattle.laws.specs.Histories.{Ended, changes, keeps, settled, comes, coming, begun, read_at, swapped_at, moment_at, moments, At, Opens}
use Rattle.laws.specs.Maps.{Reply}
use Rattle.laws.proofs.Items.{never}
use Rattle.laws.proofs.Settling.{reply_of, Settled, own_seat, set_settles, other_seat, settles}
use Rattle.laws.proofs.Placing.{begun_other}
use Rattle.laws.proofs.Timing.{at_later, Rest, rest_next}

-- ---- what is still to come of an operation, after one call

ended_now : (n : ℕ) (y : Ending) (x : Ended) (b : Bool) → cond b (Some (record { number = n; ending = y })) None ≡ Some x → x.number ≡ n
ended_now n y x true e = ap (λ (z : Ended). z.number) (sym (same_Some (record { number = n; ending = y }) x e))
ended_now n y x false e = absurd (none-some x e)

settled_next : (n : ℕ) (a : Result Answer Refusal) (later : Option Ended) (x : Ended) → settled n a later ≡ Some x → (x.number ≡ n) ⊎ (later ≡ Some x)
settled_next n (Ok (answers.Ended y)) later x e = inl (ended_now n y x (keeps y.end) e)
settled_next n _ later x e = inr e

comes_next : (n : ℕ) (d : Did) (a : Result Answer Refusal) (later : Option Ended) (x : Ended) → comes n d a later ≡ Some x → (x.number ≡ n) ⊎ (later ≡ Some x)
comes_next n ReadLeaf a later x e = absurd (none-some x e)
comes_next n _ a later x e = settled_next n a later x e

either_next : (n : ℕ) (d : Did) (a : Result Answer Refusal) (later : Option Ended) (x : Ended) (b : Bool) → cond b (comes n d a later) later ≡ Some x → (x.number ≡ n) ⊎ (later ≡ Some x)
either_next n d a later x true e = comes_next n d a later x e
either_next n d a later x false e = inr e

module _ {K : Type 0} (before : K → K → Bool) (w : World K) (s : ℕ) where
  -- ---- a turn of the seat s

  -- it opens an operation
  pub record Fresh (t : Turn K) : Type 0 where
    pub begun : t.answer ≡ Ok answers.Begun
    pub unsettled : (y : Reply) → Settled before t.world s y → ⊥

  -- an operation that is open after it was open before, with the same request
  pub record Kept (t : Turn K) : Type 0 where
    pub still : is_idle (t.world.seats s).phase ≡ false → is_idle (w.seats s).phase ≡ false
    pub request : (t.world.seats s).request ≡ (w.seats s).request
    pub reads : t.did ≡ ReadLeaf → is_idle (w.seats s).phase ≡ false
    pub installs : t.did ≡ Installed → is_idle (w.seats s).phase ≡ false
    pub closed : t.did ≡ Opened → ⊥

  abbrev Turned : Turn K → Type 0
  Turned t = ((t.did ≡ Opened) × Fresh t) ⊎ Kept t

  unchanged_kept : (d : Did) (a : Result Answer Refusal) → (d ≡ ReadLeaf → ⊥) → (d ≡ Installed → ⊥) → (d ≡ Opened → ⊥) → Kept (record { did = d; answer = a; world = w })
  unchanged_kept d a r i o = record { still = λ h. h; request = refl; reads = λ e. absurd (r e); installs = λ e. absurd (i e); closed = o }

  same_request : (p : Phase K) → (sit w.seats s (record { request = (w.seats s).request; phase = p }) s).request ≡ (w.seats s).request
  same_request p = ap (λ (y : Seat K). y.request) (own_seat before w.seats s (record { request = (w.seats s).request; phase = p }))

  -- a step of an open operation
  open_kept : is_idle (w.seats s).phase ≡ false → (a : Act K) → Kept (perform before w s a)
  open_kept q (Reads p) = record { still = λ _. q; request = same_request p; reads = λ _. q; installs = λ _. q; closed = λ e. grind (arith, e) }
  open_kept q (Fails p) = record { still = λ _. q; request = same_request p; reads = λ _. q; installs = λ _. q; closed = λ e. grind (arith, e) }
  open_kept q (Goes p) = record { still = λ _. q; request = same_request p; reads = λ _. q; installs = λ _. q; closed = λ e. grind (arith, e) }
  open_kept q (Ends e v d n) = record { still = λ _. q; request = same_request Idle; reads = λ _. q; installs = λ _. q; closed = λ o. grind (arith, o) }
  open_kept q (Replaces n c e v) = record { still = λ _. q; request = same_request Idle; reads = λ _. q; installs = λ _. q; closed = λ o. grind (arith, o) }
  open_kept q (Divides n c k target) = record { still = λ _. q; request = same_request (PostRead k target _ _); reads = λ _. q; installs = λ _. q; closed = λ o. grind (arith, o) }
  open_kept q (Roots c e d n) = record { still = λ _. q; request = same_request Idle; reads = λ _. q; installs = λ _. q; closed = λ o. grind (arith, o) }
  open_kept q (Refuses x) = unchanged_kept Otherwise (Err x) (λ e. grind (arith, e)) (λ e. grind (arith, e)) (λ e. grind (arith, e))

  -- an idle seat's step is turned down
  idle_kept : (g : Granted) (r : Request K) (p : Phase K) → is_idle p ≡ true → Kept (perform before w s (act before w g r p))
  idle_kept g r Idle e = unchanged_kept Otherwise _ (λ o. grind (arith, o)) (λ o. grind (arith, o)) (λ o. grind (arith, o))
  idle_kept g r _ e = never e

  step_kept : (g : Granted) → Kept (perform before w s (act before w g (w.seats s).request (w.seats s).phase))
  step_kept g =
      ⊎_elim (λ q. idle_kept g (w.seats s).request (w.seats s).phase q) (λ q. open_kept q (act before w g (w.seats s).request (w.seats s).phase)) (cases_Bool (is_idle (w.seats s).phase))

  begin_turned : (r : Request K) (b : Bool) → Turned (begin w s r b)
  begin_turned r true = inl (refl, record { begun = refl; unsettled = λ y h. set_settles before w.seats s (record { request = r; phase = RootRead }) y h })
  begin_turned r false = inr (unchanged_kept Otherwise _ (λ o. grind (arith, o)) (λ o. grind (arith, o)) (λ o. grind (arith, o)))

  seated_turned : (g : Granted) (c : Call K) → seat_of c ≡ s → Turned (seated before w g c)
  seated_turned g (Begin t r) e = rw e (begin_turned r (is_idle (w.seats s).phase))
  seated_turned g (Step t) e = rw e (inr (step_kept g))
  seated_turned g (Tell t) e = inr (unchanged_kept Otherwise _ (λ o. grind (arith, o)) (λ o. grind (arith, o)) (λ o. grind (arith, o)))

  pub turned : (m : Made K) → seat_of m.call ≡ s → Turned (taking before w m)
  turned m e =
      cond_both (ltb (seat_of m.call) 4) _ _ Turned (λ _. seated_turned m.granted m.call e)
      (λ _. inr (unchanged_kept Otherwise _ (λ o. grind (arith, o)) (λ o. grind (arith, o)) (λ o. grind (arith, o))))

module _ {K : Type 0} (before : K → K → Bool) where
  -- ---- no operation is opened on a seat before the one on it has ended

  unopened : (cs : List (Made K)) (w : World K) (n s : ℕ) (x : Ended) → coming n s (run before w cs) ≡ Some x
      → (j : ℕ) (e : Event K) → At n (run before w cs) j e → j ≤ x.number → e.seat ≡ s → e.did ≡ Opened → ⊥
  unopened [] w n s x c j e a l q o = a
  unopened (m ∷ cs) w n s x c j e (inr a) l q o =
      let t = taking before w m in
      let es = run before t.world cs in
      ⊎_elim (λ z. omega (arith, at_later es (suc n) j e a, l, z)) (λ z. unopened cs t.world (suc n) s x z j e a l q o)
      (either_next n t.did t.answer (coming (suc n) s es) x (eqb (seat_of m.call) s) c)
  unopened (m ∷ cs) w n s x c j e (inl a) l q o = go (turned before w s m seat)
    where
      t : Turn K
      t = taking before w m

      es : List (Event K)
      es = run before t.world cs

      seat : seat_of m.call ≡ s
      seat = ap (λ (y : Event K). y.seat) a.1 ∙ q

      opened : t.did ≡ Opened
      opened = ap (λ (y : Event K). y.did) a.1 ∙ o

      go : ((t.did ≡ Opened) × Fresh before w s t) ⊎ Kept before w s t → ⊥
      go (inr k) = k.closed opened
      go (inl f) =
          let z : comes n t.did t.answer (coming (suc n) s es) ≡ Some x = rw (eq-eqb (seat_of m.call) s seat) at c in
          let y : coming (suc n) s es ≡ Some x = rw (f.0, f.1.begun) at z in
          f.1.unsettled (reply_of x) (settles before cs t.world (suc n) s x y)

module _ {K : Type 0} where
  begun_kept : (s n : ℕ) (e : Event K) (begins : ℕ → ℕ) (d : Did) → (d ≡ Opened → ⊥) → begun n e d begins s ≡ begins s
  begun_kept s n e begins Opened h = absurd (h refl)
  begun_kept s n e begins _ h = refl

  -- of the history h: call b opened an operation on seat s, and no call before n opened another
  pub record OpenedAt (h : List (Event K)) (n s b : ℕ) (r : Request K) : Type 0 where
    pub call : Event K
    pub is : At 1 h b call
    pub seat : call.seat ≡ s
    pub request : call.request ≡ r
    pub opens : call.did ≡ Opened
    pub since : (j : ℕ) (e : Event K) → At 1 h j e → b < j → j < n → e.seat ≡ s → e.did ≡ Opened → ⊥

  -- the call n itself
  at_now : (h : List (Event K)) (n j : ℕ) (v : Event K) (es : List (Event K)) → Rest h n (v ∷ es) → (e : Event K) → At 1 h j e → j ≡ n → v ≡ e
  at_now h n j v es r e a q = go (r.whole j e a (omega (arith, q)))
    where
      go : ((n ≡ j) × (v ≡ e)) ⊎ At (suc n) es j e → v ≡ e
      go (inl p) = p.1
      go (inr b) = absurd (omega (arith, at_later es (suc n) j e b, q))

  -- call n opens nothing on seat s
  opened_on : (h : List (Event K)) (n s b : ℕ) (q : Request K) (v : Event K) (es : List (Event K)) → Rest h n (v ∷ es) → (v.seat ≡ s → v.did ≡ Opened → ⊥)
      → OpenedAt h n s b q → OpenedAt h (suc n) s b q
  opened_on h n s b q v es r k o = record { call = o.call; is = o.is; seat = o.seat; request = o.request; opens = o.opens; since = since }
    where
      since : (j : ℕ) (e : Event K) → At 1 h j e → b < j → j < suc n → e.seat ≡ s → e.did ≡ Opened → ⊥
      since j e a l u t d =
          ⊎_elim (λ z. o.since j e a l z t d)
          (λ z. let y = at_now h n j v es r e a (omega (arith, z, u)) in k (ap (λ (x : Event K). x.seat) y ∙ t) (ap (λ (x : Event K). x.did) y ∙ d))
          (cases_lt j n)

module _ {K : Type 0} (before : K → K → Bool) (h : List (Event K)) where
  -- every open operation was opened by the call that is kept for its seat
  abbrev AllOpen : World K → ℕ → (ℕ → ℕ) → Type 0
  AllOpen w n begins = (s : ℕ) → is_idle (w.seats s).phase ≡ false → OpenedAt h n s (begins s) (w.seats s).request

  module _ (w : World K) (m : Made K) (cs : List (Made K)) (n : ℕ) (begins : ℕ → ℕ) (all : AllOpen w n begins) where
    abbrev t : Turn K
    t = taking before w m

    abbrev v : Event K
    v = event before m t

    abbrev es : List (Event K)
    es = run before t.world cs

    module _ (r : Rest h n (v ∷ es)) where
      -- ---- the open operations after the call

      other_open : (s : ℕ) → eqb (seat_of m.call) s ≡ false → is_idle (t.world.seats s).phase ≡ false
          → OpenedAt h (suc n) s (begun n v t.did begins s) (t.world.seats s).request
      other_open s q i =
          let e = other_seat before w s m q in
          rw (begun_other s n v begins t.did (grind (arith, nat_tests)), e)
          (opened_on h n s (begins s) (w.seats s).request v es r (λ a _. eqb-false (seat_of m.call) s q a) (all s (rw e at i)))

      own_open : (s : ℕ) → seat_of m.call ≡ s → ((t.did ≡ Opened) × Fresh before w s t) ⊎ Kept before w s t → is_idle (t.world.seats s).phase ≡ false
          → OpenedAt h (suc n) s (begun n v t.did begins s) (t.world.seats s).request
      own_open s q (inl f) i =
          rw (f.0, eq-eqb s (seat_of m.call) (sym q))
          (record {
            call = v;
            is = r.inside n v (inl (refl, refl));
            seat = q;
            request = ap (λ (a : ℕ). (t.world.seats a).request) q;
            opens = f.0;
            since = λ j e a l u x d. omega (arith, l, u);
          })
      own_open s q (inr k) i =
          rw (begun_kept s n v begins t.did k.closed, k.request)
          (opened_on h n s (begins s) (w.seats s).request v es r (λ _ d. k.closed d) (all s (k.still i)))

      next_open : AllOpen t.world (suc n) (begun n v t.did begins)
      next_open s i = ⊎_elim (λ q. let e = eqb-true (seat_of m.call) s q in own_open s e (turned before w s m e) i) (λ q. other_open s q i) (cases_Bool (eqb (seat_of m.call) s))

      -- ---- the operation that has its moment at the call

      -- it was open, and is opened by no later call up to z
      entry_opens : (z : ℕ) (o : Ending) (k : Kept before w (seat_of m.call) t) → is_idle (w.seats (seat_of m.call)).phase ≡ false
          → ((j : ℕ) (e : Event K) → At (suc n) es j e → j ≤ z → e.seat ≡ seat_of m.call → e.did ≡ Opened → ⊥)
          → Opens h (record { moment = n; operation = record { seat = v.seat; request = v.request; begin = begins v.seat; end = z; ending = o } })
      entry_opens z o k i later = record { call = a.call; is = a.is; seat = a.seat; request = a.request ∙ sym k.request; opens = a.opens; alone = alone }
        where
          a : OpenedAt h n (seat_of m.call) (begins (seat_of m.call)) (w.seats (seat_of m.call)).request
          a = all (seat_of m.call) i

          b : OpenedAt h (suc n) (seat_of m.call) (begins (seat_of m.call)) (w.seats (seat_of m.call)).request
          b = opened_on h n (seat_of m.call) (begins (seat_of m.call)) (w.seats (seat_of m.call)).request v es r (λ _ d. k.closed d) a

          alone : (j : ℕ) (e : Event K) → At 1 h j e → begins (seat_of m.call) < j → j ≤ z → e.seat ≡ seat_of m.call → e.did ≡ Opened → ⊥
          alone j e x l u s d = ⊎_elim (λ y. b.since j e x l y s d) (λ y. later j e ((rest_next h n v es r).whole j e x y) u s d) (cases_lt j (suc n))

      kept_turn : (t.did ≡ Opened → ⊥) → Kept before w (seat_of m.call) t
      kept_turn c = ⊎_elim (λ f. absurd (c f.0)) (λ k. k) (turned before w (seat_of m.call) m refl)

      read_opens : t.did ≡ ReadLeaf → (o : Option Ended) → coming (suc n) (seat_of m.call) es ≡ o → AllByRecursion (Opens h) (read_at n v begins o)
      read_opens d None e = tt
      read_opens d (Some x) e =
          let k = kept_turn (λ c. grind (arith, c, d)) in
          (entry_opens x.number x.ending k (k.reads d) (λ j y a l s c. unopened before cs t.world (suc n) (seat_of m.call) x e j y a l s c), tt)

      swapped_opens : t.did ≡ Installed → (a : Result Answer Refusal) → AllByRecursion (Opens h) (swapped_at n v begins a)
      swapped_opens d (Ok (answers.Ended y)) =
          let k = kept_turn (λ c. grind (arith, c, d)) in
          cond_both (changes y.end) _ _ (AllByRecursion (Opens h)) (λ _. (entry_opens n y k (k.installs d) (λ j e a l s c. omega (arith, at_later es (suc n) j e a, l)), tt)) (λ _. tt)
      swapped_opens d _ = tt

      moment_opens : (d : Did) → t.did ≡ d → AllByRecursion (Opens h) (moment_at n v begins d es)
      moment_opens ReadLeaf q = read_opens q (coming (suc n) (seat_of m.call) es) refl
      moment_opens Installed q = swapped_opens q t.answer
      moment_opens _ q = tt

  rest_opens : (cs : List (Made K)) (w : World K) (n : ℕ) (begins : ℕ → ℕ) → Rest h n (run before w cs) → AllOpen w n begins → AllByRecursion (Opens h) (moments n begins (run before w cs))
  rest_opens [] w n begins r all = tt
  rest_opens (m ∷ cs) w n begins r all =
      let t = taking before w m in
      let v = event before m t in
      let es = run before t.world cs in
      let after = begun n v t.did begins in
      All-append (Opens h) (moment_at n v begins t.did es) (moments (suc n) after es) (moment_opens w m cs n begins all r t.did refl)
      (rest_opens cs t.world (suc n) after (rest_next h n v es r) (next_open w m cs n begins all r))

module _ {K : Type 0} (before : K → K → Bool) where
  -- from a world with all seats idle
  pub opens : (cs : List (Made K)) (w : World K) → ((s : ℕ) → is_idle (w.seats s).phase ≡ true) → AllByRecursion (Opens (run before w cs)) (moments 1 (λ _. 0) (run before w cs))
  opens cs w i = rest_opens before (run before w cs) cs w 1 (λ _. 0) (record { inside = λ j e a. a; whole = λ j e a l. a }) (λ s q. absurd (both_ways (is_idle (w.seats s).phase) q (i s)))
