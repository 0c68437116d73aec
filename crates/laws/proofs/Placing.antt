-- the operations in the order of their moments: the moments ascend and lie between begin and end, and the operations are
-- those that ended, each once
use Rattle.std.proofs.Common.{◌≡◌, ℕ, suc, ◌+◌, ◌<◌, ◌≤◌, Bool, true, false, cond, ◌||◌, eqb, ltb, List, [], ◌∷◌, ◌++◌, map, Some, None, Option, Ok, Result, sym, refl, ap, ◌∙◌, subst, ⊎_elim, arith}
use Rattle.std.specs.List.{AllByRecursion}
use Rattle.std.proofs.ByRecursion.{All-append}
use Rattle.std.proofs.lemmas.List.{map-append}
use Rattle.std.proofs.lemmas.Option.{none-some, same_Some}
use Rattle.std.proofs.lemmas.Bool.{cases_Bool, cond_both, eqb-true, eq-eqb}
use Rattle.std.proofs.lemmas.Bool.Decides.{nat_tests}
use Rattle.bwtree.specs.declared.answer.Answer.{Answer}
use Rattle.bwtree.specs.declared.answer.Answer.TheVariants as answers
use Rattle.bwtree.specs.declared.answer.Ending.{Ending}
use Rattle.bwtree.specs.declared.answer.Refusal.{Refusal}
use Rattle.bwtree.specs.declared.seat.Request.{Request}
use Rattle.nodes.specs.declared.node.Kind.TheVariants as kinds
use Rattle.laws.specs.Chains.{On, attributes_of}
use Rattle.laws.specs.Worlds.{Phase, Idle, RootRead, PostRead, Seat, World, Granted, sit, Call, Begin, Step, Tell}
use Rattle.laws.specs.Acts.{Act, Reads, Fails, Goes, Ends, Replaces, Divides, Roots, Refuses, act}
use Rattle.laws.specs.Calls.{Did, Opened, ReadLeaf, Installed, Failed, Otherwise, Turn, Made, Event, turn, perform, begin, is_idle, seat_of, seated, taking, event, run}
use Rattle.laws.specs.Histories.{Ended, Operation, Placed, changes, keeps, settled, comes, coming, begun, operation, read_at, swapped_at, moment_at, moments, ended_at, endings, InOrder, Between, weigh}
use Rattle.laws.proofs.Shapes.{Settles, Shaped, act_shaped}
use Rattle.laws.proofs.Settling.{reply_of, of_seat, Settled, set_settles, own_seat, other_seat, settles}

-- ---- an operation ends after its last leaf read

ended_number : (n : ℕ) (e : Ending) (b : Bool) (x : Ended) → cond b (Some (record { number = n; ending = e })) None ≡ Some x → n ≤ x.number
ended_number n e true x q = let z = same_Some (record { number = n; ending = e }) x q in rw (← z) (omega arith)
ended_number n e false x q = absurd (none-some x q)

settled_number : (n : ℕ) (a : Result Answer Refusal) (later : Option Ended) (x : Ended) → (later ≡ Some x → n ≤ x.number) → settled n a later ≡ Some x → n ≤ x.number
settled_number n (Ok (answers.Ended y)) later x h e = ended_number n y (keeps y.end) x e
settled_number n _ later x h e = h e

comes_number : (n : ℕ) (d : Did) (a : Result Answer Refusal) (later : Option Ended) (x : Ended) → (later ≡ Some x → n ≤ x.number) → comes n d a later ≡ Some x → n ≤ x.number
comes_number n ReadLeaf a later x h e = absurd (none-some x e)
comes_number n _ a later x h e = settled_number n a later x h e

idle_none : (o : Option Ended) → ((x : Ended) → o ≡ Some x → ⊥) → o ≡ None
idle_none None h = refl
idle_none (Some x) h = absurd (h x refl)

module _ {K : Type 0} where
  coming_number : (es : List (Event K)) (n s : ℕ) (x : Ended) → coming n s es ≡ Some x → n ≤ x.number
  coming_number [] n s x e = absurd (none-some x e)
  coming_number (v ∷ es) n s x e = go (λ q. omega (arith, coming_number es (suc n) s x q)) (eqb v.seat s) e
    where
      go : (coming (suc n) s es ≡ Some x → n ≤ x.number) → (b : Bool) → cond b (comes n v.did v.answer (coming (suc n) s es)) (coming (suc n) s es) ≡ Some x → n ≤ x.number
      go h true q = comes_number n v.did v.answer (coming (suc n) s es) x h q
      go h false q = h q

  -- at most one operation, with its moment at n
  abbrev One : ℕ → List (Placed K) → Type 0
  One n [] = Unit {0}
  One n (p ∷ ps) = (p.moment ≡ n) × Between p × (ps ≡ [])

  read_one : (n : ℕ) (e : Event K) (begins : ℕ → ℕ) (o : Option Ended) → ((s : ℕ) → begins s < n) → ((x : Ended) → o ≡ Some x → suc n ≤ x.number) → One n (read_at n e begins o)
  read_one n e begins None b h = tt
  read_one n e begins (Some x) b h = (refl, record { begins = b e.seat; ends = omega (arith, h x refl) }, refl)

  swapped_one : (n : ℕ) (e : Event K) (begins : ℕ → ℕ) (a : Result Answer Refusal) → ((s : ℕ) → begins s < n) → One n (swapped_at n e begins a)
  swapped_one n e begins (Ok (answers.Ended x)) b = cond_both (changes x.end) _ _ (One n) (λ _. (refl, record { begins = b e.seat; ends = omega arith }, refl)) (λ _. tt)
  swapped_one n e begins _ b = tt

  moment_one : (n : ℕ) (e : Event K) (begins : ℕ → ℕ) (d : Did) (es : List (Event K)) → ((s : ℕ) → begins s < n) → One n (moment_at n e begins d es)
  moment_one n e begins ReadLeaf es b = read_one n e begins (coming (suc n) e.seat es) b (λ x q. coming_number es (suc n) e.seat x q)
  moment_one n e begins Installed es b = swapped_one n e begins e.answer b
  moment_one n e begins _ es b = tt

  begun_before : (n : ℕ) (e : Event K) (d : Did) (begins : ℕ → ℕ) → ((s : ℕ) → begins s < n) → (s : ℕ) → begun n e d begins s < suc n
  begun_before n e Opened begins b s = cond_both (eqb s e.seat) n (begins s) (λ i. i < suc n) (λ _. omega arith) (λ _. omega (arith, b s))
  begun_before n e _ begins b s = omega (arith, b s)

  order_one : (j n : ℕ) (xs ys : List (Placed K)) → j < n → One n xs → ((i : ℕ) → i < suc n → InOrder i ys) → InOrder j (xs ++ ys)
  order_one j n [] ys l o h = h j (omega (arith, l))
  order_one j n (p ∷ ps) ys l o h = rw o.2 (rw o.0 (l, h n (omega arith)))

  between_one : (n : ℕ) (xs : List (Placed K)) → One n xs → AllByRecursion Between xs
  between_one n [] o = tt
  between_one n (p ∷ ps) o = rw o.2 (o.1, tt)

  -- the moments ascend
  pub in_order_lem : (es : List (Event K)) (n j : ℕ) (begins : ℕ → ℕ) → ((s : ℕ) → begins s < n) → j < n → InOrder j (moments n begins es)
  in_order_lem [] n j begins b l = tt
  in_order_lem (e ∷ es) n j begins b l =
      order_one j n (moment_at n e begins e.did es) (moments (suc n) (begun n e e.did begins) es) l (moment_one n e begins e.did es b)
      (λ i q. in_order_lem es (suc n) i (begun n e e.did begins) (begun_before n e e.did begins b) q)

  -- and lie after the begin and not after the end
  pub all_between : (es : List (Event K)) (n : ℕ) (begins : ℕ → ℕ) → ((s : ℕ) → begins s < n) → AllByRecursion Between (moments n begins es)
  all_between [] n begins b = tt
  all_between (e ∷ es) n begins b =
      All-append Between (moment_at n e begins e.did es) (moments (suc n) (begun n e e.did begins) es) (between_one n (moment_at n e begins e.did es) (moment_one n e begins e.did es b))
      (all_between es (suc n) (begun n e e.did begins) (begun_before n e e.did begins b))

  pub begun_other : (s n : ℕ) (e : Event K) (begins : ℕ → ℕ) (d : Did) → eqb s e.seat ≡ false → begun n e d begins s ≡ begins s
  begun_other s n e begins Opened q = rw q refl
  begun_other s n e begins _ q = refl

  -- ---- each ended operation once

  abbrev pub operation_of : Placed K → Operation K
  operation_of p = p.operation

  weigh_append : (s : ℕ) (f : Operation K → ℕ) (xs ys : List (Operation K)) → weigh s f (xs ++ ys) ≡ weigh s f xs + weigh s f ys
  weigh_append s f [] ys = omega arith
  weigh_append s f (x ∷ xs) ys = omega (arith, weigh_append s f xs ys)

  module _ (s : ℕ) (f : Operation K → ℕ) where
    -- the weight of an operation that is open, has read its leaf, and ends so
    abbrev pending : Request K → ℕ → Option Ended → ℕ
    pending r b None = 0
    pending r b (Some x) = f (record { seat = s; request = r; begin = b; end = x.number; ending = x.ending })

    abbrev weight : List (Placed K) → ℕ
    weight ps = weigh s f (map operation_of ps)

    read_weight : (n : ℕ) (e : Event K) (begins : ℕ → ℕ) (o : Option Ended) → e.seat ≡ s → weight (read_at n e begins o) ≡ pending e.request (begins s) o
    read_weight n e begins None q = refl
    read_weight n e begins (Some x) q = rw q (rw (eq-eqb s s refl) (omega arith))

    swapped_weight : (n : ℕ) (e : Event K) (begins : ℕ → ℕ) (x : Ending) (b : Bool) → e.seat ≡ s
        → weight (cond b (record { moment = n; operation = operation e.seat e.request begins n x } ∷ []) []) ≡ cond b (pending e.request (begins s) (Some (record { number = n; ending = x }))) 0
    swapped_weight n e begins x true q = rw q (rw (eq-eqb s s refl) (omega arith))
    swapped_weight n e begins x false q = refl

    ended_weight : (n : ℕ) (e : Event K) (begins : ℕ → ℕ) (x : Ending) (b : Bool) → e.seat ≡ s
        → weigh s f (cond b (operation e.seat e.request begins n x ∷ []) []) ≡ cond b (pending e.request (begins s) (Some (record { number = n; ending = x }))) 0
    ended_weight n e begins x true q = rw q (rw (eq-eqb s s refl) (omega arith))
    ended_weight n e begins x false q = refl

    -- ---- another seat's operations weigh nothing here

    moment_other : (n : ℕ) (e : Event K) (begins : ℕ → ℕ) (d : Did) (es : List (Event K)) → eqb e.seat s ≡ false → weight (moment_at n e begins d es) ≡ 0
    moment_other n e begins Opened es q = refl
    moment_other n e begins ReadLeaf es q = go (coming (suc n) e.seat es)
      where
        go : (o : Option Ended) → weight (read_at n e begins o) ≡ 0
        go None = refl
        go (Some x) = rw q refl
    moment_other n e begins Installed es q = go e.answer
      where
        go : (a : Result Answer Refusal) → weight (swapped_at n e begins a) ≡ 0
        go (Ok (answers.Ended x)) = cond_both (changes x.end) _ _ (λ ps. weight ps ≡ 0) (λ _. rw q refl) (λ _. refl)
        go _ = refl
    moment_other n e begins Failed es q = refl
    moment_other n e begins Otherwise es q = refl

    ended_other : (n : ℕ) (e : Event K) (begins : ℕ → ℕ) (a : Result Answer Refusal) → eqb e.seat s ≡ false → weigh s f (ended_at n e begins a) ≡ 0
    ended_other n e begins (Ok (answers.Ended x)) q = cond_both (keeps x.end || changes x.end) _ _ (λ os. weigh s f os ≡ 0) (λ _. rw q refl) (λ _. refl)
    ended_other n e begins _ q = refl

    -- ---- the three ways in which a call of the seat itself ends or goes on

    went_on : (r q : Request K) (b : ℕ) (later : Option Ended) → q ≡ r → pending r b later ≡ pending q b later
    went_on r q b later e = rw e refl

    ended_here : (r q : Request K) (b : ℕ) (x : Ended) (k c : Bool) (later : Option Ended) → q ≡ r → c ≡ false → later ≡ None
        → pending r b (cond k (Some x) None) ≡ cond (k || c) (pending q b (Some x)) 0 + pending q b later
    ended_here r q b x true c later e d z = rw (e, z) (omega arith)
    ended_here r q b x false c later e d z = rw (d, z) (omega arith)

    swapped_here : (r q : Request K) (b : ℕ) (x : Ended) (k c : Bool) (later : Option Ended) → k ≡ false → later ≡ None
        → cond c (pending q b (Some x)) 0 + pending r b (cond k (Some x) None) ≡ cond (k || c) (pending q b (Some x)) 0 + pending q b later
    swapped_here r q b x k c later d z = rw (d, z) (omega arith)

module _ {K : Type 0} (before : K → K → Bool) (s : ℕ) (f : Operation K → ℕ) where
  module _ (w : World K) (n : ℕ) (begins : ℕ → ℕ) (es : List (Event K)) where
    abbrev later : Option Ended
    later = coming (suc n) s es

    -- what has its moment now and what is pending before, against what ends now and what is pending after
    abbrev Balanced : Turn K → Type 0
    Balanced t =
        ((x : Ended) → later ≡ Some x → Settled before t.world s (reply_of x))
        → weight s f (moment_at n (of_seat s t) begins t.did es) + pending s f (w.seats s).request (begins s) (comes n t.did t.answer later)
        ≡ weigh s f (ended_at n (of_seat s t) begins t.answer) + pending s f (t.world.seats s).request (begun n (of_seat s t) t.did begins s) later

    same_request : (x : Seat K) → x.request ≡ (w.seats s).request → (sit w.seats s x s).request ≡ (w.seats s).request
    same_request x e = ap (λ (y : Seat K). y.request) (own_seat before w.seats s x) ∙ e

    -- the seat is idle after an ending, so nothing is pending
    module _ (v : World K) (q : v.seats s ≡ record { request = (w.seats s).request; phase = Idle }) (x : Ending) where
      at_rest : ((y : Ended) → later ≡ Some y → Settled before v s (reply_of y)) → later ≡ None
      at_rest l = idle_none later (λ y e. subst (λ (z : Seat K). Settles before z.request z.phase (reply_of y)) q (l y e))

      request_is : (v.seats s).request ≡ (w.seats s).request
      request_is = ap (λ (y : Seat K). y.request) q

      quiet_end : changes x.end ≡ false → Balanced (turn Otherwise (Ok (answers.Ended x)) v)
      quiet_end h l =
          omega (
            arith,
            ended_weight s f n (of_seat s (turn Otherwise (Ok (answers.Ended x)) v)) begins x (keeps x.end || changes x.end) refl,
            ended_here s f (w.seats s).request (v.seats s).request (begins s) (record { number = n; ending = x }) (keeps x.end) (changes x.end) later request_is h (at_rest l),
          )

      swap_end : keeps x.end ≡ false → Balanced (turn Installed (Ok (answers.Ended x)) v)
      swap_end h l =
          let t = turn Installed (Ok (answers.Ended x)) v in
          omega (
            arith,
            swapped_weight s f n (of_seat s t) begins x (changes x.end) refl,
            ended_weight s f n (of_seat s t) begins x (keeps x.end || changes x.end) refl,
            swapped_here s f (w.seats s).request (v.seats s).request (begins s) (record { number = n; ending = x }) (keeps x.end) (changes x.end) later h (at_rest l),
          )

    goes_on : (p : Phase K)
        → pending s f (w.seats s).request (begins s) later ≡ pending s f (sit w.seats s (record { request = (w.seats s).request; phase = p }) s).request (begins s) later
    goes_on p = went_on s f (w.seats s).request (sit w.seats s (record { request = (w.seats s).request; phase = p }) s).request (begins s) later (same_request (record { request = (w.seats s).request; phase = p }) refl)

    now_idle : sit w.seats s (record { request = (w.seats s).request; phase = Idle }) s ≡ record { request = (w.seats s).request; phase = Idle }
    now_idle = own_seat before w.seats s (record { request = (w.seats s).request; phase = Idle })

    perform_balanced : (a : Act K) → Shaped before w (w.seats s).request (w.seats s).phase a → Balanced (perform before w s a)
    perform_balanced (Reads p) h l = omega (arith, read_weight s f n (of_seat s (perform before w s (Reads p))) begins later refl)
    perform_balanced (Fails p) h l = omega (arith, goes_on p)
    perform_balanced (Goes p) h l = omega (arith, goes_on p)
    perform_balanced (Ends e v d z) h l = quiet_end (perform before w s (Ends e v d z)).world now_idle (record { end = e; value = v; depth = d; size = z }) h.0 l
    perform_balanced (Replaces m c e v) h l =
        swap_end (perform before w s (Replaces m c e v)).world now_idle (record { end = e; value = v; depth = (attributes_of c).depth; size = (attributes_of c).size }) h l
    perform_balanced (Divides m c k target) h l =
        let a = attributes_of (On kinds.Split k target c) in omega (arith, goes_on (PostRead k target a.depth a.size))
    perform_balanced (Roots c e d z) h l = swap_end (perform before w s (Roots c e d z)).world now_idle (record { end = e; value = 0; depth = d; size = z }) h.0 l
    perform_balanced (Refuses x) h l = refl

    begin_balanced : (r : Request K) (b : Bool) → Balanced (begin w s r b)
    begin_balanced r true l =
        let e = idle_none later (λ y q. set_settles before w.seats s (record { request = r; phase = RootRead }) (reply_of y) (l y q)) in rw e refl
    begin_balanced r false l = refl

    seated_balanced : (g : Granted) (c : Call K) → seat_of c ≡ s → Balanced (seated before w g c)
    seated_balanced g (Begin t r) e = rw e (begin_balanced r (is_idle (w.seats s).phase))
    seated_balanced g (Step t) e = rw e (perform_balanced (act before w g (w.seats s).request (w.seats s).phase) (act_shaped before w g (w.seats s).request (w.seats s).phase))
    seated_balanced g (Tell t) e = λ l. refl

    own_balanced : (m : Made K) → seat_of m.call ≡ s → Balanced (taking before w m)
    own_balanced m e = cond_both (ltb (seat_of m.call) 4) _ _ Balanced (λ _. seated_balanced m.granted m.call e) (λ _ l. refl)

  -- the same with the event of any call
  module _ (w : World K) (m : Made K) (n : ℕ) (begins : ℕ → ℕ) (es : List (Event K)) where
    abbrev turned : Turn K
    turned = taking before w m

    abbrev made : Event K
    made = event before m turned

    abbrev Both : Event K → Type 0
    Both e =
        weight s f (moment_at n e begins turned.did es) + pending s f (w.seats s).request (begins s) (cond (eqb e.seat s) (comes n turned.did turned.answer (coming (suc n) s es)) (coming (suc n) s es))
        ≡ weigh s f (ended_at n e begins turned.answer) + pending s f (turned.world.seats s).request (begun n e turned.did begins s) (coming (suc n) s es)

    own_event : seat_of m.call ≡ s → of_seat s turned ≡ made
    own_event q i = record { seat = sym q i; request = (turned.world.seats (sym q i)).request; did = turned.did; answer = turned.answer }

    own_both : seat_of m.call ≡ s → ((x : Ended) → coming (suc n) s es ≡ Some x → Settled before turned.world s (reply_of x)) → Both made
    own_both q l = subst Both (own_event q) (rw (eq-eqb s s refl) (own_balanced w n begins es m q l))

    other_both : eqb (seat_of m.call) s ≡ false → Both made
    other_both q =
        let a = moment_other s f n made begins turned.did es q in
        let b = ended_other s f n made begins turned.answer q in
        let c = begun_other s n made begins turned.did (grind (arith, nat_tests)) in
        let d = went_on s f (w.seats s).request (turned.world.seats s).request (begins s) (coming (suc n) s es) (ap (λ (y : Seat K). y.request) (other_seat before w s m q)) in
        rw (q, c) (omega (arith, a, b, d))

    pub both : ((x : Ended) → coming (suc n) s es ≡ Some x → Settled before turned.world s (reply_of x)) → Both made
    both l = ⊎_elim (λ q. own_both (eqb-true (seat_of m.call) s q) l) (λ q. other_both q) (cases_Bool (eqb (seat_of m.call) s))

  weight_append : (xs ys : List (Placed K)) → weight s f (xs ++ ys) ≡ weight s f xs + weight s f ys
  weight_append xs ys = rw (map-append operation_of xs ys) (weigh_append s f (map operation_of xs) (map operation_of ys))

  once_run : (ms : List (Made K)) (w : World K) (n : ℕ) (begins : ℕ → ℕ)
      → weight s f (moments n begins (run before w ms)) + pending s f (w.seats s).request (begins s) (coming n s (run before w ms)) ≡ weigh s f (endings n begins (run before w ms))
  once_run [] w n begins = refl
  once_run (m ∷ ms) w n begins =
      let t = taking before w m in
      let e = event before m t in
      let es = run before t.world ms in
      let after = begun n e t.did begins in
      omega (
        arith,
        once_run ms t.world (suc n) after,
        both w m n begins es (λ x q. settles before ms t.world (suc n) s x q),
        weight_append (moment_at n e begins t.did es) (moments (suc n) after es),
        weigh_append s f (ended_at n e begins t.answer) (endings (suc n) after es),
      )

  -- from a world with all seats idle, the operations with moments are those that ended
  pub once : (ms : List (Made K)) (w : World K) (n : ℕ) (begins : ℕ → ℕ) → (w.seats s).phase ≡ Idle
      → weight s f (moments n begins (run before w ms)) ≡ weigh s f (endings n begins (run before w ms))
  once ms w n begins q =
      let e = idle_none (coming n s (run before w ms)) (λ x h. subst (λ (p : Phase K). Settles before (w.seats s).request p (reply_of x)) q (settles before ms w n s x h)) in
      omega (arith, once_run ms w n begins, ap (pending s f (w.seats s).request (begins s)) e)
