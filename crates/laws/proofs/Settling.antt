-- a seat that will end with a map answer that changes nothing, before it reads a leaf again, walks a leaf whose chain
-- gives that answer
use Rattle.std.proofs.Common.{◌≡◌, ℕ, suc, Bool, true, false, cond, eqb, ltb, List, [], ◌∷◌, Some, None, Option, refl, subst, arith}
use Rattle.std.proofs.lemmas.Option.{none-some, same_Some}
use Rattle.std.proofs.lemmas.Bool.{cond_both, eqb-true, eq-eqb}
use Rattle.std.proofs.lemmas.Bool.Decides.{nat_tests}
use Rattle.bwtree.specs.declared.answer.End.{End}
use Rattle.bwtree.specs.declared.seat.Request.{Request}
use Rattle.laws.specs.Worlds.{Phase, RootRead, PostRead, Seat, World, Granted, sit, Call, Begin, Step, Tell}
use Rattle.laws.specs.Acts.{Act, Reads, Fails, Goes, Ends, Replaces, Divides, Roots, Refuses, act}
use Rattle.laws.specs.Calls.{Turn, Made, Event, perform, begin, is_idle, seat_of, seated, taking, run}
use Rattle.laws.specs.Histories.{Ended, keeps, comes, coming}
use Rattle.laws.specs.Maps.{Reply, reply}
use Rattle.laws.proofs.Shapes.{Settles, Shaped, act_shaped}

-- the answer and value of an ending
abbrev pub reply_of : Ended → Reply
reply_of x = reply x.ending.end x.ending.value

module _ {K : Type 0} where
  -- the event of a turn of the seat s
  abbrev pub of_seat : ℕ → Turn K → Event K
  of_seat s t = record { seat = s; request = (t.world.seats s).request; did = t.did; answer = t.answer }

module _ {K : Type 0} (before : K → K → Bool) where
  -- the seat settles this
  abbrev pub Settled : World K → ℕ → Reply → Type 0
  Settled w s y = Settles before (w.seats s).request (w.seats s).phase y

  -- a seat that was just set
  pub own_seat : (f : ℕ → Seat K) (s : ℕ) (x : Seat K) → sit f s x s ≡ x
  own_seat f s x = rw (eq-eqb s s refl)

  pub set_settles : (f : ℕ → Seat K) (s : ℕ) (x : Seat K) (y : Reply) → Settles before (sit f s x s).request (sit f s x s).phase y → Settles before x.request x.phase y
  set_settles f s x y h = subst (λ (z : Seat K). Settles before z.request z.phase y) (own_seat f s x) h

  ending_settles : (r : Request K) (p : Phase K) (n d z : ℕ) (e : End) (v : ℕ) (x : Ended) → (keeps e ≡ true → Settles before r p (reply e v))
      → cond (keeps e) (Some (record { number = n; ending = record { end = e; value = v; depth = d; size = z } })) None ≡ Some x → Settles before r p (reply_of x)
  ending_settles r p n d z e v x h q = go (keeps e) refl q
    where
      go : (b : Bool) → keeps e ≡ b → cond b (Some (record { number = n; ending = record { end = e; value = v; depth = d; size = z } })) None ≡ Some x → Settles before r p (reply_of x)
      go true k o = subst (λ (y : Ended). Settles before r p (reply_of y)) (same_Some (record { number = n; ending = record { end = e; value = v; depth = d; size = z } }) x o) (h k)
      go false k o = absurd (none-some x o)

  not_ending : (n d z : ℕ) (e : End) (v : ℕ) (x : Ended) → keeps e ≡ false
      → cond (keeps e) (Some (record { number = n; ending = record { end = e; value = v; depth = d; size = z } })) None ≡ Some x → ⊥
  not_ending n d z e v x k q = none-some x (rw k at q)

  module _ (w : World K) (s n : ℕ) (later : Option Ended) (x : Ended) where
    -- what the calls after a turn settle, the seat has settled before it
    abbrev Passes : Turn K → Type 0
    Passes t = comes n t.did t.answer later ≡ Some x → (later ≡ Some x → Settled t.world s (reply_of x)) → Settled w s (reply_of x)

    perform_passes : (a : Act K) → Shaped before w (w.seats s).request (w.seats s).phase a → Passes (perform before w s a)
    perform_passes (Reads p) h e ih = absurd (none-some x e)
    perform_passes (Fails p) h e ih = absurd (h.2 (reply_of x) (set_settles w.seats s (record { request = (w.seats s).request; phase = p }) (reply_of x) (ih e)))
    perform_passes (Goes p) h e ih = h.1 (reply_of x) (set_settles w.seats s (record { request = (w.seats s).request; phase = p }) (reply_of x) (ih e))
    perform_passes (Ends e v d z) h q ih = ending_settles (w.seats s).request (w.seats s).phase n d z e v x h.1 q
    perform_passes (Replaces m c e v) h q ih = absurd (not_ending n _ _ e v x h q)
    perform_passes (Divides m c k target) h e ih = absurd (set_settles w.seats s (record { request = (w.seats s).request; phase = PostRead k target _ _ }) (reply_of x) (ih e))
    perform_passes (Roots c e d z) h q ih = absurd (not_ending n d z e 0 x h.0 q)
    perform_passes (Refuses r) h e ih = ih e

    begin_passes : (r : Request K) (b : Bool) → Passes (begin w s r b)
    begin_passes r true e ih = absurd (set_settles w.seats s (record { request = r; phase = RootRead }) (reply_of x) (ih e))
    begin_passes r false e ih = ih e

    seated_passes : (g : Granted) (c : Call K) → seat_of c ≡ s → Passes (seated before w g c)
    seated_passes g (Begin t r) e = rw e (begin_passes r (is_idle (w.seats s).phase))
    seated_passes g (Step t) e = rw e (perform_passes (act before w g (w.seats s).request (w.seats s).phase) (act_shaped before w g (w.seats s).request (w.seats s).phase))
    seated_passes g (Tell t) e = λ q ih. ih q

    own_passes : (m : Made K) → seat_of m.call ≡ s → Passes (taking before w m)
    own_passes m e = cond_both (ltb (seat_of m.call) 4) _ _ Passes (λ _. seated_passes m.granted m.call e) (λ _ q ih. ih q)

  -- a call of another seat leaves the seat as it is
  other_perform : (w : World K) (s t : ℕ) → eqb s t ≡ false → (a : Act K) → (perform before w t a).world.seats s ≡ w.seats s
  other_perform w s t q (Refuses x) = refl
  other_perform w s t q _ = rw q

  other_begin : (w : World K) (s t : ℕ) → eqb s t ≡ false → (r : Request K) (b : Bool) → (begin w t r b).world.seats s ≡ w.seats s
  other_begin w s t q r true = rw q
  other_begin w s t q r false = refl

  other_seated : (w : World K) (s : ℕ) (g : Granted) (c : Call K) → eqb s (seat_of c) ≡ false → (seated before w g c).world.seats s ≡ w.seats s
  other_seated w s g (Begin t r) q = other_begin w s t q r (is_idle (w.seats t).phase)
  other_seated w s g (Step t) q = other_perform w s t q (act before w g (w.seats t).request (w.seats t).phase)
  other_seated w s g (Tell t) q = refl

  pub other_seat : (w : World K) (s : ℕ) (m : Made K) → eqb (seat_of m.call) s ≡ false → (taking before w m).world.seats s ≡ w.seats s
  other_seat w s m q =
      cond_both (ltb (seat_of m.call) 4) _ _ (λ (t : Turn K). t.world.seats s ≡ w.seats s) (λ _. other_seated w s m.granted m.call (grind (arith, nat_tests))) (λ _. refl)

  pub settles : (ms : List (Made K)) (w : World K) (n s : ℕ) (x : Ended) → coming n s (run before w ms) ≡ Some x → Settled w s (reply_of x)
  settles [] w n s x e = absurd (none-some x e)
  settles (m ∷ ms) w n s x e = go (settles ms (taking before w m).world (suc n) s x) (eqb (seat_of m.call) s) refl e
    where
      t : Turn K
      t = taking before w m

      later : Option Ended
      later = coming (suc n) s (run before t.world ms)

      go : (later ≡ Some x → Settled t.world s (reply_of x)) → (b : Bool) → eqb (seat_of m.call) s ≡ b → cond b (comes n t.did t.answer later) later ≡ Some x
          → Settled w s (reply_of x)
      go ih true q o = own_passes w s n later x m (eqb-true (seat_of m.call) s q) o ih
      go ih false q o = subst (λ (z : Seat K). Settles before z.request z.phase (reply_of x)) (other_seat w s m q) (ih o)
