-- a seat's failed swaps are at most the swaps that the others installed
use Rattle.std.proofs.Common.{◌≡◌, ℕ, ◌+◌, ◌≤◌, Bool, true, false, cond, eqb, ltb, List, [], ◌∷◌, refl, ⊎_elim, arith}
use Rattle.std.proofs.lemmas.Bool.{cases_Bool, cond_both, eqb-true, eq-eqb}
use Rattle.std.proofs.lemmas.Bool.Decides.{nat_tests}
use Rattle.bwtree.specs.declared.seat.Request.{Request}
use Rattle.laws.specs.Worlds.{Phase, Idle, LeafWalk, Build, RootBuild, Swap, RootSwap, SplitSwap, PostSwap, World, Granted, unchanged, Call, Begin, Step, Tell}
use Rattle.laws.specs.Acts.{Act, Reads, Fails, Goes, Ends, Replaces, Divides, Roots, Refuses, act}
use Rattle.laws.specs.Calls.{Turn, Made, at, perform, begin, is_idle, seat_of, seated, taking, run, after}
use Rattle.laws.specs.Histories.{one_failed, one_installed, installed_in, failed_by, installed_by_others}
use Rattle.laws.proofs.Shapes.{stale, Shaped, act_shaped}

one : (b : Bool) → cond b 0 1 ≤ 1
one true = omega arith
one false = omega arith

module _ {K : Type 0} where
  -- the same leaves and root
  pub stale_same : (w v : World K) → v.leaves ≡ w.leaves → v.root ≡ w.root → (p : Phase K) → stale v p ≡ stale w p
  stale_same w v l r (LeafWalk x c) = rw l refl
  stale_same w v l r (Build x) = rw l refl
  stale_same w v l r (RootBuild x) = rw r refl
  stale_same w v l r (Swap x c) = rw l refl
  stale_same w v l r (RootSwap x) = rw r refl
  stale_same w v l r (SplitSwap x k n) = rw l refl
  stale_same w v l r (PostSwap x k n d z) = rw r refl
  stale_same w v l r _ = refl

  stale_one : (w : World K) (p : Phase K) → stale w p ≤ 1
  stale_one w (LeafWalk x c) = one (unchanged w.leaves x)
  stale_one w (Build x) = one (unchanged w.leaves x)
  stale_one w (RootBuild x) = one (eqb w.root.stamp x.stamp)
  stale_one w (Swap x c) = one (unchanged w.leaves x)
  stale_one w (RootSwap x) = one (eqb w.root.stamp x.stamp)
  stale_one w (SplitSwap x k n) = one (unchanged w.leaves x)
  stale_one w (PostSwap x k n d z) = one (eqb w.root.stamp x.stamp)
  stale_one w _ = omega arith

module _ {K : Type 0} (before : K → K → Bool) (w : World K) (s : ℕ) where
  -- a call of the seat itself, and one of another
  abbrev Own : Turn K → Type 0
  Own t = one_failed t.did + stale t.world (t.world.seats s).phase ≤ stale w (w.seats s).phase

  abbrev Other : Turn K → Type 0
  Other t = stale t.world (t.world.seats s).phase ≤ stale w (w.seats s).phase + one_installed t.did

  stale_at : (p : Phase K) → stale (at w s p) p ≡ stale w p
  stale_at p = stale_same w (at w s p) refl refl p

  own_perform : (a : Act K) → Shaped before w (w.seats s).request (w.seats s).phase a → Own (perform before w s a)
  own_perform (Reads p) h = rw (eq-eqb s s refl) (omega (arith, stale_at p, h))
  own_perform (Fails p) h = rw (eq-eqb s s refl) (omega (arith, stale_at p, h))
  own_perform (Goes p) h = rw (eq-eqb s s refl) (omega (arith, stale_at p, h.0))
  own_perform (Refuses x) h = omega arith
  own_perform _ h = rw (eq-eqb s s refl) (omega arith)

  own_begin : (r : Request K) (b : Bool) → Own (begin w s r b)
  own_begin r true = rw (eq-eqb s s refl) (omega arith)
  own_begin r false = omega arith

  own_seated : (g : Granted) (c : Call K) → seat_of c ≡ s → Own (seated before w g c)
  own_seated g (Begin t r) e = rw e (own_begin r (is_idle (w.seats s).phase))
  own_seated g (Step t) e = rw e (own_perform (act before w g (w.seats s).request (w.seats s).phase) (act_shaped before w g (w.seats s).request (w.seats s).phase))
  own_seated g (Tell t) e = omega arith

  other_at : (t : ℕ) (p : Phase K) → stale (at w t p) (w.seats s).phase ≡ stale w (w.seats s).phase
  other_at t p = stale_same w (at w t p) refl refl (w.seats s).phase

  other_perform : (t : ℕ) → eqb s t ≡ false → (a : Act K) → Other (perform before w t a)
  other_perform t q (Reads p) = rw q (omega (arith, other_at t p))
  other_perform t q (Fails p) = rw q (omega (arith, other_at t p))
  other_perform t q (Goes p) = rw q (omega (arith, other_at t p))
  other_perform t q (Ends e v d n) = rw q (omega (arith, other_at t Idle))
  other_perform t q (Replaces n c e v) = let u = (perform before w t (Replaces n c e v)).world in omega (arith, stale_one u (u.seats s).phase)
  other_perform t q (Divides n c k target) = let u = (perform before w t (Divides n c k target)).world in omega (arith, stale_one u (u.seats s).phase)
  other_perform t q (Roots c e d n) = let u = (perform before w t (Roots c e d n)).world in omega (arith, stale_one u (u.seats s).phase)
  other_perform t q (Refuses x) = omega arith

  other_begin : (t : ℕ) → eqb s t ≡ false → (r : Request K) (b : Bool) → Other (begin w t r b)
  other_begin t q r true = rw q (omega (arith, stale_same w (begin w t r true).world refl refl (w.seats s).phase))
  other_begin t q r false = omega arith

  other_seated : (g : Granted) (c : Call K) → eqb s (seat_of c) ≡ false → Other (seated before w g c)
  other_seated g (Begin t r) q = other_begin t q r (is_idle (w.seats t).phase)
  other_seated g (Step t) q = other_perform t q (act before w g (w.seats t).request (w.seats t).phase)
  other_seated g (Tell t) q = omega arith

  own_call : (m : Made K) → seat_of m.call ≡ s → Own (taking before w m)
  own_call m e = cond_both (ltb (seat_of m.call) 4) _ _ Own (λ _. own_seated m.granted m.call e) (λ _. omega arith)

  other_call : (m : Made K) → eqb s (seat_of m.call) ≡ false → Other (taking before w m)
  other_call m q = cond_both (ltb (seat_of m.call) 4) _ _ Other (λ _. other_seated m.granted m.call q) (λ _. omega arith)

module _ {K : Type 0} (before : K → K → Bool) where
  pub fails : (ms : List (Made K)) (w : World K) (s : ℕ) → failed_by s (run before w ms) ≤ stale w (w.seats s).phase + installed_by_others s (run before w ms)
  fails [] w s = omega arith
  fails (m ∷ ms) w s =
      let t = taking before w m in
      let ih = fails ms t.world s in
      ⊎_elim (λ q. rw q (omega (arith, ih, own_call before w s m (eqb-true (seat_of m.call) s q))))
      (λ q. rw q (omega (arith, ih, other_call before w s m (grind (arith, nat_tests)))))
      (cases_Bool (eqb (seat_of m.call) s))

  -- ---- each installed swap gives one new stamp

  perform_clock : (w : World K) (s : ℕ) (a : Act K) → (perform before w s a).world.clock ≡ w.clock + one_installed (perform before w s a).did
  perform_clock w s (Reads p) = omega arith
  perform_clock w s (Fails p) = omega arith
  perform_clock w s (Goes p) = omega arith
  perform_clock w s (Ends e v d n) = omega arith
  perform_clock w s (Replaces n c e v) = omega arith
  perform_clock w s (Divides n c k target) = omega arith
  perform_clock w s (Roots c e d n) = omega arith
  perform_clock w s (Refuses x) = omega arith

  begin_clock : (w : World K) (s : ℕ) (r : Request K) (b : Bool) → (begin w s r b).world.clock ≡ w.clock + one_installed (begin w s r b).did
  begin_clock w s r true = omega arith
  begin_clock w s r false = omega arith

  seated_clock : (w : World K) (g : Granted) (c : Call K) → (seated before w g c).world.clock ≡ w.clock + one_installed (seated before w g c).did
  seated_clock w g (Begin s r) = begin_clock w s r (is_idle (w.seats s).phase)
  seated_clock w g (Step s) = perform_clock w s (act before w g (w.seats s).request (w.seats s).phase)
  seated_clock w g (Tell s) = omega arith

  call_clock : (w : World K) (m : Made K) → (taking before w m).world.clock ≡ w.clock + one_installed (taking before w m).did
  call_clock w m =
      cond_both (ltb (seat_of m.call) 4) _ _ (λ (t : Turn K). t.world.clock ≡ w.clock + one_installed t.did) (λ _. seated_clock w m.granted m.call) (λ _. omega arith)

  pub clocked : (ms : List (Made K)) (w : World K) → (after before w ms).clock ≡ w.clock + installed_in (run before w ms)
  clocked [] w = omega arith
  clocked (m ∷ ms) w = omega (arith, clocked ms (taking before w m).world, call_clock w m)
