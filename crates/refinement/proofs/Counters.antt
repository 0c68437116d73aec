-- a seat's counters are the numbers of its swaps in the history, up to the largest number of 64 bits
use Rattle.std.proofs.Common.{◌≡◌, ℕ, ◌+◌, Bool, true, false, cond, eqb, List, [], ◌∷◌, set, Some, sym, refl, ap, ◌∙◌, subst, arith}
use Rattle.std.specs.List.{slice_get}
use Rattle.std.proofs.lemmas.Option.{same_Some}
use Rattle.std.proofs.lemmas.Bool.{eqb-false, eqb-true, ne_eqb}
use Rattle.bwtree.specs.declared.call.Call.{Call}
use Rattle.bwtree.specs.declared.seat.Seat.{Seat}
use Rattle.bwtree.specs.declared.sizes.Sizes.{Sizes}
use Rattle.bwtree.specs.Calls.{call}
use Rattle.bwtree.specs.Memory.{Memory, Outcome, risen}
use Rattle.bwtree.specs.Reports.{capped}
use Rattle.bwtree.specs.Steps.{fits}
use Rattle.laws.specs.Calls.{Did, Installed, Failed, seat_of}
use Rattle.laws.specs.Histories.{failed_by, one_failed, one_installed}
use Rattle.refinement.specs.Service.{Served, did, installed_by, serve, without_memory}
use Rattle.refinement.proofs.Calling.{Called, keeps, sets, called, call_fits, serve_first}
use Rattle.refinement.proofs.Places.{nth_set_other, nth_set_same}
use Rattle.refinement.proofs.Shaping.{installed_after, failed_after}

-- ---- one counter

capped_on : (i j : ℕ) → i ≡ j → capped i ≡ capped j
capped_on i j e = ap capped e

risen_capped : (n i : ℕ) → n ≡ capped i → risen n ≡ capped (i + 1)
risen_capped n i e = omega arith

installed_capped : (d : Did) (n i : ℕ) → n ≡ capped i → installed_after d n ≡ capped (i + one_installed d)
installed_capped Installed n i e = risen_capped n i e
installed_capped _ n i e = e ∙ capped_on i (i + 0) (omega arith)

failed_capped : (d : Did) (n i : ℕ) → n ≡ capped i → failed_after d n ≡ capped (i + one_failed d)
failed_capped Failed n i e = risen_capped n i e
failed_capped _ n i e = e ∙ capped_on i (i + 0) (omega arith)

-- ---- a seat's counters

module _ {K : Type 0} where
  -- seat s has the counters of i installed and f failed swaps
  abbrev pub Counted : ℕ → ℕ → ℕ → Memory K → Type 0
  Counted s i f m = (y : Seat K) × (slice_get m.seats s ≡ Some y) × (y.installed ≡ capped i) × (y.failed ≡ capped f)

  counted_on : (s i j f g : ℕ) (m : Memory K) → i ≡ j → f ≡ g → Counted s i f m → Counted s j g m
  counted_on s i j f g m a b (y, at_s, c, d) = (y, at_s, c ∙ capped_on i j a, d ∙ capped_on f g b)

  module _ (s i f : ℕ) (m : Memory K) where
    counts : {z : Sizes} {u : ℕ} {d : Did} {o : Outcome K} → fits z m ≡ true → Called z m u d o → Counted s i f m → Counted s (i + cond (eqb u s) (one_installed d) 0) (f + cond (eqb u s) (one_failed d) 0) o.memory
    counts {z} {u} {d} {o} e (keeps same nothing) c =
        subst (λ (x : Did). Counted s (i + cond (eqb u s) (one_installed x) 0) (f + cond (eqb u s) (one_failed x) 0) o.memory) (sym (nothing e))
        (subst (Counted s (i + cond (eqb u s) 0 0) (f + cond (eqb u s) 0 0)) (sym same) (still (eqb u s)))
      where
        still : (b : Bool) → Counted s (i + cond b 0 0) (f + cond b 0 0) m
        still true = counted_on s i (i + 0) f (f + 0) m (omega arith) (omega arith) c
        still false = counted_on s i (i + 0) f (f + 0) m (omega arith) (omega arith) c
    counts {z} {u} {d} {o} e (sets it seat at_u seats installed failed answered lengths) c = go (eqb u s) refl
      where
        go : (b : Bool) → eqb u s ≡ b → Counted s (i + cond b (one_installed d) 0) (f + cond b (one_failed d) 0) o.memory
        go true q =
            let here : u ≡ s = eqb-true u s q in
            let own : it ≡ c.0 = same_Some _ _ (sym at_u ∙ ap (slice_get m.seats) here ∙ c.1) in (
              seat,
              ap (λ (xs : List (Seat K)). slice_get xs s) seats ∙ ap (slice_get (set m.seats u seat)) (sym here) ∙ nth_set_same m.seats u seat it at_u,
              installed ∙ installed_capped d it.installed i (ap (λ (x : Seat K). x.installed) own ∙ c.2),
              failed ∙ failed_capped d it.failed f (ap (λ (x : Seat K). x.failed) own ∙ c.3),
            )
        go false q =
            let apart : eqb s u ≡ false = ne_eqb s u (λ x. eqb-false u s q (sym x)) in
            (c.0, ap (λ (xs : List (Seat K)). slice_get xs s) seats ∙ nth_set_other m.seats u s seat apart ∙ c.1, c.2 ∙ capped_on i (i + 0) (omega arith), c.3 ∙ capped_on f (f + 0) (omega arith))

module _ {K : Type 0} (before : K → K → Bool) where
  -- a call adds what it did
  pub call_counts : (z : Sizes) (m : Memory K) (c : Call K) (o : Outcome K) → call before z m c ≡ Some o → fits z m ≡ true → (s i f : ℕ) → Counted s i f m
      → Counted s (i + cond (eqb (seat_of (without_memory c)) s) (one_installed (did m c o.answer)) 0) (f + cond (eqb (seat_of (without_memory c)) s) (one_failed (did m c o.answer)) 0) o.memory
  call_counts z m c o e l s i f h = counts s i f m l (called before z m c o e) h

  pub counters : (cs : List (Call K)) (z : Sizes) (m : Memory K) (r : Served K) → serve before z m cs ≡ Some r → fits z m ≡ true → (s : ℕ) (it : Seat K) → slice_get m.seats s ≡ Some it → (i f : ℕ) → it.installed ≡ capped i → it.failed ≡ capped f
      → (y : Seat K) × (slice_get r.memory.seats s ≡ Some y) × (y.installed ≡ capped (i + installed_by s r.history)) × (y.failed ≡ capped (f + failed_by s r.history))
  counters [] z m r e l s it at_s i f a b =
      subst (λ (x : Served K). Counted s (i + installed_by s x.history) (f + failed_by s x.history) x.memory) (same_Some _ _ e)
      (counted_on s i (i + 0) f (f + 0) m (omega arith) (omega arith) (it, at_s, a, b))
  counters (c ∷ cs) z m r e l s it at_s i f a b =
      let (o, is, q, rest, whole) = serve_first before z m c cs r e in
      let (y, at_y, g, h) = call_counts z m c o is l s i f (it, at_s, a, b) in
      subst (λ (x : Served K). Counted s (i + installed_by s x.history) (f + failed_by s x.history) x.memory) (sym whole)
      (counted_on s _ _ _ _ q.memory (omega arith) (omega arith) (counters cs z o.memory q rest (call_fits before z m c o is l) s y at_y _ _ g h))
