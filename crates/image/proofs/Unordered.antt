-- the first place that is out of order, found by going along a list, and lists that have none
use Rattle.std.proofs.Common.{◌≡◌, ℕ, ◌+◌, ◌<◌, ◌≤◌, Bool, true, false, List, [], ◌∷◌, length, drop, Some, None, Option, refl, sym, ap, ◌∙◌, arith, get_or}
use Rattle.std.proofs.lemmas.Bool.{cases_Bool}
use Rattle.std.proofs.ByRecursion.{All-weaker}
use Rattle.std.proofs.lemmas.Iterator.{YieldsList}
use Rattle.std.proofs.lemmas.Iterator.Consumers.{YieldsList-at, YieldsList-from_enumerate}
use Rattle.std.specs.declared.iter.Enumerate.{Enumerate}
use Rattle.std.specs.Iterator.Adapters.{enumerate_source, enumerate_count, enumerate_steps}
use Rattle.std.proofs.lemmas.List.{at_drop_more, drop_all}
use Rattle.std.proofs.lemmas.Option.{slice_get_within, get_or_from_slice_get}
use Rattle.std.proofs.lemmas.List.FromFn.{length-enumerate_from, get_or-enumerate_from}
use Rattle.std.specs.List.{slice_get, enumerate_from}
use Rattle.keys.specs.Order.{Ascending, Lawful}
use Rattle.image.specs.Verdict.{first_unordered, unordered_after}

pub drop_nth_some : {X : Type 0} (xs : List X) (i : ℕ) (x : X) → Some x ≡ slice_get xs i → drop i xs ≡ x ∷ drop (i + 1) xs
drop_nth_some xs i x e =
    at_drop_more (λ ys. ys) xs i x (slice_get_within xs i x (sym e)) ∙ ap (λ y. y ∷ drop (i + 1) xs) (get_or_from_slice_get xs i x x (sym e))

-- among keys that begin at a place, after a previous key where there is one
abbrev pub unordered_on : {K : Type 0} → (K → K → Bool) → Option K → ℕ → List K → Option ℕ
unordered_on before None place [] = None
unordered_on before None place (k ∷ ks) = unordered_after before (place + 1) k ks
unordered_on before (Some previous) place ks = unordered_after before place previous ks

-- keys with their places
pub enumerated : {S K : Type 0} {steps : S → Option K → S → Type 0} {keys : S} {s t : Enumerate S} {ks : List K}
    → t ≡ s → enumerate_source s ≡ keys → enumerate_count s ≡ 0 → YieldsList steps (λ k. k) keys ks
    → YieldsList {B = ℕ × K} (enumerate_steps steps) (λ p. (p.0, p.1)) t (enumerate_from 0 ks)
enumerated same source first e = YieldsList-at same (YieldsList-from_enumerate (YieldsList-at source e) first)

module _ {K : Type 0} (before : K → K → Bool) (ks : List K) where
  -- where the keys go on, by their place and their key
  pub turned : (i place : ℕ) (key : K) → (i < length (enumerate_from 0 ks)) × ((place, key) ≡ get_or (enumerate_from 0 ks) i (place, key))
      → (place ≡ i) × (drop i ks ≡ key ∷ drop (i + 1) ks)
  turned i place key h =
      let l : i < length ks = omega (arith, h.0, length-enumerate_from 0 ks) in
      let e = h.1 ∙ get_or-enumerate_from 0 ks i (place, key) l in
      let p : place ≡ 0 + i = ap (λ (x : ℕ × K). x.0) e in
      let k : key ≡ get_or ks i key = ap (λ (x : ℕ × K). x.1) e in
      (omega (arith, p), at_drop_more (λ xs. xs) ks i key l ∙ ap (λ y. y ∷ drop (i + 1) ks) (sym k))

  pub on_here : (i place : ℕ) (p key : K) → (place ≡ i) × (drop i ks ≡ key ∷ drop (i + 1) ks) → before p key ≡ false
      → unordered_on before (Some p) i (drop i ks) ≡ Some place
  on_here i place p key t b =
      let here : unordered_after before i p (key ∷ drop (i + 1) ks) ≡ Some i = rw b in
      ap (unordered_on before (Some p) i) t.1 ∙ here ∙ ap (λ (n : ℕ). Some n) (sym t.0)

  pub on_first : (i place : ℕ) (key : K) → (place ≡ i) × (drop i ks ≡ key ∷ drop (i + 1) ks)
      → unordered_on before (Some key) (i + 1) (drop (i + 1) ks) ≡ unordered_on before None i (drop i ks)
  on_first i place key t = sym (ap (unordered_on before None i) t.1)

  pub on_next : (i place : ℕ) (p key : K) → (place ≡ i) × (drop i ks ≡ key ∷ drop (i + 1) ks) → before p key ≡ true
      → unordered_on before (Some key) (i + 1) (drop (i + 1) ks) ≡ unordered_on before (Some p) i (drop i ks)
  on_next i place p key t b =
      let next : unordered_after before i p (key ∷ drop (i + 1) ks) ≡ unordered_after before (i + 1) key (drop (i + 1) ks) = rw b in
      sym (ap (unordered_on before (Some p) i) t.1 ∙ next)

  pub on_end : (previous : Option K) (n : ℕ) → length ks ≤ n → unordered_on before previous n (drop n ks) ≡ None
  on_end None n l = ap (unordered_on before None n) (drop_all n ks l)
  on_end (Some p) n l = ap (unordered_on before (Some p) n) (drop_all n ks l)

-- no place is out of order exactly where the keys ascend
module _ {K : Type 0} {before : K → K → Bool} (o : Lawful K before) where
  ascending_after : (place : ℕ) (k : K) (ks : List K) → unordered_after before place k ks ≡ None → Ascending before (k ∷ ks)
  ascending_after place k [] h = (tt, tt)
  ascending_after place k (l ∷ ks) h =
      let b : before k l ≡ true = grind (arith, cases_Bool (before k l)) in
      let rest = ascending_after (place + 1) l ks (rw b at h) in
      ((b, All-weaker (λ m. before l m ≡ true) (λ m. before k m ≡ true) (λ m e. o.transitive k l m b e) ks rest.0), rest)

  pub ordered_ascends : (ks : List K) → first_unordered before ks ≡ None → Ascending before ks
  ordered_ascends [] h = tt
  ordered_ascends (k ∷ ks) h = ascending_after 1 k ks h

  after_ascending : (place : ℕ) (k : K) (ks : List K) → Ascending before (k ∷ ks) → unordered_after before place k ks ≡ None
  after_ascending place k [] h = refl
  after_ascending place k (l ∷ ks) h = rw h.0.0 (after_ascending (place + 1) l ks h.1)

  pub ascends_ordered : (ks : List K) → Ascending before ks → first_unordered before ks ≡ None
  ascends_ordered [] h = refl
  ascends_ordered (k ∷ ks) h = after_ascending 1 k ks h
