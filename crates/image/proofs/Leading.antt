-- what `map_while` gives of a source whose items are known: the values up to the first item that has none
use Rattle.std.proofs.Common.{◌≡◌, ℕ, zero, suc, ◌+◌, ◌≤◌, List, [], ◌∷◌, length, drop, Some, None, Option, refl, sym, ap, subst, ◌∙◌, add-one, arith}
use Rattle.std.proofs.lemmas.Iterator.{YieldsList}
use Rattle.std.proofs.lemmas.List.{drop_all}
use Rattle.std.specs.List.{range_with_len, slice_get}
use Rattle.std.specs.Fn.{Called}
use Rattle.std.specs.Iterator.{AlwaysYields}
use Rattle.std.specs.Iterator.Adapters.{map_while_callee, map_while_source, map_while_steps}
use Rattle.std.specs.Option.{MatchOption, is_some}
use Rattle.std.specs.declared.iter.MapWhile.{MapWhile}
use mathlib.Core.Bool.{true≢false}
use denote.Param.Members.{Mut}

-- a value before others, and nothing where there is none
abbrev pub then_more : {X : Type 0} → Option X → List X → List X
then_more None xs = []
then_more (Some x) xs = x ∷ xs

-- the values of the items up to the first that has none
abbrev pub leading : {X Y : Type 0} → (X → Option Y) → List X → List Y
leading h [] = []
leading h (x ∷ xs) = then_more (h x) (leading h xs)

module _ {S A B C F : Type 0} (steps : S → Option A → S → Type 0) (v : A → B) (g : Mut F (A × Unit {0}) (Option C)) (h : B → Option C) (f : F)
    (k : (x : A) (r : Option C) (q : F) → Called g f (x, tt) r q → (q ≡ f) × (r ≡ h (v x))) where
  abbrev Steps : MapWhile S F → Option C → MapWhile S F → Type 0
  Steps = map_while_steps steps g

  -- the closure is called on the source's next item
  called : (s t : MapWhile S F) (x : A) (r : Option C) (y : B) → map_while_callee s ≡ f → v x ≡ y → Called g (map_while_callee s) (x, tt) r (map_while_callee t) → (map_while_callee t ≡ f) × (r ≡ h y)
  called s t x r y a e c =
      let o = k x r (map_while_callee t) (subst (λ w. Called g w (x, tt) r (map_while_callee t)) a c) in
      (o.0, o.1 ∙ ap h e)

  -- nothing comes of a source that is done
  done : (s t : MapWhile S F) (z : C) (o : Option A) → AlwaysYields steps v (map_while_source s) [] → steps (map_while_source s) o (map_while_source t)
      → ¬ (MatchOption o ((Some z ≡ None) × (map_while_callee t ≡ map_while_callee s)) (λ x. Called g (map_while_callee s) (x, tt) (Some z) (map_while_callee t)))
  done s t z None e p c = true≢false (ap is_some c.0)
  done s t z (Some x) e p c = e x _ p

  -- the source's next item is y
  comes : (s t : MapWhile S F) (r : Option C) (y : B) (ys : List B) (o : Option A) → map_while_callee s ≡ f → AlwaysYields steps v (map_while_source s) (y ∷ ys) → steps (map_while_source s) o (map_while_source t)
      → MatchOption o ((r ≡ None) × (map_while_callee t ≡ map_while_callee s)) (λ x. Called g (map_while_callee s) (x, tt) r (map_while_callee t))
      → (map_while_callee t ≡ f) × (r ≡ h y) × AlwaysYields steps v (map_while_source t) ys
  comes s t r y ys None a e p c = absurd (e.0 _ p)
  comes s t r y ys (Some x) a e p c = let n = e.1 x _ p in let o = called s t x r y a n.0 c in (o.0, o.1, n.1)

  abbrev Goes : List B → Type 0
  Goes ys = (s : MapWhile S F) → map_while_callee s ≡ f → AlwaysYields steps v (map_while_source s) ys → AlwaysYields Steps (λ z. z) s (leading h ys)

  on : (r : Option C) (y : B) (ys : List B) → Goes ys → h y ≡ r → (s : MapWhile S F) → map_while_callee s ≡ f → AlwaysYields steps v (map_while_source s) (y ∷ ys)
      → AlwaysYields Steps (λ z. z) s (then_more r (leading h ys))
  on None y ys goes n s a e = λ z t p. true≢false (ap is_some ((comes s t (Some z) y ys p.0 a e p.1 p.2).1 ∙ n))
  on (Some w) y ys goes n s a e = (
    (λ t p. true≢false (ap is_some (sym n ∙ sym (comes s t None y ys p.0 a e p.1 p.2).1))),
    λ z t p. let o = comes s t (Some z) y ys p.0 a e p.1 p.2 in (ap (λ u. elim u [ None ↦ z | Some i ↦ i ]) (o.1 ∙ n), goes t o.0 o.2),
  )

  runs : (ys : List B) → Goes ys
  runs [] = λ s a e z t p. done s t z p.0 e p.1 p.2
  runs (y ∷ ys) = λ s. on (h y) y ys (runs ys) refl s

pub YieldsList-from_map_while : {S A B C F : Type 0} {steps : S → Option A → S → Type 0} {v : A → B} {ys : List B} {s : MapWhile S F} (g : Mut F (A × Unit {0}) (Option C)) (h : B → Option C) {f : F}
    → YieldsList steps v (map_while_source s) ys → map_while_callee s ≡ f → ((x : A) (r : Option C) (q : F) → Called g f (x, tt) r q → (q ≡ f) × (r ≡ h (v x))) → YieldsList (map_while_steps steps g) (λ z. z) s (leading h ys)
YieldsList-from_map_while {S} {A} {B} {C} {F} {steps} {v} {ys} {s} g h {f} e a k = record { runs = runs steps v g h f k ys s a e.runs }

module _ {X : Type 0} where
  found_here : (xs : List X) (i : ℕ) {found : List X} → found ≡ drop (i + 1) xs → then_more (slice_get xs i) found ≡ drop i xs
  found_here [] zero e = refl
  found_here [] (suc i) e = refl
  found_here (x ∷ xs) zero e = ap (λ s. x ∷ s) e
  found_here (x ∷ xs) (suc i) e = found_here xs i (e ∙ rw (add-one, add-one))

  -- looking up each place from one on finds the items from there on
  found_from : (xs : List X) (i n : ℕ) → length xs ≤ i + n → leading (slice_get xs) (range_with_len i n) ≡ drop i xs
  found_from xs i zero h = sym (drop_all i xs (omega arith))
  found_from xs i (suc n) h = found_here xs i (found_from xs (i + 1) n (omega arith))

  pub all_found : (xs : List X) (n : ℕ) → length xs ≤ n → leading (slice_get xs) (range_with_len 0 n) ≡ xs
  all_found xs n h = found_from xs 0 n (omega arith)
