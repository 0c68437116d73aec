-- lists read at a place after a write, item arrays after a frame was filled, and the search for a free place
use Rattle.std.proofs.Common.{◌≡◌, ℕ, zero, suc, ◌+◌, ◌<◌, ◌≤◌, Bool, true, false, eqb, ◌⊎◌, List, [], ◌∷◌, map, length, take, drop, set, Some, None, Option, sym, refl, ap, ◌∙◌, subst, inl, inr, ⊎_elim, arith, length-set}
use Rattle.std.specs.List.{slice_get}
use Rattle.std.specs.Option.{option_map}
use Rattle.std.proofs.lemmas.List.{length-map}
use Rattle.std.proofs.lemmas.Option.{none-some, same_Some, slice_get_within, slice_get-map}
use Rattle.std.proofs.lemmas.Bool.{cases_Bool, both_ways, eqb-true, eq-eqb, ne_eqb}
use Rattle.std.proofs.lemmas.Bool.Decides.{nat_tests}
use Rattle.nodes.specs.declared.node.Head.{Head}
use Rattle.nodes.specs.declared.node.Head.TheVariants as heads
use Rattle.nodes.specs.declared.node.Item.{Item}
use Rattle.nodes.specs.Build.{puts}
use Rattle.nodes.specs.Frames.{items_from}
use Rattle.nodes.specs.Items.{or_else}
use Rattle.nodes.proofs.Writes.{puts_other}
use Rattle.pool.specs.Free.{first_in, next_free, other_free}
use Rattle.bwtree.specs.Swaps.{same_head}

-- ---- a list after a write

pub nth_set_other : {X : Type 0} (xs : List X) (i j : ℕ) (x : X) → eqb j i ≡ false → slice_get (set xs i x) j ≡ slice_get xs j
nth_set_other [] i j x e = refl
nth_set_other (y ∷ ys) zero zero x e = grind arith
nth_set_other (y ∷ ys) zero (suc j) x e = refl
nth_set_other (y ∷ ys) (suc i) zero x e = refl
nth_set_other (y ∷ ys) (suc i) (suc j) x e = nth_set_other ys i j x (grind (arith, nat_tests))

pub nth_set_same : {X : Type 0} (xs : List X) (i : ℕ) (x y : X) → slice_get xs i ≡ Some y → slice_get (set xs i x) i ≡ Some x
nth_set_same [] i x y e = absurd (none-some _ e)
nth_set_same (z ∷ zs) zero x y e = refl
nth_set_same (z ∷ zs) (suc i) x y e = nth_set_same zs i x y e

pub nth_there : {X : Type 0} (xs : List X) (i : ℕ) → i < length xs → (y : X) × (slice_get xs i ≡ Some y)
nth_there [] i l = absurd (omega arith)
nth_there (z ∷ zs) zero l = (z, refl)
nth_there (z ∷ zs) (suc i) l = nth_there zs i (omega arith)

pub nth_set_there : {X : Type 0} (xs : List X) (i : ℕ) (x : X) → i < length xs → slice_get (set xs i x) i ≡ Some x
nth_set_there xs i x l = let e = nth_there xs i l in nth_set_same xs i x e.0 e.1

-- what is at j after a write at i: the new one, or what was there
pub nth_set_cases : {X : Type 0} (xs : List X) (i j : ℕ) (x y : X) → slice_get (set xs i x) j ≡ Some y → ((j ≡ i) × (y ≡ x)) ⊎ ((eqb j i ≡ false) × (slice_get xs j ≡ Some y))
nth_set_cases xs i j x y e = ⊎_elim (λ q. inl (at (eqb-true j i q))) (λ q. inr (q, sym (nth_set_other xs i j x q) ∙ e)) (cases_Bool (eqb j i))
  where
    at : j ≡ i → (j ≡ i) × (y ≡ x)
    at q =
        let h : slice_get (set xs i x) i ≡ Some y = rw q at e in
        let b = slice_get_within (set xs i x) i y h in
        let d = nth_set_there xs i x (omega (arith, simp length-set at b)) in
        (q, same_Some _ _ (sym h ∙ d))

-- ---- a field of each element

module _ {X Y : Type 0} (field : X → Y) where
  pub nth_map : (xs : List X) (i : ℕ) (x : X) → slice_get xs i ≡ Some x → slice_get (map field xs) i ≡ Some (field x)
  nth_map xs i x e = slice_get-map field xs i ∙ ap (option_map field) e

  -- an element whose field is known
  pub nth_of_map : (xs : List X) (i : ℕ) (y : Y) → slice_get (map field xs) i ≡ Some y → (x : X) × (slice_get xs i ≡ Some x) × (field x ≡ y)
  nth_of_map [] i y e = absurd (none-some _ e)
  nth_of_map (z ∷ zs) zero y e = (z, refl, same_Some _ _ e)
  nth_of_map (z ∷ zs) (suc i) y e = nth_of_map zs i y e

  -- an element that keeps its field
  pub map_set_same : (xs : List X) (i : ℕ) (x y : X) → slice_get xs i ≡ Some y → field x ≡ field y → map field (set xs i x) ≡ map field xs
  map_set_same [] i x y e h = refl
  map_set_same (z ∷ zs) zero x y e h = ap (λ (w : Y). w ∷ map field zs) (h ∙ ap field (sym (same_Some _ _ e)))
  map_set_same (z ∷ zs) (suc i) x y e h = ap (λ (t : List Y). field z ∷ t) (map_set_same zs i x y e h)

-- ---- heads

pub head_true : (x y : Head) → same_head x y ≡ true → x ≡ y
head_true (heads.Record a) (heads.Record b) e = ap heads.Record (eqb-true a b e)
head_true (heads.Record a) (heads.Frame b) e = absurd (both_ways false refl e)
head_true (heads.Frame a) (heads.Record b) e = absurd (both_ways false refl e)
head_true (heads.Frame a) (heads.Frame b) e = ap heads.Frame (eqb-true a b e)

pub head_itself : (x : Head) → same_head x x ≡ true
head_itself (heads.Record a) = eq-eqb a a refl
head_itself (heads.Frame a) = eq-eqb a a refl

pub head_other : (x y : Head) → (x ≡ y → ⊥) → same_head x y ≡ false
head_other x y n = ⊎_elim (λ e. absurd (n (head_true x y e))) (λ e. e) (cases_Bool (same_head x y))

-- ---- item arrays

pub length_puts : {X : Type 0} (xs : List X) (p : ℕ) (ys : List X) → length (puts xs p ys) ≡ length xs
length_puts xs p [] = refl
length_puts xs p (y ∷ ys) = length_puts (set xs p y) (suc p) ys ∙ simp length-set

module _ {K : Type 0} where
  abbrev pub keys_of : List (Item K) → List K
  keys_of xs = map (λ (x : Item K). x.key) xs

  abbrev pub values_of : List (Item K) → List ℕ
  values_of xs = map (λ (x : Item K). x.value) xs

  -- items elsewhere stay
  pub items_other : (ks : List K) (vs : List ℕ) (p q n : ℕ) (xs : List (Item K)) → (q + n ≤ p) ⊎ (p + length xs ≤ q)
      → items_from (puts ks p (keys_of xs)) (puts vs p (values_of xs)) q n ≡ items_from ks vs q n
  items_other ks vs p q zero xs a = refl
  items_other ks vs p q (suc n) xs a =
      let key : (q < p) ⊎ (p + length (keys_of xs) ≤ q) = ⊎_elim (λ h. inl (omega arith)) (λ h. inr (omega (arith, length-map xs (λ (x : Item K). x.key)))) a in
      let val : (q < p) ⊎ (p + length (values_of xs) ≤ q) = ⊎_elim (λ h. inl (omega arith)) (λ h. inr (omega (arith, length-map xs (λ (x : Item K). x.value)))) a in
      rw (puts_other (keys_of xs) ks p q key, puts_other (values_of xs) vs p q val, items_other ks vs p (suc q) n xs (⊎_elim (λ h. inl (omega arith)) (λ h. inr (omega arith)) a))

  -- items that were written are there
  pub items_own : (ks : List K) (vs : List ℕ) (p : ℕ) (xs : List (Item K)) → p + length xs ≤ length ks → p + length xs ≤ length vs
      → items_from (puts ks p (keys_of xs)) (puts vs p (values_of xs)) p (length xs) ≡ Some xs
  items_own ks vs p [] a b = refl
  items_own ks vs p (x ∷ xs) a b =
      let e = puts_other (keys_of xs) (set ks p x.key) (suc p) p (inl (omega arith)) ∙ nth_set_there ks p x.key (omega arith) in
      let f = puts_other (values_of xs) (set vs p x.value) (suc p) p (inl (omega arith)) ∙ nth_set_there vs p x.value (omega arith) in
      let g = items_own (set ks p x.key) (set vs p x.value) (suc p) xs (simp length-set (omega arith)) (simp length-set (omega arith)) in
      rw (e, f, g)

-- ---- the search for a free place

module _ {X : Type 0} (test : X → Bool) where
  pub first_at : (xs : List X) (n i : ℕ) → first_in test n xs ≡ Some i → (j : ℕ) × (x : X) × (i ≡ n + j) × (slice_get xs j ≡ Some x) × (test x ≡ true)
  first_at [] n i e = absurd (none-some _ e)
  first_at (x ∷ xs) n i e = go (first_at xs (suc n) i) (test x) refl
    where
      go : (first_in test (suc n) xs ≡ Some i → (j : ℕ) × (y : X) × (i ≡ suc n + j) × (slice_get xs j ≡ Some y) × (test y ≡ true)) → (b : Bool) → test x ≡ b → (j : ℕ) × (y : X) × (i ≡ n + j) × (slice_get (x ∷ xs) j ≡ Some y) × (test y ≡ true)
      go ih true q = let h : Some n ≡ Some i = rw q at e in (0, x, (let g : n ≡ i = same_Some _ _ h in omega arith), refl, q)
      go ih false q = let z = ih (rw q at e) in (suc z.0, z.1, (let y = z.2 in omega arith), z.3, z.4)

  first_from : (xs : List X) (n i : ℕ) → first_in test n (drop n xs) ≡ Some i → (x : X) × (slice_get xs i ≡ Some x) × (test x ≡ true) × (n ≤ i)
  first_from xs n i e =
      let z = first_at (drop n xs) n i e in
      let d = z.2 in
      (z.1, subst (λ (j : ℕ). slice_get xs j ≡ Some z.1) (sym d) (nth_drop xs n z.0 ∙ z.3), z.4, omega arith)
    where
      nth_drop : (ys : List X) (m j : ℕ) → slice_get ys (m + j) ≡ slice_get (drop m ys) j
      nth_drop [] zero j = refl
      nth_drop [] (suc m) j = refl
      nth_drop (y ∷ ys) zero j = let e : 0 + j ≡ j = omega arith in ap (slice_get (y ∷ ys)) e
      nth_drop (y ∷ ys) (suc m) j = let e : suc m + j ≡ suc (m + j) = omega arith in ap (slice_get (y ∷ ys)) e ∙ nth_drop ys m j

  first_whole : (xs : List X) (i : ℕ) → first_in test 0 xs ≡ Some i → (x : X) × (slice_get xs i ≡ Some x) × (test x ≡ true)
  first_whole xs i e =
      let z = first_at xs 0 i e in
      let d : i ≡ z.0 = (let y = z.2 in omega arith) in
      (z.1, ap (slice_get xs) d ∙ z.3, z.4)

  first_front : (xs : List X) (n i : ℕ) → first_in test 0 (take n xs) ≡ Some i → (x : X) × (slice_get xs i ≡ Some x) × (test x ≡ true) × (i < n)
  first_front xs n i e = let z = first_whole (take n xs) i e in let y = nth_take xs n i z.0 z.1 in (z.0, y.0, z.2, y.1)
    where
      nth_take : (ys : List X) (m j : ℕ) (y : X) → slice_get (take m ys) j ≡ Some y → (slice_get ys j ≡ Some y) × (j < m)
      nth_take [] zero j y e = absurd (none-some _ e)
      nth_take [] (suc m) j y e = absurd (none-some _ e)
      nth_take (z ∷ zs) zero j y e = absurd (none-some _ e)
      nth_take (z ∷ zs) (suc m) zero y e = (e, omega arith)
      nth_take (z ∷ zs) (suc m) (suc j) y e = let u = nth_take zs m j y e in (u.0, let v = u.1 in omega arith)

  -- the place that is taken is free
  pub next_free_lem : (xs : List X) (cursor i : ℕ) → next_free test xs cursor ≡ Some i → (x : X) × (slice_get xs i ≡ Some x) × (test x ≡ true)
  next_free_lem xs cursor i e = go (first_in test cursor (drop cursor xs)) refl e
    where
      go : (o : Option ℕ) → first_in test cursor (drop cursor xs) ≡ o → or_else o (first_in test 0 xs) ≡ Some i → (x : X) × (slice_get xs i ≡ Some x) × (test x ≡ true)
      go None q h = first_whole xs i h
      go (Some j) q h = let z = first_from xs cursor i (q ∙ h) in (z.0, z.1, z.2)

  -- the second place is free, and another
  pub other_free_lem : (xs : List X) (i j : ℕ) → other_free test xs i ≡ Some j → (x : X) × (slice_get xs j ≡ Some x) × (test x ≡ true) × (eqb j i ≡ false)
  other_free_lem xs i j e = go (first_in test (i + 1) (drop (i + 1) xs)) refl e
    where
      go : (o : Option ℕ) → first_in test (i + 1) (drop (i + 1) xs) ≡ o → or_else o (first_in test 0 (take i xs)) ≡ Some j → (x : X) × (slice_get xs j ≡ Some x) × (test x ≡ true) × (eqb j i ≡ false)
      go None q h = let z = first_front xs i j h in (z.0, z.1, z.2, ne_eqb j i (λ d. let u = z.3 in omega arith))
      go (Some k) q h = let z = first_from xs (i + 1) j (q ∙ h) in (z.0, z.1, z.2, ne_eqb j i (λ d. let u = z.3 in omega arith))
