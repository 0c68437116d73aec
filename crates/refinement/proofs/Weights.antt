-- the weight of lists of record numbers: their totals, one number alone, and the free records
use Rattle.std.proofs.Common.{◌≡◌, ℕ, zero, suc, ◌+◌, ◌<◌, ◌≤◌, Bool, true, false, cond, eqb, List, [], ◌∷◌, ◌++◌, length, set, Some, refl, ap, ◌∙◌, subst, ⊎_elim, arith}
use Rattle.std.specs.List.{slice_get, flat_map}
use Rattle.std.proofs.lemmas.Option.{none-some, same_Some}
use Rattle.std.proofs.lemmas.Bool.{cases_Bool, eq-eqb, eqb-true, ne_eqb}
use Rattle.nodes.specs.declared.node.Record.{Record}
use Rattle.bwtree.specs.Reports.{total}
use Rattle.refinement.specs.Accounts.{numbers, free_from}

-- ---- totals

pub total_append : (f : ℕ → ℕ) (xs ys : List ℕ) → total f (xs ++ ys) ≡ total f xs + total f ys
total_append f [] ys = omega arith
total_append f (x ∷ xs) ys = let h = total_append f xs ys in omega arith

pub total_length : (xs : List ℕ) → total (λ (n : ℕ). 1) xs ≡ length xs
total_length [] = refl
total_length (x ∷ xs) = let h = total_length xs in omega arith

module _ {X : Type 0} where
  pub total_joined : (f : ℕ → ℕ) (g : X → List ℕ) (xs : List X) → total f (flat_map g xs) ≡ total (λ (x : X). total f (g x)) xs
  total_joined f g [] = refl
  total_joined f g (x ∷ xs) = let a = total_append f (g x) (flat_map g xs) in let b = total_joined f g xs in omega arith

  -- elements that weigh the same
  pub total_same : (f g : X → ℕ) (xs : List X) → ((n : ℕ) (x : X) → slice_get xs n ≡ Some x → f x ≡ g x) → total f xs ≡ total g xs
  total_same f g [] e = refl
  total_same f g (x ∷ xs) e = let a = e 0 x refl in let b = total_same f g xs (λ n y q. e (suc n) y q) in omega arith

  pub total_part : (f : X → ℕ) (xs : List X) (n : ℕ) (x : X) → slice_get xs n ≡ Some x → f x ≤ total f xs
  total_part f [] n x e = absurd (none-some _ e)
  total_part f (y ∷ ys) zero x e = let q = ap f (same_Some _ _ e) in omega arith
  total_part f (y ∷ ys) (suc n) x e = let h = total_part f ys n x e in omega arith

  pub total_set : (f : X → ℕ) (xs : List X) (n : ℕ) (x y : X) → slice_get xs n ≡ Some x → total f (set xs n y) + f x ≡ total f xs + f y
  total_set f [] n x y e = absurd (none-some _ e)
  total_set f (z ∷ zs) zero x y e = let q = ap f (same_Some _ _ e) in omega arith
  total_set f (z ∷ zs) (suc n) x y e = let h = total_set f zs n x y e in omega arith

-- ---- one number

-- the weight that counts how often i stands in a list
abbrev pub only : ℕ → ℕ → ℕ
only i j = cond (eqb j i) 1 0

pub only_itself : (i : ℕ) → only i i ≡ 1
only_itself i = rw (eq-eqb i i refl) refl

only_other : (i j : ℕ) → eqb j i ≡ false → only i j ≡ 0
only_other i j e = rw e refl

only_past : (i b n : ℕ) → i < b → total (only i) (numbers b n) ≡ 0
only_past i b zero l = refl
only_past i b (suc n) l = let a = only_other i b (ne_eqb b i (λ q. omega arith)) in let h = only_past i (suc b) n (omega arith) in omega arith

-- each number stands once among all
pub only_once : (i b n : ℕ) → total (only i) (numbers b n) ≤ 1
only_once i b zero = omega arith
only_once i b (suc n) = ⊎_elim (λ q. here (eqb-true b i q)) (λ q. let a = only_other i b q in let h = only_once i (suc b) n in omega arith) (cases_Bool (eqb b i))
  where
    here : b ≡ i → total (only i) (numbers b (suc n)) ≤ 1
    here q = let a = only_past i (suc b) n (omega arith) in let c : only i b ≡ 1 = ap (only i) q ∙ only_itself i in omega arith

-- ---- the free records

module _ {K : Type 0} where
  -- what a record with the number i adds to the free ones
  abbrev pub free_at : (ℕ → ℕ) → ℕ → Record K → ℕ
  free_at f i r = cond r.free (f i) 0

  free_cons : (f : ℕ → ℕ) (b : ℕ) (r : Record K) (rs : List (Record K)) → total f (free_from b (r ∷ rs)) ≡ free_at f b r + total f (free_from (suc b) rs)
  free_cons f b r rs = go r.free refl
    where
      go : (t : Bool) → r.free ≡ t → total f (free_from b (r ∷ rs)) ≡ free_at f b r + total f (free_from (suc b) rs)
      go true e = rw e refl
      go false e = rw e (omega arith)

  free_set_from : (f : ℕ → ℕ) (b : ℕ) (rs : List (Record K)) (i : ℕ) (r y : Record K) → slice_get rs i ≡ Some r → total f (free_from b (set rs i y)) + free_at f (b + i) r ≡ total f (free_from b rs) + free_at f (b + i) y
  free_set_from f b [] i r y e = absurd (none-some _ e)
  free_set_from f b (z ∷ zs) zero r y e =
      let q : z ≡ r = same_Some _ _ e in
      let n : b + 0 ≡ b = omega arith in
      let a = free_cons f b z zs in
      let c = free_cons f b y zs in
      let d = ap (free_at f b) q in
      rw n (omega arith)
  free_set_from f b (z ∷ zs) (suc i) r y e =
      let n : b + suc i ≡ suc b + i = omega arith in
      let h = free_set_from f (suc b) zs i r y e in
      let a = free_cons f b z zs in
      let c = free_cons f b z (set zs i y) in
      rw n (omega arith)

  pub free_set : (f : ℕ → ℕ) (rs : List (Record K)) (i : ℕ) (r y : Record K) → slice_get rs i ≡ Some r → total f (free_from 0 (set rs i y)) + free_at f i r ≡ total f (free_from 0 rs) + free_at f i y
  free_set f rs i r y e = let n : 0 + i ≡ i = omega arith in subst (λ (j : ℕ). total f (free_from 0 (set rs i y)) + free_at f j r ≡ total f (free_from 0 rs) + free_at f j y) n (free_set_from f 0 rs i r y e)

  pub free_part : (f : ℕ → ℕ) (rs : List (Record K)) (i : ℕ) (r : Record K) → slice_get rs i ≡ Some r → free_at f i r ≤ total f (free_from 0 rs)
  free_part f rs i r e = let h = free_set f rs i r (record { free = false; delta = r.delta }) e in omega arith
