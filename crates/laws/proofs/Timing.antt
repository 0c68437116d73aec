-- the moments of a history are the calls that they should be
use Rattle.std.proofs.Common.{◌≡◌, ℕ, suc, ◌≤◌, Bool, true, false, cond, eqb, List, [], ◌∷◌, Some, None, Option, Ok, Result, refl, ap, ◌∙◌, subst, inl, inr, arith}
use Rattle.std.specs.List.{AllByRecursion}
use Rattle.std.proofs.ByRecursion.{All-append}
use Rattle.std.proofs.lemmas.Option.{none-some, same_Some}
use Rattle.std.proofs.lemmas.Bool.{both_ways, cond_both, eqb-true, eqb-false}
use Rattle.bwtree.specs.declared.answer.Answer.{Answer}
use Rattle.bwtree.specs.declared.answer.Answer.TheVariants as answers
use Rattle.bwtree.specs.declared.answer.End.{End}
use Rattle.bwtree.specs.declared.answer.End.TheVariants as ends
use Rattle.bwtree.specs.declared.answer.Ending.{Ending}
use Rattle.bwtree.specs.declared.answer.Refusal.{Refusal}
use Rattle.laws.specs.Calls.{Did, ReadLeaf, Installed, Event}
use Rattle.laws.specs.Histories.{Ended, changes, keeps, settled, comes, coming, begun, read_at, swapped_at, moment_at, moments, At, Timed}
use Rattle.laws.proofs.Items.{never}

-- a map answer that changes nothing is none that changes the map
keeps_or_changes : (e : End) → keeps e ≡ true → changes e ≡ false
keeps_or_changes ends.Stored k = never k
keeps_or_changes ends.Removed k = never k
keeps_or_changes _ k = refl

module _ {K : Type 0} where
  pub at_later : (es : List (Event K)) (n j : ℕ) (e : Event K) → At n es j e → n ≤ j
  at_later [] n j e a = absurd a
  at_later (v ∷ es) n j e (inl q) = omega (arith, q.0)
  at_later (v ∷ es) n j e (inr a) = omega (arith, at_later es (suc n) j e a)

  -- how the operation on seat s ends, and that it reads no leaf before
  pub record Inner (n : ℕ) (es : List (Event K)) (s : ℕ) (x : Ended) : Type 0 where
    pub call : Event K
    pub is : At n es x.number call
    pub seat : call.seat ≡ s
    pub answers : call.answer ≡ Ok (answers.Ended x.ending)
    pub keeping : keeps x.ending.end ≡ true
    pub unread : (j : ℕ) (e : Event K) → At n es j e → j ≤ x.number → e.seat ≡ s → e.did ≡ ReadLeaf → ⊥

  module _ (n s : ℕ) (v : Event K) (es : List (Event K)) where
    further : (x : Ended) → (v.seat ≡ s → v.did ≡ ReadLeaf → ⊥) → Inner (suc n) es s x → Inner n (v ∷ es) s x
    further x h i = record { call = i.call; is = inr i.is; seat = i.seat; answers = i.answers; keeping = i.keeping; unread = unread }
      where
        unread : (j : ℕ) (e : Event K) → At n (v ∷ es) j e → j ≤ x.number → e.seat ≡ s → e.did ≡ ReadLeaf → ⊥
        unread j e (inl q) l t d = h (ap (λ (y : Event K). y.seat) q.1 ∙ t) (ap (λ (y : Event K). y.did) q.1 ∙ d)
        unread j e (inr a) l t d = i.unread j e a l t d

    here : (y : Ending) → v.seat ≡ s → (v.did ≡ ReadLeaf → ⊥) → v.answer ≡ Ok (answers.Ended y) → keeps y.end ≡ true → Inner n (v ∷ es) s (record { number = n; ending = y })
    here y q h a k = record { call = v; is = inl (refl, refl); seat = q; answers = a; keeping = k; unread = unread }
      where
        unread : (j : ℕ) (e : Event K) → At n (v ∷ es) j e → j ≤ n → e.seat ≡ s → e.did ≡ ReadLeaf → ⊥
        unread j e (inl o) l t d = h (ap (λ (z : Event K). z.did) o.1 ∙ d)
        unread j e (inr b) l t d = omega (arith, at_later es (suc n) j e b, l)

    ending_inner : (y : Ending) (x : Ended) (b : Bool) → keeps y.end ≡ b → v.seat ≡ s → (v.did ≡ ReadLeaf → ⊥) → v.answer ≡ Ok (answers.Ended y)
        → cond b (Some (record { number = n; ending = y })) None ≡ Some x → Inner n (v ∷ es) s x
    ending_inner y x true k q h a e = subst (λ (z : Ended). Inner n (v ∷ es) s z) (same_Some (record { number = n; ending = y }) x e) (here y q h a k)
    ending_inner y x false k q h a e = absurd (none-some x e)

    settled_inner : (x : Ended) → (coming (suc n) s es ≡ Some x → Inner (suc n) es s x) → v.seat ≡ s → (v.did ≡ ReadLeaf → ⊥) → (a : Result Answer Refusal) → v.answer ≡ a
        → settled n a (coming (suc n) s es) ≡ Some x → Inner n (v ∷ es) s x
    settled_inner x ih q h (Ok (answers.Ended y)) a e = ending_inner y x (keeps y.end) refl q h a e
    settled_inner x ih q h _ a e = further x (λ _. h) (ih e)

    comes_inner : (x : Ended) → (coming (suc n) s es ≡ Some x → Inner (suc n) es s x) → v.seat ≡ s → (d : Did) → v.did ≡ d
        → comes n d v.answer (coming (suc n) s es) ≡ Some x → Inner n (v ∷ es) s x
    comes_inner x ih q ReadLeaf d e = absurd (none-some x e)
    comes_inner x ih q _ d e = settled_inner x ih q (λ o. grind (arith, o, d)) v.answer refl e

    either_inner : (x : Ended) → (coming (suc n) s es ≡ Some x → Inner (suc n) es s x) → (b : Bool) → eqb v.seat s ≡ b
        → cond b (comes n v.did v.answer (coming (suc n) s es)) (coming (suc n) s es) ≡ Some x → Inner n (v ∷ es) s x
    either_inner x ih true q e = comes_inner x ih (eqb-true v.seat s q) v.did refl e
    either_inner x ih false q e = further x (λ t d. eqb-false v.seat s q t) (ih e)

  coming_inner : (es : List (Event K)) (n s : ℕ) (x : Ended) → coming n s es ≡ Some x → Inner n es s x
  coming_inner [] n s x e = absurd (none-some x e)
  coming_inner (v ∷ es) n s x e = either_inner n s v es x (coming_inner es (suc n) s x) (eqb v.seat s) refl e

  module _ (h : List (Event K)) where
    -- the calls es are the history's from number n on
    pub record Rest (n : ℕ) (es : List (Event K)) : Type 0 where
      pub inside : (j : ℕ) (e : Event K) → At n es j e → At 1 h j e
      pub whole : (j : ℕ) (e : Event K) → At 1 h j e → n ≤ j → At n es j e

    pub rest_next : (n : ℕ) (v : Event K) (es : List (Event K)) → Rest n (v ∷ es) → Rest (suc n) es
    rest_next n v es r = record { inside = λ j e a. r.inside j e (inr a); whole = λ j e a l. past j e l (r.whole j e a (omega (arith, l))) }
      where
        past : (j : ℕ) (e : Event K) → suc n ≤ j → At n (v ∷ es) j e → At (suc n) es j e
        past j e l (inl q) = absurd (omega (arith, l, q.0))
        past j e l (inr a) = a

    module _ (n : ℕ) (v : Event K) (es : List (Event K)) (begins : ℕ → ℕ) (r : Rest n (v ∷ es)) where
      read_timed : v.did ≡ ReadLeaf → (o : Option Ended) → coming (suc n) v.seat es ≡ o → AllByRecursion (Timed h) (read_at n v begins o)
      read_timed d None e = tt
      read_timed d (Some x) e =
          let i = coming_inner es (suc n) v.seat x e in
          let k = keeps_or_changes x.ending.end i.keeping in (
            record {
              call = i.call;
              is = r.inside x.number i.call (inr i.is);
              seat = i.seat;
              answers = i.answers;
              at_end = λ c. absurd (both_ways (changes x.ending.end) k c);
              at_read = λ _. record {
                call = v;
                is = r.inside n v (inl (refl, refl));
                seat = refl;
                reads = d;
                last = λ j e a l z t o. i.unread j e ((rest_next n v es r).whole j e a l) z t o;
              };
            },
            tt,
          )

      swapped_timed : (a : Result Answer Refusal) → v.answer ≡ a → AllByRecursion (Timed h) (swapped_at n v begins a)
      swapped_timed (Ok (answers.Ended y)) q =
          cond_both (changes y.end) _ _ (AllByRecursion (Timed h))
          (λ k. (record { call = v; is = r.inside n v (inl (refl, refl)); seat = refl; answers = q; at_end = λ _. refl; at_read = λ c. absurd (both_ways (changes y.end) c k) }, tt)) (λ _. tt)
      swapped_timed _ q = tt

      moment_timed : (d : Did) → v.did ≡ d → AllByRecursion (Timed h) (moment_at n v begins d es)
      moment_timed ReadLeaf q = read_timed q (coming (suc n) v.seat es) refl
      moment_timed Installed q = swapped_timed v.answer refl
      moment_timed _ q = tt

    rest_timed : (es : List (Event K)) (n : ℕ) (begins : ℕ → ℕ) → Rest n es → AllByRecursion (Timed h) (moments n begins es)
    rest_timed [] n begins r = tt
    rest_timed (v ∷ es) n begins r =
        All-append (Timed h) (moment_at n v begins v.did es) (moments (suc n) (begun n v v.did begins) es) (moment_timed n v es begins r v.did refl)
        (rest_timed es (suc n) (begun n v v.did begins) (rest_next n v es r))

  pub timed : (h : List (Event K)) → AllByRecursion (Timed h) (moments 1 (λ _. 0) h)
  timed h = rest_timed h h 1 (λ _. 0) (record { inside = λ j e a. a; whole = λ j e a l. a })
