-- what follows from the three laws of an order
use Rattle.std.proofs.Common.{◌≡◌, Bool, true, false, ◌⊎◌, arith}
use Rattle.std.proofs.lemmas.Bool.{cases_Bool}
use Rattle.keys.specs.Order.{Lawful, same_key}

module _ {K : Type 0} {before : K → K → Bool} (o : Lawful K before) where
  pub asymmetric : (a b : K) → before a b ≡ true → before b a ≡ false
  asymmetric a b h = grind (arith, o.irreflexive a, o.transitive a b a, cases_Bool (before b a))

  -- one key stands before the other, or they are one
  pub trichotomy : (a b : K) → (before a b ≡ true) ⊎ ((before b a ≡ true) ⊎ (a ≡ b))
  trichotomy a b = grind (arith, cases_Bool (before a b), cases_Bool (before b a), o.connected a b)

  pub same_equal : (a b : K) → same_key before a b ≡ true → a ≡ b
  same_equal a b h = grind (arith, o.connected a b)

  pub same_itself : (a : K) → same_key before a a ≡ true
  same_itself a = grind (arith, o.irreflexive a)

  pub same_symmetric : (a b : K) → same_key before a b ≡ same_key before b a
  same_symmetric a b = grind arith

  -- a does not stand after b, which stands before c
  pub not_after_before : (a b c : K) → before b a ≡ false → before b c ≡ true → before a c ≡ true
  not_after_before a b c h k =
      grind (arith, cases_Bool (before a b), cases_Bool (before a c), o.transitive a b c, o.connected a b)

  -- a stands before b, which does not stand after c
  pub before_not_after : (a b c : K) → before a b ≡ true → before c b ≡ false → before a c ≡ true
  before_not_after a b c h k =
      grind (arith, cases_Bool (before c a), cases_Bool (before a c), o.transitive c a b, o.connected a c)
