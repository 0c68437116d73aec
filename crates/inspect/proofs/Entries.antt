-- entries read one after another, and made into text one after another
use Rattle.std.proofs.Common.{◌≡◌, ℕ, ◌+◌, ◌<◌, true, false, List, ◌∷◌, ◌++◌, length, get_or, drop, max, ltb, ⊎_elim, Ok, Err, Result, IfOk, Vec, vec_items, sym, ap, ◌∙◌, append_assoc, arith}
use Rattle.std.proofs.lemmas.Bool.{cases_lt, le-ltb, lt-ltb}
use Rattle.std.proofs.lemmas.List.{at_drop_more}
use Rattle.inspect.specs.Table.{larger_of}

module _ {X : Type 0} where
  pub drop_item : (xs : List X) (i : ℕ) (x : X) → i < length xs → x ≡ get_or xs i x → drop i xs ≡ x ∷ drop (i + 1) xs
  drop_item xs i x h e = at_drop_more (λ ys. ys) xs i x h ∙ ap (λ y. y ∷ drop (i + 1) xs) (sym e)

-- items that are collected, stated by an equal list
pub items_equal : {X Z E : Type 0} {a b : List X} (r : Result (Vec X Z) E) → a ≡ b → IfOk r (λ v. vec_items v ≡ a) → IfOk r (λ v. vec_items v ≡ b)
items_equal (Ok v) e h = h ∙ e
items_equal (Err problem) e h = h

-- a text and what is still to come are the whole; the next line is added
pub text_more : (text more line rest left whole : List ℕ) → text ++ rest ≡ whole → rest ≡ line ++ left → more ≡ text ++ line → more ++ left ≡ whole
text_more text more line rest left whole e f h =
    ap (λ s. s ++ left) h ∙ append_assoc text line left ∙ ap (λ s. text ++ s) (sym f) ∙ e

pub max_larger : (a b : ℕ) → max a b ≡ larger_of a b
max_larger a b = ⊎_elim (λ l. let t : ltb a b ≡ true = lt-ltb a b l in rw t (omega arith)) (λ l. let t : ltb a b ≡ false = le-ltb a b l in rw t (omega arith)) (cases_lt a b)
