use Rattle.std.proofs.Common.{◌≡◌, ℕ, ◌<◌, Bool, true, cond, List, length, get_or, Some, None, Option, sym, ap, ◌∙◌}
use Rattle.std.specs.List.{slice_get}
use Rattle.std.specs.Option.{is_some, IfSome}
use Rattle.std.proofs.lemmas.Option.{slice_get-get_or}

-- what `then` gives where a closure reads a place of a list
pub then_read : (xs : List ℕ) (i : ℕ) (b : Bool) (r : Option ℕ) {P : ℕ → Type 0} → is_some r ≡ b → IfSome r P → ((x : ℕ) → P x → x ≡ get_or xs i 0) → (b ≡ true → i < length xs)
    → r ≡ cond b (slice_get xs i) None
then_read xs i b None v s f h = ap (λ (b : Bool). cond b (slice_get xs i) None) v
then_read xs i b (Some x) v s f h = ap Some (f x s) ∙ sym (slice_get-get_or xs i 0 (h (sym v))) ∙ ap (λ (b : Bool). cond b (slice_get xs i) None) v
