-- the attributes that memory has of a chain: the root's size counts the separator without a key, all else is the chain's
use Rattle.std.proofs.Common.{◌≡◌, ℕ, suc, ◌+◌, Bool, sym, refl, ap, ◌∙◌, arith}
use Rattle.nodes.specs.declared.node.Attributes.{Attributes}
use Rattle.nodes.specs.declared.node.Head.{Head}
use Rattle.nodes.specs.declared.node.Item.{Item}
use Rattle.nodes.specs.declared.node.Kind.{Kind}
use Rattle.nodes.specs.declared.node.Kind.TheVariants as kinds
use Rattle.bwtree.specs.Deltas.{attributes_on, size_on}
use Rattle.laws.specs.Chains.{Chain, Base, On, attributes_of}
use Rattle.refinement.specs.Resolved.{Store, Ground, Root, carried, Resolved, base, on}

separator_size : (kind : Kind) (a b : ℕ) → kind ≡ kinds.Separator → a ≡ suc b → size_on kind a ≡ suc (size_on kind b)
separator_size kind a b e q =
    ap (λ (x : Kind). size_on x a) e ∙ (let z : a + 1 ≡ suc (b + 1) = omega arith in z) ∙ ap (λ (x : Kind). suc (size_on x b)) (sym e)

module _ {K : Type 0} where
  -- attributes with another size
  abbrev pub with_size : ℕ → Attributes K → Attributes K
  with_size n a = record { low = a.low; high = a.high; right = a.right; size = n; depth = a.depth }

  -- only the size depends on the ground
  pub carried_bounds : (g : Ground K) (c : Chain K) → carried g c ≡ with_size (carried g c).size (attributes_of c)
  carried_bounds g (Base l h r xs) = refl
  carried_bounds g (On kind k v c) = ap (attributes_on kind k v) (carried_bounds g c)

module _ {K : Type 0} (before : K → K → Bool) where
  pub carried_root : {x : Item K} {t : Store K} {P : Head → Type 0} {h : Head} {c : Chain K} → Resolved before (Root x) t P h c → (carried (Root x) c).size ≡ suc (attributes_of c).size
  carried_root (base e p) = refl
  carried_root {x} (on {kind = kind} {c = c} e a p r) = separator_size kind (carried (Root x) c).size (attributes_of c).size a (carried_root r)

  pub carried_above : {x : Item K} {t : Store K} {P : Head → Type 0} {h : Head} {c : Chain K} → Resolved before (Root x) t P h c → carried (Root x) c ≡ with_size (suc (attributes_of c).size) (attributes_of c)
  carried_above {x} {c = c} r = carried_bounds (Root x) c ∙ ap (λ (n : ℕ). with_size n (attributes_of c)) (carried_root r)
