-- nothing that a seat can still read or has taken is free
use Rattle.std.proofs.Common.{◌≡◌, ℕ, Bool, Some, Option, sym, ap, ◌∙◌, subst, ⊎_elim}
use Rattle.std.specs.List.{slice_get, AllByRecursion}
use Rattle.std.proofs.lemmas.Option.{same_Some}
use Rattle.std.proofs.lemmas.Bool.{cases_Bool}
use Rattle.nodes.specs.declared.node.Delta.{Delta}
use Rattle.nodes.specs.declared.node.Head.{Head}
use Rattle.nodes.specs.declared.node.Head.TheVariants as heads
use Rattle.nodes.specs.declared.node.Item.{Item}
use Rattle.nodes.specs.declared.node.Record.{Record}
use Rattle.bwtree.specs.declared.seat.Phase.{Phase}
use Rattle.bwtree.specs.declared.seat.Request.{Request}
use Rattle.bwtree.specs.declared.seat.Seat.{Seat}
use Rattle.bwtree.specs.Memory.{Memory}
use Rattle.laws.specs.Chains.{Chain}
use Rattle.laws.specs.Worlds.{Phase as Place, World}
use Rattle.refinement.specs.Relation.{Owner, Free, Held, Reachable, Seen, Best, nothing, separator, view, PhaseAs, idle, root_read, root_walk, leaf_read, leaf_walk, build, root_build, putting, making, root_making, splitting, post_read, post_swap, Related}
use Rattle.refinement.specs.Resolved.{Ground, Resolved, base, on, store_of}
use Rattle.refinement.specs.Stands.{InUse, LeadsTo, here, below, Safe, remembered}
use Rattle.refinement.proofs.Resolving.{record_read}
use Rattle.refinement.proofs.Taking.{held_free}

module _ {K : Type 0} (before : K → K → Bool) (m : Memory K) where
  -- the way down in memory is that of the chain
  led_down : {g : Ground K} {P : Head → Type 0} {h : Head} {c : Chain K} (x : Head) → Resolved before g (store_of m) P h c → LeadsTo m.records h x → P x
  led_down x (base e p) here = p
  led_down x (on e a p r) here = p
  led_down {P = P} x (on {i = i} {next = next} {c = c} e a p r) (below y q l) =
      let z = record_read m i _ e in
      let down : y.delta.next ≡ next = ap (λ (w : Record K). w.delta.next) (same_Some _ _ (sym q ∙ z.1)) ∙ ap (λ (d : Delta K). d.next) z.2 in
      led_down x r (subst (λ (w : Head). LeadsTo m.records w x) down l)

module _ {K : Type 0} (before : K → K → Bool) (top : Item K) (m : Memory K) (w : World K) (own : Head → Owner) (related : Related before top m w own) where
  -- what has an owner is not free
  in_use : (x : Head) → (own x ≡ Free → ⊥) → InUse m x
  in_use (heads.Record i) n = λ r e. ⊎_elim (λ f. absurd (n (related.free_records i r e f))) (λ f. f) (cases_Bool r.free)
  in_use (heads.Frame f) n = λ x e q. n (related.free_frames f x e q)

  module _ (s : ℕ) where
    abbrev Reads : Head → Type 0
    Reads h = (x : Head) → LeadsTo m.records h x → InUse m x

    seen : (x : Head) → Seen own (view m w own).states s x → InUse m x
    seen x p = in_use x (λ e. subst (Reachable (view m w own).states s) e p)

    held : (x : Head) → own x ≡ Held s → InUse m x
    held x p = in_use x (held_free (own x) s p)

    reads : {g : Ground K} {h : Head} {c : Chain K} → Resolved before g (store_of m) (Seen own (view m w own).states s) h c → Reads h
    reads r x l = seen x (led_down before m x r l)

    remembers : {i : Option ℕ} {b : Option (Item K)} → Best (store_of m) (Seen own (view m w own).states s) i b → AllByRecursion (InUse m) (remembered i)
    remembers nothing = tt
    remembers (separator {i = i} d e p) = (seen (heads.Record i) p, tt)

    safe_at : {r : Request K} {p : Phase} {q : Place K} → PhaseAs before top (view m w own) s r p q → Safe m p
    safe_at idle = record { reads = tt; keeps = tt }
    safe_at root_read = record { reads = tt; keeps = tt }
    safe_at (root_walk c b) = record { reads = (reads c, tt); keeps = remembers b }
    safe_at leaf_read = record { reads = tt; keeps = tt }
    safe_at (leaf_walk x c) = record { reads = (reads x.resolved, (reads c, tt)); keeps = tt }
    safe_at (build x) = record { reads = (reads x.resolved, tt); keeps = tt }
    safe_at (root_build x) = record { reads = (reads x.resolved, tt); keeps = tt }
    safe_at (putting x d o l) = record { reads = (reads x.resolved, tt); keeps = (held _ o, tt) }
    safe_at (making x f o) = record { reads = (reads x.resolved, tt); keeps = (held _ o, tt) }
    safe_at (root_making x c f o) = record { reads = (reads x.resolved, tt); keeps = (held _ o, tt) }
    safe_at (splitting d x a o b k v o' n c f o'' t l z) = record { reads = (reads x.resolved, tt); keeps = (held _ o, (held _ o', (held _ o'', tt))) }
    safe_at (post_read d a b c o) = record { reads = tt; keeps = (held _ o, tt) }
    safe_at (post_swap x d o) = record { reads = (reads x.resolved, tt); keeps = (held _ o, tt) }

  pub safe_from : (s : ℕ) (it : Seat K) → slice_get m.seats s ≡ Some it → Safe m it.phase
  safe_from s it at_s = safe_at s (related.seats s it at_s).phase
