-- a call that does not answer stored or removed leaves every item where it was
use Rattle.std.proofs.Common.{◌≡◌, ℕ, Bool, true, false, ltb, List, [], ◌∷◌, ◌++◌, drop, Some, sym, refl, ap, ◌∙◌, subst, append-nil}
use Rattle.std.proofs.lemmas.Option.{same_Some}
use Rattle.std.proofs.lemmas.Bool.{cond_both}
use Rattle.keys.specs.Order.{Lawful}
use Rattle.bwtree.specs.declared.answer.End.{End}
use Rattle.bwtree.specs.declared.answer.End.TheVariants as ends
use Rattle.bwtree.specs.declared.seat.Request.{Request}
use Rattle.bwtree.specs.declared.seat.Request.TheVariants as requests
use Rattle.bwtree.specs.Deltas.{cut}
use Rattle.nodes.specs.declared.node.Kind.TheVariants as kinds
use Rattle.laws.specs.Chains.{Chain, On, consolidated, replay, upper}
use Rattle.laws.specs.Worlds.{Granted, Node, World, find, Call, Begin, Step, Tell}
use Rattle.laws.specs.Acts.{Act, Reads, Fails, Goes, Ends, Replaces, Divides, Roots, Refuses, act, end_for}
use Rattle.laws.specs.Calls.{Made, Turn, begin, divided, is_idle, perform, placed, seat_of, seated, taking}
use Rattle.laws.specs.Histories.{changes}
use Rattle.laws.specs.Theorem.{changing}
use Rattle.laws.proofs.Items.{never}
use Rattle.laws.proofs.Replays.{size, CutAt, cut_parts}
use Rattle.laws.proofs.Leaves.{node, contents, contents_same, found_tile}
use Rattle.laws.proofs.Standing.{Makes, Invariant}
use Rattle.laws.proofs.Allowed.{Allowed, act_ok}

module _ {K : Type 0} {before : K → K → Bool} (law : Lawful K before) (w : World K) (i : Invariant before w) where
  -- the items of all leaves are still the same
  abbrev Same : World K → Type 0
  Same v = contents before v.leaves ≡ contents before w.leaves

  module _ (n : ℕ) (l : Node K) (is : find n w.leaves ≡ Some l) where
    -- a chain that stands for the same items
    same : (c : Chain K) (more : List (Node K)) → replay before c ++ contents before more ≡ replay before l.chain → Same (placed w n c more)
    same c more d = contents_same before n w.clock c more w.leaves l is d

    swapped : (r : Request K) (c : Chain K) → Makes before r l.chain c → (e : End) → end_for c ≡ Some e → changes e ≡ false → Same (placed w n c [])
    swapped (requests.Insert k v) c h e q z = let d = same_Some e ends.Stored (sym q ∙ ap end_for h.1) in never (sym z ∙ ap changes d)
    swapped (requests.Delete k) c h e q z = let d = same_Some e ends.Removed (sym q ∙ ap end_for h.2) in never (sym z ∙ ap changes d)
    swapped (requests.Consolidate k) c h e q z = rw h (same (consolidated before l.chain) [] (append-nil (replay before l.chain)))
    swapped _ c h e q z = absurd h

    divides : (k : K) (target : ℕ) → CutAt before (cut (size l.chain)) k l.chain → Same (divided before w n l.chain k target)
    divides k target a =
        same (On kinds.Split k target l.chain) (node target w.clock (upper before k l.chain) ∷ [])
        (rw (append-nil (drop (cut (size l.chain)) (replay before l.chain))) (cut_parts law (cut (size l.chain)) k l.chain (found_tile before w.leaves n l i.founded.tiled is).0 a))

  performed : (s : ℕ) (r : Request K) (a : Act K) → Allowed before w r a → changing (perform before w s a).answer ≡ false → Same (perform before w s a).world
  performed s r (Reads q) h z = refl
  performed s r (Fails q) h z = refl
  performed s r (Goes q) h z = refl
  performed s r (Ends e u d y) h z = refl
  performed s r (Replaces j c e u) h z = swapped j h.leaf h.is r c h.makes e h.ends z
  performed s r (Divides j c k target) h z =
      subst (λ (b : Chain K). CutAt before (cut (size b)) k b → Same (divided before w j b k target)) h.same (λ a. divides j h.leaf h.is k target a) h.cuts
  performed s r (Roots c e d y) h z = refl
  performed s r (Refuses x) h z = refl

  begun : (s : ℕ) (r : Request K) (b : Bool) → Same (begin w s r b).world
  begun s r true = refl
  begun s r false = refl

  seated_same : (g : Granted) (c : Call K) → changing (seated before w g c).answer ≡ false → Same (seated before w g c).world
  seated_same g (Begin s r) z = begun s r (is_idle (w.seats s).phase)
  seated_same g (Step s) z = performed s (w.seats s).request (act before w g (w.seats s).request (w.seats s).phase) (act_ok law w i g (w.seats s).request (w.seats s).phase (i.seats s)) z
  seated_same g (Tell s) z = refl

  -- a call that does not answer stored or removed
  pub call_same : (c : Made K) → changing (taking before w c).answer ≡ false → Same (taking before w c).world
  call_same c = cond_both (ltb (seat_of c.call) 4) _ _ (λ (t : Turn K). changing t.answer ≡ false → Same t.world) (λ _. seated_same c.granted c.call) (λ _ z. refl)
