-- each leaf and the root have a slot and a frame of their own, so there are no more of them than slots and frames
use Rattle.std.proofs.Common.{◌≡◌, ℕ, zero, suc, ◌+◌, ◌<◌, ◌≤◌, Bool, true, false, not, eqb, List, [], ◌∷◌, map, length, Some, None, filter, sym, refl, ap, ◌∙◌, subst, ⊎_elim, arith}
use Rattle.std.specs.List.{AllByRecursion}
use Rattle.std.proofs.ByRecursion.{all_kept_by, All-map, All-weaker}
use Rattle.std.proofs.lemmas.List.{length-map}
use Rattle.std.proofs.lemmas.Option.{slice_get_within}
use Rattle.std.proofs.lemmas.Bool.{both_ways, cases_Bool, cond_both, eq-eqb, eqb-true, not-true}
use Rattle.nodes.specs.declared.node.Head.{Head}
use Rattle.nodes.specs.declared.node.Head.TheVariants as heads
use Rattle.nodes.specs.declared.node.Item.{Item}
use Rattle.bwtree.specs.Memory.{Memory}
use Rattle.laws.specs.Chains.{Chain}
use Rattle.laws.specs.Worlds.{Node, World, find}
use Rattle.laws.proofs.Leaves.{Tiled, find_here, find_missing, missing_head}
use Rattle.refinement.specs.Relation.{Owner, Chained, Related}
use Rattle.refinement.specs.Resolved.{Ground, store_of, Resolved}
use Rattle.refinement.proofs.Reading.{head_below}
use Rattle.refinement.proofs.Resolving.{under_read, frame_read}
use Rattle.refinement.proofs.Slots.{leaf_in_slot}

-- ---- different numbers that label different places

-- no number stands twice
abbrev pub Different : List ℕ → Type 0
Different [] = Unit {0}
Different (n ∷ ns) = AllByRecursion (λ (i : ℕ). eqb n i ≡ false) ns × Different ns

-- n is the label of one of so many places
abbrev pub Labels : (ℕ → ℕ) → ℕ → ℕ → Type 0
Labels label places n = (p : ℕ) × (p < places) × (label p ≡ n)

-- the numbers other than n
abbrev others : ℕ → List ℕ → List ℕ
others n ns = filter (λ (i : ℕ). not (eqb n i)) ns

all_others : (n : ℕ) (ns : List ℕ) → AllByRecursion (λ (i : ℕ). eqb n i ≡ false) ns → length (others n ns) ≡ length ns
all_others n [] a = refl
all_others n (i ∷ ns) a = rw a.0 (ap suc (all_others n ns a.1))

-- only one is left out
length_others : (n : ℕ) (ns : List ℕ) → Different ns → length ns ≤ suc (length (others n ns))
length_others n [] d = omega arith
length_others n (i ∷ ns) d =
    ⊎_elim (λ q. let e = all_others n ns (subst (λ (j : ℕ). AllByRecursion (λ (i : ℕ). eqb j i ≡ false) ns) (sym (eqb-true n i q)) d.0) in rw q (omega arith))
    (λ q. let e = length_others n ns d.1 in rw q (omega arith)) (cases_Bool (eqb n i))

different_others : (n : ℕ) (ns : List ℕ) → Different ns → Different (others n ns)
different_others n [] d = tt
different_others n (i ∷ ns) d =
    cond_both (not (eqb n i)) _ _ Different
    (λ _. (all_kept_by (λ (j : ℕ). not (eqb n j)) (λ (j : ℕ). eqb i j ≡ false) ns d.0, different_others n ns d.1)) (λ _. different_others n ns d.1)

-- another number than the label of the last place labels one before it
label_earlier : (label : ℕ → ℕ) (b n : ℕ) → not (eqb (label b) n) ≡ true → Labels label (suc b) n → Labels label b n
label_earlier label b n q (p, l, e) = (p, omega (arith, apart), e)
  where
    apart : p ≡ b → ⊥
    apart h = both_ways (eqb (label b) n) (not-true (eqb (label b) n) q) (eq-eqb (label b) n (ap label (sym h) ∙ e))

labels_others : (label : ℕ → ℕ) (b : ℕ) (ns : List ℕ) → AllByRecursion (Labels label (suc b)) ns → AllByRecursion (Labels label b) (others (label b) ns)
labels_others label b [] a = tt
labels_others label b (n ∷ ns) a =
    cond_both (not (eqb (label b) n)) _ _ (AllByRecursion (Labels label b)) (λ q. (label_earlier label b n q a.0, labels_others label b ns a.1)) (λ _. labels_others label b ns a.1)

-- different numbers that are labels of places are not more than the places
pub few : (label : ℕ → ℕ) (places : ℕ) (ns : List ℕ) → Different ns → AllByRecursion (Labels label places) ns → length ns ≤ places
few label zero [] d a = omega arith
few label zero (n ∷ ns) d a = let l = a.0.1 in absurd (omega arith)
few label (suc b) ns d a =
    let k = few label b (others (label b) ns) (different_others (label b) ns d) (labels_others label b ns a) in
    let l = length_others (label b) ns d in
    omega arith

-- ---- the slots of the leaves

module _ {K : Type 0} where
  abbrev pub slots_of : List (Node K) → List ℕ
  slots_of ls = map (λ (l : Node K). l.slot) ls

  not_among : (n : ℕ) (ls : List (Node K)) → find n ls ≡ None → AllByRecursion (λ (i : ℕ). eqb n i ≡ false) (slots_of ls)
  not_among n [] e = tt
  not_among n (l ∷ ls) e = (missing_head n l ls e, not_among n ls (find_missing n l ls e))

  pub slots_differ : (before : K → K → Bool) (ls : List (Node K)) → Tiled before ls → Different (slots_of ls)
  slots_differ before [] t = tt
  slots_differ before (l ∷ ls) t = (not_among l.slot ls t.0.alone, slots_differ before ls t.1)

  -- there is a leaf in the slot of each
  all_found : (ls : List (Node K)) → AllByRecursion (λ (l : Node K). (x : Node K) × (find l.slot ls ≡ Some x)) ls
  all_found [] = tt
  all_found (l ∷ ls) = ((l, find_here l ls), All-weaker (λ (y : Node K). (x : Node K) × (find y.slot ls ≡ Some x)) (λ (y : Node K). (x : Node K) × (find y.slot (l ∷ ls) ≡ Some x)) (λ y z. more y.slot z.0 z.1) ls (all_found ls))
    where
      more : (n : ℕ) (x : Node K) → find n ls ≡ Some x → (y : Node K) × (find n (l ∷ ls) ≡ Some y)
      more n x e = ⊎_elim (λ q. (l, rw q refl)) (λ q. (x, rw q e)) (cases_Bool (eqb n l.slot))

-- the slot in whose chain something is
abbrev slot_of : Owner → ℕ
slot_of (Chained n) = n
slot_of _ = 0

module _ {K : Type 0} (before : K → K → Bool) (top : Item K) (m : Memory K) (w : World K) (own : Head → Owner) (related : Related before top m w own) (tiled : Tiled before w.leaves) where
  abbrev places : List ℕ
  places = 0 ∷ slots_of w.leaves

  places_differ : Different places
  places_differ = (not_among 0 w.leaves related.no_root_leaf, slots_differ before w.leaves tiled)

  -- the frame under a slot's chain
  own_frame : {g : Ground K} {n : ℕ} {h : Head} {c : Chain K} → Resolved before g (store_of m) (λ y. own y ≡ Chained n) h c → Labels (λ (f : ℕ). slot_of (own (heads.Frame f))) (length m.frames) n
  own_frame r =
      let u = under_read before m r in
      let z = frame_read m u.frame _ u.framed.bounds in
      (u.frame, slice_get_within m.frames u.frame z.0 z.1, ap slot_of u.holds)

  all_leaves : (P : ℕ → Type 0) → ((n : ℕ) (x : Node K) → find n w.leaves ≡ Some x → P n) → AllByRecursion P (slots_of w.leaves)
  all_leaves P h =
      All-map P (λ (l : Node K). l.slot) w.leaves
      (All-weaker (λ (l : Node K). (x : Node K) × (find l.slot w.leaves ≡ Some x)) (λ (l : Node K). P l.slot) (λ l z. h l.slot z.0 z.1) w.leaves (all_found w.leaves))

  pub leaves_few_slots : 1 + length w.leaves ≤ length m.slots
  leaves_few_slots =
      let k = few (λ (n : ℕ). n) (length m.slots) places places_differ (
        (0, head_below m.slots 0 related.root_head related.root_slot, refl),
        all_leaves (Labels (λ (n : ℕ). n) (length m.slots)) (λ n x e. let z = leaf_in_slot before top m w own related n x e in (n, head_below m.slots n z.head z.is, refl)),
      ) in
      let l = length-map w.leaves (λ (l : Node K). l.slot) in
      omega arith

  pub leaves_few_frames : 1 + length w.leaves ≤ length m.frames
  leaves_few_frames =
      let k = few (λ (f : ℕ). slot_of (own (heads.Frame f))) (length m.frames) places places_differ
      (own_frame related.root_chain, all_leaves (Labels (λ (f : ℕ). slot_of (own (heads.Frame f))) (length m.frames)) (λ n x e. own_frame (leaf_in_slot before top m w own related n x e).resolved)) in
      let l = length-map w.leaves (λ (l : Node K). l.slot) in
      omega arith
