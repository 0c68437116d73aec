-- an empty slot is offered to a split, and gets the frame of its new leaf
use Rattle.std.proofs.Common.{◌≡◌, ℕ, ◌<◌, Bool, true, false, eqb, List, Some, None, Option, sym, refl, ap, ◌∙◌, subst, ⊎_elim, arith, length-set}
use Rattle.std.specs.List.{slice_get}
use Rattle.std.proofs.lemmas.Option.{none-some}
use Rattle.std.proofs.lemmas.Bool.{both_ways, cases_Bool, eq-eqb, eqb-true, ne_eqb}
use Rattle.nodes.specs.declared.node.Head.{Head}
use Rattle.nodes.specs.declared.node.Item.{Item}
use Rattle.nodes.specs.declared.node.Slot.{Slot}
use Rattle.nodes.specs.Chains.{bind}
use Rattle.pool.specs.Free.{empty_slot, next_free}
use Rattle.bwtree.specs.declared.seat.Phase.{Phase}
use Rattle.bwtree.specs.declared.seat.Request.{Request}
use Rattle.bwtree.specs.Memory.{Memory, set_slot}
use Rattle.bwtree.specs.Swaps.{unchanged as same_as}
use Rattle.laws.specs.Worlds.{Node, Phase as Place, World, find, holds, offered}
use Rattle.laws.proofs.Items.{never}
use Rattle.refinement.specs.Relation.{Owner, Seen, head_at, states_of, View, view, SlotAs, empty, full, hidden, PhaseAs, idle, root_read, root_walk, leaf_read, leaf_walk, build, root_build, putting, making, root_making, splitting, post_read, post_swap, Related}
use Rattle.refinement.specs.Resolved.{Store, store_of}
use Rattle.refinement.proofs.Installing.{head_elsewhere, head_there}
use Rattle.refinement.proofs.Moves.{Kept, seat_kept}
use Rattle.refinement.proofs.Places.{head_other, next_free_lem, nth_there}

-- ---- a slot that is empty

empty_head : (o : Option Head) → empty_slot o ≡ true → o ≡ None
empty_head None e = refl
empty_head (Some h) e = never e

-- the slot that a split is offered is there, and empty
pub slot_free : (slots : List Slot) (cursor n : ℕ) → next_free (λ (x : Slot). empty_slot x.head) slots cursor ≡ Some n → (x : Slot) × (slice_get slots n ≡ Some x) × (head_at slots n ≡ None)
slot_free slots cursor n e =
    let z = next_free_lem (λ (x : Slot). empty_slot x.head) slots cursor n e in
    (z.0, z.1, ap (λ (o : Option Slot). bind o (λ x. x.head)) z.1 ∙ empty_head z.0.head z.2)

module _ {K : Type 0} (before : K → K → Bool) (top : Item K) where
  -- no leaf is in an empty slot
  slot_none : {t : Store K} {own : Head → Owner} {n : ℕ} {o : Option Head} {y : Option (Node K)} → o ≡ None → SlotAs before t own n o y → y ≡ None
  slot_none e empty = refl
  slot_none e (full p r z) = absurd (none-some _ (sym e))
  slot_none e hidden = refl

  -- no seat holds an empty slot
  holds_none : {v : View K} {u : ℕ} {r : Request K} {p : Phase} {q : Place K} (n : ℕ) → head_at v.slots n ≡ None → PhaseAs before top v u r p q → holds n q ≡ false
  holds_none n e idle = refl
  holds_none n e root_read = refl
  holds_none n e (root_walk r b) = refl
  holds_none n e leaf_read = refl
  holds_none n e (leaf_walk x r) = refl
  holds_none n e (build x) = refl
  holds_none n e (root_build x) = refl
  holds_none n e (putting x d o l) = refl
  holds_none n e (making x f o) = refl
  holds_none n e (root_making x c f o) = refl
  holds_none {v} n e (splitting {target = target} d x q o q' a b o' i c f o'' t k l) = ne_eqb n target (λ z. none-some _ (sym e ∙ ap (head_at v.slots) z ∙ t))
  holds_none n e (post_read d q a b o) = refl
  holds_none n e (post_swap x q o) = refl

  module _ (m : Memory K) (w : World K) (own : Head → Owner) (related : Related before top m w own) (n : ℕ) (bare : head_at m.slots n ≡ None) where
    -- it is not the root's
    pub bare_past : eqb n 0 ≡ false
    bare_past = ne_eqb n 0 (λ z. none-some _ (sym bare ∙ ap (head_at m.slots) z ∙ related.root_slot))

    pub bare_leafless : find n w.leaves ≡ None
    bare_leafless = slot_none bare (related.leaves n bare_past)

    unheld : (u : ℕ) → u < 4 → holds n (w.seats u).phase ≡ false
    unheld u l = let z = nth_there m.seats u (omega (arith, related.sized.seats)) in holds_none n bare (related.seats u z.0 z.1).phase

    -- so the index without memory takes the slot that is offered
    pub offered_bare : offered w (Some n) ≡ Some n
    offered_bare = rw (bare_past, bare_leafless, unheld 0 (omega arith), unheld 1 (omega arith), unheld 2 (omega arith), unheld 3 (omega arith)) refl

    -- ---- the slot gets a head that no seat can read

    module _ (sl : Slot) (there : slice_get m.slots n ≡ Some sl) (x : Head) (unseen : (u : ℕ) → Seen own (states_of m.frames) u x → ⊥) where
      abbrev pub hiding : Memory K
      hiding = set_slot m n (Some x)

      pub hiding_here : head_at hiding.slots n ≡ Some x
      hiding_here = head_there m.slots n (record { head = Some x }) sl there

      elsewhere : (j : ℕ) → eqb j n ≡ false → head_at hiding.slots j ≡ head_at m.slots j
      elsewhere j q = head_elsewhere m.slots n j (record { head = Some x }) q

      -- a snapshot of a slot is as current as it was
      same_as_lem : (u j : ℕ) (h : Head) → Seen own (states_of m.frames) u h → same_as (head_at hiding.slots j) h ≡ same_as (head_at m.slots j) h
      same_as_lem u j h p = ⊎_elim (λ q. here (eqb-true j n q)) (λ q. ap (λ (o : Option Head). same_as o h) (elsewhere j q)) (cases_Bool (eqb j n))
        where
          here : j ≡ n → same_as (head_at hiding.slots j) h ≡ same_as (head_at m.slots j) h
          here q = rw q (
              ap (λ (o : Option Head). same_as o h) hiding_here
              ∙ head_other x h (λ e. unseen u (subst (Seen own (states_of m.frames) u) (sym e) p))
              ∙ sym (ap (λ (o : Option Head). same_as o h) bare))

      pub kept_hiding : (u : ℕ) → Kept before (view m w own) (view hiding w own) u
      kept_hiding u = record {
        chains = λ g h c r. r;
        deltas = λ i d q p. (q, p);
        stamps = λ g j h y b p q l a. (same_as_lem u j h p ∙ a, l);
        slots = length-set m.slots n (record { head = Some x });
        records = λ i q. (q, refl);
        frames = λ f q. (q, λ g l h r xs e. e);
        spots = λ j f q a b. (elsewhere j (ne_eqb j n (λ z. none-some _ (sym bare ∙ ap (head_at m.slots) (sym z) ∙ a))) ∙ a, b);
      }

      pub related_hiding : Related before top hiding w own
      related_hiding = record {
        first = related.first;
        root_head = related.root_head;
        root_slot = elsewhere 0 (ne_eqb 0 n (λ z. both_ways (eqb n 0) bare_past (eq-eqb n 0 (sym z)))) ∙ related.root_slot;
        root_chain = related.root_chain;
        root_place = related.root_place;
        root_stamp = related.root_stamp;
        leaves = λ j q. ⊎_elim (λ z. here j (eqb-true j n z)) (λ z. subst (λ (o : Option Head). SlotAs before (store_of m) own j o (find j w.leaves)) (sym (elsewhere j z)) (related.leaves j q)) (cases_Bool (eqb j n));
        no_root_leaf = related.no_root_leaf;
        leaf_stamps = related.leaf_stamps;
        seats = λ u it e. seat_kept before top (λ _. kept_hiding u) (related.seats u it e);
        free_records = related.free_records;
        free_frames = related.free_frames;
        groups = related.groups;
        sized = record { records = related.sized.records; keys = related.sized.keys; values = related.sized.values; seats = related.sized.seats };
      }
        where
          here : (j : ℕ) → j ≡ n → SlotAs before (store_of m) own j (head_at hiding.slots j) (find j w.leaves)
          here j z = rw (z, hiding_here, bare_leafless) hidden
