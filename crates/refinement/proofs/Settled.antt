-- every record is accounted for, apart from those in hand: how each change of memory keeps it
use Rattle.std.proofs.Common.{◌≡◌, ℕ, zero, suc, ◌+◌, ◌≤◌, Bool, true, false, cond, eqb, List, [], ◌∷◌, length, set, Some, None, Option, sym, refl, ap, ◌∙◌, subst, ⊎_elim, arith, length-set}
use Rattle.std.specs.List.{slice_get}
use Rattle.std.proofs.lemmas.Option.{none-some, same_Some}
use Rattle.std.proofs.lemmas.Bool.{both_ways, cases_Bool, eq-eqb, eqb-true, ne_eqb}
use Rattle.nodes.specs.declared.node.Delta.{Delta}
use Rattle.nodes.specs.declared.node.Frame.{Frame}
use Rattle.nodes.specs.declared.node.Head.{Head}
use Rattle.nodes.specs.declared.node.Head.TheVariants as heads
use Rattle.nodes.specs.declared.node.FrameState.{FrameState}
use Rattle.nodes.specs.declared.node.FrameState.TheVariants as states
use Rattle.nodes.specs.declared.node.Record.{Record}
use Rattle.nodes.specs.declared.node.Slot.{Slot}
use Rattle.nodes.specs.Chains.{bind}
use Rattle.pool.specs.Free.{free_chain, freed}
use Rattle.bwtree.specs.Reports.{depth_of, total}
use Rattle.refinement.specs.Accounts.{Leads, chain_from, chain_in, at_frame, free_from, on_record, numbers, waiting_at}
use Rattle.refinement.specs.Relation.{head_at}
use Rattle.refinement.proofs.Places.{nth_set_cases, nth_set_other, nth_set_same}
use Rattle.refinement.proofs.Weights.{free_part, free_set, free_at, only, only_itself, only_once, total_part, total_same, total_set}

-- ---- chains

module _ {K : Type 0} where
  pub chain_frame : (n : ℕ) (rs : List (Record K)) (f : ℕ) → chain_from n rs (heads.Frame f) ≡ []
  chain_frame zero rs f = refl
  chain_frame (suc n) rs f = refl

  pub chain_on : (n : ℕ) (rs : List (Record K)) (i : ℕ) (r : Record K) → slice_get rs i ≡ Some r → chain_from (suc n) rs (heads.Record i) ≡ i ∷ chain_from n rs r.delta.next
  chain_on n rs i r e = rw (e, chain_from) refl

  chain_off : (n : ℕ) (rs : List (Record K)) (i : ℕ) → slice_get rs i ≡ None → chain_from (suc n) rs (heads.Record i) ≡ []
  chain_off n rs i e = rw (e, chain_from) refl

  -- the next record of a chain is read in both lists alike
  chain_step : (n : ℕ) (rs ys : List (Record K)) (j : ℕ) → slice_get ys j ≡ slice_get rs j → ((r : Record K) → slice_get rs j ≡ Some r → chain_from n ys r.delta.next ≡ chain_from n rs r.delta.next)
      → chain_from (suc n) ys (heads.Record j) ≡ chain_from (suc n) rs (heads.Record j)
  chain_step n rs ys j e ih = go (slice_get rs j) refl
    where
      go : (o : Option (Record K)) → slice_get rs j ≡ o → chain_from (suc n) ys (heads.Record j) ≡ chain_from (suc n) rs (heads.Record j)
      go None q = chain_off n ys j (e ∙ q) ∙ sym (chain_off n rs j q)
      go (Some r) q = chain_on n ys j r (e ∙ q) ∙ ap (λ (xs : List ℕ). j ∷ xs) (ih r q) ∙ sym (chain_on n rs j r q)

  -- a number that is not in a chain is not its first record, nor in the rest
  only_on : (i n : ℕ) (rs : List (Record K)) (j : ℕ) (r : Record K) → slice_get rs j ≡ Some r → total (only i) (chain_from (suc n) rs (heads.Record j)) ≡ 0 → (eqb j i ≡ false) × (total (only i) (chain_from n rs r.delta.next) ≡ 0)
  only_on i n rs j r q e =
      let z = ap (total (only i)) (chain_on n rs j r q) in
      (ne_eqb j i (λ d. let a : only i j ≡ 1 = ap (only i) d ∙ only_itself i in omega arith), omega arith)

  -- a chain that does not have the record i is the same after a write to it
  chain_set : (n : ℕ) (rs : List (Record K)) (i : ℕ) (x y : Record K) (h : Head) → slice_get rs i ≡ Some x → total (only i) (chain_from n rs h) ≡ 0 → chain_from n (set rs i y) h ≡ chain_from n rs h
  chain_set zero rs i x y h t e = refl
  chain_set (suc n) rs i x y (heads.Frame f) t e = refl
  chain_set (suc n) rs i x y (heads.Record j) t e = chain_step n rs (set rs i y) j (nth_set_other rs i j y apart) (λ r q. chain_set n rs i x y r.delta.next t (only_on i n rs j r q e).1)
    where
      apart : eqb j i ≡ false
      apart = ne_eqb j i (λ d. let a = (only_on i n rs j x (ap (slice_get rs) d ∙ t) e).0 in both_ways (eqb j i) a (eq-eqb j i d))

  -- nor does a write that keeps the delta change one
  chain_kept : (n : ℕ) (rs : List (Record K)) (i : ℕ) (x y : Record K) (h : Head) → slice_get rs i ≡ Some x → y.delta ≡ x.delta → chain_from n (set rs i y) h ≡ chain_from n rs h
  chain_kept zero rs i x y h t d = refl
  chain_kept (suc n) rs i x y (heads.Frame f) t d = refl
  chain_kept (suc n) rs i x y (heads.Record j) t d = ⊎_elim (λ q. here (eqb-true j i q) (chain_kept n rs i x y y.delta.next t d)) (λ q. chain_step n rs (set rs i y) j (nth_set_other rs i j y q) (λ r p. chain_kept n rs i x y r.delta.next t d)) (cases_Bool (eqb j i))
    where
      here : j ≡ i → chain_from n (set rs i y) y.delta.next ≡ chain_from n rs y.delta.next → chain_from (suc n) (set rs i y) (heads.Record j) ≡ chain_from (suc n) rs (heads.Record j)
      here q ih =
          chain_on n (set rs i y) j y (ap (slice_get (set rs i y)) q ∙ nth_set_same rs i y x t)
          ∙ ap (λ (xs : List ℕ). j ∷ xs) (ih ∙ ap (λ (z : Delta K). chain_from n rs z.next) d)
          ∙ sym (chain_on n rs j x (ap (slice_get rs) q ∙ t))

  leads_set : {rs : List (Record K)} {n : ℕ} {h : Head} (i : ℕ) (y : Record K) → total (only i) (chain_from n rs h) ≡ 0 → Leads rs n h → Leads (set rs i y) n h
  leads_set i y e at_frame = at_frame
  leads_set {rs = rs} i y e (on_record {n = n} {i = j} r q l) = let z = only_on i n rs j r q e in on_record r (nth_set_other rs i j y z.0 ∙ q) (leads_set i y z.1 l)

  -- the records of a chain are as many as its depth
  pub leads_length : {rs : List (Record K)} {n : ℕ} {h : Head} → Leads rs n h → length (chain_from n rs h) ≡ n
  leads_length at_frame = refl
  leads_length {rs = rs} (on_record {n = n} {i = i} r q l) = let z = leads_length l in ap length (chain_on n rs i r q) ∙ ap suc z

  leads_apart : {rs : List (Record K)} {n j : ℕ} (i : ℕ) → Leads rs n (heads.Record j) → total (only i) (chain_from n rs (heads.Record j)) ≡ 0 → eqb j i ≡ false
  leads_apart {rs = rs} i (on_record {n = n} {i = j} r q l) e = (only_on i n rs j r q e).0

  leads_frame : {rs : List (Record K)} {n f : ℕ} → Leads rs n (heads.Frame f) → n ≡ 0
  leads_frame at_frame = refl

  -- a head with a true depth, on whose chain the record i is not: a write to i leaves its depth and its chain
  module _ (rs : List (Record K)) (fs : List (Frame K)) (i : ℕ) (x y : Record K) (t : slice_get rs i ≡ Some x) where
    depth_set : (h : Head) → Leads rs (depth_of rs fs (Some h)) h → total (only i) (chain_in rs fs (Some h)) ≡ 0 → depth_of (set rs i y) fs (Some h) ≡ depth_of rs fs (Some h)
    depth_set (heads.Frame f) l e = refl
    depth_set (heads.Record j) l e = rw (nth_set_other rs i j y (leads_apart i l e), depth_of) refl

    chain_in_set : (o : Option Head) → ((h : Head) → o ≡ Some h → Leads rs (depth_of rs fs (Some h)) h) → total (only i) (chain_in rs fs o) ≡ 0 → chain_in (set rs i y) fs o ≡ chain_in rs fs o
    chain_in_set None l e = refl
    chain_in_set (Some h) l e = ap (λ (n : ℕ). chain_from n (set rs i y) h) (depth_set h (l h refl) e) ∙ chain_set (depth_of rs fs (Some h)) rs i x y h t e

    leads_in_set : (h : Head) → Leads rs (depth_of rs fs (Some h)) h → total (only i) (chain_in rs fs (Some h)) ≡ 0 → Leads (set rs i y) (depth_of (set rs i y) fs (Some h)) h
    leads_in_set h l e = subst (λ (n : ℕ). Leads (set rs i y) n h) (sym (depth_set h l e)) (leads_set i y e l)

    waiting_set : (st : FrameState) → total (only i) (waiting_at rs st) ≡ 0 → waiting_at (set rs i y) st ≡ waiting_at rs st
    waiting_set states.Free e = refl
    waiting_set states.Used e = refl
    waiting_set (states.Waiting marks h n) e = chain_set n rs i x y h t e

  -- a write to a frame that leaves a depth of 0 leaves every chain
  module _ (rs : List (Record K)) (fs : List (Frame K)) (k : ℕ) (x y : Frame K) (t : slice_get fs k ≡ Some x) where
    chain_in_frame : (o : Option Head) → chain_in rs (set fs k y) o ≡ chain_in rs fs o
    chain_in_frame None = refl
    chain_in_frame (Some (heads.Record j)) = refl
    chain_in_frame (Some (heads.Frame f)) = chain_frame (depth_of rs (set fs k y) (Some (heads.Frame f))) rs f ∙ sym (chain_frame (depth_of rs fs (Some (heads.Frame f))) rs f)

    leads_in_frame : (x.attributes.depth ≡ 0 → y.attributes.depth ≡ 0) → (h : Head) → Leads rs (depth_of rs fs (Some h)) h → Leads rs (depth_of rs (set fs k y) (Some h)) h
    leads_in_frame z (heads.Record j) l = l
    leads_in_frame z (heads.Frame f) l = ⊎_elim (λ q. here (eqb-true f k q)) (λ q. rw (nth_set_other fs k f y q, depth_of) l) (cases_Bool (eqb f k))
      where
        here : f ≡ k → Leads rs (depth_of rs (set fs k y) (Some (heads.Frame f))) (heads.Frame f)
        here q =
            let a : depth_of rs fs (Some (heads.Frame f)) ≡ x.attributes.depth = rw (q, t, depth_of) refl in
            let b : depth_of rs (set fs k y) (Some (heads.Frame f)) ≡ y.attributes.depth = rw (q, nth_set_same fs k y x t, depth_of) refl in
            subst (λ (n : ℕ). Leads rs n (heads.Frame f)) (sym (b ∙ z (sym a ∙ leads_frame l))) at_frame

  -- a frame without records on it
  pub leads_flat : (rs : List (Record K)) (fs : List (Frame K)) (f : ℕ) (x : Frame K) → slice_get fs f ≡ Some x → x.attributes.depth ≡ 0 → Leads rs (depth_of rs fs (Some (heads.Frame f))) (heads.Frame f)
  leads_flat rs fs f x e d =
      let a : depth_of rs fs (Some (heads.Frame f)) ≡ x.attributes.depth = rw (e, depth_of) refl in
      subst (λ (n : ℕ). Leads rs n (heads.Frame f)) (sym (a ∙ d)) at_frame

  pub leads_some : (rs : List (Record K)) (fs : List (Frame K)) (g : Head) → Leads rs (depth_of rs fs (Some g)) g → (h : Head) → ◌≡◌ {A = Option Head} (Some g) (Some h) → Leads rs (depth_of rs fs (Some h)) h
  leads_some rs fs g l h e = subst (λ (y : Head). Leads rs (depth_of rs fs (Some y)) y) (same_Some _ _ e) l

-- ---- the account

-- every record is accounted for, without the seats, and with what is in hand; and every slot's depth is true
pub record Settled {K : Type 0} (slots : List Slot) (records : List (Record K)) (frames : List (Frame K)) (hand : (ℕ → ℕ) → ℕ) : Type 0 where
  pub once : (f : ℕ → ℕ)
      → hand f + (total f (free_from 0 records) + (total (λ (x : Slot). total f (chain_in records frames x.head)) slots + total (λ (x : Frame K). total f (waiting_at records x.state)) frames)) ≡ total f (numbers 0 (length records))
  pub depths : (n : ℕ) (h : Head) → head_at slots n ≡ Some h → Leads records (depth_of records frames (Some h)) h

module _ {K : Type 0} {slots : List Slot} {records : List (Record K)} {frames : List (Frame K)} where
  pub settled_hand : {hand hand' : (ℕ → ℕ) → ℕ} → ((f : ℕ → ℕ) → hand f ≡ hand' f) → Settled slots records frames hand → Settled slots records frames hand'
  settled_hand e a = record { once = λ f. let h = a.once f in let z = e f in omega arith; depths = a.depths }

module _ {K : Type 0} {slots : List Slot} {records : List (Record K)} {frames : List (Frame K)} {hand : (ℕ → ℕ) → ℕ} (settled : Settled slots records frames hand) where
  -- the weights of the chains of all slots, and of the groups of all frames
  abbrev chained : (ℕ → ℕ) → ℕ
  chained f = total (λ (x : Slot). total f (chain_in records frames x.head)) slots

  abbrev waiting : (ℕ → ℕ) → ℕ
  waiting f = total (λ (x : Frame K). total f (waiting_at records x.state)) frames

  slot_leads : (n : ℕ) (x : Slot) → slice_get slots n ≡ Some x → (h : Head) → x.head ≡ Some h → Leads records (depth_of records frames (Some h)) h
  slot_leads n x e h q = settled.depths n h (rw e q)

  -- ---- a slot's head is replaced

  pub settled_slot : (n : ℕ) (x : Slot) (o : Option Head) (hand' : (ℕ → ℕ) → ℕ) → slice_get slots n ≡ Some x
      → ((f : ℕ → ℕ) → total f (chain_in records frames o) + hand' f ≡ total f (chain_in records frames x.head) + hand f) → ((h : Head) → o ≡ Some h → Leads records (depth_of records frames (Some h)) h)
      → Settled (set slots n (record { head = o })) records frames hand'
  settled_slot n x o hand' e w d = record {
    once = λ f. let a = settled.once f in let b = total_set (λ (y : Slot). total f (chain_in records frames y.head)) slots n x (record { head = o }) e in let c = w f in omega arith;
    depths = λ j h q. leads j h (slice_get (set slots n (record { head = o })) j) refl q;
  }
    where
      leads : (j : ℕ) (h : Head) (y : Option Slot) → slice_get (set slots n (record { head = o })) j ≡ y → bind y (λ z. z.head) ≡ Some h → Leads records (depth_of records frames (Some h)) h
      leads j h None p q = absurd (none-some _ q)
      leads j h (Some y) p q = ⊎_elim (λ z. d h (sym (ap (λ (v : Slot). v.head) z.1) ∙ q)) (λ z. slot_leads j y z.1 h q) (nth_set_cases slots n j (record { head = o }) y p)

  -- ---- a frame is written

  pub settled_frame : (k : ℕ) (x y : Frame K) (hand' : (ℕ → ℕ) → ℕ) → slice_get frames k ≡ Some x
      → ((f : ℕ → ℕ) → total f (waiting_at records y.state) + hand' f ≡ total f (waiting_at records x.state) + hand f) → (x.attributes.depth ≡ 0 → y.attributes.depth ≡ 0)
      → Settled slots records (set frames k y) hand'
  settled_frame k x y hand' e w d = record {
    once = λ f.
        let a = settled.once f in
        let b = total_set (λ (z : Frame K). total f (waiting_at records z.state)) frames k x y e in
        let c = total_same (λ (z : Slot). total f (chain_in records (set frames k y) z.head)) (λ (z : Slot). total f (chain_in records frames z.head)) slots (λ n z q. ap (total f) (chain_in_frame records frames k x y e z.head)) in
        let g = w f in omega arith;
    depths = λ n h q. leads_in_frame records frames k x y e d h (settled.depths n h q);
  }

  -- ---- a record that is free or in hand is written

  module _ (i : ℕ) (x y : Record K) (hand' : (ℕ → ℕ) → ℕ) (there : slice_get records i ≡ Some x) (mine : 1 ≤ free_at (only i) i x + hand (only i)) (weighs : (f : ℕ → ℕ) → free_at f i y + hand' f ≡ free_at f i x + hand f) where
    -- it stands in no chain of a slot, and in no group
    off : (chained (only i) ≡ 0) × (waiting (only i) ≡ 0)
    off =
        let a = settled.once (only i) in
        let b = only_once i 0 (length records) in
        let c = free_part (only i) records i x there in
        (omega arith, omega arith)

    off_slot : (n : ℕ) (z : Slot) → slice_get slots n ≡ Some z → total (only i) (chain_in records frames z.head) ≡ 0
    off_slot n z e = let a = off.0 in let b = total_part (λ (v : Slot). total (only i) (chain_in records frames v.head)) slots n z e in omega arith

    off_frame : (n : ℕ) (z : Frame K) → slice_get frames n ≡ Some z → total (only i) (waiting_at records z.state) ≡ 0
    off_frame n z e = let a = off.1 in let b = total_part (λ (v : Frame K). total (only i) (waiting_at records v.state)) frames n z e in omega arith

    pub settled_record : Settled slots (set records i y) frames hand'
    settled_record = record {
      once = λ f.
          let a = settled.once f in
          let b = free_set f records i x y there in
          let c = total_same (λ (z : Slot). total f (chain_in (set records i y) frames z.head)) (λ (z : Slot). total f (chain_in records frames z.head)) slots
          (λ n z q. ap (total f) (chain_in_set records frames i x y there z.head (slot_leads n z q) (off_slot n z q))) in
          let d = total_same (λ (z : Frame K). total f (waiting_at (set records i y) z.state)) (λ (z : Frame K). total f (waiting_at records z.state)) frames
          (λ n z q. ap (total f) (waiting_set records frames i x y there z.state (off_frame n z q))) in
          let e = weighs f in
          let g : total f (numbers 0 (length (set records i y))) ≡ total f (numbers 0 (length records)) = ap (λ (n : ℕ). total f (numbers 0 n)) (length-set records i y) in
          omega arith;
      depths = λ n h q. leads n h (slice_get slots n) refl q;
    }
      where
        leads : (n : ℕ) (h : Head) (o : Option Slot) → slice_get slots n ≡ o → bind o (λ z. z.head) ≡ Some h → Leads (set records i y) (depth_of (set records i y) frames (Some h)) h
        leads n h None e q = absurd (none-some _ q)
        leads n h (Some z) e q = leads_in_set records frames i x y there h (slot_leads n z e h q) (ap (λ (o : Option Head). total (only i) (chain_in records frames o)) (sym q) ∙ off_slot n z e)

-- ---- one record on_record from list to list

free_weight : {K : Type 0} (i : ℕ) (x : Record K) (f : ℕ → ℕ) (b : Bool) → x.free ≡ b → free_at f i x ≡ cond b (f i) 0
free_weight i x f b e = rw e refl

module _ {K : Type 0} {slots : List Slot} {records : List (Record K)} {frames : List (Frame K)} (hand : (ℕ → ℕ) → ℕ) (i : ℕ) (x : Record K) (there : slice_get records i ≡ Some x) where
  -- a free record is taken and filled
  pub settled_taken : Settled slots records frames hand → x.free ≡ true → (d : Delta K) → Settled slots (set records i (record { free = false; delta = d })) frames (λ f. f i + hand f)
  settled_taken a e d =
      settled_record a i x (record { free = false; delta = d }) (λ f. f i + hand f) there
      (let z = free_weight i x (only i) true e in let y = only_itself i in omega arith) (λ f. let z = free_weight i x f true e in omega arith)

  module _ (a : Settled slots records frames (λ f. f i + hand f)) where
    -- a record in hand is not free
    hand_not_free : x.free ≡ false
    hand_not_free = ⊎_elim (λ e. absurd (twice e)) (λ e. e) (cases_Bool x.free)
      where
        twice : x.free ≡ true → ⊥
        twice e =
            let z = free_weight i x (only i) true e in
            let y = only_itself i in
            let b = free_part (only i) records i x there in
            let c = only_once i 0 (length records) in
            let d = a.once (only i) in omega arith

    -- it is filled anew
    pub settled_filled : (d : Delta K) → Settled slots (set records i (record { free = false; delta = d })) frames (λ f. f i + hand f)
    settled_filled d =
        settled_record a i x (record { free = false; delta = d }) (λ f. f i + hand f) there
        (let y = only_itself i in omega arith) (λ f. let z = free_weight i x f false hand_not_free in omega arith)

    -- it becomes free
    pub settled_freed : Settled slots (set records i (freed x)) frames hand
    settled_freed = settled_record a i x (freed x) hand there (let y = only_itself i in omega arith) (λ f. let z = free_weight i x f false hand_not_free in omega arith)

    -- it becomes the head of a slot, on the head that was there
    pub settled_on : (n : ℕ) (y : Slot) (h : Head) → slice_get slots n ≡ Some y → y.head ≡ Some h → x.delta.next ≡ h → x.delta.attributes.depth ≡ suc (depth_of records frames (Some h)) → Settled (set slots n (record { head = Some (heads.Record i) })) records frames hand
    settled_on n y h at_n is next deep =
        settled_slot a n y (Some (heads.Record i)) hand at_n
        (λ f. let z = ap (total f) longer in let v = ap (λ (o : Option Head). total f (chain_in records frames o)) is in omega arith)
        (leads_some records frames (heads.Record i) (subst (λ (j : ℕ). Leads records j (heads.Record i)) (sym depth) (on_record x there (subst (λ (g : Head). Leads records (depth_of records frames (Some h)) g) (sym next) (a.depths n h (rw at_n is))))))
      where
        depth : depth_of records frames (Some (heads.Record i)) ≡ suc (depth_of records frames (Some h))
        depth = rw (there, depth_of) deep

        longer : chain_in records frames (Some (heads.Record i)) ≡ i ∷ chain_in records frames (Some h)
        longer =
            ap (λ (j : ℕ). chain_from j records (heads.Record i)) depth ∙ chain_on (depth_of records frames (Some h)) records i x there
            ∙ ap (λ (g : Head). i ∷ chain_from (depth_of records frames (Some h)) records g) next

module _ {K : Type 0} {slots : List Slot} {frames : List (Frame K)} where
  -- a chain in hand becomes free
  pub settled_chain : (n : ℕ) (records : List (Record K)) (h : Head) (hand : (ℕ → ℕ) → ℕ) → Settled slots records frames (λ f. total f (chain_from n records h) + hand f) → Settled slots (free_chain n records h) frames hand
  settled_chain zero records h hand a = settled_hand (λ f. omega arith) a
  settled_chain (suc n) records (heads.Frame f) hand a = settled_hand (λ f. omega arith) a
  settled_chain (suc n) records (heads.Record i) hand a = go (slice_get records i) refl a (settled_chain n)
    where
      go : (o : Option (Record K)) → slice_get records i ≡ o → Settled slots records frames (λ f. total f (chain_from (suc n) records (heads.Record i)) + hand f)
          → ((ys : List (Record K)) (h : Head) (g : (ℕ → ℕ) → ℕ) → Settled slots ys frames (λ f. total f (chain_from n ys h) + g f) → Settled slots (free_chain n ys h) frames g)
          → Settled slots (free_chain (suc n) records (heads.Record i)) frames hand
      go None e b ih = rw (e, free_chain) (settled_hand (λ f. let z = ap (total f) (chain_off n records i e) in omega arith) b)
      go (Some r) e b ih =
          rw (e, free_chain)
          (ih (set records i (freed r)) r.delta.next hand
          (settled_hand (λ f. let z = ap (total f) (chain_kept n records i r (freed r) r.delta.next e refl) in omega arith)
          (settled_freed (λ f. total f (chain_from n records r.delta.next) + hand f) i r e
          (settled_hand (λ f. let z = ap (total f) (chain_on n records i r e) in omega arith) b))))
