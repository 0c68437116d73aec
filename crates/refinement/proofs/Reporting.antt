-- a report of memory that is accounted for is possible and true
use Rattle.std.proofs.Common.{◌≡◌, ℕ, zero, suc, ◌+◌, Bool, true, false, List, [], ◌∷◌, ◌++◌, length, Some, None, Option, sym, refl, ap, ◌∙◌, subst, add-one, arith, length-append}
use Rattle.std.specs.List.{slice_get, flat_map}
use Rattle.std.proofs.lemmas.Bool.{eq-eqb}
use Rattle.nodes.specs.declared.node.Delta.{Delta}
use Rattle.nodes.specs.declared.node.Frame.{Frame}
use Rattle.nodes.specs.declared.node.FrameState.{FrameState}
use Rattle.nodes.specs.declared.node.FrameState.TheVariants as states
use Rattle.nodes.specs.declared.node.Head.{Head}
use Rattle.nodes.specs.declared.node.Head.TheVariants as heads
use Rattle.nodes.specs.declared.node.Item.{Item}
use Rattle.nodes.specs.declared.node.Record.{Record}
use Rattle.nodes.specs.declared.node.Slot.{Slot}
use Rattle.bwtree.specs.declared.seat.Phase.{Phase}
use Rattle.bwtree.specs.declared.seat.Phase.TheVariants as phases
use Rattle.bwtree.specs.declared.seat.Seat.{Seat}
use Rattle.bwtree.specs.Memory.{Memory}
use Rattle.bwtree.specs.Reports.{chained_in, depth_of, free_in, held_all, held_by, held_in, is_free, report_at, report_of, total, waiting_all, waiting_in}
use Rattle.laws.specs.Chains.{Chain}
use Rattle.laws.specs.Worlds.{World}
use Rattle.refinement.specs.Accounts.{Counts, Accounted, Leads, account_of, chain_in, chained_records, at_frame, free_from, free_records, fresh_in, on_record, held_at, held_records, numbers, waiting_at, waiting_records}
use Rattle.refinement.proofs.Granting.{telling}
use Rattle.refinement.specs.Relation.{Owner, Related}
use Rattle.refinement.specs.Resolved.{Ground, Resolved, base, carried, on, store_of}
use Rattle.refinement.proofs.Resolving.{record_read}
use Rattle.refinement.proofs.Settled.{leads_length}
use Rattle.refinement.proofs.Weights.{total_joined, total_length, total_same}

-- ---- lengths

length_numbers : (i n : ℕ) → length (numbers i n) ≡ n
length_numbers i zero = refl
length_numbers i (suc n) = ap suc (length_numbers (suc i) n)

length_joined : {X : Type 0} (g : X → List ℕ) (xs : List X) → length (flat_map g xs) ≡ total (λ (x : X). length (g x)) xs
length_joined g xs =
    sym (total_length (flat_map g xs)) ∙ total_joined (λ (n : ℕ). 1) g xs ∙ total_same (λ x. total (λ (n : ℕ). 1) (g x)) (λ x. length (g x)) xs (λ n x e. total_length (g x))

held_fresh : (h : Head) → held_by h ≡ length (fresh_in h)
held_fresh (heads.Record i) = refl
held_fresh (heads.Frame f) = refl

held_length : (p : Phase) → held_in p ≡ length (held_at p)
held_length (phases.Swap slot snapshot fresh) = held_fresh fresh
held_length _ = refl

free_length : {K : Type 0} (i : ℕ) (rs : List (Record K)) → total is_free rs ≡ length (free_from i rs)
free_length i [] = refl
free_length i (r ∷ rs) = go r.free refl (free_length (suc i) rs)
  where
    go : (b : Bool) → r.free ≡ b → total is_free rs ≡ length (free_from (suc i) rs) → total is_free (r ∷ rs) ≡ length (free_from i (r ∷ rs))
    go true e h = rw e (omega arith)
    go false e h = rw e (omega arith)

-- a head that resolves to a chain leads through as many records as the chain is deep
pub resolved_leads : {K : Type 0} {before : K → K → Bool} (m : Memory K) {g : Ground K} {P : Head → Type 0} {h : Head} {c : Chain K} → Resolved before g (store_of m) P h c → Leads m.records (carried g c).depth h
resolved_leads m (base e p) = at_frame
resolved_leads m {g} (on {i = i} {next = next} {c = c} e a p r) =
    let z = record_read m i _ e in
    subst (λ (n : ℕ). Leads m.records n (heads.Record i)) (sym (add-one (carried g c).depth))
    (on_record z.0 z.1 (subst (λ (d : Delta _). Leads m.records (carried g c).depth d.next) (sym z.2) (resolved_leads m r)))

module _ {K : Type 0} (before : K → K → Bool) (top : Item K) (m : Memory K) (w : World K) (own : Head → Owner) (related : Related before top m w own) (accounted : Accounted m) where
  chained_length : (n : ℕ) (x : Slot) → slice_get m.slots n ≡ Some x → (o : Option Head) → x.head ≡ o → depth_of m.records m.frames o ≡ length (chain_in m.records m.frames o)
  chained_length n x e None q = refl
  chained_length n x e (Some h) q = sym (leads_length (accounted.depths n h (rw e q)))

  waiting_length : (n : ℕ) (x : Frame K) → slice_get m.frames n ≡ Some x → (st : FrameState) → x.state ≡ st → waiting_in st ≡ length (waiting_at m.records st)
  waiting_length n x e states.Free q = refl
  waiting_length n x e states.Used q = refl
  waiting_length n x e (states.Waiting marks h k) q = let g = related.groups n x marks h k e q in sym (leads_length (subst (λ (d : ℕ). Leads m.records d h) g.count (resolved_leads m g.resolved)))

  free_true : free_in m ≡ length (free_records m)
  free_true = free_length 0 m.records

  chained_true : chained_in m ≡ length (chained_records m)
  chained_true = total_same (λ (x : Slot). depth_of m.records m.frames x.head) (λ (x : Slot). length (chain_in m.records m.frames x.head)) m.slots (λ n x e. chained_length n x e x.head refl) ∙ sym (length_joined (λ (x : Slot). chain_in m.records m.frames x.head) m.slots)

  held_true : held_all m ≡ length (held_records m)
  held_true = total_same (λ (x : Seat K). held_in x.phase) (λ (x : Seat K). length (held_at x.phase)) m.seats (λ n x e. held_length x.phase) ∙ sym (length_joined (λ (x : Seat K). held_at x.phase) m.seats)

  waiting_true : waiting_all m ≡ length (waiting_records m)
  waiting_true = total_same (λ (x : Frame K). waiting_in x.state) (λ (x : Frame K). length (waiting_at m.records x.state)) m.frames (λ n x e. waiting_length n x e x.state refl) ∙ sym (length_joined (λ (x : Frame K). waiting_at m.records x.state) m.frames)

  -- the four numbers are all records together
  whole : free_in m + (chained_in m + (held_all m + waiting_all m)) ≡ length m.records
  whole =
      let a : length (account_of m) ≡ length m.records
      = sym (total_length (account_of m)) ∙ accounted.once (λ (n : ℕ). 1) ∙ total_length (numbers 0 (length m.records)) ∙ length_numbers 0 (length m.records) in
      let b = length-append (free_records m) (chained_records m ++ (held_records m ++ waiting_records m)) in
      let c = length-append (chained_records m) (held_records m ++ waiting_records m) in
      let d = length-append (held_records m) (waiting_records m) in
      omega (arith, free_true, chained_true, held_true, waiting_true)

  -- the report is possible
  pub report_is : (s : ℕ) (it : Seat K) → slice_get m.seats s ≡ Some it → report_at m s ≡ Some (report_of m it)
  report_is s it e = rw (e, eq-eqb _ _ whole) refl

  -- and counts truly
  pub report_counts : (it : Seat K) → Counts m (telling m it)
  report_counts it = record { free = free_true; chained = chained_true; held = held_true; waiting = waiting_true }
