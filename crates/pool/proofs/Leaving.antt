-- what a seat does to one frame alone is what it does to that frame among the others
use Rattle.std.proofs.Common.{◌≡◌, ℕ, Bool, true, false, List, get_or, set, Some, sym, refl, ap, ◌∙◌}
use Rattle.std.proofs.lemmas.List.{set-get_or}
use Rattle.std.proofs.lemmas.Option.{get_or_from_slice_get}
use Rattle.std.specs.List.{slice_get}
use Rattle.nodes.specs.declared.node.Frame.{Frame}
use Rattle.nodes.specs.declared.node.FrameState.{FrameState}
use Rattle.nodes.specs.declared.node.FrameState.TheVariants as states
use Rattle.nodes.specs.declared.node.Head.{Head}
use Rattle.nodes.specs.declared.node.Record.{Record}
use Rattle.pool.specs.Free.{free_chain}
use Rattle.pool.specs.Waits.{Pools, alone, anyone, left_state, waits_on, with_state}

set_itself : {X : Type 0} (xs : List X) (i : ℕ) (x : X) → slice_get xs i ≡ Some x → set xs i x ≡ xs
set_itself xs i x e = ap (set xs i) (sym (get_or_from_slice_get xs i x x e)) ∙ set-get_or xs i x

module _ {K : Type 0} where
  module _ (records after : List (Record K)) (frames : List (Frame K)) (i : ℕ) (x y : Frame K) (e : slice_get frames i ≡ Some x) where
    among_waits : (seats : List Bool) (head : Head) (n : ℕ) (b : Bool) → alone after y ≡ waits_on (alone records x) 0 seats head n b
        → ◌≡◌ {A = Pools K} (record { records = after; frames = set frames i y }) (waits_on (record { records = records; frames = frames }) i seats head n b)
    among_waits seats head n true h =
        let r : after ≡ records = ap (λ (p : Pools K). p.records) h in
        let q : y ≡ with_state x (states.Waiting seats head n) = ap (λ (p : Pools K). get_or p.frames 0 x) h in
        rw (e, r, q) refl
    among_waits seats head n false h =
        let r : after ≡ free_chain n records head = ap (λ (p : Pools K). p.records) h in
        let q : y ≡ with_state x states.Free = ap (λ (p : Pools K). get_or p.frames 0 x) h in
        rw (e, r, q) refl

    among : (seat : ℕ) (s : FrameState) → alone after y ≡ left_state (alone records x) seat 0 s
        → ◌≡◌ {A = Pools K} (record { records = after; frames = set frames i y }) (left_state (record { records = records; frames = frames }) seat i s)
    among seat states.Free h = let r : after ≡ records = ap (λ (p : Pools K). p.records) h in let q : y ≡ x = ap (λ (p : Pools K). get_or p.frames 0 x) h in rw (r, q, set_itself frames i x e) refl
    among seat states.Used h = let r : after ≡ records = ap (λ (p : Pools K). p.records) h in let q : y ≡ x = ap (λ (p : Pools K). get_or p.frames 0 x) h in rw (r, q, set_itself frames i x e) refl
    among seat (states.Waiting seats head n) h = among_waits (set seats seat false) head n (anyone (set seats seat false)) h

    pub left_among : (seat : ℕ) → alone after y ≡ left_state (alone records x) seat 0 x.state
        → ◌≡◌ {A = Pools K} (record { records = after; frames = set frames i y }) (left_state (record { records = records; frames = frames }) seat i x.state)
    left_among seat h = among seat x.state h
