-- lists whose elements were changed by their number, and the lengths of the arrays of an index
use Rattle.std.proofs.Common.{◌≡◌, ℕ, zero, suc, ◌+◌, ◌*◌, ◌<◌, ◌≤◌, true, ◌&&◌, eqb, leb, List, [], ◌∷◌, length, Some, refl, ap, ◌∙◌, arith}
use Rattle.std.specs.List.{slice_get}
use Rattle.std.proofs.lemmas.Bool.{and_parts, eqb-true, leb-true}
use Rattle.nodes.specs.Chains.{bind}
use Rattle.bwtree.specs.declared.sizes.Sizes.{Sizes}
use Rattle.bwtree.specs.Memory.{Memory}
use Rattle.bwtree.specs.Steps.{fits, lawful_sizes}
use Rattle.index.specs.Loads.{has_room, leaves_for, numbered}

module _ {X : Type 0} (f : ℕ → X → X) where
  nth_from : (i : ℕ) (xs : List X) (j : ℕ) → slice_get (numbered f i xs) j ≡ bind (slice_get xs j) (λ (x : X). Some (f (i + j) x))
  nth_from i [] j = refl
  nth_from i (x ∷ xs) zero = let e : i ≡ i + 0 = omega arith in ap (λ (n : ℕ). Some (f n x)) e
  nth_from i (x ∷ xs) (suc j) = let e : suc i + j ≡ i + suc j = omega arith in nth_from (suc i) xs j ∙ ap (λ (n : ℕ). bind (slice_get xs j) (λ (y : X). Some (f n y))) e

  pub nth_numbered : (xs : List X) (j : ℕ) → slice_get (numbered f 0 xs) j ≡ bind (slice_get xs j) (λ (x : X). Some (f j x))
  nth_numbered xs j = let e : 0 + j ≡ j = omega arith in nth_from 0 xs j ∙ ap (λ (n : ℕ). bind (slice_get xs j) (λ (y : X). Some (f n y))) e

  pub length_numbered : (i : ℕ) (xs : List X) → length (numbered f i xs) ≡ length xs
  length_numbered i [] = refl
  length_numbered i (x ∷ xs) = ap suc (length_numbered (suc i) xs)

-- the lengths of the arrays of an index, which have room for so many leaves beside the root
pub record Lengths {K : Type 0} (m : Memory K) (leaves : ℕ) : Type 0 where
  pub slots : leaves < length m.slots
  pub few : leaves ≤ 64
  pub records : length m.records ≤ 4096
  pub frames : leaves < length m.frames
  pub keys : length m.keys ≡ 64 * length m.frames
  pub values : length m.values ≡ 64 * length m.frames
  pub seats : length m.seats ≡ 4

pub lengths : {K : Type 0} (z : Sizes) (m : Memory K) (n : ℕ) → lawful_sizes z ≡ true → fits z m ≡ true → has_room z n ≡ true → Lengths m (leaves_for n)
lengths z m n l e h =
    let a = and_parts (eqb (length m.slots) z.slots) _ e in
    let b = and_parts (eqb (length m.records) z.records) _ a.1 in
    let c = and_parts (eqb (length m.frames) z.frames) _ b.1 in
    let d = and_parts (eqb (length m.keys) (64 * z.frames)) _ c.1 in
    let f = and_parts (eqb (length m.values) (64 * z.frames)) _ d.1 in
    let p = and_parts (leb 2 z.slots && leb z.slots 65) _ l in
    let q = and_parts (leb 2 z.slots) _ p.0 in
    let r = and_parts (leb 1 z.records && leb z.records 4096) _ p.1 in
    let s = and_parts (leb 1 z.records) _ r.0 in
    let t = and_parts (leb (1 + leaves_for n) z.slots) _ h in
    let slots = eqb-true _ _ a.0 in
    let records = eqb-true _ _ b.0 in
    let frames = eqb-true _ _ c.0 in
    let keys = eqb-true _ _ d.0 in
    let values = eqb-true _ _ f.0 in
    let few_slots = leb-true z.slots 65 q.1 in
    let few_records = leb-true z.records 4096 s.1 in
    let many_slots = leb-true (1 + leaves_for n) z.slots t.0 in
    let many_frames = leb-true (1 + leaves_for n) z.frames t.1 in
    record {
      slots = omega arith;
      few = omega arith;
      records = omega arith;
      frames = omega arith;
      keys = omega arith;
      values = omega arith;
      seats = eqb-true _ _ f.1;
    }
