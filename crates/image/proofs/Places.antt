-- where keys and values lie in bytes, and what is read there
use Rattle.std.proofs.Common.{◌≡◌, ℕ, zero, suc, ◌+◌, ◌-◌, ◌*◌, ◌<◌, ◌≤◌, Bool, true, false, cond, eqb, ltb, List, [], length, drop, Some, None, refl, ap, ◌∙◌, add-zero, mul-le-mul_right, suc-mul, zero-add, mul-add, arith, length-drop}
use Rattle.std.proofs.lemmas.List.{length-take-le}
use Rattle.std.proofs.lemmas.Bool.{cases_Bool, cases_lt, eq-eqb, lt-ltb, le-ltb, ltb-true}
use Rattle.std.specs.List.{slice_get}
use Rattle.image.specs.Image.{part, key_part, value_part, entry_at, entries_from, entries_in}
use Rattle.image.specs.Read.{entry_parts, decoded_pair, entries_read}
use Rattle.image.specs.declared.reader.Reader.{Reader}

-- the key and the value at a place lie within bytes that hold as many as the count
pub within : (place count width size : ℕ) → place < count → count * (width + 8) ≤ size - 4
    → (4 + place * width + width ≤ 4 + count * width) × (4 + count * width + place * 8 + 8 ≤ size)
within place count width size h whole =
    let rows = mul-le-mul_right width h in
    let row = suc-mul place width in
    let all = mul-add count width 8 in
    (omega arith, omega arith)

-- the same of a reader
pub within_reader : (r : Reader) (place : ℕ) → place < r.count
    → (4 + place * r.width + r.width ≤ 4 + r.count * r.width) × (4 + r.count * r.width + place * 8 + 8 ≤ length r.image.now)
within_reader r place h = within place r.count r.width (length r.image.now) h r.whole

module _ {K : Type 0} (key_of : List ℕ → K) (width count : ℕ) (bytes : List ℕ) where
  pub length-entries_from : (place n : ℕ) → length (entries_from key_of width count bytes place n) ≡ n
  length-entries_from place zero = refl
  length-entries_from place (suc n) = ap suc (length-entries_from (place + 1) n)

  nth_entries_from : (from n place : ℕ)
      → slice_get (entries_from key_of width count bytes from n) place ≡ cond (ltb place n) (Some (entry_at key_of width count bytes (from + place))) None
  nth_entries_from from zero place = let e : ltb place 0 ≡ false = le-ltb place 0 (omega arith) in rw e
  nth_entries_from from (suc n) zero =
      let e : ltb 0 (suc n) ≡ true = lt-ltb 0 (suc n) (omega arith) in rw (e, add-zero)
  nth_entries_from from (suc n) (suc place) =
      let i : from + 1 + place ≡ from + suc place = omega arith in
      let e : ltb place n ≡ ltb (suc place) (suc n) = grind (arith, cases_lt place n, lt-ltb, le-ltb) in
      nth_entries_from (from + 1) n place ∙ rw (i, e)

  -- the entry at a place of all entries
  pub nth_entries_in : (place : ℕ)
      → slice_get (entries_in key_of width count bytes) place ≡ cond (ltb place count) (Some (entry_at key_of width count bytes place)) None
  nth_entries_in place = nth_entries_from 0 count place ∙ rw zero-add

pub length_part : (from size : ℕ) (bytes : List ℕ) → from + size ≤ length bytes → length (part from size bytes) ≡ size
length_part from size bytes h =
    let enough : size ≤ length (drop from bytes) = simp length-drop (omega arith) in length-take-le size (drop from bytes) enough

-- an entry under a condition
nth_under : {X : Type 0} (b : Bool) (xs : List X) (i : ℕ) → cond b (slice_get xs i) None ≡ slice_get (cond b xs []) i
nth_under true xs i = refl
nth_under false xs i = refl

module _ {K : Type 0} (key_of : List ℕ → K) (width : ℕ) (r : Reader) where
  -- where the widths agree
  pub held_all : r.width ≡ width → entries_read width key_of r ≡ entries_in key_of r.width r.count r.image.now
  held_all h = let t : eqb r.width width ≡ true = eq-eqb r.width width h in rw t

  pub length-held_le : length (entries_read width key_of r) ≤ r.count
  length-held_le = held (eqb r.width width)
    where
      held : (b : Bool) → length (cond b (entries_in key_of r.width r.count r.image.now) []) ≤ r.count
      held true = omega (arith, length-entries_from key_of r.width r.count r.image.now 0 r.count)
      held false = omega arith

  module _ (place : ℕ) where
    -- what the bytes of an entry decode to
    pub decoded_some : (key value : List ℕ) → Some (key, value) ≡ entry_parts r.width r.count r.image.now place
        → decoded_pair key_of width key value ≡ slice_get (entries_read width key_of r) place
    decoded_some key value e =
        let h : place < r.count = grind (arith, cases_Bool (ltb place r.count), ltb-true place r.count) in
        let t : ltb place r.count ≡ true = lt-ltb place r.count h in
        let k : key ≡ key_part r.width place r.image.now = grind (arith, t) in
        let v : value ≡ value_part r.width r.count place r.image.now = grind (arith, t) in
        let bounds = within_reader r place h in
        let lk : length key ≡ r.width = ap length k ∙ length_part (4 + place * r.width) r.width r.image.now (omega arith) in
        let lv : length value ≡ 8 =
        ap length v ∙ length_part (4 + r.count * r.width + place * 8) 8 r.image.now (omega arith) in
        let found : decoded_pair key_of width key value ≡ cond (eqb r.width width) (slice_get (entries_in key_of r.width r.count r.image.now) place) None =
        rw (lk, lv, nth_entries_in key_of r.width r.count r.image.now place, t, k, v) in
        found ∙ nth_under (eqb r.width width) (entries_in key_of r.width r.count r.image.now) place

    pub decoded_none : None ≡ entry_parts r.width r.count r.image.now place → None ≡ slice_get (entries_read width key_of r) place
    decoded_none e =
        let t : ltb place r.count ≡ false = grind (arith, cases_Bool (ltb place r.count)) in
        let none : None ≡ cond (eqb r.width width) (slice_get (entries_in key_of r.width r.count r.image.now) place) None =
        rw (nth_entries_in key_of r.width r.count r.image.now place, t) (grind (arith, cases_Bool (eqb r.width width))) in
        none ∙ nth_under (eqb r.width width) (entries_in key_of r.width r.count r.image.now) place
