-- runs of an index by its rules alone: calls one after the other, and what they say
use Rattle.std.specs.Prelude.{◌≡◌, ℕ, ◌-◌, Bool, List, [], ◌∷◌, ◌++◌, replicate, Some, Ok, Err, Option, Result}
use Rattle.std.specs.List.{flat_map}
use Rattle.nodes.specs.declared.node.Attributes.{Attributes}
use Rattle.nodes.specs.Chains.{bind, attributes_of}
use Rattle.bwtree.specs.declared.answer.Answer.{Answer}
use Rattle.bwtree.specs.declared.answer.Answer.TheVariants as answers
use Rattle.bwtree.specs.declared.answer.End.{End}
use Rattle.bwtree.specs.declared.answer.Refusal.{Refusal}
use Rattle.bwtree.specs.declared.seat.Request.{Request}
use Rattle.bwtree.specs.declared.sizes.Sizes.{Sizes}
use Rattle.bwtree.specs.Memory.{Memory, Outcome, head_in}
use Rattle.bwtree.specs.Reports.{report}
use Rattle.bwtree.specs.Steps.{begin, step}
use Rattle.index.specs.declared.refusal.LoadRefusal.{LoadRefusal}
use Rattle.index.specs.Loads.{LoadOutcome, make, load}
use Rattle.index.specs.Images.{image_held}

-- a call on an index; the last one is no call of a user: it tells the attributes of the head in a slot
pub data Call (K : Type 0) : Type 0 where
  Make : Call K
  Load : List ℕ → Call K
  Begin : ℕ → Request K → Call K
  Step : ℕ → Call K
  Report : ℕ → Call K
  Image : Call K
  Inspect : ℕ → Call K

-- what a call says: whether an index was made or loaded, the answer of a rule, an image, or attributes
pub data Said (K : Type 0) : Type 0 where
  Loaded : Result (Unit {0}) LoadRefusal → Said K
  Answered : Result Answer Refusal → Said K
  Bytes : List ℕ → Said K
  Inspected : Attributes K → Said K

-- the memory after a call, and what the call says
pub record Heard (K : Type 0) : Type 0 where
  pub memory : Memory K
  pub said : Said K

-- some calls of a case, with what they must say
pub record Line (K : Type 0) : Type 0 where
  pub calls : List (Call K)
  pub said : List (Said K)

-- a worked case: the sizes, the memory at the start, and the calls
pub record Case (K : Type 0) : Type 0 where
  pub sizes : Sizes
  pub start : Memory K
  pub lines : List (Line K)

module _ {K : Type 0} where
  -- what is heard of a load, of a rule, of an image and of attributes
  abbrev pub heard_load : LoadOutcome K → Heard K
  heard_load o = record { memory = o.memory; said = Loaded o.answer }

  abbrev pub heard_answer : Outcome K → Heard K
  heard_answer o = record { memory = o.memory; said = Answered o.answer }

  abbrev pub heard_image : Memory K → List ℕ → Heard K
  heard_image m bytes = record { memory = m; said = Bytes bytes }

  abbrev pub heard_attributes : Memory K → Attributes K → Heard K
  heard_attributes m a = record { memory = m; said = Inspected a }

  -- ---- the lines of a case

  -- one call
  abbrev pub says : Call K → Said K → Line K
  says c x = record { calls = c ∷ []; said = x ∷ [] }

  -- an index is made, or loaded from bytes
  abbrev pub makes : Line K
  makes = says Make (Loaded (Ok tt))

  abbrev pub loads : List ℕ → Line K
  loads bytes = says (Load bytes) (Loaded (Ok tt))

  -- making or loading is refused
  abbrev pub refuses_load : Call K → LoadRefusal → Line K
  refuses_load c r = says c (Loaded (Err r))

  -- a call of a seat is refused
  abbrev pub refuses : Call K → Refusal → Line K
  refuses c r = says c (Answered (Err r))

  -- an operation begins on a seat
  abbrev pub begins : ℕ → Request K → Line K
  begins s r = says (Begin s r) (Answered (Ok answers.Begun))

  -- so many steps of a seat, which all go on
  abbrev pub goes : ℕ → ℕ → Line K
  goes s n = record { calls = replicate n (Step s); said = replicate n (Answered (Ok answers.Going)) }

  -- so many steps of a seat, of which the last ends the operation: end, value, depth, size
  abbrev pub ends : ℕ → ℕ → End → ℕ → ℕ → ℕ → Line K
  ends s n e v d z =
      record {
        calls = replicate n (Step s);
        said = replicate (n - 1) (Answered (Ok answers.Going)) ++ (Answered (Ok (answers.Ended (record { end = e; value = v; depth = d; size = z }))) ∷ []);
      }

  -- an operation begins on a seat and ends with so many steps
  abbrev pub does : ℕ → Request K → ℕ → End → ℕ → ℕ → ℕ → Line K
  does s r n e v d z = record { calls = Begin s r ∷ (ends s n e v d z).calls; said = Answered (Ok answers.Begun) ∷ (ends s n e v d z).said }

  -- a report of a seat: installed and failed; records free, chained, held and waiting
  abbrev pub reports : ℕ → ℕ → ℕ → ℕ → ℕ → ℕ → ℕ → Line K
  reports s i f free chained held waiting =
      says (Report s) (Answered (Ok (answers.Reported (record { installed = i; failed = f; free = free; chained = chained; held = held; waiting = waiting }))))

  -- the image of the index
  abbrev pub images : List ℕ → Line K
  images bytes = says Image (Bytes bytes)

  -- the attributes of the head in a slot: low key, high key, right sibling, size, depth
  abbrev pub inspects : ℕ → Option K → Option K → Option ℕ → ℕ → ℕ → Line K
  inspects n low high right size depth =
      says (Inspect n) (Inspected (record { low = low; high = high; right = right; size = size; depth = depth }))

module _ {K : Type 0} (before : K → K → Bool) (width : ℕ) (form : K → List ℕ) (key_of : List ℕ → K) where
  -- what the rules give for a call; impossible where a rule is
  abbrev pub hear : Sizes → Memory K → Call K → Option (Heard K)
  hear z m Make = Some (heard_load (make z m))
  hear z m (Load bytes) = Some (heard_load (load before width key_of z m bytes))
  hear z m (Begin s r) = bind (begin z m s r) (λ o. Some (heard_answer o))
  hear z m (Step s) = bind (step before z m s) (λ o. Some (heard_answer o))
  hear z m (Report s) = bind (report z m s) (λ o. Some (heard_answer o))
  hear z m Image = bind (image_held before width form m) (λ bytes. Some (heard_image m bytes))
  hear z m (Inspect n) = bind (head_in m n) (λ h. bind (attributes_of m.records m.frames h) (λ a. Some (heard_attributes m a)))

  -- all that calls say, one after the other
  abbrev pub run : Sizes → Memory K → List (Call K) → Option (List (Said K))
  run z m [] = Some []
  run z m (c ∷ cs) = bind (hear z m c) (λ x. bind (run z x.memory cs) (λ rest. Some (x.said ∷ rest)))

  -- the calls of a case say what they must
  abbrev pub Holds : Case K → Type 0
  Holds c = run c.sizes c.start (flat_map (λ (l : Line K). l.calls) c.lines) ≡ Some (flat_map (λ (l : Line K). l.said) c.lines)

-- the calls of every case of a list say what they must
infixr 4 ◌&◌
pub data AllHold {K : Type 0} (before : K → K → Bool) (width : ℕ) (form : K → List ℕ) (key_of : List ℕ → K) : List (Case K) → Type 0 where
  done : AllHold before width form key_of []
  ◌&◌ : {c : Case K} {cs : List (Case K)} → Holds before width form key_of c → AllHold before width form key_of cs → AllHold before width form key_of (c ∷ cs)
