-- making and loading: the memory of an index at rest that holds given entries, over arrays of any contents
use Rattle.std.specs.Prelude.{ℕ, zero, suc, ◌+◌, ◌-◌, ◌*◌, ◌/◌, min, max, Bool, cond, ◌&&◌, List, [], ◌∷◌, map, length, Some, None, Ok, Err, Option, Result, ◌==◌, nat_le, slice_set}
use Rattle.std.specs.List.{slice_get}
use Rattle.image.specs.declared.entry.Entry.{Entry}
use Rattle.image.specs.declared.refusal.Refusal.{Refusal}
use Rattle.image.specs.declared.refusal.Refusal.TheVariants as images
use Rattle.image.specs.Image.{entries_of, keys_of}
use Rattle.image.specs.Refusals.{number_of_refusal, values_of_refusal}
use Rattle.image.specs.Verdict.{first_unordered, sizes_verdict, verdict_after}
use Rattle.nodes.specs.declared.node.Attributes.{Attributes}
use Rattle.nodes.specs.declared.node.Frame.{Frame}
use Rattle.nodes.specs.declared.node.FrameState.TheVariants as states
use Rattle.nodes.specs.declared.node.Head.TheVariants as heads
use Rattle.nodes.specs.declared.node.Item.{Item}
use Rattle.nodes.specs.declared.node.Slot.{Slot}
use Rattle.nodes.specs.Build.{Arrays, in_frame, put_at}
use Rattle.nodes.specs.Chains.{bind}
use Rattle.pool.specs.Free.{freed}
use Rattle.pool.specs.Waits.{with_state}
use Rattle.bwtree.specs.declared.seat.Phase.TheVariants as phases
use Rattle.bwtree.specs.declared.seat.Request.TheVariants as requests
use Rattle.bwtree.specs.declared.seat.Seat.{Seat}
use Rattle.bwtree.specs.declared.sizes.Sizes.{Sizes}
use Rattle.bwtree.specs.Memory.{Memory}
use Rattle.bwtree.specs.Steps.{fits, lawful_sizes}
use Rattle.index.specs.declared.refusal.LoadRefusal.{LoadRefusal}
use Rattle.index.specs.declared.refusal.LoadRefusal.TheVariants as refusals

-- ---- refusals

-- the number of each refusal
abbrev pub load_number : LoadRefusal → ℕ
load_number refusals.WrongSizes = 4
load_number (refusals.BadImage r) = number_of_refusal r

-- what a refusal tells besides its number
abbrev pub load_values : LoadRefusal → List ℕ
load_values refusals.WrongSizes = []
load_values (refusals.BadImage r) = values_of_refusal r

-- what making or loading gives: the memory after the call, and whether it was refused
pub record LoadOutcome (K : Type 0) : Type 0 where
  pub memory : Memory K
  pub answer : Result (Unit {0}) LoadRefusal

-- ---- how many leaves

-- the leaves of n entries: 64 in each but the last, and one leaf for no entries
abbrev pub leaves_for : ℕ → ℕ
leaves_for n = max 1 ((n + 63) / 64)

-- the root and the leaves of n entries have each a slot and a frame
abbrev pub has_room : Sizes → ℕ → Bool
has_room z n = nat_le (1 + leaves_for n) z.slots && nat_le (1 + leaves_for n) z.frames

-- each element of a list changed by its number, where the first one has the number i
abbrev pub numbered : {X : Type 0} → (ℕ → X → X) → ℕ → List X → List X
numbered f i [] = []
numbered f i (x ∷ xs) = f i x ∷ numbered f (suc i) xs

-- ---- the memory of a loaded index. Leaf i stands in frame i and slot i, from 1 on, and begins with entry 64 (i - 1)

-- slot i of an index with so many leaves: the root and the leaves have frames of their own number, other slots are empty
abbrev pub slot_at : ℕ → ℕ → Slot → Slot
slot_at leaves i x = record { head = cond (nat_le i leaves) (Some (heads.Frame i)) None }

module _ {K : Type 0} where
  -- an entry as an item of a leaf
  abbrev pub item_of : Entry K → Item K
  item_of e = record { key = e.key; value = e.value }

  -- the key of the entry at a place
  abbrev pub key_of_entry : List (Entry K) → ℕ → Option K
  key_of_entry es p = bind (slice_get es p) (λ e. Some e.key)

  -- the first key of leaf i
  abbrev pub first_key : List (Entry K) → ℕ → Option K
  first_key es i = key_of_entry es (64 * (i - 1))

  -- the low key of leaf i: its first key, absent in the first leaf
  abbrev pub low_of : List (Entry K) → ℕ → Option K
  low_of es i = cond (i == 1) None (first_key es i)

  -- leaf i: its high key and right sibling are those of the next leaf, absent in the last one
  abbrev pub leaf_attributes : List (Entry K) → ℕ → Attributes K
  leaf_attributes es i =
      record {
        low = low_of es i;
        high = first_key es (i + 1);
        right = bind (first_key es (i + 1)) (λ k. Some (i + 1));
        size = min 64 (length es - 64 * (i - 1));
        depth = 0;
      }

  -- the root: as many separators as leaves
  abbrev pub root_attributes : ℕ → Attributes K
  root_attributes leaves = record { low = None; high = None; right = None; size = leaves; depth = 0 }

  -- frame i: the root's, a leaf's, or free with the attributes that it had
  abbrev pub frame_at : List (Entry K) → ℕ → Frame K → Frame K
  frame_at es i x =
      cond (i == 0) (record { state = states.Used; attributes = root_attributes (leaves_for (length es)) })
      (cond (nat_le i (leaves_for (length es))) (record { state = states.Used; attributes = leaf_attributes es i }) (with_state x states.Free))

  -- the separators of n leaves from leaf i on: the leaf's first key beside its slot
  abbrev pub separators_from : List (Entry K) → ℕ → ℕ → List (Item K)
  separators_from es i zero = []
  separators_from es i (suc n) = elim (first_key es i) [ None ↦ [] | Some k ↦ record { key = k; value = i } ∷ separators_from es (suc i) n ]

  -- the leaves' items: entry p at place 64 + p
  abbrev pub leaves_filled : List K → List ℕ → List (Entry K) → Arrays K
  leaves_filled keys values es = in_frame keys values 1 (map item_of es)

  -- the root's items: first the separator without a key, whose value is the first leaf's slot, and whose key place
  -- stays as it was; then the separators of the other leaves
  abbrev pub root_filled : List (Entry K) → Arrays K → Arrays K
  root_filled es a = put_at a.keys (slice_set a.values 0 1) 1 (separators_from es 2 (leaves_for (length es) - 1))

  -- both item arrays of a loaded index
  abbrev pub arrays_loaded : List K → List ℕ → List (Entry K) → Arrays K
  arrays_loaded keys values es = root_filled es (leaves_filled keys values es)

  -- a seat that never had an operation
  abbrev pub fresh_seat : Seat K
  fresh_seat =
      record {
        request = requests.ConsolidateRoot;
        phase = phases.Idle;
        cursors = record { records = 0; frames = 0; slots = 0 };
        installed = 0;
        failed = 0;
      }

  -- an index at rest that holds entries, over arrays that have room for it
  abbrev pub index_over : Memory K → List (Entry K) → Memory K
  index_over m es =
      record {
        slots = numbered (slot_at (leaves_for (length es))) 0 m.slots;
        records = map freed m.records;
        frames = numbered (frame_at es) 0 m.frames;
        keys = (arrays_loaded m.keys m.values es).keys;
        values = (arrays_loaded m.keys m.values es).values;
        seats = map (λ (x : Seat K). fresh_seat) m.seats;
      }

  -- the sizes are lawful, and the arrays have the lengths that they ask for
  abbrev pub sizes_right : Sizes → Memory K → Bool
  sizes_right z m = lawful_sizes z && fits z m

  -- a call that is turned down leaves everything as it was
  abbrev pub load_refused : Memory K → LoadRefusal → LoadOutcome K
  load_refused m r = record { memory = m; answer = Err r }

  -- an index with entries
  abbrev pub loaded_with : Memory K → List (Entry K) → LoadOutcome K
  loaded_with m es = record { memory = index_over m es; answer = Ok tt }

  -- ---- making

  -- a new index is the loaded index of no entries
  abbrev pub make : Sizes → Memory K → LoadOutcome K
  make z m = cond (sizes_right z m) (loaded_with m []) (load_refused m refusals.WrongSizes)

-- ---- loading

-- what an image's sizes say, and then whether the index has room for so many entries
abbrev pub room_after : Sizes → Result ℕ Refusal → Result ℕ Refusal
room_after z (Ok n) = cond (has_room z n) (Ok n) (Err images.Count)
room_after z (Err r) = Err r

module _ {K : Type 0} (before : K → K → Bool) (width : ℕ) (key_of : List ℕ → K) where
  -- the verdict on the bytes to be loaded: on their sizes, on the room for them, then on the order of the keys
  abbrev pub load_verdict : Sizes → List ℕ → Result (Unit {0}) Refusal
  load_verdict z bytes =
      verdict_after (room_after z (sizes_verdict width bytes)) (first_unordered before (keys_of (entries_of key_of width bytes)))

  -- what follows on the verdict: the index of the entries, or the refusal
  abbrev pub load_on : Memory K → List ℕ → Result (Unit {0}) Refusal → LoadOutcome K
  load_on m bytes (Ok u) = loaded_with m (entries_of key_of width bytes)
  load_on m bytes (Err r) = load_refused m (refusals.BadImage r)

  -- the index of an image's entries, or the refusal: wrong sizes come first
  abbrev pub load : Sizes → Memory K → List ℕ → LoadOutcome K
  load z m bytes = cond (sizes_right z m) (load_on m bytes (load_verdict z bytes)) (load_refused m refusals.WrongSizes)
