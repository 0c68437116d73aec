-- worked cases of the rules, over expiry keys of second 0
use Rattle.std.specs.Prelude.{ℕ, zero, suc, ◌-◌, ◌*◌, ◌^◌, true, false, List, [], ◌∷◌, ◌++◌, replicate, Some, None}
use Rattle.keys.specs.declared.expiry.Expiry.{Expiry}
use Rattle.keys.specs.contracts.expiry.ExpiryOrdered.TheImpl as order
use Rattle.keys.specs.contracts.expiry.ExpiryByteForm.TheImpl as bytes
use Rattle.image.specs.declared.entry.Entry.{Entry}
use Rattle.image.specs.declared.refusal.Refusal.TheVariants as image_refusals
use Rattle.image.specs.Image.{image_of}
use Rattle.nodes.specs.declared.node.Attributes.{Attributes}
use Rattle.nodes.specs.declared.node.FrameState.{FrameState}
use Rattle.nodes.specs.declared.node.FrameState.TheVariants as states
use Rattle.nodes.specs.declared.node.Head.TheVariants as heads
use Rattle.nodes.specs.declared.node.Kind.TheVariants as kinds
use Rattle.nodes.specs.declared.node.Record.{Record}
use Rattle.bwtree.specs.declared.answer.End.TheVariants as endings
use Rattle.bwtree.specs.declared.answer.Refusal.TheVariants as refusals
use Rattle.bwtree.specs.declared.seat.Phase.TheVariants as phases
use Rattle.bwtree.specs.declared.seat.Request.{Request}
use Rattle.bwtree.specs.declared.seat.Request.TheVariants as requests
use Rattle.bwtree.specs.declared.seat.Seat.{Seat}
use Rattle.bwtree.specs.declared.sizes.Sizes.{Sizes}
use Rattle.bwtree.specs.Memory.{Memory, with_seats}
use Rattle.index.specs.declared.refusal.LoadRefusal.TheVariants as load_refusals
use Rattle.index.specs.Loads.{index_over}
use Rattle.index.specs.Runs.{Make, Load, Begin, Step, Report, Case, Line, AllHold, makes, loads, refuses_load, refuses, begins, goes, ends, does, reports, images, inspects}

-- the key of second 0 with that serial
abbrev pub key : ℕ → Expiry
key n = record { second = 0; serial = n }

-- attributes of some earlier use
abbrev pub worn_attributes : Attributes Expiry
worn_attributes = record { low = Some (key 99); high = Some (key 99); right = Some 99; size = 99; depth = 99 }

-- a record and a seat of some earlier use
abbrev pub worn_record : Record Expiry
worn_record =
    record {
      free = false;
      delta = record { kind = kinds.Split; key = key 99; value = 99; next = heads.Record 9; attributes = worn_attributes };
    }

abbrev pub worn_seat : Seat Expiry
worn_seat =
    record {
      request = requests.Lookup (key 99);
      phase = phases.LeafRead 99;
      cursors = record { records = 99; frames = 99; slots = 99 };
      installed = 99;
      failed = 99;
    }

-- what the waits of some earlier use still name
abbrev pub worn_state : FrameState
worn_state = states.Waiting (true ∷ true ∷ true ∷ true ∷ []) (heads.Record 9) 9

-- arrays that still hold numbers of some earlier use
abbrev pub worn : Sizes → Memory Expiry
worn z =
    record {
      slots = replicate z.slots (record { head = Some (heads.Record 9) });
      records = replicate z.records worn_record;
      frames = replicate z.frames (record { state = worn_state; attributes = worn_attributes });
      keys = replicate (64 * z.frames) (key 99);
      values = replicate (64 * z.frames) 99;
      seats = replicate 4 worn_seat;
    }

-- so many slots, records and frames
abbrev pub sizes_of : ℕ → ℕ → ℕ → Sizes
sizes_of s d f = record { slots = s; records = d; frames = f }

-- requests about the key with that serial
abbrev pub lookup : ℕ → Request Expiry
lookup n = requests.Lookup (key n)

abbrev pub insert : ℕ → ℕ → Request Expiry
insert n v = requests.Insert (key n) v

abbrev pub delete : ℕ → Request Expiry
delete n = requests.Delete (key n)

abbrev pub consolidate : ℕ → Request Expiry
consolidate n = requests.Consolidate (key n)

abbrev pub split : ℕ → Request Expiry
split n = requests.Split (key n)

-- the request that has no key
abbrev pub consolidate_root : Request Expiry
consolidate_root = requests.ConsolidateRoot

-- the entry of the key with that serial, and its value
abbrev pub entry : ℕ → ℕ → Entry Expiry
entry n v = record { key = key n; value = v }

-- so many entries from a serial on, each with its serial as value
abbrev pub row : ℕ → ℕ → List (Entry Expiry)
row i zero = []
row i (suc n) = entry i i ∷ row (suc i) n

-- the image of entries of expiry keys
abbrev pub image_of_entries : List (Entry Expiry) → List ℕ
image_of_entries es = image_of (bytes.ghosts).WIDTH (bytes.ghosts).form es

-- images of the first three, four and eight of the keys 10, 20, 30 and so on, with the values 1, 2, 3 and so on
abbrev pub three : List ℕ
three = image_of_entries (entry 10 1 ∷ entry 20 2 ∷ entry 30 3 ∷ [])

abbrev pub four : List ℕ
four = image_of_entries (entry 10 1 ∷ entry 20 2 ∷ entry 30 3 ∷ entry 40 4 ∷ [])

abbrev pub eight : List ℕ
eight =
    image_of_entries
    (entry 10 1 ∷ entry 20 2 ∷ entry 30 3 ∷ entry 40 4 ∷ entry 50 5 ∷ entry 60 6 ∷ entry 70 7 ∷ entry 80 8 ∷ [])

-- a case over worn arrays of these sizes
abbrev pub case : ℕ → ℕ → ℕ → List (Line Expiry) → Case Expiry
case s d f lines = record { sizes = sizes_of s d f; start = worn (sizes_of s d f); lines = lines }

-- an idle seat with the largest number of installed swaps, and one failed swap fewer
abbrev pub saturated_seat : Seat Expiry
saturated_seat =
    record {
      request = consolidate_root;
      phase = phases.Idle;
      cursors = record { records = 0; frames = 0; slots = 0 };
      installed = 2 ^ 64 - 1;
      failed = 2 ^ 64 - 2;
    }

-- a new index but for its counters
abbrev pub saturated : Memory Expiry
saturated = with_seats (index_over (worn (sizes_of 3 8 4)) []) (replicate 4 saturated_seat)

-- all cases. Numbers after an ending are value, depth and size; those of a report are the seat, its installed and
-- failed swaps, and the records free, chained, held and waiting
abbrev pub cases : List (Case Expiry)
cases =
    -- a new index: insert 10 with 7 takes five steps, lookup 10 then four
    case 3 8 4
    (makes
    ∷ does 0 (insert 10 7) 5 endings.Stored 0 1 1
    ∷ does 0 (lookup 10) 4 endings.Found 7 1 1
    ∷ reports 0 1 0 7 1 0 0 ∷ [])
    ∷
    -- two seats insert 10 and 20: the second swap fails, and six more steps store on top of the first
    case 3 8 4
    (makes
    ∷ begins 0 (insert 10 7)
    ∷ begins 1 (insert 20 8)
    ∷ goes 0 4
    ∷ goes 1 4
    ∷ reports 1 0 0 6 0 2 0
    ∷ ends 0 1 endings.Stored 0 1 1
    ∷ goes 1 1
    ∷ reports 1 0 1 7 1 0 0
    ∷ ends 1 6 endings.Stored 0 2 2
    ∷ reports 1 1 1 6 2 0 0 ∷ [])
    ∷
    -- the same with 10 for both: after its failed swap the second ends present with the first one's value
    case 3 8 4
    (makes
    ∷ begins 0 (insert 10 7)
    ∷ begins 1 (insert 10 8)
    ∷ goes 0 4
    ∷ goes 1 4
    ∷ ends 0 1 endings.Stored 0 1 1
    ∷ goes 1 1
    ∷ ends 1 4 endings.Present 7 1 1 ∷ [])
    ∷
    -- a lookup of 10 that has read the leaf finds 10, though it is deleted before the lookup's next step
    case 3 8 4
    (makes
    ∷ does 0 (insert 10 7) 5 endings.Stored 0 1 1
    ∷ begins 0 (lookup 10)
    ∷ goes 0 3
    ∷ does 1 (delete 10) 5 endings.Removed 7 2 0
    ∷ ends 0 1 endings.Found 7 1 1
    ∷ does 0 (lookup 10) 4 endings.Missing 0 2 0
    ∷ does 0 (delete 10) 4 endings.Missing 0 2 0 ∷ [])
    ∷
    -- the same with a consolidation: its replaced record waits until the lookup ends
    case 3 8 4
    (makes
    ∷ does 0 (insert 10 7) 5 endings.Stored 0 1 1
    ∷ begins 0 (lookup 10)
    ∷ goes 0 3
    ∷ does 1 (consolidate 10) 5 endings.Consolidated 0 0 1
    ∷ reports 1 1 0 7 0 0 1
    ∷ ends 0 1 endings.Found 7 1 1
    ∷ reports 1 1 0 8 0 0 0 ∷ [])
    ∷
    -- a loaded leaf of three splits in seven steps: one entry stays, and a lookup of 20 takes five steps
    case 3 8 4
    (loads three
    ∷ does 0 (split 10) 7 endings.Split 0 1 1
    ∷ reports 0 2 0 6 2 0 0
    ∷ inspects 0 None None None 2 1
    ∷ inspects 1 None (Some (key 20)) (Some 2) 1 1
    ∷ inspects 2 (Some (key 20)) None None 2 0
    ∷ does 0 (lookup 20) 5 endings.Found 2 0 2
    ∷ images three ∷ [])
    ∷
    -- the same lookup between swap and post swap takes five steps too, one of them over the side link
    case 3 8 4
    (loads three
    ∷ begins 0 (split 10)
    ∷ goes 0 4
    ∷ reports 0 0 0 6 0 2 0
    ∷ goes 0 1
    ∷ reports 0 1 0 6 1 1 0
    ∷ does 1 (lookup 20) 5 endings.Found 2 0 2
    ∷ ends 0 2 endings.Split 0 1 1 ∷ [])
    ∷
    -- the image of an index with 10 and 7: 24 bytes
    case 3 8 4
    (makes
    ∷ does 0 (insert 10 7) 5 endings.Stored 0 1 1
    ∷ images (0 ∷ 12 ∷ 0 ∷ 1 ∷ 0 ∷ 0 ∷ 0 ∷ 0 ∷ 0 ∷ 0 ∷ 0 ∷ 0 ∷ 0 ∷ 0 ∷ 0 ∷ 10 ∷ 0 ∷ 0 ∷ 0 ∷ 0 ∷ 0 ∷ 0 ∷ 0 ∷ 7 ∷ []) ∷ [])
    ∷
    -- the newest record of a key decides, in a walk, in an image and in a consolidation
    case 3 8 4
    (makes
    ∷ does 0 (insert 10 7) 5 endings.Stored 0 1 1
    ∷ does 0 (insert 20 8) 6 endings.Stored 0 2 2
    ∷ does 0 (delete 10) 6 endings.Removed 7 3 1
    ∷ does 0 (lookup 10) 4 endings.Missing 0 3 1
    ∷ images (image_of_entries (entry 20 8 ∷ []))
    ∷ does 0 (insert 10 9) 5 endings.Stored 0 4 2
    ∷ does 0 (lookup 10) 4 endings.Found 9 4 2
    ∷ images (image_of_entries (entry 10 9 ∷ entry 20 8 ∷ []))
    ∷ does 0 (consolidate 10) 5 endings.Consolidated 0 0 2
    ∷ reports 0 5 0 8 0 0 0
    ∷ does 0 (lookup 10) 4 endings.Found 9 0 2
    ∷ does 0 (delete 20) 5 endings.Removed 8 1 1
    ∷ does 0 (consolidate 20) 5 endings.Consolidated 0 0 1
    ∷ does 0 (lookup 20) 4 endings.Missing 0 0 1
    ∷ images (image_of_entries (entry 10 9 ∷ [])) ∷ [])
    ∷
    -- a failed post swap: another split posted its separator first; the separator is filled anew, and the split ends
    case 4 8 4
    (loads four
    ∷ begins 0 (split 10)
    ∷ goes 0 6
    ∷ does 1 (split 30) 8 endings.Split 0 1 1
    ∷ goes 0 1
    ∷ reports 0 1 1 4 3 1 0
    ∷ ends 0 2 endings.Split 0 1 2
    ∷ reports 0 2 1 4 4 0 0
    ∷ images four ∷ [])
    ∷
    -- two half-done splits, the outer separator (40) posted before the inner one (30): every key is found in its leaf,
    -- over a side link while 30 is not posted, and then with the greatest separator that does not stand after the key
    case 4 8 4
    (loads four
    ∷ begins 0 (split 10)
    ∷ goes 0 5
    ∷ does 1 (split 30) 8 endings.Split 0 1 1
    ∷ does 1 (lookup 30) 7 endings.Found 3 1 1
    ∷ does 1 (lookup 40) 5 endings.Found 4 0 1
    ∷ ends 0 2 endings.Split 0 1 2
    ∷ does 1 (lookup 10) 7 endings.Found 1 1 2
    ∷ does 1 (lookup 20) 7 endings.Found 2 1 2
    ∷ does 1 (lookup 30) 7 endings.Found 3 1 1
    ∷ does 1 (lookup 40) 6 endings.Found 4 0 1 ∷ [])
    ∷
    -- a root with several separators is consolidated in three steps; all keys are still found
    case 4 8 5
    (loads four
    ∷ does 0 (split 10) 7 endings.Split 0 1 2
    ∷ does 0 (split 30) 8 endings.Split 0 1 1
    ∷ reports 0 4 0 4 4 0 0
    ∷ does 1 (lookup 20) 7 endings.Found 2 1 2
    ∷ does 1 (lookup 30) 7 endings.Found 3 1 1
    ∷ does 1 (lookup 40) 6 endings.Found 4 0 1
    ∷ does 1 consolidate_root 3 endings.Consolidated 0 0 3
    ∷ inspects 0 None None None 3 0
    ∷ reports 0 4 0 6 2 0 0
    ∷ does 1 (lookup 10) 5 endings.Found 1 1 2
    ∷ does 1 (lookup 20) 5 endings.Found 2 1 2
    ∷ does 1 (lookup 30) 5 endings.Found 3 1 1
    ∷ does 1 (lookup 40) 4 endings.Found 4 0 1
    ∷ does 1 (lookup 50) 4 endings.Missing 0 0 1
    ∷ images four ∷ [])
    ∷
    -- separators in the root's frame (50) and in records above it (70, 30): the greatest of both that does not stand
    -- after the key leads to the leaf; the new leaf of a split inherits high key and right sibling
    case 5 16 6
    (loads eight
    ∷ does 0 (split 10) 7 endings.Split 0 1 4
    ∷ does 0 consolidate_root 3 endings.Consolidated 0 0 2
    ∷ does 0 (split 10) 7 endings.Split 0 2 2
    ∷ does 0 (split 80) 8 endings.Split 0 1 2
    ∷ inspects 0 None None None 4 2
    ∷ inspects 1 None (Some (key 30)) (Some 3) 2 2
    ∷ inspects 3 (Some (key 30)) (Some (key 50)) (Some 2) 2 0
    ∷ inspects 2 (Some (key 50)) (Some (key 70)) (Some 4) 2 1
    ∷ inspects 4 (Some (key 70)) None None 2 0
    ∷ does 0 (lookup 20) 8 endings.Found 2 2 2
    ∷ does 0 (lookup 30) 6 endings.Found 3 0 2
    ∷ does 0 (lookup 45) 6 endings.Missing 0 0 2
    ∷ does 0 (lookup 60) 7 endings.Found 6 1 2
    ∷ does 0 (lookup 70) 6 endings.Found 7 0 2
    ∷ does 0 (lookup 80) 6 endings.Found 8 0 2
    ∷ images eight ∷ [])
    ∷
    -- refusal 1: there is no seat 4
    case 3 8 4
    (makes
    ∷ refuses (Begin 4 (lookup 10)) refusals.NoSuchSeat
    ∷ refuses (Step 4) refusals.NoSuchSeat
    ∷ refuses (Report 4) refusals.NoSuchSeat ∷ [])
    ∷
    -- refusal 2: begin on an open seat; the operation there goes on
    case 3 8 4
    (makes
    ∷ begins 3 (insert 10 7)
    ∷ goes 3 2
    ∷ refuses (Begin 3 (lookup 10)) refusals.SeatOpen
    ∷ ends 3 3 endings.Stored 0 1 1 ∷ [])
    ∷
    -- refusal 3: step on an idle seat
    case 3 8 4
    (makes
    ∷ refuses (Step 2) refusals.SeatIdle
    ∷ does 2 (lookup 10) 4 endings.Missing 0 0 0
    ∷ refuses (Step 2) refusals.SeatIdle ∷ [])
    ∷
    -- a leaf of 63 entries takes one more; at 64 a new key ends with 11, before 12, and an old one still with present
    case 3 1 4
    (loads (image_of_entries (row 1 63))
    ∷ does 0 (insert 64 64) 5 endings.Stored 0 1 64
    ∷ does 0 (insert 65 65) 5 endings.LeafFull 0 1 64
    ∷ does 0 (insert 63 9) 5 endings.Present 63 1 64
    ∷ does 0 (insert 64 9) 4 endings.Present 64 1 64 ∷ [])
    ∷
    -- a loaded leaf of 64 entries: 11, and present; after a deletion there is no record for an insertion
    case 3 1 4
    (loads (image_of_entries (row 1 64))
    ∷ does 0 (insert 65 65) 4 endings.LeafFull 0 0 64
    ∷ does 0 (insert 30 9) 4 endings.Present 30 0 64
    ∷ does 0 (delete 64) 5 endings.Removed 64 1 63
    ∷ does 0 (insert 65 65) 5 endings.TooFewRecords 0 1 63 ∷ [])
    ∷
    -- one record: a second insertion ends with 12, and so does a deletion; present and missing come before it
    case 3 1 4
    (makes
    ∷ does 0 (insert 10 7) 5 endings.Stored 0 1 1
    ∷ does 0 (insert 20 8) 5 endings.TooFewRecords 0 1 1
    ∷ does 0 (delete 10) 4 endings.TooFewRecords 0 1 1
    ∷ does 0 (insert 10 8) 4 endings.Present 7 1 1
    ∷ does 0 (delete 20) 5 endings.Missing 0 1 1
    ∷ reports 0 1 0 0 1 0 0 ∷ [])
    ∷
    -- a split needs two free records: with one it ends with 12, and with none
    case 3 1 4
    (loads three
    ∷ does 0 (split 10) 4 endings.TooFewRecords 0 0 3
    ∷ reports 0 0 0 1 0 0 0
    ∷ does 0 (insert 40 4) 5 endings.Stored 0 1 4
    ∷ does 0 (split 10) 4 endings.TooFewRecords 0 1 4 ∷ [])
    ∷
    -- no free frame: 13 for a consolidation and for a split, which says so before 14 and 12
    case 2 1 2
    (loads three
    ∷ does 0 (split 10) 4 endings.NoFrame 0 0 3
    ∷ does 0 (insert 40 4) 5 endings.Stored 0 1 4
    ∷ does 0 (consolidate 10) 4 endings.NoFrame 0 1 4 ∷ [])
    ∷
    -- no free slot: 14 for a split, before 12
    case 2 1 3
    (loads three
    ∷ does 0 (split 10) 4 endings.NoSlot 0 0 3 ∷ [])
    ∷
    -- no free frame: 13 for a consolidation of the root too
    case 3 8 3
    (loads three
    ∷ does 0 (split 10) 7 endings.Split 0 1 1
    ∷ does 0 consolidate_root 2 endings.NoFrame 0 1 2 ∷ [])
    ∷
    -- a leaf below size 2 is too small to be split, which comes before 13, 14 and 12
    case 2 1 2
    (makes
    ∷ does 0 (split 10) 4 endings.Small 0 0 0
    ∷ does 0 (insert 10 7) 5 endings.Stored 0 1 1
    ∷ does 0 (split 10) 4 endings.Small 0 1 1 ∷ [])
    ∷
    -- two entries split into one and one
    case 3 8 4
    (loads (image_of_entries (entry 10 1 ∷ entry 20 2 ∷ []))
    ∷ does 0 (split 10) 7 endings.Split 0 1 1
    ∷ does 0 (lookup 20) 5 endings.Found 2 0 1 ∷ [])
    ∷
    -- at depth 0 a consolidation is tidy, of a leaf and of the root, even without a free frame
    case 2 1 2
    (makes
    ∷ does 0 (consolidate 10) 4 endings.Tidy 0 0 0
    ∷ does 0 consolidate_root 2 endings.Tidy 0 0 1 ∷ [])
    ∷
    -- a replaced record waits for both seats that were open, also for one that has not stepped, and not for a later one
    case 3 8 4
    (makes
    ∷ does 0 (insert 10 7) 5 endings.Stored 0 1 1
    ∷ begins 0 (lookup 10)
    ∷ goes 0 3
    ∷ begins 2 (lookup 10)
    ∷ does 1 (consolidate 10) 5 endings.Consolidated 0 0 1
    ∷ begins 3 (lookup 10)
    ∷ reports 1 1 0 7 0 0 1
    ∷ ends 0 1 endings.Found 7 1 1
    ∷ reports 1 1 0 7 0 0 1
    ∷ ends 2 4 endings.Found 7 0 1
    ∷ reports 1 1 0 8 0 0 0
    ∷ ends 3 4 endings.Found 7 0 1 ∷ [])
    ∷
    -- the replaced frame waits as well: no frame is free before the other seat ends, also where it ends refused
    case 3 2 3
    (makes
    ∷ does 0 (insert 10 7) 5 endings.Stored 0 1 1
    ∷ begins 0 (insert 30 3)
    ∷ does 1 (consolidate 10) 5 endings.Consolidated 0 0 1
    ∷ does 1 (insert 20 8) 5 endings.Stored 0 1 2
    ∷ does 1 (consolidate 10) 4 endings.NoFrame 0 1 2
    ∷ ends 0 5 endings.TooFewRecords 0 1 2
    ∷ does 1 (consolidate 10) 5 endings.Consolidated 0 0 2
    ∷ reports 1 3 0 2 0 0 0 ∷ [])
    ∷
    -- a failed swap of a split gives back both records, the frame and the slot, and the split starts anew
    case 3 8 3
    (loads three
    ∷ begins 0 (split 10)
    ∷ goes 0 4
    ∷ does 1 (insert 40 4) 5 endings.Stored 0 1 4
    ∷ goes 0 1
    ∷ reports 0 0 1 7 1 0 0
    ∷ ends 0 7 endings.Split 0 2 2
    ∷ does 1 (lookup 30) 5 endings.Found 3 0 2
    ∷ images four ∷ [])
    ∷
    -- a failed swap of a consolidation gives back the frame
    case 3 8 3
    (makes
    ∷ does 0 (insert 10 7) 5 endings.Stored 0 1 1
    ∷ begins 0 (consolidate 10)
    ∷ goes 0 4
    ∷ does 1 (insert 20 8) 6 endings.Stored 0 2 2
    ∷ goes 0 1
    ∷ reports 0 1 1 6 2 0 0
    ∷ ends 0 5 endings.Consolidated 0 0 2
    ∷ reports 0 2 1 8 0 0 0 ∷ [])
    ∷
    -- the leaves of a split keep low key, high key and right sibling under an insertion, and in a consolidation
    case 3 8 4
    (loads three
    ∷ does 0 (split 10) 7 endings.Split 0 1 1
    ∷ does 0 (insert 15 5) 7 endings.Stored 0 2 2
    ∷ inspects 1 None (Some (key 20)) (Some 2) 2 2
    ∷ does 0 (consolidate 15) 6 endings.Consolidated 0 0 2
    ∷ inspects 1 None (Some (key 20)) (Some 2) 2 0
    ∷ does 0 (lookup 15) 5 endings.Found 5 0 2
    ∷ does 0 (lookup 20) 5 endings.Found 2 0 2
    ∷ does 0 (lookup 30) 5 endings.Found 3 0 2
    ∷ does 0 (insert 25 9) 6 endings.Stored 0 1 3
    ∷ does 0 (consolidate 25) 6 endings.Consolidated 0 0 3
    ∷ inspects 2 (Some (key 20)) None None 3 0
    ∷ images (image_of_entries (entry 10 1 ∷ entry 15 5 ∷ entry 20 2 ∷ entry 25 9 ∷ entry 30 3 ∷ [])) ∷ [])
    ∷
    -- 65 entries load into two leaves
    case 3 8 3
    (loads (image_of_entries (row 1 65))
    ∷ inspects 0 None None None 2 0
    ∷ inspects 1 None (Some (key 65)) (Some 2) 64 0
    ∷ inspects 2 (Some (key 65)) None None 1 0
    ∷ does 0 (lookup 64) 4 endings.Found 64 0 64
    ∷ does 0 (lookup 65) 4 endings.Found 65 0 1
    ∷ does 0 (lookup 0) 4 endings.Missing 0 0 64
    ∷ does 0 (insert 66 66) 5 endings.Stored 0 1 2
    ∷ images (image_of_entries (row 1 66)) ∷ [])
    ∷
    -- an empty image loads at the least sizes
    case 2 1 2
    (loads (image_of_entries [])
    ∷ does 0 (lookup 10) 4 endings.Missing 0 0 0
    ∷ images (image_of_entries []) ∷ [])
    ∷
    -- a refused load leaves the index as it was: too short (7), another width (8) even with a wrong length, a wrong length (7)
    case 3 8 4
    (makes
    ∷ does 0 (insert 10 7) 5 endings.Stored 0 1 1
    ∷ refuses_load (Load []) (load_refusals.BadImage image_refusals.Length)
    ∷ refuses_load (Load (0 ∷ 13 ∷ 0 ∷ [])) (load_refusals.BadImage image_refusals.Length)
    ∷ refuses_load (Load (0 ∷ 13 ∷ 0 ∷ 1 ∷ [])) (load_refusals.BadImage image_refusals.Width)
    ∷ refuses_load (Load (0 ∷ 12 ∷ 0 ∷ 1 ∷ [])) (load_refusals.BadImage image_refusals.Length)
    ∷ refuses_load (Load (three ++ (0 ∷ []))) (load_refusals.BadImage image_refusals.Length)
    ∷ does 0 (lookup 10) 4 endings.Found 7 1 1 ∷ [])
    ∷
    -- a key not after the one before it (10), with its place
    case 3 8 4
    (refuses_load (Load (image_of_entries (entry 20 2 ∷ entry 10 1 ∷ []))) (load_refusals.BadImage (image_refusals.Order 1))
    ∷ refuses_load (Load (image_of_entries (entry 10 1 ∷ entry 20 2 ∷ entry 20 3 ∷ []))) (load_refusals.BadImage (image_refusals.Order 2)) ∷ [])
    ∷
    -- too few slots for two leaves (9), before a key out of order
    case 2 8 4
    (refuses_load (Load (image_of_entries (row 1 65))) (load_refusals.BadImage image_refusals.Count)
    ∷ refuses_load (Load (image_of_entries (entry 90 9 ∷ row 1 64))) (load_refusals.BadImage image_refusals.Count) ∷ [])
    ∷
    -- too few frames for two leaves (9)
    case 3 8 2
    (refuses_load (Load (image_of_entries (row 1 65))) (load_refusals.BadImage image_refusals.Count)
    ∷ loads (image_of_entries (row 1 64)) ∷ [])
    ∷
    -- one slot is too few (4), before anything that an image says
    case 1 8 4
    (refuses_load Make load_refusals.WrongSizes
    ∷ refuses_load (Load []) load_refusals.WrongSizes ∷ [])
    ∷
    -- 66 slots are too many (4)
    case 66 8 4
    (refuses_load Make load_refusals.WrongSizes ∷ [])
    ∷
    -- no record is too few (4)
    case 3 0 4
    (refuses_load Make load_refusals.WrongSizes ∷ [])
    ∷
    -- 4,097 records are too many (4)
    case 3 4097 4
    (refuses_load Make load_refusals.WrongSizes ∷ [])
    ∷
    -- one frame is too few (4)
    case 3 8 1
    (refuses_load Make load_refusals.WrongSizes ∷ [])
    ∷
    -- 257 frames are too many (4)
    case 3 8 257
    (refuses_load Make load_refusals.WrongSizes ∷ [])
    ∷
    -- an array of the wrong length (4), before seat 4 (1): five frames for four
    (record {
      sizes = sizes_of 3 8 4;
      start = worn (sizes_of 3 8 5);
      lines =
          refuses_load Make load_refusals.WrongSizes
          ∷ refuses_load (Load three) load_refusals.WrongSizes
          ∷ refuses (Begin 4 (lookup 10)) refusals.WrongSizes
          ∷ refuses (Step 4) refusals.WrongSizes
          ∷ refuses (Report 4) refusals.WrongSizes ∷ [];
    })
    ∷
    -- counters at their largest value stay there
    (record {
      sizes = sizes_of 3 8 4;
      start = saturated;
      lines =
          begins 0 (insert 10 7)
          ∷ begins 1 (insert 20 8)
          ∷ goes 0 4
          ∷ goes 1 4
          ∷ ends 0 1 endings.Stored 0 1 1
          ∷ goes 1 1
          ∷ reports 0 (2 ^ 64 - 1) (2 ^ 64 - 2) 7 1 0 0
          ∷ reports 1 (2 ^ 64 - 1) (2 ^ 64 - 1) 7 1 0 0
          ∷ ends 1 6 endings.Stored 0 2 2
          ∷ begins 0 (insert 30 9)
          ∷ begins 1 (insert 40 9)
          ∷ goes 0 6
          ∷ goes 1 6
          ∷ ends 0 1 endings.Stored 0 3 3
          ∷ goes 1 1
          ∷ reports 1 (2 ^ 64 - 1) (2 ^ 64 - 1) 5 3 0 0 ∷ [];
    })
    ∷
    []

-- every case comes out as it is written
abbrev pub CasesHold : Type 0
CasesHold = AllHold (order.ghosts).before (bytes.ghosts).WIDTH (bytes.ghosts).form (bytes.ghosts).key_of cases
