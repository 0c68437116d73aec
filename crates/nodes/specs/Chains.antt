-- chains in memory: the records from a head down, the frame under them, and the items that they stand for
use Rattle.std.specs.Prelude.{ℕ, zero, suc, Bool, List, [], ◌∷◌, Some, None, Option}
use Rattle.std.specs.List.{slice_get}
use Rattle.nodes.specs.declared.chain.Chain.{Chain}
use Rattle.nodes.specs.declared.node.Attributes.{Attributes}
use Rattle.nodes.specs.declared.node.Delta.{Delta}
use Rattle.nodes.specs.declared.node.Frame.{Frame}
use Rattle.nodes.specs.declared.node.Head.{Head}
use Rattle.nodes.specs.declared.node.Head.TheVariants as heads
use Rattle.nodes.specs.declared.node.Item.{Item}
use Rattle.nodes.specs.declared.node.Kind.{Kind}
use Rattle.nodes.specs.declared.node.Kind.TheVariants as kinds
use Rattle.nodes.specs.declared.node.Record.{Record}
use Rattle.nodes.specs.Items.{insert, remove, below}

-- what a value that may be absent leads to: a read that fails makes all that needs it fail
abbrev pub bind : {X Y : Type 0} → Option X → (X → Option Y) → Option Y
bind None f = None
bind (Some x) f = f x

module _ {K : Type 0} where
  -- the delta of a record, and the attributes of a head
  abbrev pub delta_at : List (Record K) → ℕ → Option (Delta K)
  delta_at records i = bind (slice_get records i) (λ r. Some r.delta)

  abbrev pub attributes_of : List (Record K) → List (Frame K) → Head → Option (Attributes K)
  attributes_of records frames (heads.Record i) = bind (slice_get records i) (λ r. Some r.delta.attributes)
  attributes_of records frames (heads.Frame f) = bind (slice_get frames f) (λ x. Some x.attributes)

  -- the deltas from a head down, the newest first, at most n, as far as their numbers lie in the pool
  abbrev pub deltas_from : ℕ → List (Record K) → Head → List (Delta K)
  deltas_from zero records at = []
  deltas_from (suc n) records (heads.Frame f) = []
  deltas_from (suc n) records (heads.Record i) = elim (slice_get records i) [ None ↦ [] | Some r ↦ r.delta ∷ deltas_from n records r.delta.next ]

  -- the deltas that a chain yields
  abbrev pub deltas_of : Chain K → List (Delta K)
  deltas_of c = deltas_from c.depth c.records.now c.head

  -- the frame under a head, at most n records down
  abbrev pub frame_under : ℕ → List (Record K) → Head → Option ℕ
  frame_under n records (heads.Frame f) = Some f
  frame_under zero records (heads.Record i) = None
  frame_under (suc n) records (heads.Record i) = elim (slice_get records i) [ None ↦ None | Some r ↦ frame_under n records r.delta.next ]

module _ {K : Type 0} (before : K → K → Bool) where
  -- what one delta makes of the items below it
  abbrev pub applied : Delta K → Kind → List (Item K) → List (Item K)
  applied d kinds.Insertion xs = insert before d.key d.value xs
  applied d kinds.Deletion xs = remove before d.key xs
  applied d kinds.Split xs = below before d.key xs
  applied d kinds.Separator xs = insert before d.key d.value xs

  -- the items of a chain: those of its frame, changed by the deltas from the oldest on
  abbrev pub replay : List (Item K) → List (Delta K) → List (Item K)
  replay items [] = items
  replay items (d ∷ ds) = applied d d.kind (replay items ds)
