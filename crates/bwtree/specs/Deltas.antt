-- what a delta record carries when it is put on a head
use Rattle.std.specs.Prelude.{ℕ, ◌+◌, ◌-◌, ◌/◌, ◌^◌, cond, ◌&&◌, Some, None, Option, nat_lt}
use Rattle.nodes.specs.declared.node.Attributes.{Attributes}
use Rattle.nodes.specs.declared.node.Delta.{Delta}
use Rattle.nodes.specs.declared.node.Head.{Head}
use Rattle.nodes.specs.declared.node.Kind.{Kind}
use Rattle.nodes.specs.declared.node.Kind.TheVariants as kinds

-- how many of n entries a split leaves in the old leaf: half, rounded down
abbrev pub cut : ℕ → ℕ
cut n = n / 2

abbrev pub size_on : Kind → ℕ → ℕ
size_on kinds.Insertion n = n + 1
size_on kinds.Deletion n = n - 1
size_on kinds.Split n = cut n
size_on kinds.Separator n = n + 1

-- a split's own key is its high key, and the new leaf its right sibling; all else is inherited
abbrev pub high_on : {K : Type 0} → Kind → K → Option K → Option K
high_on kinds.Insertion k high = high
high_on kinds.Deletion k high = high
high_on kinds.Split k high = Some k
high_on kinds.Separator k high = high

abbrev pub right_on : Kind → ℕ → Option ℕ → Option ℕ
right_on kinds.Insertion v right = right
right_on kinds.Deletion v right = right
right_on kinds.Split v right = Some v
right_on kinds.Separator v right = right

module _ {K : Type 0} where
  abbrev pub attributes_on : Kind → K → ℕ → Attributes K → Attributes K
  attributes_on kind k v a =
      record { low = a.low; high = high_on kind k a.high; right = right_on kind v a.right; size = size_on kind a.size; depth = a.depth + 1 }

  -- a delta put on a head with these attributes; impossible where a number would pass 64 bits
  abbrev pub delta_on : Kind → K → ℕ → Head → Attributes K → Option (Delta K)
  delta_on kind k v head a =
      cond (nat_lt a.depth (2 ^ 64 - 1) && nat_lt a.size (2 ^ 64 - 1))
      (Some (record { kind = kind; key = k; value = v; next = head; attributes = attributes_on kind k v a })) None

  -- the attributes of a frame that replaces a chain, and of the new leaf of a split
  abbrev pub consolidated_of : Attributes K → Attributes K
  consolidated_of a = record { low = a.low; high = a.high; right = a.right; size = a.size; depth = 0 }

  abbrev pub upper_of : K → Attributes K → Attributes K
  upper_of k a = record { low = Some k; high = a.high; right = a.right; size = a.size - cut a.size; depth = 0 }
