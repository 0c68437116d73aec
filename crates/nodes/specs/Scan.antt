-- a pass over a chain, the newest delta first: the least split key, and the newest edit of the greatest key asked for
use Rattle.std.specs.Prelude.{ℕ, Bool, true, cond, ◌&&◌, List, [], ◌∷◌, Some, None, Option}
use Rattle.nodes.specs.declared.node.Delta.{Delta}
use Rattle.nodes.specs.declared.node.Kind.{Kind}
use Rattle.nodes.specs.declared.node.Kind.TheVariants as kinds
use Rattle.nodes.specs.declared.scan.Edit.{Edit}
use Rattle.nodes.specs.declared.scan.Seen.{Seen}

module _ {K : Type 0} (before : K → K → Bool) where
  -- k stands before a limit, which may be absent
  abbrev pub fits : K → Option K → Bool
  fits k None = true
  fits k (Some h) = before k h

  -- k stands after the key of an edit, which may be absent
  abbrev pub ahead : K → Option (Edit K) → Bool
  ahead k None = true
  ahead k (Some e) = before e.key k

  -- k stands before the last key handled and before the least split key, and after the best edit so far
  abbrev pub between : Option K → Option K → Option (Edit K) → K → Bool
  between last limit next k = fits k last && (fits k limit && ahead k next)

  -- an insertion or deletion of k is seen; deltas seen earlier are newer
  abbrev pub noted : Option K → Seen K → K → Option ℕ → Seen K
  noted last s k v =
      cond (between last s.limit s.next k) (record { limit = s.limit; next = Some (record { key = k; value = v }) }) s

  -- a split at k is seen
  abbrev pub narrowed : Seen K → K → Seen K
  narrowed s k = record { limit = cond (fits k s.limit) (Some k) s.limit; next = s.next }

  -- one delta of a pass
  abbrev pub looked : Option K → Seen K → Delta K → Kind → Seen K
  looked last s d kinds.Insertion = noted last s d.key (Some d.value)
  looked last s d kinds.Deletion = noted last s d.key None
  looked last s d kinds.Split = narrowed s d.key
  looked last s d kinds.Separator = noted last s d.key (Some d.value)

  -- all deltas of a pass
  abbrev pub scanned : Option K → Seen K → List (Delta K) → Seen K
  scanned last s [] = s
  scanned last s (d ∷ ds) = scanned last (looked last s d d.kind) ds

-- before a pass
abbrev pub unseen : {K : Type 0} → Seen K
unseen = record { limit = None; next = None }
