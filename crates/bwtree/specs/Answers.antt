-- the number of each refusal, and what each ending says
use Rattle.std.specs.Prelude.{ℕ, Some, None, Option}
use Rattle.bwtree.specs.declared.answer.End.{End}
use Rattle.bwtree.specs.declared.answer.End.TheVariants as ends
use Rattle.bwtree.specs.declared.answer.Refusal.{Refusal}
use Rattle.bwtree.specs.declared.answer.Refusal.TheVariants as refusals

-- a call that is turned down
abbrev pub refusal_number : Refusal → ℕ
refusal_number refusals.NoSuchSeat = 1
refusal_number refusals.SeatOpen = 2
refusal_number refusals.SeatIdle = 3
refusal_number refusals.WrongSizes = 4
refusal_number refusals.Impossible = 15

-- an operation that ends refused
abbrev pub end_number : End → Option ℕ
end_number ends.Found = None
end_number ends.Missing = None
end_number ends.Present = None
end_number ends.Stored = None
end_number ends.Removed = None
end_number ends.Consolidated = None
end_number ends.Tidy = None
end_number ends.Split = None
end_number ends.Small = None
end_number ends.LeafFull = Some 11
end_number ends.TooFewRecords = Some 12
end_number ends.NoFrame = Some 13
end_number ends.NoSlot = Some 14
