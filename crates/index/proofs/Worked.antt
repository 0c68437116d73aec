-- the worked cases, by computation
use Rattle.std.proofs.Common.{refl}
use Rattle.keys.specs.Bytes.{big_endian, number_of}
use Rattle.index.specs.Runs.{◌&◌, done}
use Rattle.index.specs.Cases.{CasesHold}

-- one line for each case, in the order of the list
pub cases_hold : CasesHold
unfolding big_endian number_of
cases_hold =
    refl
    & refl
    & refl
    & refl
    & refl
    & refl
    & refl
    & refl
    & refl
    & refl
    & refl
    & refl
    & refl
    & refl
    & refl
    & refl
    & refl
    & refl
    & refl
    & refl
    & refl
    & refl
    & refl
    & refl
    & refl
    & refl
    & refl
    & refl
    & refl
    & refl
    & refl
    & refl
    & refl
    & refl
    & refl
    & refl
    & refl
    & refl
    & refl
    & refl
    & refl
    & refl
    & refl
    & refl
    & refl
    & done
