use Rattle.keys.proofs.ByteOrder.{words_by_bytes}
use Rattle.keys.proofs.token.stands_by_bytes.Goals as goal

pub returns : goal.returns
returns c = λ a b. words_by_bytes 7 7 a.first b.first a.second b.second
