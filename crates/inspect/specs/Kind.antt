-- the kinds of keys that can be named
use Rattle.std.specs.Prelude.{ℕ, cond, List, Some, None, codes, Option}
use Rattle.std.specs.Str.{bytes_eq}
use Rattle.inspect.specs.declared.kind.Kind.{Kind}
use Rattle.inspect.specs.declared.kind.Kind.TheVariants.{Token, Expiry}

-- the kind that a word names, if it names one
abbrev pub kind_named : List ℕ → Option Kind
kind_named word = cond (bytes_eq word (codes "token")) (Some Token) (cond (bytes_eq word (codes "expiry")) (Some Expiry) None)
