-- what is printed for a file
use Rattle.std.specs.Prelude.{ℕ, List, ◌++◌, length, Ok, Err, Result, string_bytes}
use Rattle.std.specs.declared.string.String.{String}
use Rattle.std.specs.declared.alloc.Global.{Global}
use Rattle.image.specs.Image.{entries_of}
use Rattle.image.specs.declared.entry.Entry.{Entry}
use Rattle.image.specs.declared.refusal.Refusal.{Refusal}
use Rattle.inspect.specs.Lines.{header_line}
use Rattle.inspect.specs.Refused.{refusal_line}
use Rattle.inspect.specs.Table.{table_of}

module _ {K : Type 0} (shown_as : K → List ℕ) (name : List ℕ) where
  -- the report on an image: the header, then a line for each entry
  abbrev pub image_text : ℕ → ℕ → List (Entry K) → List ℕ
  image_text bytes width es = header_line name bytes width (length es) ++ table_of shown_as es

  -- the report on a file's bytes, after the verdict on them: on an image, or the line of the refusal
  abbrev pub report_text : ℕ → (List ℕ → K) → List ℕ → Result (Unit {0}) Refusal → List ℕ
  report_text width key_of bytes (Ok accepted) = image_text (length bytes) width (entries_of key_of width bytes)
  report_text width key_of bytes (Err refusal) = refusal_line name (length bytes) width refusal

-- what is printed: the text of an image, or the line of a refused file
abbrev pub printed : Result (String Global) (String Global) → List ℕ
printed (Ok text) = string_bytes text
printed (Err line) = string_bytes line
