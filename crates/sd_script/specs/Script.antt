-- What a script asks for, line by line.
use Rattle.std.specs.Prelude.{◌≡◌, ⊤, ℕ, ◌+◌, ◌==◌, ◌||◌, nat_eq, Bool, true, false, if◌then◌else◌, List, length}
use Rattle.std.specs.Prelude.{position, codes, Option, Some, None, Result, Ok, Err}
use Rattle.std.specs.List.{starts_with, slice_split, filter_map}
use Rattle.std.specs.Option.{option_map}
use Rattle.std.specs.Str.{is_utf8}
use Rattle.sd_script.specs.declared.line.Line.{Line}
use Rattle.sd_script.specs.declared.line_error.LineError.{LineError}
use Rattle.sd_script.specs.declared.line_error.LineError.TheVariants.{Unfit, OutOfMemory}
use Rattle.sd_script.specs.declared.script_error.ScriptError.{ScriptError}
use Rattle.sd_script.specs.declared.script_error.ScriptError.TheVariants as error
use Rattle.sd_script.specs.Line.{asked_by}

-- what a line of a script means: a request, nothing at all, or it doesn't fit the language
pub data Meaning : Type 0 where
  asks : Line → Meaning
  nothing : Meaning
  unfit : Meaning

-- whether a line is skipped: it is empty or a comment
abbrev pub is_skipped : List ℕ → Bool
is_skipped line = length line == 0 || starts_with nat_eq line (codes "#")

-- a request, or unfit where there is none
abbrev pub asks_or_unfit : Option Line → Meaning
asks_or_unfit (Some request) = asks request
asks_or_unfit None = unfit

-- what a line means: one that isn't UTF-8 doesn't fit, not even as a comment
abbrev pub meaning_of : List ℕ → Meaning
meaning_of line =
    if is_utf8 line then (if is_skipped line then nothing else asks_or_unfit (asked_by line))
    else unfit

abbrev pub is_unfit_meaning : Meaning → Bool
is_unfit_meaning unfit = true
is_unfit_meaning nothing = false
is_unfit_meaning (asks _) = false

abbrev pub request_in_meaning : Meaning → Option Line
request_in_meaning (asks request) = Some request
request_in_meaning nothing = None
request_in_meaning unfit = None

-- whether a line doesn't fit the language
abbrev pub is_unfit : List ℕ → Bool
is_unfit line = is_unfit_meaning (meaning_of line)

-- the request of a line, if it makes one
abbrev pub request_in : List ℕ → Option Line
request_in line = request_in_meaning (meaning_of line)

-- the lines of a script, separated by byte 10: after a last one there is an empty line more
abbrev pub lines_of : List ℕ → List (List ℕ)
lines_of script = slice_split (λ byte. byte == 10) script

-- the requests of a script, in order
abbrev pub requests_of : List ℕ → List Line
requests_of script = filter_map request_in (lines_of script)

-- the number, counted from 1, of the first line that doesn't fit
abbrev pub first_unfit_line : List ℕ → Option ℕ
first_unfit_line script = option_map (λ place. place + 1) (position is_unfit (lines_of script))

-- the meaning of a line, if memory sufficed
abbrev pub GivesMeaning : Result (Option Line) LineError → Meaning → Type 0
GivesMeaning (Ok (Some line)) wanted = wanted ≡ asks line
GivesMeaning (Ok None) wanted = wanted ≡ nothing
GivesMeaning (Err Unfit) wanted = wanted ≡ unfit
GivesMeaning (Err OutOfMemory) wanted = ⊤

-- a fact of the number of the line that an answer blames
abbrev pub IfUnfit : {T : Type 0} → Result T ScriptError → (ℕ → Type 0) → Type 0
IfUnfit (Ok _) fact = ⊤
IfUnfit (Err (error.Line number)) fact = fact number
IfUnfit (Err error.OutOfMemory) fact = ⊤
