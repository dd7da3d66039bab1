-- What a line of a script asks for, by its bytes.
use Rattle.std.specs.Prelude.{◌≡◌, ⊤, ℕ, ◌^◌, ◌==◌, ◌&&◌, ◌||◌, ◌++◌, nat_eq, nat_lt, Bool, true, false, if◌then◌else◌}
use Rattle.std.specs.Prelude.{List, [], ◌∷◌, length, drop, find, codes, bytes_eq, Option, Some, None, Result, Ok, Err}
use Rattle.std.specs.List.{list_all, starts_with, slice_split}
use Rattle.std.specs.Char.{is_digit}
use Rattle.std.specs.Str.Parse.{digits_value}
use Rattle.std.specs.Result.{result_ok}
use Rattle.hex.specs.Hex.{decode_of}
use Rattle.sd_areas.specs.declared.prot.Prot.{Prot}
use Rattle.sd_command.specs.declared.command.Command.TheVariants.{Mmap, Munmap, Mprotect, Fork, Exit, Load, TryStore}
use Rattle.sd_command.specs.declared.command.Command.TheVariants.{Fault, Store}
use Rattle.sd_gate.specs.declared.worker.Worker.{Worker}
use Rattle.sd_gate.specs.declared.worker.Worker.TheVariants.{Dumper, Merger, Opener}
use Rattle.sd_script.specs.declared.line.Line.{Line}
use Rattle.sd_script.specs.declared.line.Line.TheVariants.{Command, Words, Begin, BeginMerge, Cancel, Work, Perform}
use Rattle.sd_script.specs.declared.line.Line.TheVariants.{PerformAt, Step, Finish, Checkpoint, Merge, Reopen, Trim}
use Rattle.sd_script.specs.declared.line_error.LineError.{LineError}
use Rattle.sd_script.specs.declared.line_error.LineError.TheVariants.{Unfit, OutOfMemory}

-- the second step, if the first gave a value
infixl 10 ◌>>=◌
abbrev pub ◌>>=◌ : {A B : Type 0} → Option A → (A → Option B) → Option B
Some x >>= f = f x
None >>= f = None

-- the number below 2 ^ 64 that digits of the radix write, one digit or more, with leading zeros or without
abbrev pub numeral_of : ℕ → List ℕ → Option ℕ
numeral_of radix digits =
    if nat_lt 0 (length digits) && list_all (λ c. is_digit c radix) digits && nat_lt (digits_value radix digits)
    (2 ^ 64)
    then Some (digits_value radix digits)
    else None

-- a number: in hexadecimal digits of either case after `0x`, else in decimal digits
abbrev pub number_of : List ℕ → Option ℕ
number_of text = if starts_with nat_eq text (codes "0x") then numeral_of 16 (drop 2 text) else numeral_of 10 text

-- a letter where a permission is given
abbrev pub letter : Bool → List ℕ → List ℕ
letter given text = if given then text else []

-- how a line writes permissions: the letters r, w and x of those that are given, or `none`
abbrev pub prot_word : Prot → List ℕ
prot_word prot =
    if prot.read || prot.write || prot.execute
    then letter prot.read (codes "r") ++ letter prot.write (codes "w") ++ letter prot.execute (codes "x")
    else codes "none"

-- the eight permissions
abbrev pub every_prot : List Prot
every_prot =
    record { read = false; write = false; execute = false }
    ∷ record { read = true; write = false; execute = false }
    ∷ record { read = false; write = true; execute = false }
    ∷ record { read = false; write = false; execute = true }
    ∷ record { read = true; write = true; execute = false }
    ∷ record { read = true; write = false; execute = true }
    ∷ record { read = false; write = true; execute = true }
    ∷ record { read = true; write = true; execute = true }
    ∷ []

-- the permissions that a line writes so
abbrev pub prot_of : List ℕ → Option Prot
prot_of text = find (λ prot. bytes_eq text (prot_word prot)) every_prot

-- the bytes that an even number of hexadecimal digits write, at least 2
abbrev pub hex_of : List ℕ → Option (List ℕ)
hex_of text = if length text == 0 then None else result_ok (decode_of text)

-- `mmap SPACE ADDRESS BYTES PROT`, after the word
abbrev pub mmap_of : List (List ℕ) → Option Line
mmap_of (space ∷ address ∷ bytes ∷ prot ∷ []) = do
  s ← number_of space
  a ← number_of address
  b ← number_of bytes
  p ← prot_of prot
  Some (Command (Mmap s a b p))
mmap_of _ = None

-- `munmap SPACE ADDRESS BYTES`, after the word
abbrev pub munmap_of : List (List ℕ) → Option Line
munmap_of (space ∷ address ∷ bytes ∷ []) = do
  s ← number_of space
  a ← number_of address
  b ← number_of bytes
  Some (Command (Munmap s a b))
munmap_of _ = None

-- `mprotect SPACE ADDRESS BYTES PROT`, after the word
abbrev pub mprotect_of : List (List ℕ) → Option Line
mprotect_of (space ∷ address ∷ bytes ∷ prot ∷ []) = do
  s ← number_of space
  a ← number_of address
  b ← number_of bytes
  p ← prot_of prot
  Some (Command (Mprotect s a b p))
mprotect_of _ = None

-- `fork SPACE`, after the word
abbrev pub fork_of : List (List ℕ) → Option Line
fork_of (space ∷ []) = do
  s ← number_of space
  Some (Command (Fork s))
fork_of _ = None

-- `exit SPACE`, after the word
abbrev pub exit_of : List (List ℕ) → Option Line
exit_of (space ∷ []) = do
  s ← number_of space
  Some (Command (Exit s))
exit_of _ = None

-- `load SPACE ADDRESS COUNT`, after the word
abbrev pub load_of : List (List ℕ) → Option Line
load_of (space ∷ address ∷ count ∷ []) = do
  s ← number_of space
  a ← number_of address
  n ← number_of count
  Some (Command (Load s a n))
load_of _ = None

-- `try SPACE ADDRESS HEX`, after the word
abbrev pub try_of : List (List ℕ) → Option Line
try_of (space ∷ address ∷ bytes ∷ []) = do
  s ← number_of space
  a ← number_of address
  b ← hex_of bytes
  Some (Command (TryStore s a b))
try_of _ = None

-- `fault SPACE ADDRESS`, after the word
abbrev pub fault_of : List (List ℕ) → Option Line
fault_of (space ∷ address ∷ []) = do
  s ← number_of space
  a ← number_of address
  Some (Command (Fault s a))
fault_of _ = None

-- `store SPACE ADDRESS HEX`, after the word
abbrev pub store_of : List (List ℕ) → Option Line
store_of (space ∷ address ∷ bytes ∷ []) = do
  s ← number_of space
  a ← number_of address
  b ← hex_of bytes
  Some (Command (Store s a b))
store_of _ = None

-- a number that isn't 0
abbrev pub at_least_one : ℕ → Option ℕ
at_least_one n = if nat_lt 0 n then Some n else None

-- `words SPACE ADDRESS COUNT`, after the word: of one page at least
abbrev pub words_of : List (List ℕ) → Option Line
words_of (space ∷ address ∷ count ∷ []) = do
  s ← number_of space
  a ← number_of address
  c ← number_of count
  n ← at_least_one c
  Some (Words s a n)
words_of _ = None

-- the worker of this name
abbrev pub worker_by_name : List ℕ → Option Worker
worker_by_name name =
    if bytes_eq name (codes "dumper") then Some Dumper
    else if bytes_eq name (codes "merger") then Some Merger
    else if bytes_eq name (codes "opener") then Some Opener
    else None

-- `begin ROUNDS`, after the word
abbrev pub begin_of : List (List ℕ) → Option Line
begin_of (rounds ∷ []) = do
  r ← number_of rounds
  Some (Begin r)
begin_of _ = None

-- `begin-merge`, with nothing after the word
abbrev pub begin_merge_of : List (List ℕ) → Option Line
begin_merge_of [] = Some BeginMerge
begin_merge_of (_ ∷ _) = None

-- `cancel`, with nothing after the word
abbrev pub cancel_of : List (List ℕ) → Option Line
cancel_of [] = Some Cancel
cancel_of (_ ∷ _) = None

-- `work WORKER`, after the word
abbrev pub work_of : List (List ℕ) → Option Line
work_of (name ∷ []) = do
  w ← worker_by_name name
  Some (Work w)
work_of _ = None

-- `perform WORKER`, after the word
abbrev pub perform_of : List (List ℕ) → Option Line
perform_of (name ∷ []) = do
  w ← worker_by_name name
  Some (Perform w)
perform_of _ = None

-- `perform-at WORKER PLACE`, after the word
abbrev pub perform_at_of : List (List ℕ) → Option Line
perform_at_of (name ∷ place ∷ []) = do
  w ← worker_by_name name
  k ← number_of place
  Some (PerformAt w k)
perform_at_of _ = None

-- `step WORKER COUNT`, after the word: one event at least
abbrev pub step_of : List (List ℕ) → Option Line
step_of (name ∷ count ∷ []) = do
  w ← worker_by_name name
  c ← number_of count
  n ← at_least_one c
  Some (Step w n)
step_of _ = None

-- `finish WORKER`, after the word
abbrev pub finish_of : List (List ℕ) → Option Line
finish_of (name ∷ []) = do
  w ← worker_by_name name
  Some (Finish w)
finish_of _ = None

-- `checkpoint ROUNDS`, after the word
abbrev pub checkpoint_of : List (List ℕ) → Option Line
checkpoint_of (rounds ∷ []) = do
  r ← number_of rounds
  Some (Checkpoint r)
checkpoint_of _ = None

-- `merge`, with nothing after the word
abbrev pub merge_of : List (List ℕ) → Option Line
merge_of [] = Some Merge
merge_of (_ ∷ _) = None

-- `reopen`, with nothing after the word
abbrev pub reopen_of : List (List ℕ) → Option Line
reopen_of [] = Some Reopen
reopen_of (_ ∷ _) = None

-- `trim`, with nothing after the word
abbrev pub trim_of : List (List ℕ) → Option Line
trim_of [] = Some Trim
trim_of (_ ∷ _) = None

-- what a word and its arguments ask for
abbrev pub asked_by_word : List ℕ → List (List ℕ) → Option Line
asked_by_word word arguments =
    if bytes_eq word (codes "mmap") then mmap_of arguments
    else if bytes_eq word (codes "munmap") then munmap_of arguments
    else if bytes_eq word (codes "mprotect") then mprotect_of arguments
    else if bytes_eq word (codes "fork") then fork_of arguments
    else if bytes_eq word (codes "exit") then exit_of arguments
    else if bytes_eq word (codes "load") then load_of arguments
    else if bytes_eq word (codes "try") then try_of arguments
    else if bytes_eq word (codes "fault") then fault_of arguments
    else if bytes_eq word (codes "store") then store_of arguments
    else if bytes_eq word (codes "words") then words_of arguments
    else if bytes_eq word (codes "begin") then begin_of arguments
    else if bytes_eq word (codes "begin-merge") then begin_merge_of arguments
    else if bytes_eq word (codes "cancel") then cancel_of arguments
    else if bytes_eq word (codes "work") then work_of arguments
    else if bytes_eq word (codes "perform") then perform_of arguments
    else if bytes_eq word (codes "perform-at") then perform_at_of arguments
    else if bytes_eq word (codes "step") then step_of arguments
    else if bytes_eq word (codes "finish") then finish_of arguments
    else if bytes_eq word (codes "checkpoint") then checkpoint_of arguments
    else if bytes_eq word (codes "merge") then merge_of arguments
    else if bytes_eq word (codes "reopen") then reopen_of arguments
    else if bytes_eq word (codes "trim") then trim_of arguments
    else None

-- what fields ask for: the first is the word
abbrev pub asked_by_fields : List (List ℕ) → Option Line
asked_by_fields [] = None
asked_by_fields (word ∷ arguments) = asked_by_word word arguments

-- what a line asks for, if it fits: its fields are separated by single spaces
abbrev pub asked_by : List ℕ → Option Line
asked_by line = asked_by_fields (slice_split (λ byte. byte == 32) line)

-- a result is what is asked for: its value, seen so, or `Unfit` for none; out of memory says nothing
abbrev pub ParsesAs : {A B : Type 0} → (A → B) → Result A LineError → Option B → Type 0
ParsesAs seen (Ok value) wanted = wanted ≡ Some (seen value)
ParsesAs seen (Err Unfit) wanted = wanted ≡ None
ParsesAs seen (Err OutOfMemory) wanted = ⊤

-- a line is the one that is asked for, if memory sufficed
abbrev pub ParsesLine : Result Line LineError → Option Line → Type 0
ParsesLine result wanted = ParsesAs (λ line. line) result wanted

-- bytes are those that are asked for, if memory sufficed
abbrev pub GivesBytes : Result (List ℕ) LineError → Option (List ℕ) → Type 0
GivesBytes result wanted = ParsesAs (λ bytes. bytes) result wanted
