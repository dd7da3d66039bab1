-- Bytes in bulk: stores or loads side by side.
use Rattle.std.specs.Prelude.{◌≡◌, ◌≢◌, ◌+◌, ◌^◌, ◌%◌, ℕ, List, [], ◌∷◌, ◌++◌, length, map, Option, Some, None}
use Rattle.std.specs.Prelude.{Result, Ok, Err}
use Rattle.std.specs.List.{concat}
use Rattle.sd_command.specs.declared.command.Command.TheVariants as command
use Rattle.sd_command.specs.declared.reply.Reply.TheVariants as reply
use Rattle.sd_script.specs.declared.answer.Answer.{Answer}
use Rattle.sd_script.specs.declared.answer.Answer.TheVariants as answer
use Rattle.sd_script.specs.declared.line.Line.{Line}
use Rattle.sd_script.specs.declared.line.Line.TheVariants as line
use Rattle.sd_run.specs.declared.bulk.Halt.{Halt}

-- the address after bytes from an address on
abbrev pub behind : ℕ → List ℕ → ℕ
behind address piece = (address + length piece) % 2 ^ 64

-- the address after pieces of bytes, side by side
abbrev pub address_after_all : ℕ → List (List ℕ) → ℕ
address_after_all address [] = address
address_after_all address (piece ∷ pieces) = address_after_all (behind address piece) pieces

-- the store of bytes
abbrev pub store_of : ℕ → ℕ → List ℕ → Line
store_of space address piece = line.Command (command.Store space address piece)

-- the stores of pieces of bytes, side by side
abbrev pub stores_of : ℕ → ℕ → List (List ℕ) → List Line
stores_of space address [] = []
stores_of space address (piece ∷ pieces) = store_of space address piece ∷ stores_of space (behind address piece) pieces

-- as many stores were done
abbrev pub dones : List (List ℕ) → List Answer
dones pieces = map (λ piece. answer.Reply reply.Done) pieces

-- The first pieces of bytes were stored, each of which was done. Where all were, nothing is left; else the store of
-- the next one was answered something else, at the address that is reported.
pub data Puts {E : Type 0} (Answers : List Line → List Answer → Type 0) (space address : ℕ) (bytes : List ℕ) : Result
    (Option Halt) E → Type 0 where
  stored : (pieces : List (List ℕ)) → bytes ≡ concat pieces → Answers (stores_of space address pieces) (dones pieces)
      → Puts Answers space address bytes (Ok None)
  stopped : (halt : Halt) (pieces : List (List ℕ)) (piece rest : List ℕ) → bytes ≡ concat pieces ++ (piece ++ rest)
      → halt.address ≡ address_after_all address pieces → halt.reply ≢ reply.Done
      → Answers (stores_of space address pieces ++ store_of space halt.address piece ∷ [])
      (dones pieces ++ answer.Reply halt.reply ∷ [])
      → Puts Answers space address bytes (Ok (Some halt))
  no_room : (why : E) (pieces : List (List ℕ)) (rest : List ℕ) → bytes ≡ concat pieces ++ rest
      → Answers (stores_of space address pieces) (dones pieces) → Puts Answers space address bytes (Err why)

-- ---- loads

-- the load of so many bytes
abbrev pub load_of : ℕ → ℕ → ℕ → Line
load_of space address count = line.Command (command.Load space address count)

-- a load of so many bytes, and the bytes that it was answered
pub record Loaded : Type 0 where
  pub count : ℕ
  pub bytes : List ℕ

-- loads side by side
abbrev pub loads_of : ℕ → ℕ → List Loaded → List Line
loads_of space address [] = []
loads_of space address (load ∷ loads) =
    load_of space address load.count ∷ loads_of space ((address + load.count) % 2 ^ 64) loads

-- the address after them
abbrev pub past_loads : ℕ → List Loaded → ℕ
past_loads address [] = address
past_loads address (load ∷ loads) = past_loads ((address + load.count) % 2 ^ 64) loads

-- how many bytes they ask for
abbrev pub asked_by : List Loaded → ℕ
asked_by [] = 0
asked_by (load ∷ loads) = load.count + asked_by loads

-- their answers
abbrev pub answers_of_bytes : List Loaded → List Answer
answers_of_bytes [] = []
answers_of_bytes (load ∷ loads) = answer.Reply (reply.Bytes load.bytes) ∷ answers_of_bytes loads

-- all of their bytes
abbrev pub all_bytes : List Loaded → List ℕ
all_bytes [] = []
all_bytes (load ∷ loads) = load.bytes ++ all_bytes loads

-- Loads were answered bytes, which are added to those that were there. Where they ask for all, nothing is left; else
-- the next one was answered something else, at the address that is reported.
pub data Gets {E : Type 0} (Answers : List Line → List Answer → Type 0) (space address count : ℕ)
    (before after : List ℕ) : Result (Option Halt) E → Type 0 where
  loaded : (loads : List Loaded) → asked_by loads ≡ count → after ≡ before ++ all_bytes loads
      → Answers (loads_of space address loads) (answers_of_bytes loads)
      → Gets Answers space address count before after (Ok None)
  stopped : (halt : Halt) (loads : List Loaded) (asked : ℕ) → after ≡ before ++ all_bytes loads
      → halt.address ≡ past_loads address loads → ((bytes : List ℕ) → halt.reply ≢ reply.Bytes bytes)
      → Answers (loads_of space address loads ++ load_of space halt.address asked ∷ [])
      (answers_of_bytes loads ++ answer.Reply halt.reply ∷ [])
      → Gets Answers space address count before after (Ok (Some halt))
  no_room : (why : E) (loads : List Loaded) → Answers (loads_of space address loads) (answers_of_bytes loads)
      → Gets Answers space address count before after (Err why)
