-- What the programs make of the files that are found in a folder.
use Rattle.std.specs.Prelude.{◌≡◌, ◌⊎◌, ℕ, Bool, true, false, List, [], ◌∷◌, ◌++◌, codes, Option, None, Some, Result}
use Rattle.std.specs.Prelude.{Ok, Err}
use Rattle.std.specs.Option.{option_map}
use Rattle.std.specs.Fmt.{decimal}
use Rattle.sd_areas.specs.PlainMemory.{PlainMemory}
use Rattle.sd_disk.specs.Crash.{Within}
use Rattle.sd_disk.specs.Reads.{OnlyReads}
use Rattle.sd_disk.specs.declared.disk.Disk.{Ghosts}
use Rattle.sd_exit.specs.Ending.{Exits, status_of}
use Rattle.sd_exit.specs.Texts.{fault_line}
use Rattle.sd_exit.specs.declared.stop.Stop.TheVariants as stop
use Rattle.sd_image.specs.Shows.{Shows}
use Rattle.sd_restore.specs.declared.fault.Fault.{Fault}
use Rattle.sd_receive.specs.declared.receive_error.ReceiveError.{ReceiveError}
use Rattle.sd_receive.specs.declared.receive_error.ReceiveError.TheVariants as receive
use Rattle.sd_send.specs.Sent.{IsDigestAt}
use Rattle.sd_stream.specs.declared.stream_error.StreamError.TheVariants.{EndsEarly}
use Rattle.hex.specs.Hex.{encode_lower}
use Rattle.sd_arrivals.specs.Arrivals.{AreOfStream, IsReceived}

-- how the line begins that says why no more is received
abbrev pub why_front : ReceiveError → List ℕ
why_front (receive.Fault fault) = []
why_front (receive.Output error) = []
why_front (receive.BaseDiffers shows base) = codes "base differs: "
why_front receive.NoSlot = codes "no-slot"
why_front (receive.Stream EndsEarly) = codes "stream ends early"
why_front _ = codes "damaged stream "

-- what is wrong with a store, its device or the memory, where an error is that
abbrev pub fault_in : ReceiveError → Option Fault
fault_in (receive.Fault fault) = Some fault
fault_in _ = None

-- how a receipt exits that was ended by an error: such a fault has its line and its status; how another line goes on
-- isn't pinned
abbrev pub EndsEarlier : Option Fault → ReceiveError → Option (List ℕ) → Option (List ℕ) → Bool → ℕ → Type 0
EndsEarlier (Some fault) error before after refused status =
    Exits before after refused (fault_line fault) (status_of (stop.Fault fault)) status
EndsEarlier None error before after refused status =
    (rest : List ℕ) × Exits before after refused (why_front error ++ rest) 1 status

-- how a receipt exits
abbrev pub EndsAs : Result ℕ ReceiveError → Option (List ℕ) → Option (List ℕ) → Bool → ℕ → Type 0
EndsAs (Ok images) before after refused status = Exits before after refused [] 0 status
EndsAs (Err error) before after refused status = EndsEarlier (fault_in error) error before after refused status

-- A stream was received into a disk with these files. What these show is there, or the last checkpoint of the stream
-- that was received, or the next, at a crash at each moment; after the lines of those that were received stands why no
-- more is.
pub record ReceivesInto {D : Type 0} (g : Ghosts D) (files : List (List ℕ)) (before after : Option (List ℕ))
    (refused : Bool) (status : ℕ) : Type 0 where
  pub old : D
  pub new : D
  pub opened : g.contents old ≡ files
  pub input : Option (List ℕ)
  pub ended : Result ℕ ReceiveError
  pub reported : Option (List ℕ)
  pub keeps : g.is_honest new → (shown : Option (ℕ × PlainMemory)) → Shows (g.contents old) shown
      → Within (g.may_leave old) (λ c. Shows c shown)
      → (numbers : List ℕ) × IsReceived g old new shown numbers before reported ended
      × AreOfStream (g.contents old) input numbers ended
  pub ends : EndsAs ended reported after refused status

-- a stream was received, or its input was a terminal: then nothing is, and nothing is printed
abbrev pub Receives : {D : Type 0} → Ghosts D → List (List ℕ) → Option (List ℕ) → Option (List ℕ) → Bool → ℕ → Type 0
Receives g files before after refused status =
    ((after ≡ before) × (status ≡ 1)) ⊎ ReceivesInto g files before after refused status

-- contents that show anything show a checkpoint of this number, and this is the digest of its memory
pub record IsTipOf (contents : List (List ℕ)) (number : ℕ) (digest : List ℕ) : Type 0 where
  pub newest : (shown : Option (ℕ × PlainMemory)) → Shows contents shown
      → Some number ≡ option_map (λ moment. moment.0) shown
  pub digest_is : IsDigestAt contents number digest

-- the line of a store's newest checkpoint, or its document
abbrev pub tip_text : Bool → ℕ → List ℕ → List ℕ
tip_text false number digest = codes "tip " ++ decimal number ++ codes " " ++ digest ++ 10 ∷ []
tip_text true number digest =
    codes "{\"digest\":\"" ++ digest ++ codes "\",\"tip\":" ++ decimal number ++ codes "}" ++ 10 ∷ []

-- A disk with these files was only read, and the number and the digest of what it shows are printed, to the exit.
pub record TipsFiles {D : Type 0} (g : Ghosts D) (files : List (List ℕ)) (as_json : Bool)
    (before after : Option (List ℕ)) (refused : Bool) (status : ℕ) : Type 0 where
  pub old : D
  pub new : D
  pub opened : g.contents old ≡ files
  pub reads : OnlyReads g old new
  pub number : ℕ
  pub digest : List ℕ
  pub tip : g.is_honest new → IsTipOf (g.contents old) number digest
  pub exits : Exits before after refused (tip_text as_json number (encode_lower digest)) 0 status
