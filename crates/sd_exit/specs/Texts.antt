-- The last line of a program, and texts that are broken off.
use Rattle.std.specs.Prelude.{◌≡◌, ℕ, ◌-◌, List, [], ◌∷◌, ◌++◌, length, replicate, codes, Option}
use Rattle.std.specs.Fmt.{decimal}
use Rattle.std.specs.Io.KnownBytes.{Appends}
use Rattle.sd_image.specs.ReasonLaws.{reason_number}
use Rattle.sd_restore.specs.declared.fault.Fault.{Fault}
use Rattle.sd_restore.specs.declared.fault.Fault.TheVariants.{EmptyChain, Damaged, Device, OutOfMemory}

-- a slot's number, with zeros before it up to three digits
abbrev pub slot_text : ℕ → List ℕ
slot_text slot = replicate (3 - length (decimal slot)) 48 ++ decimal slot

-- the line of a fault
abbrev pub fault_line : Fault → List ℕ
fault_line EmptyChain = codes "empty chain" ++ 10 ∷ []
fault_line (Damaged slot reason) =
    codes "damaged " ++ slot_text slot ++ codes " " ++ decimal (reason_number reason) ++ 10 ∷ []
fault_line Device = codes "device" ++ 10 ∷ []
fault_line OutOfMemory = codes "out-of-memory" ++ 10 ∷ []

-- a beginning of a text was printed
pub record PrintsBeginning (before after : Option (List ℕ)) (text : List ℕ) : Type 0 where
  pub front : List ℕ
  pub rest : List ℕ
  pub whole : front ++ rest ≡ text
  pub printed : Appends before after front
