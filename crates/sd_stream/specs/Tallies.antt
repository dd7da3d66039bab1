-- What a tally knows of a stream.
use Rattle.std.specs.Prelude.{◌≡◌, ℕ, ◌+◌, Bool, true, false, List, [], ◌∷◌, ◌++◌, length, Option, None, Some}
use Rattle.std.specs.List.{AllByRecursion}
use Rattle.sha2.specs.Hashers.{Holds256}
use Rattle.sd_stream.specs.declared.tally.Tally.{Tally}
use Rattle.sd_stream.specs.Stream.{Group, AreGroups, IsBase, IsFileLength, base_number}
use Rattle.sd_stream.specs.Progress.{Progress, progress_text}

-- the number of the last of these checkpoints, or the one before them
abbrev pub last_number : ℕ → List Group → ℕ
last_number lower [] = lower
last_number lower (group ∷ groups) = last_number group.number groups

-- an image of which so many bytes are still to come; where there is none, none came since the last checkpoint
abbrev pub IsBegun : Option (List ℕ) → List (List ℕ) → ℕ → Bool → Type 0
IsBegun None files left waiting = (files ≡ []) × (left ≡ 0) × (waiting ≡ false)
IsBegun (Some file) files left waiting = IsFileLength (length file + left) × (waiting ≡ true)

-- a stream that has come so far keeps the order of its records
pub record IsInOrder (p : Progress) (highest left : ℕ) (waiting : Bool) : Type 0 where
  pub base : IsBase p.base
  pub groups : AreGroups (base_number p.base) p.groups
  pub last : highest ≡ last_number (base_number p.base) p.groups
  pub files : AllByRecursion (λ file. IsFileLength (length file)) p.files
  pub file : IsBegun p.file p.files left waiting

-- a tally took the bytes of a stream that has come so far, and no others
pub record HasTaken (tally : Tally) (p : Progress) : Type 0 where
  pub hashed : Holds256 tally.hasher (progress_text p tally.left)
  pub order : IsInOrder p tally.last tally.left tally.waiting

-- it took these bytes more
pub record Grows (old new : Tally) (p q : Progress) (bytes : List ℕ) : Type 0 where
  pub taken : HasTaken new q
  pub text : progress_text q new.left ≡ progress_text p old.left ++ bytes
