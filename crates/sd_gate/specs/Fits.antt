-- What a phase says of its slot: what is read, and what a crash may leave.
use Rattle.std.specs.Prelude.{◌≡◌, ◌≢◌, ℕ, ◌<◌, Bool, true, false, List, [], ◌∷◌, length, slice_index, slice_get, Some}
use Rattle.sd_disk.specs.Contents.{file_at}
use Rattle.sd_disk.specs.Crash.{OnlyAt}
use Rattle.sd_image.specs.Image.{gate}
use Rattle.sd_gate.specs.declared.phase.Phase.{Phase}
use Rattle.sd_gate.specs.declared.phase.Phase.TheVariants.{Raw, RawClosing, Whole, Closing, Shut, ShutSynced, Bare}
use Rattle.sd_gate.specs.declared.phase.Phase.TheVariants.{Writing, Ready, Opening, Doubt, DoubtSynced}

-- a file that begins with a byte other than the gate
pub record IsClosed (file : List ℕ) : Type 0 where
  pub some : 0 < length file
  pub shut : slice_index file 0 ≢ gate

-- the body after some byte
pub record IsBodyOf (body file : List ℕ) : Type 0 where
  pub first : ℕ
  pub spelled : file ≡ first ∷ body

-- the body after a closed gate
pub record IsBehindClosed (body file : List ℕ) : Type 0 where
  pub first : ℕ
  pub shut : first ≢ gate
  pub spelled : file ≡ first ∷ body

-- shorter than a header
abbrev pub IsShort : List ℕ → Type 0
IsShort file = length file < 4096

-- what is read of a slot
abbrev pub PhaseReads : Phase → List ℕ → List ℕ → Type 0
PhaseReads Raw body file = IsShort file
PhaseReads RawClosing body file = IsClosed file
PhaseReads Whole body file = file ≡ gate ∷ body
PhaseReads Closing body file = IsBehindClosed body file
PhaseReads Shut body file = IsClosed file
PhaseReads ShutSynced body file = IsClosed file
PhaseReads Bare body file = (body ≡ []) × IsBehindClosed [] file
PhaseReads Writing body file = IsBehindClosed body file
PhaseReads Ready body file = IsBehindClosed body file
PhaseReads Opening body file = file ≡ gate ∷ body
PhaseReads Doubt body file = IsBodyOf body file
PhaseReads DoubtSynced body file = IsBodyOf body file

-- what a crash may leave of it
abbrev pub PhaseLeaves : Phase → List ℕ → List ℕ → Type 0
PhaseLeaves Raw body file = IsShort file
PhaseLeaves RawClosing body file = IsShort file
PhaseLeaves Whole body file = file ≡ gate ∷ body
PhaseLeaves Closing body file = IsBodyOf body file
PhaseLeaves Shut body file = IsClosed file
PhaseLeaves ShutSynced body file = IsClosed file
PhaseLeaves Bare body file = IsClosed file
PhaseLeaves Writing body file = IsClosed file
PhaseLeaves Ready body file = IsBehindClosed body file
PhaseLeaves Opening body file = IsBodyOf body file
PhaseLeaves Doubt body file = IsBodyOf body file
PhaseLeaves DoubtSynced body file = IsBodyOf body file

-- a crash leaves what is read
abbrev pub is_synced : Phase → Bool
is_synced Raw = false
is_synced RawClosing = false
is_synced Whole = true
is_synced Closing = false
is_synced Shut = false
is_synced ShutSynced = true
is_synced Bare = false
is_synced Writing = false
is_synced Ready = true
is_synced Opening = false
is_synced Doubt = false
is_synced DoubtSynced = true

-- A slot of a disk with these contents and these outcomes of a crash is in a phase, with this body.
pub record SlotFits (phase : Phase) (body : List ℕ) (slot : ℕ) (contents : List (List ℕ))
    (may_leave : List (List ℕ) → Type 0) : Type 0 where
  pub reads : PhaseReads phase body (file_at contents slot)
  pub leaves : (c : List (List ℕ)) → may_leave c → PhaseLeaves phase body (file_at c slot)
  pub as_read : is_synced phase ≡ true → OnlyAt slot (file_at contents slot) may_leave

-- each slot of a disk is in its phase, with its body
pub record DiskFits (phases : List Phase) (bodies : List (List ℕ)) (contents : List (List ℕ))
    (may_leave : List (List ℕ) → Type 0) : Type 0 where
  pub count : length bodies ≡ length phases
  pub slots : length contents ≡ length phases
  pub each : (slot : ℕ) (phase : Phase) → slice_get phases slot ≡ Some phase
      → SlotFits phase (file_at bodies slot) slot contents may_leave

-- contents in which each slot is as a crash may leave it in its phase
pub record DiskLeaves (phases : List Phase) (bodies c : List (List ℕ)) : Type 0 where
  pub count : length c ≡ length phases
  pub each : (slot : ℕ) (phase : Phase) → slice_get phases slot ≡ Some phase
      → PhaseLeaves phase (file_at bodies slot) (file_at c slot)
