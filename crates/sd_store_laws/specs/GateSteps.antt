-- How what may be believed of a slot follows the calls on it, and what is believed of a slot that was found.
use Rattle.std.specs.Prelude.{◌≡◌, ◌≢◌, ◌⊎◌, ℕ, ◌<◌, Bool, true, List, ◌∷◌, drop, length, map, Some, slice_get}
use Rattle.std.specs.Prelude.{slice_set}
use Rattle.std.specs.List.{AllZip}
use Rattle.sd_disk.specs.Contents.{file_at}
use Rattle.sd_image.specs.Image.{Image, IsImage, gate}
use Rattle.sd_gate.specs.declared.call.Call.{Call}
use Rattle.sd_gate.specs.declared.call.Call.TheVariants.{Close, Open, Sync}
use Rattle.sd_gate.specs.declared.phase.Phase.{Phase}
use Rattle.sd_gate.specs.declared.phase.Phase.TheVariants.{Raw, Whole, Closing as ClosingPhase, Opening as OpeningPhase}
use Rattle.sd_gate.specs.Fits.{SlotFits, is_synced}
use Rattle.sd_gate.specs.Laws.{found_phase}
use Rattle.sd_gate.specs.Phases.{after, body_after, given_up, is_ready, synced}
use Rattle.sd_store_laws.specs.Beliefs.{Belief, Closed, Kept, Closing, Opening}
use Rattle.sd_store_laws.specs.SlotSteps.{IsFoundAs}
use Rattle.sd_store_laws.specs.Gates.{AreBelieved, IsBelievedAs, MayBelieve}

-- A belief that a slot's phase allows is allowed after each call for which it is ready, done or failed, but an open and
-- the close of a whole file; these make it weaker first, and a sync that is done makes it strong again.
pub record BeliefsFollowCalls : Type 0 where
  pub stays : (phase : Phase) (body bytes : List ℕ) (call : Call) (done : Bool) (belief : Belief)
      → is_ready phase call ≡ true
      → call ≢ Open → (call ≡ Close → phase ≢ Whole)
      → MayBelieve phase body belief → MayBelieve (after phase call done) (body_after body call bytes) belief
  pub opens : (phase : Phase) (body bytes : List ℕ) (done : Bool) (i : Image) → is_ready phase Open ≡ true
      → IsImage (gate ∷ body) i
      → MayBelieve phase body (Opening i) × MayBelieve (after phase Open done) (body_after body Open bytes) (Opening i)
  pub closes : (body bytes : List ℕ) (done : Bool) (i : Image) → MayBelieve Whole body (Kept i)
      → MayBelieve Whole body (Closing i)
      × MayBelieve (after Whole Close done) (body_after body Close bytes) (Closing i)
  pub opened : (body bytes : List ℕ) (i : Image) → MayBelieve OpeningPhase body (Opening i)
      → MayBelieve (after OpeningPhase Sync true) (body_after body Sync bytes) (Kept i)
  pub closed : (body bytes : List ℕ) → MayBelieve (after ClosingPhase Sync true) (body_after body Sync bytes) Closed
  pub given_up : (phase : Phase) (body : List ℕ) (belief : Belief) → MayBelieve phase body belief
      → MayBelieve (given_up phase) body belief

-- Where one slot's phase, body and belief change, the others are believed as before.
abbrev pub OneBeliefChanges : Type 0
OneBeliefChanges = (phases : List Phase) (bodies : List (List ℕ)) (beliefs : List Belief) (slot : ℕ) (phase : Phase)
    (body : List ℕ) (belief : Belief)
    → length bodies ≡ length phases → slot < length phases → AreBelieved phases bodies beliefs
    → MayBelieve phase body belief
    → AreBelieved (slice_set phases slot phase) (slice_set bodies slot body) (slice_set beliefs slot belief)

-- A slot that was found closed, or with its image, is believed so in the phase that its file shows.
abbrev pub FilesAreBelieved : Type 0
FilesAreBelieved = (contents : List (List ℕ)) (beliefs : List Belief) → AllZip IsFoundAs beliefs contents
    → AreBelieved (map found_phase contents) (map (drop 1) contents) beliefs

-- It is exactly what its phase says.
abbrev pub FoundIsExact : Type 0
FoundIsExact = (contents : List (List ℕ)) (beliefs : List Belief) → AllZip IsFoundAs beliefs contents
    → (slot : ℕ) (phase : Phase) (belief : Belief) → slice_get (map found_phase contents) slot ≡ Some phase
    → slice_get beliefs slot ≡ Some belief
    → IsBelievedAs phase (file_at (map (drop 1) contents) slot) belief

-- a slot that was synced, or was never more than a short file, is in the phase that its file shows, whatever was known
-- of it
abbrev pub SyncedIsFound : List (List ℕ) → (List (List ℕ) → Type 0) → Type 0
SyncedIsFound contents may_leave = (phase : Phase) (body : List ℕ) (slot : ℕ) → (is_synced phase ≡ true) ⊎ (phase ≡ Raw)
    → SlotFits phase body slot contents may_leave
    → SlotFits (found_phase (file_at contents slot)) (drop 1 (file_at contents slot)) slot contents may_leave

-- Each phase is such a one after it was given up and the slot was synced.
abbrev pub GivenUpSyncs : Type 0
GivenUpSyncs = (phase : Phase) → (is_synced (synced (given_up phase)) ≡ true) ⊎ (synced (given_up phase) ≡ Raw)
