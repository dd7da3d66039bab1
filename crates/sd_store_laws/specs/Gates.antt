-- What a slot's phase says of its image, and what a crash leaves of slots in these phases.
use Rattle.std.specs.Prelude.{◌≡◌, ◌⊎◌, ℕ, List, ◌∷◌, length, map, Some, slice_get}
use Rattle.std.specs.List.{AllZip}
use Rattle.sd_disk.specs.Contents.{file_at}
use Rattle.sd_image.specs.Image.{Image, IsImage, gate}
use Rattle.sd_gate.specs.declared.phase.Phase.{Phase}
use Rattle.sd_gate.specs.declared.phase.Phase.TheVariants.{Raw, RawClosing, Whole, Closing as ClosingPhase, Shut}
use Rattle.sd_gate.specs.declared.phase.Phase.TheVariants.{ShutSynced, Bare, Writing, Ready, Opening as OpeningPhase}
use Rattle.sd_gate.specs.declared.phase.Phase.TheVariants.{Doubt, DoubtSynced}
use Rattle.sd_gate.specs.Fits.{DiskLeaves}
use Rattle.sd_gate.specs.Phases.{given_up}
use Rattle.sd_store_laws.specs.Beliefs.{Belief, Closed, Kept, Closing, Opening, FitsBelief}

-- an image that is being closed or opened stands after the gate
abbrev pub IsInDoubt : List ℕ → Belief → Type 0
IsInDoubt body belief = (i : Image) × ((belief ≡ Closing i) ⊎ (belief ≡ Opening i)) × IsImage (gate ∷ body) i

-- what a slot in this phase, with this body, is
abbrev pub IsBelievedAs : Phase → List ℕ → Belief → Type 0
IsBelievedAs Raw body belief = belief ≡ Closed
IsBelievedAs RawClosing body belief = belief ≡ Closed
IsBelievedAs Whole body belief = (i : Image) × (belief ≡ Kept i) × IsImage (gate ∷ body) i
IsBelievedAs ClosingPhase body belief = IsInDoubt body belief
IsBelievedAs Shut body belief = belief ≡ Closed
IsBelievedAs ShutSynced body belief = belief ≡ Closed
IsBelievedAs Bare body belief = belief ≡ Closed
IsBelievedAs Writing body belief = belief ≡ Closed
IsBelievedAs Ready body belief = belief ≡ Closed
IsBelievedAs OpeningPhase body belief = IsInDoubt body belief
IsBelievedAs Doubt body belief = IsInDoubt body belief
IsBelievedAs DoubtSynced body belief = IsInDoubt body belief

-- every file that fits the one belief fits the other
abbrev pub IsWeaker : Belief → Belief → Type 0
IsWeaker strong weak = (file : List ℕ) → FitsBelief strong file → FitsBelief weak file

-- A slot in this phase, with this body, may be believed to be so: as it is, or less.
pub record MayBelieve (phase : Phase) (body : List ℕ) (belief : Belief) : Type 0 where
  pub strong : Belief
  pub is : IsBelievedAs phase body strong
  pub weaker : IsWeaker strong belief

-- each slot's belief is one that its phase allows
pub record AreBelieved (phases : List Phase) (bodies : List (List ℕ)) (beliefs : List Belief) : Type 0 where
  pub count : length beliefs ≡ length phases
  pub each : (slot : ℕ) (phase : Phase) (belief : Belief) → slice_get phases slot ≡ Some phase
      → slice_get beliefs slot ≡ Some belief
      → MayBelieve phase (file_at bodies slot) belief

-- What a crash leaves of slots in these phases is as believed.
abbrev pub LeftAsBelieved : Type 0
LeftAsBelieved = (phases : List Phase) (bodies c : List (List ℕ)) (beliefs : List Belief)
    → AreBelieved phases bodies beliefs → DiskLeaves phases bodies c → AllZip FitsBelief beliefs c

-- A slot may be believed as it is, and less: what is kept or closed may be believed to be closing or opening.
pub record BeliefsWeaken : Type 0 where
  pub itself : (phase : Phase) (body : List ℕ) (belief : Belief) → IsBelievedAs phase body belief
      → MayBelieve phase body belief
  pub less : (phase : Phase) (body : List ℕ) (belief weak : Belief) → MayBelieve phase body belief
      → IsWeaker belief weak → MayBelieve phase body weak
  pub kept : (i : Image) → IsWeaker (Kept i) (Closing i) × IsWeaker (Kept i) (Opening i)
  pub closed : (i : Image) → IsWeaker Closed (Closing i) × IsWeaker Closed (Opening i)
  pub alike : (i : Image) → IsWeaker (Closing i) (Opening i) × IsWeaker (Opening i) (Closing i)

-- The beliefs about the slots of a store stay as they are where all jobs are given up, as when it goes down.
abbrev pub GivenUpIsBelieved : Type 0
GivenUpIsBelieved = (phases : List Phase) (bodies : List (List ℕ)) (beliefs : List Belief)
    → AreBelieved phases bodies beliefs → AreBelieved (map given_up phases) bodies beliefs
