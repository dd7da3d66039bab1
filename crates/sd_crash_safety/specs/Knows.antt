-- What a core knows of the files beside what it believes of its slots: no layer above goes by this.
use Rattle.std.specs.Prelude.{◌≡◌, ◌≢◌, ◌⊎◌, ℕ, ◌<◌, true, false, List, length, Option, Some, None, IfSome, slice_get}
use Rattle.sd_gate.specs.declared.call.Call.TheVariants.{Sync}
use Rattle.sd_gate.specs.declared.phase.Phase.{Phase}
use Rattle.sd_gate.specs.declared.phase.Phase.TheVariants.{Raw}
use Rattle.sd_gate.specs.declared.request_id.RequestId.{RequestId}
use Rattle.sd_gate.specs.Calls.{IsLook}
use Rattle.sd_gate.specs.Fits.{is_synced}
use Rattle.sd_gate.specs.Phases.{synced}
use Rattle.sd_gate.specs.Plans.{Planned}
use Rattle.sd_gate.specs.Requests.{Asked}
use Rattle.sd_gate.specs.Sequences.{first_looks}
use Rattle.sd_opener.specs.declared.stage.Stage.{Stage}
use Rattle.sd_opener.specs.declared.stage.Stage.TheVariants.{Asking, Read, Broken}
use Rattle.sd_opener.specs.Looking.{Looking}
use Rattle.sd_opener.specs.Sees.{Sees}
use Rattle.sd_image.specs.Image.{Image}
use Rattle.sd_store_laws.specs.Beliefs.{Belief}
use Rattle.sd_store_laws.specs.Store.{Store}
use Rattle.sd_crash_safety.specs.declared.standing.Standing.TheVariants.{Open}
use Rattle.sd_crash_safety.specs.LiveImages.{IsLiveOn, ids_of}
use Rattle.sd_crash_safety.specs.Merges.{IsLiveMerge}
use Rattle.sd_crash_safety.specs.View.{CoreView, history_of}

-- the calls that are out change no file
abbrev pub AreLooks : List (Option Asked) → Type 0
AreLooks asked = (worker : ℕ) (request : Asked) → slice_get asked worker ≡ Some (Some request) → IsLook request.id.call

-- a slot whose file shows its phase
abbrev pub IsRefound : Phase → Type 0
IsRefound phase = (is_synced phase ≡ true) ⊎ (phase ≡ Raw)

-- the slot's sync, which the inspection begins with, was handed in
pub record HasSynced (plan : Planned) : Type 0 where
  pub asked : plan.calls ≢ first_looks
  pub handed : (id : RequestId) → plan.out ≡ Some id → id.call ≢ Sync

abbrev pub IsPastSync : Stage → Type 0
IsPastSync (Asking plan) = HasSynced plan
IsPastSync (Read header table) = Unit {0}
IsPastSync (Broken reason) = Unit {0}

-- What an opener was answered is so of the files, with the request of it that is out, and nobody else changes them. The
-- slots that it synced are in the phases that their files show, and a sync brings each other there.
pub record SeesStore (files : List (List ℕ)) (phases : List Phase) (asked : List (Option Asked))
    (opener : Looking) : Type 0 where
  pub looks : AreLooks asked
  pub request : Option Asked
  pub own : slice_get asked 2 ≡ Some request
  pub sees : Sees files request opener
  pub syncs : (slot : ℕ) (phase : Phase) → slice_get phases slot ≡ Some phase → IsRefound (synced phase)
  pub told : (slot : ℕ) (phase : Phase) → slice_get phases slot ≡ Some phase → slot < length opener.told
      → IsRefound phase
  pub current : IsPastSync opener.stage → (phase : Phase) → slice_get phases (length opener.told) ≡ Some phase
      → IsRefound phase

-- with these requests out, these bodies, these files, and these beliefs of this store
pub record Knows (core : CoreView) (asked : List (Option Asked)) (bodies files : List (List ℕ)) (store : Store)
    (dump : Option Image) (beliefs : List Belief) : Type 0 where
  pub count : length files ≡ length core.phases
  pub out : ids_of asked ≡ core.outs
  pub sees : IfSome core.opener (SeesStore files core.phases asked)
  pub sure : core.committing ≡ false → dump ≡ None
  pub is_live : core.standing ≡ Open
      → IsLiveOn core.base (history_of core) core.catalog core.grows core.memory core.phases asked bodies
      core.numbers.serial store dump beliefs core.dumper.running
  pub merging : core.standing ≡ Open
      → IsLiveMerge core.phases asked bodies core.numbers.serial store beliefs core.dumper.running core.merger
