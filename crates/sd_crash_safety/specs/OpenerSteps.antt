-- How the steps of an opener keep what a core believes.
use Rattle.std.specs.Prelude.{◌≡◌, ◌≢◌, ℕ, true, List, [], ◌∷◌, length, map, Option, Some, None, slice_get, slice_set}
use Rattle.sd_disk.specs.Contents.{file_at}
use Rattle.sd_gate.specs.declared.phase.Phase.{Phase}
use Rattle.sd_gate.specs.declared.request_id.RequestId.{RequestId}
use Rattle.sd_gate.specs.Calls.{is_done}
use Rattle.sd_gate.specs.Inspections.{the_length}
use Rattle.sd_gate.specs.Phases.{Waits, bodies_after, given_up, phases_after}
use Rattle.sd_gate.specs.Plans.{begun}
use Rattle.sd_gate.specs.Requests.{Asked, Made}
use Rattle.sd_gate.specs.Sequences.{first_looks}
use Rattle.sd_opener.specs.declared.stage.Stage.TheVariants.{Asking}
use Rattle.sd_opener.specs.Looking.{IsDecoded, Looking, LooksFurther, OpenerAsks}
use Rattle.sd_opener.specs.Sees.{IsLookOf, Sees}
use Rattle.sd_rounds.specs.Writes.{no_writes}
use Rattle.sd_crash_safety.specs.declared.standing.Standing.TheVariants.{Open}
use Rattle.sd_crash_safety.specs.Believes.{Believes}
use Rattle.sd_crash_safety.specs.Calls.{NoneOut, WasLookedAt}
use Rattle.sd_crash_safety.specs.Knows.{IsRefound}
use Rattle.sd_crash_safety.specs.View.{CoreView}

-- no worker has a request out; or the opener alone
abbrev pub nobody : List (Option RequestId)
nobody = None ∷ None ∷ None ∷ no_writes

abbrev pub opener_alone : RequestId → List (Option RequestId)
opener_alone id = None ∷ None ∷ Some id ∷ no_writes

-- the journal, the memory and what is known of the store's images are as before; the store isn't open
pub record OnlyOpens (old new : CoreView) : Type 0 where
  pub closed : old.standing ≢ Open
  pub base : new.base ≡ old.base
  pub items : new.items ≡ old.items
  pub memory : new.memory ≡ old.memory
  pub standing : new.standing ≡ old.standing
  pub catalog : new.catalog ≡ old.catalog
  pub dumper : new.dumper ≡ old.dumper
  pub numbers : new.numbers.serial ≡ old.numbers.serial
  pub grows : new.grows ≡ old.grows
  pub committing : new.committing ≡ old.committing

-- an opener begins: all jobs were given up
pub record Reopens (old : CoreView) (opener : Looking) (new : CoreView) : Type 0 where
  pub rest : OnlyOpens old new
  pub outs : new.outs ≡ old.outs
  pub none : old.outs ≡ nobody
  pub phases : new.phases ≡ map given_up old.phases
  pub is : new.opener ≡ Some opener
  pub slots : opener.slots ≡ length old.phases
  pub told : opener.told ≡ []
  pub stage : opener.stage ≡ Asking (begun 0 first_looks the_length)
  pub sees : (files : List (List ℕ)) → length files ≡ opener.slots → Sees files None opener

-- its next call is asked for
pub record LooksOn (old : CoreView) (opener : Looking) (number : ℕ) (request : Asked) (next : Looking)
    (new : CoreView) : Type 0 where
  pub rest : OnlyOpens old new
  pub none : old.outs ≡ nobody
  pub outs : new.outs ≡ opener_alone request.id
  pub phases : new.phases ≡ old.phases
  pub was : old.opener ≡ Some opener
  pub is : new.opener ≡ Some next
  pub asked : OpenerAsks number opener request next
  pub sees : (files : List (List ℕ)) → Sees files None opener → Sees files (Some request) next

-- an open slot was decoded
pub record Decodes (old : CoreView) (opener next : Looking) (new : CoreView) : Type 0 where
  pub rest : OnlyOpens old new
  pub outs : new.outs ≡ old.outs
  pub none : old.outs ≡ nobody
  pub phases : new.phases ≡ old.phases
  pub was : old.opener ≡ Some opener
  pub is : new.opener ≡ Some next
  pub decoded : IsDecoded opener next
  pub sees : (files : List (List ℕ)) → Sees files None opener → Sees files None next

-- an outcome was handed in: the slot's phase is the one after the call
pub record IsHandedToOpener (old : CoreView) (made : Made) (phase : Phase) (new : CoreView) : Type 0 where
  pub rest : OnlyOpens old new
  pub alone : old.outs ≡ opener_alone made.request.id
  pub outs : new.outs ≡ nobody
  pub waits : Waits old.phases made.request.id phase
  pub phases : new.phases ≡ phases_after old.phases made.request.id phase (is_done made.answer)

-- it gave the slot's file, and the opener goes on
pub record IsTaught (old : CoreView) (opener : Looking) (made : Made) (phase : Phase) (next : Looking)
    (new : CoreView) : Type 0 where
  pub handed : IsHandedToOpener old made phase new
  pub done : is_done made.answer ≡ true
  pub was : old.opener ≡ Some opener
  pub is : new.opener ≡ Some next
  pub moves : LooksFurther opener next
  pub sees : (files : List (List ℕ)) → IsLookOf (file_at files (length opener.told)) made.request made
      → Sees files (Some made.request) opener → Sees files None next

-- the opener ends, and what is believed stays
pub record GivesUpOpening (old new : CoreView) : Type 0 where
  pub rest : OnlyOpens old new
  pub outs : new.outs ≡ old.outs
  pub phases : new.phases ≡ old.phases
  pub opener : new.opener ≡ None

pub record OpenerSteps : Type 0 where
  pub reopens : (old new : CoreView) (opener : Looking) (asked : List (Option Asked)) (bodies files : List (List ℕ))
      → Reopens old opener new → Believes old asked bodies files → Believes new asked bodies files
  pub looks : (old new : CoreView) (opener next : Looking) (number : ℕ) (request : Asked) (asked : List (Option Asked))
      (bodies files : List (List ℕ))
      → LooksOn old opener number request next new → Believes old asked bodies files
      → Believes new (slice_set asked 2 (Some request)) bodies files
  pub decodes : (old new : CoreView) (opener next : Looking) (asked : List (Option Asked))
      (bodies files : List (List ℕ))
      → Decodes old opener next new → Believes old asked bodies files → Believes new asked bodies files
  pub teaches : (old new : CoreView) (opener next : Looking) (made : Made) (phase : Phase) (asked : List (Option Asked))
      (bodies files : List (List ℕ))
      → IsTaught old opener made phase next new → slice_get asked 2 ≡ Some (Some made.request)
      → WasLookedAt old.phases bodies files made
      → Believes old asked bodies files
      → Believes new (slice_set asked 2 None) (bodies_after bodies made.request.id made.request.bytes) files
  -- its outcome failed, and it ends
  pub fails : (old new : CoreView) (made : Made) (phase : Phase) (asked : List (Option Asked))
      (bodies files : List (List ℕ))
      → IsHandedToOpener old made phase new → new.opener ≡ None → slice_get asked 2 ≡ Some (Some made.request)
      → Believes old asked bodies files
      → Believes new (slice_set asked 2 None) (bodies_after bodies made.request.id made.request.bytes) files
  pub ends : (old new : CoreView) (asked : List (Option Asked)) (bodies files : List (List ℕ))
      → GivesUpOpening old new → Believes old asked bodies files → Believes new asked bodies files
  -- once it has seen every slot, each is in the phase that its file shows
  pub refinds : (core : CoreView) (opener : Looking) (asked : List (Option Asked)) (bodies files : List (List ℕ))
      → core.opener ≡ Some opener → length opener.told ≡ opener.slots → NoneOut asked → Believes core asked bodies files
      → Sees files None opener
      × ((slot : ℕ) (phase : Phase) → slice_get core.phases slot ≡ Some phase → IsRefound phase)
