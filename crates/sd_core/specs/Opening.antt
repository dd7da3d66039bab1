-- The opener of a core.
use Rattle.std.specs.Prelude.{◌≡◌, ◌≢◌, ◌⊎◌, ℕ, ◌+◌, Bool, true, false, if◌then◌else◌, List, [], length, Contains}
use Rattle.std.specs.Prelude.{Option, Some, None, Result, Ok, Err}
use Rattle.sd_disk.specs.Contents.{file_at}
use Rattle.sd_gate.specs.Calls.{is_done}
use Rattle.sd_gate.specs.Inspections.{the_length}
use Rattle.sd_gate.specs.Plans.{begun}
use Rattle.sd_command.specs.declared.refusal.Refusal.TheVariants.{Damaged}
use Rattle.sd_command.specs.declared.reply.Reply.{Reply}
use Rattle.sd_command.specs.declared.reply.Reply.TheVariants as reply
use Rattle.sd_gate.specs.Fits.{DiskLeaves}
use Rattle.sd_gate.specs.Requests.{Asked, Made}
use Rattle.sd_gate.specs.Sequences.{first_looks}
use Rattle.sd_opener.specs.declared.stage.Stage.TheVariants.{Asking}
use Rattle.sd_image.specs.declared.reason.Reason.{Reason}
use Rattle.sd_image.specs.Image.{Image}
use Rattle.sd_image.specs.Shows.{IsRestorable, IsStore, IsTip, Shows}
use Rattle.sd_journal.specs.Allowed.{Shown, shown_number}
use Rattle.sd_journal.specs.History.{last, pending}
use Rattle.sd_journal.specs.Kept.{JournalView}
use Rattle.sd_opener.specs.declared.opened.Opened.{Opened}
use Rattle.sd_opener.specs.declared.opener_step.OpenerStep.{OpenerStep}
use Rattle.sd_opener.specs.Left.{LowersByStep, LowersLooking}
use Rattle.sd_opener.specs.Looking.{IsDoneAsAsked, Looking, LooksFurther, StepMoves, out_of_look}
use Rattle.sd_opener.specs.Sees.{IsLookOf, Sees, SeesAfter, StepNames, StoreIsRead}
use Rattle.sd_restore.specs.Faulty.{IsDamage, IsFirstFaulty}
use Rattle.sd_restore.specs.Reading.{AreRightlyDigested}
use Rattle.sd_crash_safety.specs.Believes.{Believes}
use Rattle.sd_crash_safety.specs.View.{CoreView, history_of}
use Rattle.sd_core.specs.declared.taken.Taken.{Taken}
use Rattle.sd_core.specs.Grown.{has_visited_all}
use Rattle.sd_core.specs.declared.taken.Taken.TheVariants.{Step, Call}

-- a step of the opener
pub record WorksOpener (old : Option Looking) (number : ℕ) (step : OpenerStep) (new : Option Looking) : Type 0 where
  pub opener : Looking
  pub next : Looking
  pub was : old ≡ Some opener
  pub is : new ≡ Some next
  pub moves : StepMoves number opener step next
  pub slots : next.slots ≡ opener.slots
  pub rests : out_of_look opener.stage ≡ None
  pub lowers : LowersByStep step opener next
  pub sees : (files : List (List ℕ)) → Sees files None opener → SeesAfter files step next
  pub names : (files : List (List ℕ)) → Sees files None opener → AreRightlyDigested files
      → StepNames (IsFirstFaulty files) step

-- an opener runs, and has no request out
pub record IsResting (opener : Option Looking) : Type 0 where
  pub looking : Looking
  pub is : opener ≡ Some looking
  pub rests : out_of_look looking.stage ≡ None

-- an opener of so many slots, none of which was looked at
pub record IsFreshOpener (slots : ℕ) (opener : Looking) : Type 0 where
  pub count : opener.slots ≡ slots
  pub told : opener.told ≡ []
  pub stage : opener.stage ≡ Asking (begun 0 first_looks the_length)
  pub sees : (files : List (List ℕ)) → length files ≡ slots → Sees files None opener

-- the held entries with the opener's: while a checkpoint is pending its own serves
abbrev pub with_opening : Option ℕ → ℕ → ℕ
with_opening None held = held + 1
with_opening (Some n) held = held

-- the entries and the limit are as before, and so many are held
pub record HoldsEntries (old : JournalView) (count : ℕ) (new : JournalView) : Type 0 where
  pub first : new.first ≡ old.first
  pub items : new.items ≡ old.items
  pub limit : new.limit ≡ old.limit
  pub held : new.held ≡ count

abbrev pub HoldsForOpening : {T E : Type 0} → Option ℕ → JournalView → Result T E → JournalView → Type 0
HoldsForOpening pending old (Ok done) new = HoldsEntries old (with_opening pending old.held) new
HoldsForOpening pending old (Err why) new = new ≡ old

pub record LetsGo (pending : Option ℕ) (old new : JournalView) : Type 0 where
  pub first : new.first ≡ old.first
  pub items : new.items ≡ old.items
  pub limit : new.limit ≡ old.limit
  pub held : with_opening pending new.held ≡ old.held

-- the number that a store shows is the last or the pending one
abbrev pub IsExpected : Option ℕ → Option ℕ → Option ℕ → Type 0
IsExpected last pending found = (found ≡ last) ⊎ ((pending ≢ None) × (found ≡ pending))

-- the checkpoint of the newest dump or merged image of these, or none where there is none
abbrev pub IsTipNumber : List Image → Option ℕ → Type 0
IsTipNumber images None = (i : Image) → Contains images i → IsRestorable i → ⊥
IsTipNumber images (Some n) = (i : Image) × IsTip images i × (i.header.checkpoint ≡ n)

-- every open slot of the files is an image with a serial of its own, and the tip has the last checkpoint's number, or
-- the pending one's
pub record IsOwnStore (last pending : Option ℕ) (files : List (List ℕ)) : Type 0 where
  pub images : List Image
  pub store : IsStore files images
  pub number : Option ℕ
  pub tip : IsTipNumber images number
  pub expected : IsExpected last pending number

-- the files that an opener saw are no such store
abbrev pub SawStrange : Looking → Option ℕ → Option ℕ → Type 0
SawStrange opener last pending = (files : List (List ℕ)) → Sees files None opener → length opener.told ≡ length files
    → IsOwnStore last pending files → ⊥

-- a scan of these files names a slot, and the reason
pub record IsDamaged (files : List (List ℕ)) : Type 0 where
  pub slot : ℕ
  pub reason : Reason
  pub damage : IsDamage files slot reason

-- these files are a store, whose tip has neither the last checkpoint's number nor the pending one's
pub record IsOtherStore (last pending : Option ℕ) (files : List (List ℕ)) : Type 0 where
  pub images : List Image
  pub store : IsStore files images
  pub other : (number : Option ℕ) → IsTipNumber images number → IsExpected last pending number → ⊥

abbrev pub IsDamagedOrOther : Option ℕ → Option ℕ → List (List ℕ) → Type 0
IsDamagedOrOther last pending files = IsDamaged files ⊎ IsOtherStore last pending files

-- So are the files that an opener saw, as far as it can know: it checks no digest.
abbrev pub SawDamage : Looking → Option ℕ → Option ℕ → Type 0
SawDamage opener last pending =
    (files : List (List ℕ)) → Sees files None opener → length opener.told ≡ length files → AreRightlyDigested files
    → IsDamagedOrOther last pending files

-- the pending checkpoint, once the pass of its dump is over: only then the store may show it
abbrev pub awaited_checkpoint : CoreView → Option ℕ
awaited_checkpoint core = if has_visited_all core.items then pending (history_of core) else None

-- A store is refused as damaged only where it isn't one that shows the last checkpoint or the one that is awaited.
abbrev pub RefusesStrange : CoreView → Reply → Type 0
RefusesStrange core answer = answer ≡ reply.Refused Damaged → (opener : Looking) → core.opener ≡ Some opener
    → (files : List (List ℕ)) → Sees files None opener
    → IsOwnStore (last core.base (history_of core)) (awaited_checkpoint core) files → ⊥

abbrev pub RefusesRightly : CoreView → Taken → Type 0
RefusesRightly core (Step answer) = RefusesStrange core answer
RefusesRightly core (Call request) = Unit {0}

-- A store is refused as damaged only where a scan names one of its slots, or where it shows neither the last checkpoint
-- nor the one that is awaited.
abbrev pub RefusesDamage : CoreView → Reply → Type 0
RefusesDamage core answer = answer ≡ reply.Refused Damaged → (opener : Looking) → core.opener ≡ Some opener
    → (files : List (List ℕ)) → Sees files None opener
    → AreRightlyDigested files → IsDamagedOrOther (last core.base (history_of core)) (awaited_checkpoint core) files

abbrev pub RefusesAsScan : CoreView → Taken → Type 0
RefusesAsScan core (Step answer) = RefusesDamage core answer
RefusesAsScan core (Call request) = Unit {0}

-- A store is opened only where it shows the last checkpoint or the one that is awaited.
abbrev pub OpensOwn : CoreView → Taken → Type 0
OpensOwn core made = (found : Option ℕ) → made ≡ Step (reply.Reopened found)
    → IsExpected (last core.base (history_of core)) (awaited_checkpoint core) found

-- Where the store is as it is believed to be, it isn't refused as damaged.
abbrev pub OpensBelieved : CoreView → Taken → Type 0
OpensBelieved core made = (asked : List (Option Asked)) (bodies files : List (List ℕ))
    → Believes core asked bodies files → DiskLeaves core.phases bodies files
    → made ≢ Step (reply.Refused Damaged)

-- What was read of a store that shows the last checkpoint or the pending one.
pub record OpensAnew (opener : Looking) (last pending : Option ℕ) (opened : Opened) (found : Option ℕ) : Type 0 where
  pub expected : IsExpected last pending found
  pub told : opened.phases.items ≡ opener.told
  pub read : (files : List (List ℕ)) → Sees files None opener → length opener.told ≡ length files
      → (shown : Shown) → Shows files shown → StoreIsRead files opened
  pub number : (files : List (List ℕ)) → Sees files None opener → length opener.told ≡ length files
      → (shown : Shown) → Shows files shown → shown_number shown ≡ found

-- an outcome that is handed to the opener, and whether it goes on
pub record OpenerGoesOn (old : Looking) (made : Made) (new : Looking) : Type 0 where
  pub done : out_of_look old.stage ≡ Some made.request.id → is_done made.answer ≡ true
  pub moves : LooksFurther old new
  pub slots : new.slots ≡ old.slots
  pub free : out_of_look old.stage ≡ Some made.request.id → out_of_look new.stage ≡ None
  pub lowers : out_of_look old.stage ≡ Some made.request.id → LowersLooking old new
  pub sees : (files : List (List ℕ)) → IsLookOf (file_at files (length old.told)) made.request made
      → Sees files (Some made.request) old → Sees files None new

abbrev pub TeachesOpener : Option Looking → Made → Bool → Option Looking → Type 0
TeachesOpener None made goes new = (goes ≡ false) × (new ≡ None)
TeachesOpener (Some opener) made true new = (next : Looking) × (new ≡ Some next) × OpenerGoesOn opener made next
TeachesOpener (Some opener) made false new = out_of_look opener.stage ≡ Some made.request.id → IsDoneAsAsked made → ⊥

-- every slot was read
pub record IsAllRead (opener : Option Looking) : Type 0 where
  pub looking : Looking
  pub is : opener ≡ Some looking
  pub all : length looking.told ≡ looking.slots
  pub rests : out_of_look looking.stage ≡ None
