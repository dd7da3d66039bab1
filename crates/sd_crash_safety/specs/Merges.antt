-- What a core knows of the merge that runs in an open store.
use Rattle.std.specs.Prelude.{◌≡◌, ◌≢◌, ℕ, ◌<◌, ◌≤◌, List, [], ◌∷◌, length, Option, Some, None, Contains, slice_get}
use Rattle.sd_disk.specs.Contents.{file_at}
use Rattle.sd_image.specs.declared.header.Kind.TheVariants.{Merged}
use Rattle.sd_image.specs.Image.{Image, IsImage, gate}
use Rattle.sd_image.specs.Shows.{Holds, IsRestorable}
use Rattle.sd_gate.specs.declared.call.Call.TheVariants.{Read, Write}
use Rattle.sd_gate.specs.declared.phase.Phase.{Phase}
use Rattle.sd_gate.specs.declared.phase.Phase.TheVariants.{Bare, Whole}
use Rattle.sd_gate.specs.declared.slot_state.SlotState.{SlotState}
use Rattle.sd_gate.specs.declared.slot_state.SlotState.TheVariants.{Open as OpenSlot}
use Rattle.sd_gate.specs.Plans.{Planned}
use Rattle.sd_gate.specs.Requests.{Asked}
use Rattle.sd_gate.specs.Sequences.{data_place}
use Rattle.sd_merge.specs.declared.retired.Retired.{Retired}
use Rattle.sd_merge.specs.declared.source.Source.{Source}
use Rattle.sd_merge.specs.declared.stage.Stage.{Stage as CopyStage}
use Rattle.sd_merge.specs.declared.stage.Stage.TheVariants as copy
use Rattle.sd_merge.specs.Copying.{Copying}
use Rattle.sd_merge.specs.Files.{FilesCopy}
use Rattle.sd_merge.specs.Merger.{Doing, Retiring, due, copying, opened, retiring}
use Rattle.sd_merge.specs.Merger as merger
use Rattle.sd_merge.specs.Merging.{KeepsCopy, listed_places}
use Rattle.sd_merge.specs.Sources.{few_pages, listed_count}
use Rattle.sd_rounds.specs.declared.image_order.ImageOrder.{ImageOrder}
use Rattle.sd_rounds.specs.declared.stage.Stage.{Stage}
use Rattle.sd_rounds.specs.declared.stage.Stage.TheVariants.{Format, Pass as PassStage, Close}
use Rattle.sd_rounds.specs.Dumper.{IsReserved, Running}
use Rattle.sd_rounds.specs.Making.{Making}
use Rattle.sd_writing.specs.Files.{Pages}
use Rattle.sd_writing.specs.Entries.{Place}
use Rattle.sd_store_laws.specs.Beliefs.{Belief, Kept, Opening, image_at}
use Rattle.sd_store_laws.specs.Needs.{IsNeededIn}
use Rattle.sd_store_laws.specs.Reached.{Reaches}
use Rattle.sd_store_laws.specs.Store.{Store}
use Rattle.sd_crash_safety.specs.LiveImages.{IsSlotFor, body_written}

-- the checkpoint that runs, if one does, doesn't fill this slot
abbrev pub IsSpared : Option Running → ℕ → Type 0
IsSpared None slot = Unit {0}
IsSpared (Some running) slot = IsReserved running slot → ⊥

-- the image that the checkpoint makes, if it makes one, has another serial
abbrev pub IsOtherImage : Option Making → ℕ → Type 0
IsOtherImage None serial = Unit {0}
IsOtherImage (Some image) serial = image.order.serial ≢ serial

-- the image that the checkpoint is making, if it makes one, has another serial
abbrev pub MakesOther : Option Running → ℕ → Type 0
MakesOther None serial = Unit {0}
MakesOther (Some running) serial = IsOtherImage running.image serial

-- each image of the catalog was spelled by some file
abbrev pub AreSpelled : Store → Type 0
AreSpelled store = (i : Image) → Contains store.catalog i → (file : List ℕ) × IsImage file i

-- no merge runs
pub record IsUnmerged (store : Store) : Type 0 where
  pub source : store.source ≡ None
  pub work : store.work ≡ []

-- ---- what a merge needs: its source, and the slot of its image

-- The image that is merged stands in a slot that nobody fills, and is the one that the merge was begun with. It holds
-- each page that it lists.
pub record IsSourceOn (store : Store) (beliefs : List Belief) (running : Option Running) (target : ℕ) (source : Source)
    (image : Image) : Type 0 where
  pub is : store.source ≡ Some image
  pub work : store.work ≡ image.header.parent ∷ []
  pub serial : source.serial ≡ image.header.serial
  pub stands : source.stands_for ≡ image.header.stands_for
  pub checkpoint : source.checkpoint ≡ image.header.checkpoint
  pub pages : source.pages ≡ few_pages (listed_count image.spaces)
  pub restorable : IsRestorable image
  pub some : 0 < image.header.checkpoint
  pub slot : ℕ
  pub kept : slice_get beliefs slot ≡ Some (Kept image)
  pub spared : IsSpared running slot
  pub apart : slot ≢ target
  pub held : (at : Place) → Contains (listed_places image.spaces) at
      → (bytes : List ℕ) × Holds store.catalog at.0 at.1 bytes image

-- nobody else fills the slot of the merged image, and nobody needs what stands in it
pub record IsTargetOn (phases : List Phase) (store : Store) (beliefs : List Belief) (running : Option Running)
    (slot : ℕ) : Type 0 where
  pub within : slot < length phases
  pub spared : IsSpared running slot
  pub unneeded : (i : Image) → image_at beliefs slot ≡ Some i → IsNeededIn store i → ⊥

-- ---- the merged image in the making

-- what is done in its slot: nothing while a page of its source is read
abbrev pub stage_in_slot : CopyStage → Stage
stage_in_slot (copy.Format plan) = Format plan
stage_in_slot copy.Pass = PassStage
stage_in_slot (copy.PageRead plan) = PassStage
stage_in_slot (copy.PageWrite plan) = PassStage
stage_in_slot (copy.Close plan header tables) = Close plan header tables

-- the request of its plan that is out on its slot
abbrev pub request_in_slot : CopyStage → Option Asked → Option Asked
request_in_slot (copy.Format plan) request = request
request_in_slot copy.Pass request = request
request_in_slot (copy.PageRead plan) request = None
request_in_slot (copy.PageWrite plan) request = None
request_in_slot (copy.Close plan header tables) request = request

-- the write of a page that is out on its slot
abbrev pub lanes_in_slot : CopyStage → Option Asked → List (Option Asked)
lanes_in_slot (copy.Format plan) request = []
lanes_in_slot copy.Pass request = []
lanes_in_slot (copy.PageRead plan) request = []
lanes_in_slot (copy.PageWrite plan) request = request ∷ []
lanes_in_slot (copy.Close plan header tables) request = []

-- a slot as that of an image which nobody acknowledges
abbrev pub order_of_slot : ℕ → SlotState → ImageOrder
order_of_slot slot state = record { slot = slot; state = state; kind = Merged; serial = 0; parent = 0; checkpoint = 0 }

-- A page of the source is read: it is in an image that the source reaches, whose slot nobody fills.
pub record IsReadOn (phases : List Phase) (bodies : List (List ℕ)) (store : Store) (beliefs : List Belief)
    (running : Option Running) (target : ℕ)
    (source : Image) (page : Option Place) (request : Asked) : Type 0 where
  pub at : Place
  pub taking : page ≡ Some at
  pub image : Image
  pub kept : slice_get beliefs request.id.slot ≡ Some (Kept image)
  pub phase_is : slice_get phases request.id.slot ≡ Some Whole
  pub spelled : IsImage (gate ∷ file_at bodies request.id.slot) image
  pub spared : IsSpared running request.id.slot
  pub apart : request.id.slot ≢ target
  pub reached : Reaches store.catalog image source
  pub place : ℕ
  pub call : request.id.call ≡ Read (data_place place)
  pub whole : length request.bytes ≡ 4096
  pub bytes : List ℕ
  pub stored : slice_get image.pages place ≡ Some bytes
  pub holds : Holds store.catalog at.0 at.1 bytes source

-- A page is written after the gate of its slot: nothing is left of the plan.
pub record IsWriteOn (target : ℕ) (plan : Planned) (request : Asked) : Type 0 where
  pub on : request.id.slot ≡ target
  pub last : plan.calls ≡ []
  pub place : ℕ
  pub call : request.id.call ≡ Write (data_place place)

-- which request of the merger is out
abbrev pub IsAskedIn : CopyStage → List Phase → List (List ℕ) → Store → List Belief → Option Running → ℕ → Image
    → Option Place → Option Asked → Type 0
IsAskedIn (copy.PageRead plan) phases bodies store beliefs running target source page None = ⊥
IsAskedIn (copy.PageRead plan) phases bodies store beliefs running target source page (Some request) =
    IsReadOn phases bodies store beliefs running target source page request
IsAskedIn (copy.PageWrite plan) phases bodies store beliefs running target source page None = ⊥
IsAskedIn (copy.PageWrite plan) phases bodies store beliefs running target source page (Some request) =
    IsWriteOn target plan request
IsAskedIn _ phases bodies store beliefs running target source page None = Unit {0}
IsAskedIn _ phases bodies store beliefs running target source page (Some request) = request.id.slot ≡ target

-- the merged image is a copy of its source so far, and its slot is ready for it
pub record IsCopyOn (phases : List Phase) (asked : List (Option Asked)) (bodies : List (List ℕ)) (last : ℕ)
    (store : Store) (beliefs : List Belief)
    (running : Option Running) (target : ℕ) (source : Image) (made : Copying) : Type 0 where
  pub pages : Pages
  pub keeps : KeepsCopy store.catalog source pages made
  pub files : FilesCopy source pages made
  pub serial : made.order.serial ≤ last
  pub other : MakesOther running made.order.serial
  pub above : (j : Image) → Contains store.catalog j → j.header.stands_for ≡ source.header.stands_for
      → j.header.serial < made.order.serial
  pub others : (slot : ℕ) (j : Image) → image_at beliefs slot ≡ Some j → slot ≢ target
      → j.header.serial ≢ made.order.serial
  pub phase : Phase
  pub phase_is : slice_get phases target ≡ Some phase
  pub belief : Belief
  pub belief_is : slice_get beliefs target ≡ Some belief
  pub request : Option Asked
  pub own : slice_get asked 1 ≡ Some request
  pub asked_in : IsAskedIn made.stage phases bodies store beliefs running target source made.taking request
  pub slot_is : IsSlotFor (stage_in_slot made.stage) (order_of_slot target made.order.state) pages phase
      (body_written (file_at bodies target) (lanes_in_slot made.stage request))
      (request_in_slot made.stage request) belief None

-- ---- the images that are closed

-- an image of the list that is still to be closed: nobody needs it, and nobody fills its slot
pub record IsListedOn (store : Store) (beliefs : List Belief) (running : Option Running) (one : Retired) : Type 0 where
  pub image : Image
  pub has : image_at beliefs one.slot ≡ Some image
  pub unneeded : IsNeededIn store image → ⊥
  pub spared : IsSpared running one.slot

-- the one that is being closed
pub record IsRetiredOn (phases : List Phase) (asked : List (Option Asked)) (bodies : List (List ℕ)) (store : Store)
    (beliefs : List Belief)
    (running : Option Running) (r : Retiring) (one : Retired) : Type 0 where
  pub phase : Phase
  pub phase_is : slice_get phases one.slot ≡ Some phase
  pub belief : Belief
  pub belief_is : slice_get beliefs one.slot ≡ Some belief
  pub unneeded : (i : Image) → image_at beliefs one.slot ≡ Some i → IsNeededIn store i → ⊥
  pub spared : IsSpared running one.slot
  pub request : Option Asked
  pub own : slice_get asked 1 ≡ Some request
  pub asked_at : (out : Asked) → request ≡ Some out → out.id.slot ≡ one.slot
  pub slot_is : IsSlotFor (Format r.plan) (order_of_slot one.slot OpenSlot) [] phase
      (file_at bodies one.slot) request belief None

-- one that is closed, and whose file was cut to one byte
pub record IsCutOn (phases : List Phase) (running : Option Running) (one : Retired) : Type 0 where
  pub bare : slice_get phases one.slot ≡ Some Bare
  pub spared : IsSpared running one.slot

pub record IsRetiringOn (phases : List Phase) (asked : List (Option Asked)) (bodies : List (List ℕ)) (store : Store)
    (beliefs : List Belief)
    (running : Option Running) (r : Retiring) : Type 0 where
  pub alone : IsUnmerged store
  pub one : Retired
  pub there : slice_get r.list r.ended ≡ Some one
  pub closes : IsRetiredOn phases asked bodies store beliefs running r one
  pub before : (place : ℕ) (other : Retired) → place < r.ended → slice_get r.list place ≡ Some other
      → IsCutOn phases running other
  pub later : (place : ℕ) (other : Retired) → r.ended < place → slice_get r.list place ≡ Some other
      → IsListedOn store beliefs running other
  pub apart : (place other : ℕ) (a b : Retired) → place < other → slice_get r.list place ≡ Some a
      → slice_get r.list other ≡ Some b → a.slot ≢ b.slot

-- ---- all of it

-- What is known of a merge that repeats its source: an image whose gate is being opened in another slot stands for
-- another number.
pub record IsRepeating (phases : List Phase) (store : Store) (beliefs : List Belief) (running : Option Running)
    (target : ℕ) (origin : Source) : Type 0 where
  pub image : Image
  pub source : IsSourceOn store beliefs running target origin image
  pub slot : IsTargetOn phases store beliefs running target
  pub opening : (slot : ℕ) (j : Image) → slice_get beliefs slot ≡ Some (Opening j) → slot ≢ target
      → j.header.stands_for ≢ image.header.stands_for

-- none of its calls is out
abbrev pub IsSilent : List (Option Asked) → Type 0
IsSilent asked = slice_get asked 1 ≡ Some None

pub record IsCopyOfSource (phases : List Phase) (asked : List (Option Asked)) (bodies : List (List ℕ)) (last : ℕ)
    (store : Store) (beliefs : List Belief)
    (running : Option Running) (target : ℕ) (origin : Source) (made : Copying) : Type 0 where
  pub repeats : IsRepeating phases store beliefs running target origin
  pub order : (made.order.source ≡ origin) × (made.order.slot ≡ target)
  pub copy : IsCopyOn phases asked bodies last store beliefs running target repeats.image made

abbrev pub IsMergeAt : List Phase → List (Option Asked) → List (List ℕ) → ℕ → Store → List Belief → Option Running → ℕ
    → Source → Doing → Type 0
IsMergeAt phases asked bodies last store beliefs running target origin due =
    IsRepeating phases store beliefs running target origin × IsSilent asked
IsMergeAt phases asked bodies last store beliefs running target origin (copying made) =
    IsCopyOfSource phases asked bodies last store beliefs running target origin made
IsMergeAt phases asked bodies last store beliefs running target origin (opened serial) = ⊥
IsMergeAt phases asked bodies last store beliefs running target origin (retiring r) =
    IsRetiringOn phases asked bodies store beliefs running r

abbrev pub IsMergeOn : List Phase → List (Option Asked) → List (List ℕ) → ℕ → Store → List Belief → Option Running
    → Option merger.Running → Type 0
IsMergeOn phases asked bodies last store beliefs running None = IsUnmerged store × IsSilent asked
IsMergeOn phases asked bodies last store beliefs running (Some merge) =
    IsMergeAt phases asked bodies last store beliefs running merge.slot merge.source merge.doing

-- with these beliefs of this store
pub record IsLiveMerge (phases : List Phase) (asked : List (Option Asked)) (bodies : List (List ℕ)) (last : ℕ)
    (store : Store) (beliefs : List Belief)
    (running : Option Running) (merge : Option merger.Running) : Type 0 where
  pub spelled : AreSpelled store
  pub is : IsMergeOn phases asked bodies last store beliefs running merge
