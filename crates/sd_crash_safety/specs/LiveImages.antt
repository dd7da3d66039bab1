-- What a core knows of a store that is open: of its catalog, of the numbers that were used, and of the checkpoint that
-- runs.
use Rattle.std.specs.Prelude.{◌≡◌, ◌≢◌, ℕ, ◌+◌, ◌<◌, ◌≤◌, Bool, true, false, ◌==◌, ◌&&◌, ◌||◌, nat_lt, is_some, List}
use Rattle.std.specs.Prelude.{[], ◌∷◌, drop, length, map, Option, Some, None, Contains, IfSome, slice_get}
use Rattle.std.specs.Option.{option_map}
use Rattle.sd_disk.specs.Contents.{file_at}
use Rattle.sd_image.specs.declared.header.Kind.{Kind}
use Rattle.sd_image.specs.declared.header.Kind.TheVariants.{PreDump, Dump, Merged}
use Rattle.sd_image.specs.Image.{Image, image_text}
use Rattle.sd_image.specs.Shows.{IsRestorable, IsTip}
use Rattle.sd_image.specs.Table.{table_text}
use Rattle.sd_chain.specs.Catalog.{Places}
use Rattle.sd_gate.specs.declared.call.Call.{Call}
use Rattle.sd_gate.specs.declared.call.Call.TheVariants.{Write, Close as CloseCall}
use Rattle.sd_gate.specs.declared.phase.Phase.{Phase}
use Rattle.sd_gate.specs.declared.request_id.RequestId.{RequestId}
use Rattle.sd_gate.specs.declared.phase.Phase.TheVariants.{Bare, Whole, Writing}
use Rattle.sd_gate.specs.Laws.{Leads, pages_body}
use Rattle.sd_gate.specs.Phases.{body_after, closing, filled, may_write}
use Rattle.sd_gate.specs.Plans.{Planned}
use Rattle.sd_gate.specs.Requests.{Asked}
use Rattle.sd_gate.specs.Sequences.{Calls, body_calls, data_place, format_calls}
use Rattle.sd_journal.specs.History.{Base, History, at_freeze, pending}
use Rattle.sd_pagetable.specs.Contents.{Contents, plain_of}
use Rattle.sd_rounds.specs.declared.image_order.ImageOrder.{ImageOrder}
use Rattle.sd_rounds.specs.declared.stage.Stage.{Stage}
use Rattle.sd_rounds.specs.declared.stage.Stage.TheVariants.{Format, Freeze, Pass as PassStage, Close}
use Rattle.sd_rounds.specs.Dumper.{IsReserved, Running, slot_of, writes_of_running}
use Rattle.sd_rounds.specs.Files.{FilesImage, HasAreasAtFreeze}
use Rattle.sd_rounds.specs.Keeps.{Chain, Rests}
use Rattle.sd_rounds.specs.Making.{Making, is_frozen_dump, is_passing}
use Rattle.sd_rounds.specs.MakingLaws.{DumpsImage, KeepsImage}
use Rattle.sd_writing.specs.Files.{Pages, image_of}
use Rattle.sd_rounds.specs.Writes.{no_writes}
use Rattle.sd_store_laws.specs.Beliefs.{Belief, Closed, Opening, image_at}
use Rattle.sd_store_laws.specs.Gates.{IsBelievedAs}
use Rattle.sd_store_laws.specs.ShownStays.{IsUnused}
use Rattle.sd_store_laws.specs.LiveImages.{IsLiveCatalog}
use Rattle.sd_store_laws.specs.Makers.{IsAboveStore}
use Rattle.sd_store_laws.specs.Needs.{IsNeededIn}
use Rattle.sd_store_laws.specs.Store.{Store, jobs}

-- the images of a store, below an image with this number as its parent
abbrev pub chain_of : Store → ℕ → Chain
chain_of store number = record { images = store.catalog; number = number }

abbrev pub id_of : Asked → RequestId
id_of request = request.id

-- the ids of the requests that are out
abbrev pub ids_of : List (Option Asked) → List (Option RequestId)
ids_of = map (option_map id_of)

-- the requests that are out in the lanes of the writes of data pages
abbrev pub lanes_of : List (Option Asked) → List (Option Asked)
lanes_of asked = drop 3 asked

-- no request is out on a slot
abbrev pub NoneAt : List (Option Asked) → ℕ → Type 0
NoneAt asked slot =
    (worker : ℕ) (request : Asked) → slice_get asked worker ≡ Some (Some request) → request.id.slot ≢ slot

-- ---- numbers

-- The last serial that was given out, or found, is above none of the store's numbers, and of none that stands in a
-- slot.
pub record AreUsed (last : ℕ) (store : Store) (beliefs : List Belief) : Type 0 where
  pub above : IsAboveStore store (last + 1)
  pub slots : (slot : ℕ) (i : Image) → image_at beliefs slot ≡ Some i → i.header.serial ≤ last

-- An image of this serial may still enter the catalog: nobody has it as its serial or its number, or asks for it.
pub record IsNewNumber (store : Store) (number : ℕ) : Type 0 where
  pub serial : (j : Image) → Contains store.catalog j → j.header.serial ≢ number
  pub unused : IsUnused store.catalog (jobs store) number
  pub apart : IfSome store.source (λ source. source.header.stands_for ≢ number)

-- ---- the slot of the image that is being made

-- the calls that its plan makes from now on, with the one that is out
abbrev pub calls_left : Option Asked → Planned → Calls
calls_left None plan = plan.calls
calls_left (Some request) plan = (request.id.call, request.bytes) ∷ plan.calls

-- the kinds of these calls
abbrev pub kind_of_call : Call × List ℕ → Call
kind_of_call c = c.0

-- so many of these calls were made, and the others are left, with the one that is out
abbrev pub AreLeft : Calls → ℕ → Option Asked → Planned → Type 0
AreLeft all place request plan = map kind_of_call (calls_left request plan) ≡ drop place (map kind_of_call all)

-- what a slot is believed to be while it is formatted, also while a close of it is out
abbrev pub IsFormatted : Phase → List ℕ → Option Asked → Belief → Type 0
IsFormatted phase body None belief = IsBelievedAs phase body belief
IsFormatted phase body (Some request) belief = (request.id.call ≡ CloseCall → IsBelievedAs (closing phase) body belief)
    × (request.id.call ≢ CloseCall → IsBelievedAs phase body belief)

-- the write of a data page of a slot
pub record IsPageOf (slot : ℕ) (request : Asked) : Type 0 where
  pub on : request.id.slot ≡ slot
  pub place : ℕ
  pub call : request.id.call ≡ Write (data_place place)
  pub whole : length request.bytes ≡ 4096

-- each lane has the write of a data page of a slot, or none; no two write the same page
pub record ArePagesOf (slot : ℕ) (lanes : List (Option Asked)) : Type 0 where
  pub each : (lane : ℕ) (request : Asked) → slice_get lanes lane ≡ Some (Some request) → IsPageOf slot request
  pub apart : (one other : ℕ) (a b : Asked) → slice_get lanes one ≡ Some (Some a)
      → slice_get lanes other ≡ Some (Some b)
      → a.id.call ≡ b.id.call → one ≡ other

-- a body once the writes that are out are done
abbrev pub body_written : List ℕ → List (Option Asked) → List ℕ
body_written body [] = body
body_written body (None ∷ lanes) = body_written body lanes
body_written body (Some request ∷ lanes) = body_written (body_after body request.id.call request.bytes) lanes

-- a slot that is closed for sure, and has these data pages after the gate
pub record IsFilledSlot (pages : Pages) (phase : Phase) (body : List ℕ) (belief : Belief) : Type 0 where
  pub writes : may_write phase ≡ true
  pub fills : filled phase ≡ Writing
  pub spelled : body ≡ pages_body pages
  pub closed : belief ≡ Closed

-- one that is being formatted
pub record IsFormatting (order : ImageOrder) (plan : Planned) (phase : Phase) (body : List ℕ) (request : Option Asked)
    (belief : Belief) : Type 0 where
  pub place : ℕ
  pub on : plan.slot ≡ order.slot
  pub left : AreLeft (format_calls order.state) place request plan
  pub leads : Leads phase body (calls_left request plan) Bare []
  pub formatted : IsFormatted phase body request belief

-- the dump of a running checkpoint whose gate is being opened is the pending one
abbrev pub pending_dump : Kind → Image → Option Image
pending_dump PreDump i = None
pending_dump Dump i = Some i
pending_dump Merged i = None

-- the gate's opening, which is the fourth call of a body that is closed, was taken up
abbrev pub is_opening_at : ℕ → Option Asked → Bool
is_opening_at place request = nat_lt 3 place || (place == 3 && is_some request)

-- one that holds the image in the end: it is closed until the gate's opening is taken up, and then being opened
pub record ClosesBody (order : ImageOrder) (i : Image) (plan : Planned) (phase : Phase) (body : List ℕ)
    (request : Option Asked) (belief : Belief) (dump : Option Image) : Type 0 where
  pub place : ℕ
  pub on : plan.slot ≡ order.slot
  pub left : AreLeft (body_calls i.header (table_text i.spaces)) place request plan
  pub leads : Leads phase body (calls_left request plan) Whole (image_text i)
  pub shut : is_opening_at place request ≡ false → (belief ≡ Closed) × (dump ≡ None)
  pub opening : is_opening_at place request ≡ true → (belief ≡ Opening i) × (dump ≡ pending_dump order.kind i)

-- a slot with this body once the writes of data pages that are out are done
abbrev pub IsSlotFor : Stage → ImageOrder → Pages → Phase → List ℕ → Option Asked → Belief → Option Image → Type 0
IsSlotFor (Format plan) order pages phase body request belief dump =
    IsFormatting order plan phase body request belief × (dump ≡ None)
IsSlotFor Freeze order pages phase body request belief dump =
    IsFilledSlot pages phase body belief × (request ≡ None) × (dump ≡ None)
IsSlotFor PassStage order pages phase body request belief dump =
    IsFilledSlot pages phase body belief × (request ≡ None) × (dump ≡ None)
IsSlotFor (Close plan header tables) order pages phase body request belief dump =
    ClosesBody order (image_of header pages tables) plan phase body request belief dump

-- ---- the checkpoint that runs

-- the memory was frozen as `cut` for the running checkpoint
pub record IsFrozenAs (base : Base) (history : History) (number : ℕ) (memory : Contents) (pages : Pages) (chain : Chain)
    (image : Making) : Type 0 where
  pub cut : Contents
  pub pends : pending history ≡ Some number
  pub shown : at_freeze base history number ≡ Some (plain_of cut)
  pub still : plain_of memory ≡ plain_of cut
  pub dumps : DumpsImage cut pages chain image memory
  pub areas : HasAreasAtFreeze cut image

-- an image that is being made
pub record IsMakingOn (base : Base) (history : History) (memory : Contents) (phases : List Phase)
    (asked : List (Option Asked)) (bodies : List (List ℕ))
    (last : ℕ) (store : Store) (dump : Option Image) (beliefs : List Belief) (parent number : ℕ)
    (image : Making) : Type 0 where
  pub pages : Pages
  pub keeps : KeepsImage pages (chain_of store parent) image memory
  pub files : FilesImage pages image
  pub frozen : is_frozen_dump image ≡ true → IsFrozenAs base history number memory pages (chain_of store parent) image
  pub serial : image.order.serial ≤ last
  pub fresh : IsNewNumber store image.order.serial
  pub low : parent < image.order.serial
  pub others : (slot : ℕ) (i : Image) → image_at beliefs slot ≡ Some i → slot ≢ image.order.slot
      → i.header.serial ≢ image.order.serial
  pub phase : Phase
  pub phase_is : slice_get phases image.order.slot ≡ Some phase
  pub belief : Belief
  pub belief_is : slice_get beliefs image.order.slot ≡ Some belief
  pub request : Option Asked
  pub own : slice_get asked 0 ≡ Some request
  pub asked_at : IfSome request (λ r. r.id.slot ≡ image.order.slot)
  pub rests : is_passing image.stage ≡ false → image.writes ≡ no_writes
  pub writing : ArePagesOf image.order.slot (lanes_of asked)
  pub slot_is : IsSlotFor image.stage image.order pages phase
      (body_written (file_at bodies image.order.slot) (lanes_of asked)) request belief dump

-- between two images the parent's number gives each clean page
pub record IsBetween (memory : Contents) (asked : List (Option Asked)) (store : Store) (dump : Option Image)
    (parent : ℕ) : Type 0 where
  pub rests : parent ≢ 0 → Rests (chain_of store parent) memory
  pub none : slice_get asked 0 ≡ Some None
  pub alone : dump ≡ None

abbrev pub IsImageOn : Base → History → Contents → List Phase → List (Option Asked) → List (List ℕ) → ℕ → Store
    → Option Image → List Belief → ℕ → ℕ → Option Making → Type 0
IsImageOn base history memory phases asked bodies last store dump beliefs parent number None =
    IsBetween memory asked store dump parent
IsImageOn base history memory phases asked bodies last store dump beliefs parent number (Some image) =
    IsMakingOn base history memory phases asked bodies last store dump beliefs parent number image

-- the checkpoint that runs asks for its parent's number; nobody needs what stands in its slots
pub record IsRunningOn (base : Base) (history : History) (memory : Contents) (phases : List Phase)
    (asked : List (Option Asked)) (bodies : List (List ℕ))
    (last : ℕ) (store : Store) (dump : Option Image) (beliefs : List Belief) (running : Running) : Type 0 where
  pub some : 0 < running.number
  pub chain : store.chain ≡ running.parent ∷ []
  pub newest : (j : Image) → Contains store.catalog j → IsRestorable j → j.header.checkpoint < running.number
  pub within : (slot : ℕ) → IsReserved running slot → slot < length phases
  pub unneeded : (slot : ℕ) (i : Image) → IsReserved running slot → image_at beliefs slot ≡ Some i → IsNeededIn store i
      → ⊥
  pub apart : (one other : ℕ) → running.opened ≤ one → one < other → other ≤ length running.pre_dumps
      → slot_of (record running { opened = one }) ≢ slot_of (record running { opened = other })
  pub image : IsImageOn base history memory phases asked bodies last store dump beliefs running.parent running.number
      running.image

-- none runs: where a checkpoint was acknowledged since the store was opened or one cancelled, the tip's number gives
-- each clean page
pub record IsAtRest (grows : Bool) (memory : Contents) (asked : List (Option Asked)) (store : Store)
    (dump : Option Image) : Type 0 where
  pub gives : grows ≡ true → (tip : Image) → IsTip store.catalog tip
      → Rests (chain_of store tip.header.stands_for) memory
  pub none : slice_get asked 0 ≡ Some None
  pub alone : dump ≡ None
  pub idle : store.chain ≡ []

abbrev pub IsAtWork : Base → History → Bool → Contents → List Phase → List (Option Asked) → List (List ℕ) → ℕ → Store
    → Option Image → List Belief → Option Running → Type 0
IsAtWork base history grows memory phases asked bodies last store dump beliefs None =
    IsAtRest grows memory asked store dump
IsAtWork base history grows memory phases asked bodies last store dump beliefs (Some running) =
    IsRunningOn base history memory phases asked bodies last store dump beliefs running

-- ---- all of it

-- each slot on which no request is out is believed to be what its phase says
abbrev pub AreExact : List Phase → List (Option Asked) → List (List ℕ) → List Belief → Type 0
AreExact phases asked bodies beliefs = (slot : ℕ) (phase : Phase) (belief : Belief) → slice_get phases slot ≡ Some phase
    → slice_get beliefs slot ≡ Some belief
    → NoneAt asked slot → IsBelievedAs phase (file_at bodies slot) belief

pub record IsLiveOn (base : Base) (history : History) (places : Places) (grows : Bool) (memory : Contents)
    (phases : List Phase) (asked : List (Option Asked))
    (bodies : List (List ℕ)) (last : ℕ) (store : Store) (dump : Option Image) (beliefs : List Belief)
    (running : Option Running) : Type 0 where
  pub catalog : IsLiveCatalog places beliefs
  pub grows_is : store.grows ≡ grows
  pub used : AreUsed last store beliefs
  pub exact : AreExact phases asked bodies beliefs
  pub writes : ids_of (lanes_of asked) ≡ writes_of_running running
  pub job : IsAtWork base history grows memory phases asked bodies last store dump beliefs running
