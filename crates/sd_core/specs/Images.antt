-- The images of a running checkpoint, as they enter the catalog.
use Rattle.std.specs.Prelude.{◌≡◌, ◌≢◌, ℕ, zero, suc, ◌+◌, ◌<◌, ◌≤◌, true, length, get_or, Option, Some, None}
use Rattle.sd_chain.specs.Catalog.{Opened, Places, place_of}
use Rattle.sd_image.specs.declared.header.Kind.TheVariants.{PreDump}
use Rattle.sd_rounds.specs.Dumper.{Running, begun_checkpoint, is_last, kind_of, slot_of}
use Rattle.sd_crash_safety.specs.View.{CoreView}

-- a checkpoint as it began: its number, the slots of its images, and the parent of the first
abbrev pub begun_as : Running → Running
begun_as running = begun_checkpoint running.number running.pre_dumps running.dump running.first

abbrev pub job_of : Option Running → Option Running
job_of None = None
job_of (Some running) = Some (begun_as running)

-- its images have different slots
abbrev pub JobSlotsDiffer : Running → Type 0
JobSlotsDiffer running = (one other : ℕ) → one < other → other ≤ length running.pre_dumps
    → get_or running.pre_dumps one running.dump ≢ get_or running.pre_dumps other running.dump

-- the pre-dump of a checkpoint with this place among them is in the catalog, under this serial
pub record IsPreDump (job : Running) (places : Places) (place serial : ℕ) (image : Opened) : Type 0 where
  pub is_in : place_of places serial ≡ Some (Some image)
  pub own : image.header.serial ≡ serial
  pub slot : image.slot ≡ get_or job.pre_dumps place job.dump
  pub kind : image.header.kind ≡ PreDump
  pub checkpoint : image.header.checkpoint ≡ job.number

-- So many pre-dumps of a checkpoint are in the catalog, the last of them under this serial: each names the one before
-- as its parent, and the first what the checkpoint began with. Where there is none yet, the number is that.
abbrev pub HasPreDumps : Running → Places → ℕ → ℕ → Type 0
HasPreDumps job places zero serial = serial ≡ job.first
HasPreDumps job places (suc place) serial =
    (image : Opened) × IsPreDump job places place serial image × HasPreDumps job places place image.header.parent

-- its next image is in the catalog: it names the one before as its parent, or what the first image was to name
pub record HasImage (running : Running) (places : Places) (image : Opened) : Type 0 where
  pub is_in : place_of places image.header.serial ≡ Some (Some image)
  pub slot : image.slot ≡ slot_of running
  pub kind : image.header.kind ≡ kind_of running
  pub parent : image.header.parent ≡ running.parent
  pub checkpoint : image.header.checkpoint ≡ running.number

-- The dump entered after all the pre-dumps, each of which names the one before, and the checkpoint is acknowledged:
-- since the freeze there was an outcome for each data page of the dump, and five more.
pub record IsAcked (n : ℕ) (old new : CoreView) : Type 0 where
  pub running : Running
  pub was : old.dumper.running ≡ Some running
  pub number : n ≡ running.number
  pub last : is_last running ≡ true
  pub dump : Opened
  pub has : HasImage running new.catalog dump
  pub pre_dumps : HasPreDumps (begun_as running) new.catalog (length running.pre_dumps) dump.header.parent
  pub counted : new.dumper.since_freeze ≡ dump.header.pages + 5
