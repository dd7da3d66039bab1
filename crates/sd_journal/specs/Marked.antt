-- The marked journal: entries with the dumper's marks between them, the newest first.
use Rattle.std.specs.Prelude.{◌≡◌, ℕ, Bool, true, false, ◌==◌, ◌&&◌, ◌||◌, if◌then◌else◌, List, [], ◌∷◌, map, Option}
use Rattle.std.specs.Prelude.{Some, None, IfSome, is_some}
use Rattle.std.specs.List.{list_any}
use Rattle.sd_areas.specs.PlainMemory.{PlainMemory}
use Rattle.sd_pagetable.specs.Contents.{Contents, page_at, plain_of}
use Rattle.sd_pagetable.specs.Nested.{value_at}
use Rattle.sd_pagetable.specs.Order.{is_above}
use Rattle.sd_pagetable.specs.Page.{PageState}
use Rattle.sd_pagetable.specs.Tracking.{MemoryEvent, Cleared, Passed, clears, is_dirty, is_page, is_writable, since}
use Rattle.sd_pagetable.specs.Tracking.{touches}
use Rattle.sd_command.specs.Events.{event_of}
use Rattle.sd_journal.specs.declared.entry.Entry.{Entry}
use Rattle.sd_journal.specs.declared.entry.Entry.TheVariants.{Applied, Acked, Cancelled, Reopened}
use Rattle.sd_journal.specs.declared.mark.Mark.{Mark}
use Rattle.sd_journal.specs.declared.mark.Mark.TheVariants.{Start, Visit, Table}
use Rattle.sd_journal.specs.declared.origin.Origin.{Origin}
use Rattle.sd_journal.specs.declared.origin.Origin.TheVariants.{Opened, Trimmed}
use Rattle.sd_journal.specs.History.{Base, History, memory_after}
use Rattle.sd_journal.specs.Legal.{MayFollow}

-- an entry, or a mark
pub data Item : Type 0 where
  Told : Entry → Item
  Noted : Mark → Item

-- a journal with the marks of the workers, the newest item first
abbrev pub Marked : Type 0
Marked = List Item

-- the journal without its marks
abbrev pub entries_of : Marked → History
entries_of [] = []
entries_of (Told entry ∷ earlier) = entry ∷ entries_of earlier
entries_of (Noted mark ∷ earlier) = entries_of earlier

-- the plain memory at this place of the journal
abbrev pub memory_at : Base → Marked → PlainMemory
memory_at base items = memory_after base (entries_of items)

-- What an item is to the page table: a command is its event, and a visit clears the page.
abbrev pub item_event : Item → MemoryEvent
item_event (Told (Applied seat command reply)) = event_of command reply
item_event (Noted (Visit serial space page)) = Cleared space page
item_event _ = Passed

abbrev pub events_of : Marked → List MemoryEvent
events_of items = map item_event items

-- ---- soft-dirty and writable pages

abbrev pub is_opened : Origin → Bool
is_opened Opened = true
is_opened (Trimmed acknowledged) = false

-- Something since its last visit touched the page, or it was never visited. A base that a trim made counts as one visit
-- of each of its pages.
abbrev pub must_dump : Base → Marked → ℕ → ℕ → Bool
must_dump base items space page =
    if is_opened base.origin then is_dirty (events_of items) space page
    else list_any (touches space page) (since (clears space page) (events_of items))

-- the soft-dirty and the writable bits of each mapped page are those that commands and visits give
pub record HasBits (base : Base) (items : Marked) (contents : Contents) : Type 0 where
  pub soft_dirty : (space number : ℕ) (page : PageState) → page_at contents space number ≡ Some page
      → page.soft_dirty ≡ must_dump base items space number
  pub writable : (space number : ℕ) (page : PageState) → page_at contents space number ≡ Some page
      → page.writable ≡ is_writable (events_of items) space number

-- ---- the marks of one image

abbrev pub mark_serial : Mark → ℕ
mark_serial (Start serial) = serial
mark_serial (Visit serial space page) = serial
mark_serial (Table serial) = serial

-- the item is a mark of the image of this serial
abbrev pub is_of : ℕ → Item → Bool
is_of serial (Told entry) = false
is_of serial (Noted mark) = mark_serial mark == serial

abbrev pub starts : ℕ → Item → Bool
starts serial (Noted (Start s)) = s == serial
starts serial _ = false

-- it is the image's visit of the page
abbrev pub is_visit : ℕ → ℕ → ℕ → Item → Bool
is_visit serial space page (Noted (Visit s visited_space visited_page)) =
    s == serial && is_page visited_space visited_page space page
is_visit serial space page _ = false

abbrev pub is_visited : Marked → ℕ → ℕ → ℕ → Bool
is_visited items serial space page = list_any (is_visit serial space page) items

-- the page that the image visited last
abbrev pub last_visit : Marked → ℕ → Option (ℕ × ℕ)
last_visit [] serial = None
last_visit (Noted (Visit s space page) ∷ earlier) serial =
    if s == serial then Some (space, page) else last_visit earlier serial
last_visit (_ ∷ earlier) serial = last_visit earlier serial

-- the image whose pages are being visited: the last that was started, until its table or the end of its checkpoint
abbrev pub visiting : Marked → Option ℕ
visiting [] = None
visiting (Told (Acked n) ∷ earlier) = None
visiting (Told (Cancelled n) ∷ earlier) = None
visiting (Told (Reopened m) ∷ earlier) = None
visiting (Noted (Start serial) ∷ earlier) = Some serial
visiting (Noted (Table serial) ∷ earlier) = None
visiting (_ ∷ earlier) = visiting earlier

abbrev pub is_mapped : PlainMemory → ℕ → ℕ → Bool
is_mapped memory space page = is_some (value_at memory space page)

-- the page is mapped at every place since the image's start
abbrev pub stays_mapped : Base → Marked → ℕ → ℕ → ℕ → Bool
stays_mapped base [] serial space page = false
stays_mapped base (item ∷ earlier) serial space page = is_mapped (memory_at base (item ∷ earlier)) space page
    && (starts serial item || stays_mapped base earlier serial space page)

-- ---- which marked journals may stand

-- A mark may come next: a start of an image that has no mark yet; a visit, for the image whose pages are being visited,
-- of a mapped page above its last one; and its table, once it has visited each page that stayed mapped since its start.
abbrev pub MayBeNoted : Base → Marked → Mark → Type 0
MayBeNoted base earlier (Start serial) = list_any (is_of serial) earlier ≡ false
MayBeNoted base earlier (Visit serial space page) = (visiting earlier ≡ Some serial)
    × (is_mapped (memory_at base earlier) space page ≡ true) × (is_above (last_visit earlier serial) space page ≡ true)
MayBeNoted base earlier (Table serial) = (visiting earlier ≡ Some serial)
    × ((space page : ℕ) → stays_mapped base earlier serial space page ≡ true
    → is_visited earlier serial space page ≡ true)

-- the entries are a legal journal, and each mark may come next
abbrev pub IsMarked : Base → Marked → Type 0
IsMarked base [] = Unit {0}
IsMarked base (Told entry ∷ earlier) = MayFollow base (entries_of earlier) entry × IsMarked base earlier
IsMarked base (Noted mark ∷ earlier) = MayBeNoted base earlier mark × IsMarked base earlier

-- up to its last visit, the image has visited each page that stayed mapped since its start
abbrev pub HasVisitedMapped : Base → Marked → ℕ → Type 0
HasVisitedMapped base items serial = (space page : ℕ) → is_above (last_visit items serial) space page ≡ false
    → stays_mapped base items serial space page ≡ true → is_visited items serial space page ≡ true

-- A memory with its marked journal, which may stand and makes the memory; its commands and visits give the bits; and
-- the image whose pages are being visited has missed none so far.
pub record IsTracked (base : Base) (items : Marked) (contents : Contents) : Type 0 where
  pub marked : IsMarked base items
  pub memory : plain_of contents ≡ memory_at base items
  pub bits : HasBits base items contents
  pub swept : IfSome (visiting items) (λ serial. HasVisitedMapped base items serial)
