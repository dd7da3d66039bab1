-- What each accepted call and each clear does to the frame classes, the soft-dirty and the writable bits, and the
-- tracking law over whole histories: when a page is soft-dirty, and when it is writable. After the kernel document
-- `soft-dirty`.
use Rattle.std.specs.Prelude.{◌≡◌, ◌↔◌, ◌⊎◌, ℕ, ◌<◌, Bool, true, false, not, ◌&&◌, ◌||◌, ◌==◌, List, [], ◌∷◌, Some}
use Rattle.std.specs.Prelude.{None, Ok, take_while}
use Rattle.std.specs.List.{list_any}
use Rattle.std.specs.FinMap as finmap
use Rattle.sd_areas.specs.declared.prot.Prot.{Prot}
use Rattle.sd_areas.specs.Pages.{is_within, page_of}
use Rattle.sd_pagetable.specs.declared.access.Access.TheVariants.{Write}
use Rattle.sd_pagetable.specs.declared.store_outcome.StoreOutcome.TheVariants.{NeedsFault}
use Rattle.sd_pagetable.specs.Nested.{Table, map_values, inside, is_alive, set_within, remove_within, change_within}
use Rattle.sd_pagetable.specs.Page.{PageState, fresh_page, cleared_page, protected_page, shared_page, inherited_page}
use Rattle.sd_pagetable.specs.Page.{writable_page, stored_page}
use Rattle.sd_pagetable.specs.Contents.{Contents, page_at, put_page, members, is_alone, plain_of}
use Rattle.sd_pagetable.specs.Access.{stored_at}
use Rattle.sd_pagetable.specs.RefusalOrder.{access_refusal, try_outcome}

-- A call or a clear. Those with a name of their own were accepted; a call that was refused, a load, and a try of a
-- store that needs a fault have passed by.
pub data MemoryEvent : Type 0 where
  Mapped : (space first count : ℕ) (prot : Prot) → MemoryEvent
  Unmapped : (space first count : ℕ) → MemoryEvent
  Protected : (space first count : ℕ) (prot : Prot) → MemoryEvent
  Forked : (parent child : ℕ) → MemoryEvent
  Exited : (space : ℕ) → MemoryEvent
  Faulted : (space page : ℕ) → MemoryEvent
  Tried : (space page offset : ℕ) (bytes : List ℕ) → MemoryEvent
  Stored : (space page offset : ℕ) (bytes : List ℕ) → MemoryEvent
  Cleared : (space page : ℕ) → MemoryEvent
  Passed : MemoryEvent

-- ---- one event more

-- a space has other pages, and all else is as before
abbrev pub with_space : Contents → ℕ → Table PageState → Contents
with_space contents space pages = record { pool = contents.pool; spaces = finmap.insert contents.spaces space pages }

-- after `fork` the child's pages are in the classes of the parent's, and neither is writable
abbrev pub contents_after_fork : Contents → ℕ → ℕ → Contents
contents_after_fork contents parent child = with_space
    (with_space contents parent (map_values shared_page (inside contents.spaces parent))) child
    (map_values inherited_page (inside contents.spaces parent))

-- the class in which a page ends up alone: its own where it is alone in it, else one of the pool that has no page
abbrev pub IsOwnClass : Contents → PageState → ℕ → Type 0
IsOwnClass contents page class =
    ((is_alone contents page ≡ true) × (page.class ≡ Some class))
    ⊎ ((is_alone contents page ≡ false) × (members contents class ≡ 0) × (class < contents.pool))

-- a page becomes writable, soft-dirty, and alone in a class, with these bytes
abbrev pub MakesWritable : Contents → ℕ → ℕ → (List ℕ → List ℕ) → Contents → Type 0
MakesWritable old space number bytes new = (page : PageState) × (class : ℕ) × (page_at old space number ≡ Some page)
    × IsOwnClass old page class × (new ≡ put_page old space number (writable_page page class (bytes page.bytes)))

-- what an event makes of a memory
abbrev pub Step : Contents → MemoryEvent → Contents → Type 0
Step old (Mapped space first count prot) new =
    new ≡ with_space old space (set_within (inside old.spaces space) first count (fresh_page prot))
Step old (Unmapped space first count) new =
    new ≡ with_space old space (remove_within (inside old.spaces space) first count)
Step old (Protected space first count prot) new =
    new ≡ with_space old space (change_within (protected_page prot) (inside old.spaces space) first count)
Step old (Forked parent child) new = (is_alive old.spaces parent ≡ true) × (is_alive old.spaces child ≡ false)
    × (new ≡ contents_after_fork old parent child)
Step old (Exited space) new = new ≡ record { pool = old.pool; spaces = finmap.remove old.spaces space }
Step old (Faulted space page) new = MakesWritable old space page (λ bytes. bytes) new
Step old (Tried space number offset bytes) new =
    (page : PageState) × (page_at old space number ≡ Some page) × (page.writable ≡ true)
    × (new ≡ put_page old space number (stored_page page (stored_at page.bytes offset bytes)))
Step old (Stored space page offset bytes) new =
    MakesWritable old space page (λ before. stored_at before offset bytes) new
Step old (Cleared space number) new =
    (page : PageState) × (page_at old space number ≡ Some page) × (new ≡ put_page old space number (cleared_page page))
Step old Passed new = new ≡ old

-- ---- whole histories, the newest event first

-- the two places are the same page of the same space
abbrev pub is_page : ℕ → ℕ → ℕ → ℕ → Bool
is_page space page other_space other_page = space == other_space && page == other_page

-- it maps the page, makes it as a page of the child, or writes to it
abbrev pub touches : ℕ → ℕ → MemoryEvent → Bool
touches space page (Mapped s first count prot) = s == space && is_within first count page
touches space page (Forked parent child) = child == space
touches space page (Faulted s p) = is_page s p space page
touches space page (Tried s p offset bytes) = is_page s p space page
touches space page (Stored s p offset bytes) = is_page s p space page
touches space page _ = false

-- the event clears the soft-dirty bit of this page
abbrev pub clears : ℕ → ℕ → MemoryEvent → Bool
clears space page (Cleared s p) = is_page s p space page
clears space page _ = false

-- an accepted fault or store at the page
abbrev pub makes_writable : ℕ → ℕ → MemoryEvent → Bool
makes_writable space page (Faulted s p) = is_page s p space page
makes_writable space page (Stored s p offset bytes) = is_page s p space page
makes_writable space page _ = false

-- a clear of it, an accepted `mmap`, `munmap` or `mprotect` over it, a `fork` of its space or one that makes it as a
-- page of the child
abbrev pub write_protects : ℕ → ℕ → MemoryEvent → Bool
write_protects space page (Mapped s first count prot) = s == space && is_within first count page
write_protects space page (Unmapped s first count) = s == space && is_within first count page
write_protects space page (Protected s first count prot) = s == space && is_within first count page
write_protects space page (Forked parent child) = parent == space || child == space
write_protects space page (Cleared s p) = is_page s p space page
write_protects space page _ = false

-- the events since the last that passes a test
abbrev pub since : (MemoryEvent → Bool) → List MemoryEvent → List MemoryEvent
since test history = take_while (λ event. not (test event)) history

-- something since its last clear touched it, or it was never cleared
abbrev pub is_dirty : List MemoryEvent → ℕ → ℕ → Bool
is_dirty history space page =
    list_any (touches space page) (since (clears space page) history) || not (list_any (clears space page) history)

-- a fault or store was accepted at it, and since then came nothing that write_protects it
abbrev pub is_writable : List MemoryEvent → ℕ → ℕ → Bool
is_writable history space page = list_any (makes_writable space page) (since (write_protects space page) history)

-- the bits of each mapped page are those that the history says
pub record Tracks (history : List MemoryEvent) (contents : Contents) : Type 0 where
  pub soft_dirty : (space number : ℕ) (page : PageState) → page_at contents space number ≡ Some page
      → page.soft_dirty ≡ is_dirty history space number
  pub writable : (space number : ℕ) (page : PageState) → page_at contents space number ≡ Some page
      → page.writable ≡ is_writable history space number

-- the history leads from one memory to another
abbrev pub Run : Contents → List MemoryEvent → Contents → Type 0
Run start [] end = end ≡ start
Run start (event ∷ history) end = (before : Contents) × Run start history before × Step before event end

-- a memory as it begins: each page is soft-dirty, and none is writable
abbrev pub IsBeginning : Contents → Type 0
IsBeginning contents = (space number : ℕ) (page : PageState) → page_at contents space number ≡ Some page
    → (page.soft_dirty ≡ true) × (page.writable ≡ false)

-- After every list of calls and clears a mapped page is soft-dirty exactly where something since its last clear touched
-- it or it was never cleared, and writable exactly where a fault or store was accepted at it and nothing since
-- write-protected it.
abbrev pub BitsLaw : Type 0
BitsLaw =
    (start end : Contents) (history : List MemoryEvent) → IsBeginning start → Run start history end → Tracks history end

-- The law by one event more, from a beginning on: a memory stays tracked.
pub record TracksLaw : Type 0 where
  pub begins : (contents : Contents) → IsBeginning contents → Tracks [] contents
  pub more : (history : List MemoryEvent) (event : MemoryEvent) (old new : Contents) → Tracks history old
      → Step old event new
      → Tracks (event ∷ history) new

-- And a try of a store on a permitted page needs a fault exactly where the page isn't writable.
abbrev pub TryLaw : Type 0
TryLaw = (start end : Contents) (history : List MemoryEvent) (space address bytes : ℕ) → IsBeginning start
    → Run start history end →
    access_refusal (plain_of end) space address bytes Write ≡ None →
    (try_outcome end space address bytes ≡ Ok NeedsFault) ↔ (is_writable history space (page_of address) ≡ false)
