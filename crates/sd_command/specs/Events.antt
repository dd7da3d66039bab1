-- The page table's event of a command and its reply, and what the frames and the writable bits decide of the reply.
use Rattle.std.specs.Prelude.{◌≡◌, ◌≢◌, ◌↔◌, ◌≤◌, ◌%◌, ℕ, true, false, length, Option, Some, None, IfSome}
use Rattle.sd_areas.specs.Pages.{page_of, pages_for}
use Rattle.sd_areas.specs.Calls.{has_hole, AllHave}
use Rattle.sd_pagetable.specs.Contents.{Contents, page_at, page_count, plain_of}
use Rattle.sd_pagetable.specs.RefusalOrder.{access_refusal, fault_refusal, fork_refusal, frame_refusal, needs_frame}
use Rattle.sd_pagetable.specs.RefusalOrder.{prots_in, store_refusal}
use Rattle.sd_pagetable.specs.Effects.{after_mmap}
use Rattle.sd_pagetable.specs.Nested.{inside, is_alive}
use Rattle.sd_pagetable.specs.RangeCalls.{IsRangeIn}
use Rattle.sd_pagetable.specs.declared.access.Access.TheVariants.{Read}
use Rattle.sd_pagetable.specs.Page.{PageState}
use Rattle.sd_pagetable.specs.Tracking.{MemoryEvent, Mapped, Unmapped, Protected, Forked, Exited, Faulted, Tried}
use Rattle.sd_pagetable.specs.Tracking.{Stored}
use Rattle.sd_pagetable.specs.Tracking.{Passed, Step}
use Rattle.sd_command.specs.declared.command.Command.{Command}
use Rattle.sd_command.specs.declared.command.Command.TheVariants as command
use Rattle.sd_command.specs.declared.refusal.Refusal.TheVariants as refusal
use Rattle.sd_command.specs.declared.reply.Reply.{Reply}
use Rattle.sd_command.specs.declared.reply.Reply.TheVariants as reply
use Rattle.sd_command.specs.Replies.{denial_in, effect}

-- the page table's event: it has passed by where nothing happened
abbrev pub event_of : Command → Reply → MemoryEvent
event_of (command.Mmap space address bytes prot) reply.Done = Mapped space (page_of address) (pages_for bytes) prot
event_of (command.Munmap space address bytes) reply.Done = Unmapped space (page_of address) (pages_for bytes)
event_of (command.Mprotect space address bytes prot) reply.Done =
    Protected space (page_of address) (pages_for bytes) prot
event_of (command.Fork space) (reply.Child child) = Forked space child
event_of (command.Exit space) reply.Done = Exited space
event_of (command.TryStore space address bytes) reply.Done = Tried space (page_of address) (address % 4096) bytes
event_of (command.Fault space address) reply.Done = Faulted space (page_of address)
event_of (command.Store space address bytes) reply.Done = Stored space (page_of address) (address % 4096) bytes
event_of _ _ = Passed

-- the page of an address
abbrev pub page_under : Contents → ℕ → ℕ → Option PageState
page_under memory space address = page_at memory space (page_of address)

-- What a legal reply leaves open: a try needs a fault exactly where the page isn't writable; a fault or a store is
-- refused a frame exactly where one is needed and none is left.
abbrev pub Chooses : Contents → Command → Reply → Type 0
Chooses memory (command.TryStore space address bytes) answer =
    denial_in (plain_of memory) (command.TryStore space address bytes) ≡ None
    → (answer ≡ reply.NeedsFault) ↔ IfSome (page_under memory space address)
    (λ (page : PageState). page.writable ≡ false)
Chooses memory (command.Fault space address) answer =
    denial_in (plain_of memory) (command.Fault space address) ≡ None
    → (answer ≡ reply.Refused refusal.NoFrame) ↔ (frame_refusal memory (page_under memory space address) ≢ None)
Chooses memory (command.Store space address bytes) answer =
    denial_in (plain_of memory) (command.Store space address bytes) ≡ None
    → (answer ≡ reply.Refused refusal.NoFrame) ↔ (frame_refusal memory (page_under memory space address) ≢ None)
Chooses memory _ answer = Unit {0}

-- Where a command takes memory, and so may find none: after all that is tested before. An exit and a try of a store
-- take none; a load takes it for the bytes that it returns; a fault and a store for a frame that the page needs; an
-- `mmap` and an `mprotect` where some page doesn't have the permissions yet, a `munmap` where some page is mapped.
abbrev pub TakesMemory : Contents → Command → Type 0
TakesMemory memory (command.Mmap space address bytes prot) =
    IsRangeIn (is_alive memory.spaces space ≡ true) address bytes
    × (page_count (after_mmap (plain_of memory) space address bytes prot) ≤ 65536)
    × (AllHave (prots_in (inside (plain_of memory) space)) (page_of address) (pages_for bytes) (Some prot) → ⊥)
TakesMemory memory (command.Munmap space address bytes) =
    IsRangeIn (is_alive memory.spaces space ≡ true) address bytes
    × (AllHave (prots_in (inside (plain_of memory) space)) (page_of address) (pages_for bytes) None → ⊥)
TakesMemory memory (command.Mprotect space address bytes prot) =
    IsRangeIn (is_alive memory.spaces space ≡ true) address bytes
    × (has_hole (prots_in (inside (plain_of memory) space)) (page_of address) (pages_for bytes) ≡ false)
    × (AllHave (prots_in (inside (plain_of memory) space)) (page_of address) (pages_for bytes) (Some prot) → ⊥)
TakesMemory memory (command.Fork space) = fork_refusal (plain_of memory) space ≡ None
TakesMemory memory (command.Exit space) = ⊥
TakesMemory memory (command.Load space address count) = access_refusal (plain_of memory) space address count Read ≡ None
TakesMemory memory (command.TryStore space address bytes) = ⊥
TakesMemory memory (command.Fault space address) =
    (fault_refusal memory space address ≡ None) × (needs_frame memory (page_under memory space address) ≡ true)
TakesMemory memory (command.Store space address bytes) =
    (store_refusal memory space address (length bytes) ≡ None)
    × (needs_frame memory (page_under memory space address) ≡ true)

-- the event of a command and its reply makes of the plain memory what the command makes of it
abbrev pub EffectLaw : Type 0
EffectLaw = (old new : Contents) (asked : Command) (answer : Reply)
    → Step old (event_of asked answer) new → plain_of new ≡ effect asked answer (plain_of old)
