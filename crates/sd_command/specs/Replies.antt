-- What a command and its reply make of a plain memory, and which replies are legal.
use Rattle.std.specs.Prelude.{◌≡◌, ◌⊎◌, ℕ, Bool, true, false, ◌+◌, ◌%◌, length, slice_range, Option, Some, MatchOption}
use Rattle.sd_areas.specs.Pages.{page_of}
use Rattle.sd_areas.specs.PlainMemory.{Page, PlainMemory}
use Rattle.sd_pagetable.specs.declared.access.Access.TheVariants.{Read, Write}
use Rattle.sd_pagetable.specs.declared.access_error.AccessError.{AccessError}
use Rattle.sd_pagetable.specs.declared.access_error.AccessError.TheVariants.{Refused, Segv}
use Rattle.sd_pagetable.specs.declared.memory_refusal.MemoryRefusal.{MemoryRefusal}
use Rattle.sd_pagetable.specs.declared.memory_refusal.MemoryRefusal.TheVariants as due
use Rattle.sd_pagetable.specs.RefusalOrder.{in_space, page_refusal, access_refusal, mmap_refusal, munmap_refusal}
use Rattle.sd_pagetable.specs.RefusalOrder.{mprotect_refusal, fork_refusal}
use Rattle.sd_pagetable.specs.RefusalOrder.{exit_refusal}
use Rattle.sd_pagetable.specs.Effects.{after_mmap, after_munmap, after_mprotect, after_fork, after_exit, after_store}
use Rattle.sd_pagetable.specs.Effects.{IsLeastFree}
use Rattle.sd_pagetable.specs.Nested.{value_at}
use Rattle.sd_command.specs.declared.command.Command.{Command}
use Rattle.sd_command.specs.declared.command.Command.TheVariants as command
use Rattle.sd_command.specs.declared.refusal.Refusal.{Refusal}
use Rattle.sd_command.specs.declared.refusal.Refusal.TheVariants as refusal
use Rattle.sd_command.specs.declared.reply.Reply.{Reply}
use Rattle.sd_command.specs.declared.reply.Reply.TheVariants as reply

-- what a command makes of a plain memory, by its reply
abbrev pub effect : Command → Reply → PlainMemory → PlainMemory
effect (command.Mmap space address bytes prot) reply.Done memory = after_mmap memory space address bytes prot
effect (command.Munmap space address bytes) reply.Done memory = after_munmap memory space address bytes
effect (command.Mprotect space address bytes prot) reply.Done memory = after_mprotect memory space address bytes prot
effect (command.Fork space) (reply.Child child) memory = after_fork memory space child
effect (command.Exit space) reply.Done memory = after_exit memory space
effect (command.TryStore space address bytes) reply.Done memory = after_store memory space address bytes
effect (command.Store space address bytes) reply.Done memory = after_store memory space address bytes
effect _ _ memory = memory

-- a refusal of the memory, as a reply
abbrev pub refusal_of : MemoryRefusal → Refusal
refusal_of due.Einval = refusal.Einval
refusal_of due.Enomem = refusal.Enomem
refusal_of due.NoSuchSpace = refusal.NoSuchSpace
refusal_of due.TooManySpaces = refusal.TooManySpaces
refusal_of due.NoFrame = refusal.NoFrame
refusal_of due.LastSpace = refusal.LastSpace

-- the reply to a command that is refused or faults
abbrev pub reply_of : AccessError → Reply
reply_of (Refused why) = reply.Refused (refusal_of why)
reply_of (Segv why) = reply.Segv why

-- what a command is denied by the plain memory alone, if anything
abbrev pub denial_in : PlainMemory → Command → Option AccessError
denial_in memory (command.Mmap space address bytes prot) = mmap_refusal memory space address bytes prot
denial_in memory (command.Munmap space address bytes) = munmap_refusal memory space address bytes
denial_in memory (command.Mprotect space address bytes prot) = mprotect_refusal memory space address bytes prot
denial_in memory (command.Fork space) = fork_refusal memory space
denial_in memory (command.Exit space) = exit_refusal memory space
denial_in memory (command.Load space address count) = access_refusal memory space address count Read
denial_in memory (command.TryStore space address bytes) = access_refusal memory space address (length bytes) Write
denial_in memory (command.Fault space address) =
    in_space memory space (page_refusal Write (value_at memory space (page_of address)))
denial_in memory (command.Store space address bytes) = access_refusal memory space address (length bytes) Write

-- The replies to a command that isn't denied. Whether a try needs a fault, and whether a frame is left, is open here.
abbrev pub Accepts : Command → PlainMemory → Reply → Type 0
Accepts (command.Mmap space address bytes prot) memory answer = answer ≡ reply.Done
Accepts (command.Munmap space address bytes) memory answer = answer ≡ reply.Done
Accepts (command.Mprotect space address bytes prot) memory answer = answer ≡ reply.Done
Accepts (command.Fork space) memory answer = (child : ℕ) × (answer ≡ reply.Child child) × IsLeastFree memory child
Accepts (command.Exit space) memory answer = answer ≡ reply.Done
Accepts (command.Load space address count) memory answer =
    (page : Page) × (value_at memory space (page_of address) ≡ Some page)
    × (answer ≡ reply.Bytes (slice_range page.bytes (address % 4096) (address % 4096 + count)))
Accepts (command.TryStore space address bytes) memory answer = (answer ≡ reply.Done) ⊎ (answer ≡ reply.NeedsFault)
Accepts (command.Fault space address) memory answer = (answer ≡ reply.Done) ⊎ (answer ≡ reply.Refused refusal.NoFrame)
Accepts (command.Store space address bytes) memory answer =
    (answer ≡ reply.Done) ⊎ (answer ≡ reply.Refused refusal.NoFrame)

-- A legal reply: while the memory is frozen the command is refused so, and else the reply is as the memory has it.
abbrev pub IsLegalReply : PlainMemory → Bool → Command → Reply → Type 0
IsLegalReply memory true asked answer = answer ≡ reply.Refused refusal.Frozen
IsLegalReply memory false asked answer =
    MatchOption (denial_in memory asked) (Accepts asked memory answer) (λ why. answer ≡ reply_of why)
