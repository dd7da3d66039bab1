-- Which entries change a memory.
use Rattle.std.specs.Prelude.{Bool, true, false}
use Rattle.sd_command.specs.declared.command.Command.{Command}
use Rattle.sd_command.specs.declared.command.Command.TheVariants.{Mmap, Munmap, Mprotect, Fork, Exit, TryStore, Store}
use Rattle.sd_command.specs.declared.reply.Reply.{Reply}
use Rattle.sd_command.specs.declared.reply.Reply.TheVariants.{Done, Child}
use Rattle.sd_journal.specs.declared.entry.Entry.{Entry}
use Rattle.sd_journal.specs.declared.entry.Entry.TheVariants.{Applied}

-- a command changes a memory where it is carried out
abbrev pub changes_done : Command → Bool
changes_done (Mmap space address bytes prot) = true
changes_done (Munmap space address bytes) = true
changes_done (Mprotect space address bytes prot) = true
changes_done (Exit space) = true
changes_done (TryStore space address bytes) = true
changes_done (Store space address bytes) = true
changes_done _ = false

abbrev pub is_fork : Command → Bool
is_fork (Fork space) = true
is_fork _ = false

-- a command with this reply changes a memory
abbrev pub has_effect : Reply → Command → Bool
has_effect Done command = changes_done command
has_effect (Child child) command = is_fork command
has_effect _ command = false

-- an entry changes a memory
abbrev pub is_effective : Entry → Bool
is_effective (Applied seat command reply) = has_effect reply command
is_effective _ = false
