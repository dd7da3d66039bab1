-- What a copy of a command takes memory for.
use Rattle.std.specs.Prelude.{ℕ, List, Option, Some, None}
use Rattle.sd_command.specs.declared.command.Command.{Command}
use Rattle.sd_command.specs.declared.command.Command.TheVariants as command

-- the bytes that a command stores
abbrev pub stored_bytes : Command → Option (List ℕ)
stored_bytes (command.Mmap space address length prot) = None
stored_bytes (command.Munmap space address length) = None
stored_bytes (command.Mprotect space address length prot) = None
stored_bytes (command.Fork space) = None
stored_bytes (command.Exit space) = None
stored_bytes (command.Load space address length) = None
stored_bytes (command.TryStore space address bytes) = Some bytes
stored_bytes (command.Fault space address) = None
stored_bytes (command.Store space address bytes) = Some bytes
