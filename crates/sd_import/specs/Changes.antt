-- What an import does to a world on its way: commands on one space, one after the other.
use Rattle.std.specs.Prelude.{◌≡◌, ◌≢◌, ℕ}
use Rattle.std.specs.FinMap as finmap
use Rattle.sd_areas.specs.PlainMemory.{PlainMemory}
use Rattle.sd_command.specs.declared.command.Command.{Command}
use Rattle.sd_command.specs.declared.command.Command.TheVariants as command
use Rattle.sd_disk.specs.declared.disk.Disk.{Ghosts}
use Rattle.sd_pagetable.specs.Contents.{plain_of}
use Rattle.sd_world.specs.Goes.{GoesOn}
use Rattle.sd_world.specs.View.{WorldView}

-- a command that changes the memory of a space, and of no other
abbrev pub IsOf : ℕ → Command → Type 0
IsOf space (command.Mmap own address bytes prot) = own ≡ space
IsOf space (command.Munmap own address bytes) = own ≡ space
IsOf space (command.Mprotect own address bytes prot) = own ≡ space
IsOf space (command.Store own address bytes) = own ≡ space
IsOf space _ = ⊥

-- every other space is as before
abbrev pub KeepsOthers : ℕ → PlainMemory → PlainMemory → Type 0
KeepsOthers space old new = (other : ℕ) → other ≢ space → finmap.get new other ≡ finmap.get old other

-- nothing is done, or events are made, and every other space is as before
pub data ChangesOnly {D : Type 0} (g : Ghosts D) (space : ℕ) (old new : WorldView D) : Type 0 where
  nothing : new ≡ old → ChangesOnly g space old new
  goes : GoesOn g old new → KeepsOthers space (plain_of old.core.memory) (plain_of new.core.memory)
      → ChangesOnly g space old new

-- nothing is done, or events are made
pub data MayGoOn {D : Type 0} (g : Ghosts D) (old new : WorldView D) : Type 0 where
  stays : new ≡ old → MayGoOn g old new
  goes : GoesOn g old new → MayGoOn g old new
