-- A core as it starts, and what a worker's step is.
use Rattle.std.specs.Prelude.{◌≡◌, ℕ, false, List, [], replicate, Option, Some, None}
use Rattle.sd_areas.specs.Memory.{memory_of}
use Rattle.sd_areas.specs.PlainMemory.{PlainMemory}
use Rattle.sd_gate.specs.declared.phase.Phase.{Phase}
use Rattle.sd_gate.specs.declared.worker.Worker.{Worker}
use Rattle.sd_gate.specs.Requests.{Asked}
use Rattle.sd_journal.specs.declared.origin.Origin.TheVariants as origins
use Rattle.sd_journal.specs.Allowed.{Shown}
use Rattle.sd_journal.specs.History.{Base}
use Rattle.sd_pagetable.specs.Contents.{Contents}
use Rattle.sd_rounds.specs.Dumper.{idle}
use Rattle.sd_crash_safety.specs.declared.standing.Standing.TheVariants.{NotOpen}
use Rattle.sd_crash_safety.specs.Calls.{HandsOut, MakesStep}
use Rattle.sd_crash_safety.specs.OpenerSteps.{nobody}
use Rattle.sd_crash_safety.specs.View.{CoreView}
use Rattle.sd_core.specs.declared.base.CoreBase.{CoreBase}
use Rattle.sd_core.specs.declared.numbers.Numbers.{Numbers}
use Rattle.sd_core.specs.Flags.{HasFlags, number_or_zero, numbers_from}
use Rattle.sd_core.specs.declared.taken.Taken.{Taken}
use Rattle.sd_core.specs.declared.taken.Taken.TheVariants.{Step, Call}

-- the base of a core
abbrev pub base_of : CoreBase → Base
base_of base =
    record { number = base.number; memory = memory_of base.memory; origin = base.origin; folded = base.folded }

-- what the base's number and memory are to be shown as
abbrev pub shown_base : Option ℕ → PlainMemory → Shown
shown_base None memory = None
shown_base (Some number) memory = Some (number, memory)

-- a core that starts: its journal is empty, its store isn't open, and nothing is out
pub record IsStart (number : Option ℕ) (saved : PlainMemory) (loaded : Contents) (found : List Phase)
    (core : CoreView) : Type 0 where
  pub base : core.base ≡ record { number = number; memory = saved; origin = origins.Opened; folded = 0 }
  pub items : core.items ≡ []
  pub held : core.held ≡ 0
  pub limit : core.limit ≡ 1048576
  pub memory : core.memory ≡ loaded
  pub standing : core.standing ≡ NotOpen
  pub phases : core.phases ≡ found
  pub outs : core.outs ≡ nobody
  pub catalog : core.catalog ≡ []
  pub dumper : core.dumper ≡ idle 0
  pub merger : core.merger ≡ None
  pub opener : core.opener ≡ None
  pub flags : HasFlags false false (numbers_from number) core

-- the numbers that a core keeps as it starts from this checkpoint
abbrev pub started : Option ℕ → Numbers
started base =
    record { checkpoint = number_or_zero base; serial = 0; begun = number_or_zero base; given = 0; ticket = 0 }

-- nothing was asked for in any lane
abbrev pub nothing_asked : List (Option Asked)
nothing_asked = replicate 11 None

-- a step that was made, or a request that is handed out
abbrev pub TakesUp : CoreView → Worker → Taken → CoreView → Type 0
TakesUp old worker (Step answer) new = MakesStep old worker answer new
TakesUp old worker (Call request) new = HandsOut old worker request new
