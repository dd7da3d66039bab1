-- How the beginning of a checkpoint and its cancelling keep what a core believes.
use Rattle.std.specs.Prelude.{◌≡◌, ◌≢◌, ◌⊎◌, ◌↔◌, ℕ, ◌<◌, ◌≤◌, true, false, List, ◌∷◌, length, Option, Some, None}
use Rattle.std.specs.Prelude.{slice_get}
use Rattle.sd_chain.specs.Catalog.{IsTip, Opened, Places, place_of}
use Rattle.sd_chain.specs.Reaches.{ParentsFall, ReachesSerial}
use Rattle.sd_gate.specs.Requests.{Asked}
use Rattle.sd_journal.specs.declared.entry.Entry.TheVariants.{Cancelled}
use Rattle.sd_journal.specs.Marked.{Told}
use Rattle.sd_merge.specs.declared.retired.Retired.{Retired}
use Rattle.sd_merge.specs.declared.source.Source.{Source}
use Rattle.sd_merge.specs.Merger.{list_in, source_in}
use Rattle.sd_merge.specs.Merger as merger
use Rattle.sd_rounds.specs.Dumper.{IsReserved, Running, slot_of, writes_of_running}
use Rattle.sd_rounds.specs.Writes.{no_writes}
use Rattle.sd_crash_safety.specs.Believes.{Believes}
use Rattle.sd_crash_safety.specs.DumperSteps.{OnlyDumps}
use Rattle.sd_crash_safety.specs.View.{CoreView, history_of}

-- no image that the tip reaches stands in the slot
abbrev pub IsUnreached : Places → ℕ → Type 0
IsUnreached places slot = (serial : ℕ) (o tip : Opened) → place_of places serial ≡ Some (Some o) → o.slot ≡ slot
    → IsTip places tip → ReachesSerial places tip.header.serial serial → ⊥

-- its first image has no parent; or, where a checkpoint was acknowledged since the store was opened or one cancelled,
-- the tip
abbrev pub HasParent : Places → CoreView → Running → Type 0
HasParent places core running = (running.parent ≡ 0)
    ⊎ ((core.grows ≡ true) × (tip : Opened) × IsTip places tip × (running.parent ≡ tip.header.stands_for))

-- no image that a merge repeats, or that its source reaches, stands in the slot
abbrev pub IsUnread : Places → Option Source → ℕ → Type 0
IsUnread places None slot = Unit {0}
IsUnread places (Some source) slot = (serial : ℕ) (o : Opened) → place_of places serial ≡ Some (Some o) → o.slot ≡ slot
    → ReachesSerial places source.serial serial → ⊥

pub record LeavesMergeAt (places : Places) (merge : merger.Running) (slot : ℕ) : Type 0 where
  pub target : slot ≢ merge.slot
  pub listed : (place : ℕ) (one : Retired) → slice_get (list_in merge.doing) place ≡ Some one → slot ≢ one.slot
  pub source : IsUnread places (source_in merge merge.doing) slot

-- What the merge that runs needs is in none of the checkpoint's slots: neither its own image, nor what it repeats or
-- closes.
abbrev pub LeavesMerge : Places → Running → Option merger.Running → Type 0
LeavesMerge places running None = Unit {0}
LeavesMerge places running (Some merge) = (slot : ℕ) → IsReserved running slot → LeavesMergeAt places merge slot

-- A checkpoint begins, with a number above those of all images, in slots that no image stands in that is needed.
pub record BeginsCheckpoint (places : Places) (old : CoreView) (running : Running) (new : CoreView) : Type 0 where
  pub rest : OnlyDumps old new
  pub history : history_of new ≡ history_of old
  pub memory : new.memory ≡ old.memory
  pub phases : new.phases ≡ old.phases
  pub outs : new.outs ≡ old.outs
  pub serial : new.numbers.serial ≡ old.numbers.serial
  pub its_catalog : old.catalog ≡ places
  pub catalog : new.catalog ≡ places
  pub was : old.dumper.running ≡ None
  pub is : new.dumper.running ≡ Some running
  pub fresh : (running.image ≡ None) × (running.opened ≡ 0)
  pub some : 0 < running.number
  pub newest : (serial : ℕ) (o : Opened) → place_of places serial ≡ Some (Some o) → o.header.checkpoint < running.number
  pub parent : HasParent places old running
  pub within : (slot : ℕ) → IsReserved running slot → slot < length old.phases
  pub unreached : ParentsFall places → (slot : ℕ) → IsReserved running slot → IsUnreached places slot
  pub merge : ParentsFall places → LeavesMerge places running old.merger
  pub apart : (one other : ℕ) → running.opened ≤ one → one < other → other ≤ length running.pre_dumps
      → slot_of (record running { opened = one }) ≢ slot_of (record running { opened = other })

abbrev pub BeginningIsBelieved : Places → Type 0
BeginningIsBelieved places =
    (old new : CoreView) (running : Running) (asked : List (Option Asked)) (bodies files : List (List ℕ))
    → BeginsCheckpoint places old running new → Believes old asked bodies files → Believes new asked bodies files

-- A checkpoint is cancelled, whose dump's gate nobody began to open: none runs, the next one takes every page, and no
-- place is held.
pub record CancelsCheckpoint (old : CoreView) (n : ℕ) (new : CoreView) : Type 0 where
  pub base : new.base ≡ old.base
  pub items : new.items ≡ Told (Cancelled n) ∷ old.items
  pub memory : new.memory ≡ old.memory
  pub phases : new.phases ≡ old.phases
  pub outs : new.outs ≡ old.outs
  pub standing : new.standing ≡ old.standing
  pub serial : new.numbers.serial ≡ old.numbers.serial
  pub closed : new.opener ≡ None
  pub free : slice_get old.outs 0 ≡ Some None
  pub written : writes_of_running old.dumper.running ≡ no_writes
  pub sure : old.committing ≡ false
  pub merger : new.merger ≡ old.merger
  pub images : (serial : ℕ) (o : Opened)
      → place_of new.catalog serial ≡ Some (Some o) ↔ place_of old.catalog serial ≡ Some (Some o)
  pub grows : new.grows ≡ false
  pub is : new.dumper.running ≡ None

abbrev pub CancellingIsBelieved : Type 0
CancellingIsBelieved = (old new : CoreView) (n : ℕ) (asked : List (Option Asked)) (bodies files : List (List ℕ))
    → CancelsCheckpoint old n new → Believes old asked bodies files → Believes new asked bodies files
