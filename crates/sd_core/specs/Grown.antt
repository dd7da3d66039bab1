-- Whether the next checkpoint goes on from the tip, by the journal; and when the opening of a gate is asked for.
use Rattle.std.specs.Prelude.{◌≡◌, Bool, true, false, [], ◌∷◌, is_some, Option, Some, None}
use Rattle.sd_gate.specs.Sequences.{Calls}
use Rattle.sd_journal.specs.declared.entry.Entry.TheVariants.{Applied, Freeze, Acked, Cancelled, Reopened}
use Rattle.sd_journal.specs.declared.origin.Origin.{Origin}
use Rattle.sd_journal.specs.declared.origin.Origin.TheVariants.{Opened, Trimmed}
use Rattle.sd_journal.specs.History.{Base, History, pending}
use Rattle.sd_journal.specs.declared.mark.Mark.TheVariants.{Start, Visit, Table}
use Rattle.sd_journal.specs.Marked.{Marked, Noted, Told, entries_of}
use Rattle.sd_rounds.specs.declared.stage.Stage.{Stage}
use Rattle.sd_rounds.specs.declared.stage.Stage.TheVariants.{Format, Freeze as FreezeStage, Pass as PassStage, Close}
use Rattle.sd_rounds.specs.Dumper.{Running, is_last}
use Rattle.sd_rounds.specs.Making.{Making}
use Rattle.sd_crash_safety.specs.DumperSteps.{opens_gate}

-- what was folded last is an acknowledgement
abbrev pub grows_from : Origin → Bool
grows_from Opened = false
grows_from (Trimmed acknowledged) = acknowledged

-- A checkpoint was acknowledged since the latest reopening and the latest cancelling.
abbrev pub has_grown : Base → History → Bool
has_grown base [] = grows_from base.origin
has_grown base (Applied seat command reply ∷ earlier) = has_grown base earlier
has_grown base (Freeze n ∷ earlier) = has_grown base earlier
has_grown base (Acked n ∷ earlier) = true
has_grown base (Cancelled n ∷ earlier) = false
has_grown base (Reopened m ∷ earlier) = false

-- The pass of the pending checkpoint's dump is over: after the freeze a table was begun, which visited each page.
abbrev pub has_visited_all : Marked → Bool
has_visited_all [] = false
has_visited_all (Told (Applied seat command reply) ∷ earlier) = has_visited_all earlier
has_visited_all (Told (Freeze n) ∷ earlier) = false
has_visited_all (Told (Acked n) ∷ earlier) = false
has_visited_all (Told (Cancelled n) ∷ earlier) = false
has_visited_all (Told (Reopened m) ∷ earlier) = false
has_visited_all (Noted (Start serial) ∷ earlier) = has_visited_all earlier
has_visited_all (Noted (Visit serial space page) ∷ earlier) = has_visited_all earlier
has_visited_all (Noted (Table serial) ∷ earlier) = is_some (pending (entries_of earlier))

-- The next checkpoint goes on from the tip where one was acknowledged; and a gate's opening was taken up only after
-- the pass of the pending checkpoint's dump.
pub record AreFlags (base : Base) (items : Marked) (swept grows committing : Bool) : Type 0 where
  pub grown : grows ≡ has_grown base (entries_of items)
  pub visited_by : swept ≡ has_visited_all items
  pub sure : committing ≡ true → swept ≡ true

-- none of these calls opens a gate
abbrev pub HasNoOpen : Calls → Type 0
HasNoOpen [] = Unit {0}
HasNoOpen (one ∷ calls) = (opens_gate one.0 ≡ false) × HasNoOpen calls

-- the gate of the last image is opened only after its pass
abbrev pub IsGatedStage : Bool → Bool → Stage → Type 0
IsGatedStage last swept (Format plan) = HasNoOpen plan.calls
IsGatedStage last swept FreezeStage = Unit {0}
IsGatedStage last swept PassStage = Unit {0}
IsGatedStage last swept (Close plan header tables) = last ≡ true → swept ≡ true

abbrev pub IsGatedImage : Bool → Bool → Option Making → Type 0
IsGatedImage last swept None = Unit {0}
IsGatedImage last swept (Some image) = IsGatedStage last swept image.stage

abbrev pub IsGated : Bool → Running → Type 0
IsGated swept running = IsGatedImage (is_last running) swept running.image
