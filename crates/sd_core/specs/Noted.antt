-- The marks that the calls of a core add to its journal.
use Rattle.std.specs.Prelude.{◌≡◌, ◌⊎◌, ℕ, ◌&&◌, Bool, true, false, not, List, [], ◌∷◌, Option, Some, None, is_some}
use Rattle.sd_gate.specs.declared.worker.Worker.{Worker}
use Rattle.sd_gate.specs.declared.worker.Worker.TheVariants.{Dumper, Merger, Opener}
use Rattle.sd_journal.specs.declared.mark.Mark.{Mark}
use Rattle.sd_journal.specs.declared.mark.Mark.TheVariants.{Start, Visit, Table}
use Rattle.sd_journal.specs.Marked.{Marked, Noted, Told}
use Rattle.sd_rounds.specs.Dumper.{Running, next_slot, serial_of_running}
use Rattle.sd_rounds.specs.Making.{Making, is_passing}
use Rattle.sd_crash_safety.specs.View.{CoreView}
use Rattle.sd_core.specs.declared.taken.Taken.{Taken}
use Rattle.sd_core.specs.declared.taken.Taken.TheVariants.{Step, Call}

-- the marks between the entries, the newest first
abbrev pub marks_of : Marked → List Mark
marks_of [] = []
marks_of (Told entry ∷ earlier) = marks_of earlier
marks_of (Noted mark ∷ earlier) = mark ∷ marks_of earlier

abbrev pub KeepsMarks : CoreView → CoreView → Type 0
KeepsMarks old new = marks_of new.items ≡ marks_of old.items

-- this mark of the image that is being made is added
pub record NotesMark (mark : ℕ → Mark) (old new : CoreView) : Type 0 where
  pub serial : ℕ
  pub own : serial_of_running new.dumper.running ≡ Some serial
  pub noted : marks_of new.items ≡ mark serial ∷ marks_of old.items

-- pages are visited and copied
abbrev pub is_passing_image : Option Making → Bool
is_passing_image None = false
is_passing_image (Some image) = is_passing image.stage

abbrev pub is_at_pass : Option Running → Bool
is_at_pass None = false
is_at_pass (Some running) = is_passing_image running.image

-- the pass of an image ends with the call that begins to write its table
abbrev pub ends_pass : CoreView → CoreView → Bool
ends_pass old new = is_at_pass old.dumper.running && not (is_at_pass new.dumper.running)

-- an image that begins is started, and one whose pass ends gets its table
abbrev pub NotesByCall : Bool → Bool → CoreView → CoreView → Type 0
NotesByCall true ends old new = NotesMark Start old new
NotesByCall false true old new = NotesMark Table old new
NotesByCall false false old new = KeepsMarks old new

-- a page is visited
pub record NotesVisit (old new : CoreView) : Type 0 where
  pub space : ℕ
  pub page : ℕ
  pub notes : NotesMark (λ serial. Visit serial space page) old new

-- The steps and calls of the dumper add these marks, and no other call adds one.
abbrev pub NotesBy : Worker → CoreView → Taken → CoreView → Type 0
NotesBy Dumper old (Call request) new = NotesByCall (is_some (next_slot old.dumper.running)) (ends_pass old new) old new
NotesBy Dumper old (Step answer) new = KeepsMarks old new ⊎ NotesVisit old new
NotesBy Merger old made new = KeepsMarks old new
NotesBy Opener old made new = KeepsMarks old new
