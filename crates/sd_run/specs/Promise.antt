-- What is promised of the run of a script: of its lines, their answers, what is printed, and the disk alone.
use Rattle.std.specs.Prelude.{◌≡◌, ◌⊎◌, ◌≤◌, ℕ, Bool, true, false, List, [], ◌∷◌, ◌++◌, length, Option, None, Result}
use Rattle.std.specs.Prelude.{IfErr, IfOk}
use Rattle.std.specs.Global.{Vec}
use Rattle.std.specs.List.{AllByRecursion, flat_map}
use Rattle.std.specs.Io.KnownBytes.{Appends}
use Rattle.sd_command.specs.declared.refusal.Refusal.{Refusal}
use Rattle.sd_command.specs.declared.reply.Reply.{Reply}
use Rattle.sd_command.specs.declared.reply.Reply.TheVariants as reply
use Rattle.sd_disk.specs.Crash.{Within}
use Rattle.sd_disk.specs.Reads.{OnlyReads}
use Rattle.sd_disk.specs.declared.disk.Disk.{Ghosts}
use Rattle.sd_gate.specs.declared.worker.Worker.{Worker}
use Rattle.sd_gate.specs.declared.worker.Worker.TheVariants.{Dumper, Merger, Opener}
use Rattle.sd_exit.specs.declared.stop.Stop.{Stop}
use Rattle.sd_exit.specs.Ending.{ExitsAs, OnWriter}
use Rattle.sd_image.specs.Shows.{Shows}
use Rattle.sd_script.specs.declared.answer.Answer.{Answer}
use Rattle.sd_script.specs.declared.answer.Answer.TheVariants as answer
use Rattle.sd_script.specs.declared.line.Line.{Line}
use Rattle.sd_script.specs.declared.line.Line.TheVariants as line
use Rattle.sd_script.specs.Texts.{answer_line}
use Rattle.sd_world.specs.declared.event.Event.{Event}
use Rattle.sd_world.specs.declared.event.Event.TheVariants.{Command, Begin, Work, Perform, PerformAt, Merge, Cancel}
use Rattle.sd_world.specs.declared.event.Event.TheVariants.{Reopen, Trim}
use Rattle.sd_world.specs.Points.{StandsAt}
use Rattle.sd_world.specs.Promise.{Goes, Point}
use Rattle.sd_world.specs.View.{WorldView}
use Rattle.sd_world.specs.Jobs.{is_end}
use Rattle.sd_run.specs.Ending.{IsWhyRun}

-- ---- the events of a line, and its answer

-- these orders, and then steps of a worker, and the device calls that it asked for
pub record IsJobOf (orders : List Event) (worker : Worker) (events : List Event) : Type 0 where
  pub others : List Event
  pub are : events ≡ orders ++ others
  pub of_worker : AllByRecursion (λ event. (event ≡ Work worker) ⊎ (event ≡ Perform worker)) others

-- the events that a line makes; one that asks for words makes none
abbrev pub AreEventsOf : Line → List Event → Type 0
AreEventsOf (line.Command command) events = events ≡ Command 0 command ∷ []
AreEventsOf (line.Words space address count) events = events ≡ []
AreEventsOf (line.Begin rounds) events = events ≡ Begin rounds ∷ []
AreEventsOf line.BeginMerge events = events ≡ Merge ∷ []
AreEventsOf line.Cancel events = events ≡ Cancel ∷ []
AreEventsOf line.Trim events = events ≡ Trim ∷ []
AreEventsOf (line.Work worker) events = events ≡ Work worker ∷ []
AreEventsOf (line.Perform worker) events = events ≡ Perform worker ∷ []
AreEventsOf (line.PerformAt worker place) events = events ≡ PerformAt worker place ∷ []
AreEventsOf (line.Step worker count) events = IsJobOf [] worker events
AreEventsOf (line.Finish worker) events = IsJobOf [] worker events
AreEventsOf (line.Checkpoint rounds) events = IsJobOf (Begin rounds ∷ []) Dumper events
AreEventsOf line.Merge events = IsJobOf (Merge ∷ []) Merger events
AreEventsOf line.Reopen events = IsJobOf (Reopen ∷ []) Opener events

-- The answer is the last reply. None before it ends a job or refuses; it does itself, where the line is a whole job's.
pub record LastIs (whole : Bool) (replies : List Reply) (given : Answer) : Type 0 where
  pub before : List Reply
  pub last : Reply
  pub are : replies ≡ before ++ last ∷ []
  pub is : given ≡ answer.Reply last
  pub goes_on : AllByRecursion (λ reply. is_end reply ≡ false) before
  pub ends : whole ≡ true → is_end last ≡ true

-- A line that asks for words makes no event: it is answered by words, or refused.
abbrev pub IsAnswerOf : Line → List Reply → Answer → Type 0
IsAnswerOf (line.Words space address count) replies given =
    ((words : Vec ℕ) × (given ≡ answer.Words words)) ⊎ ((why : Refusal) × (given ≡ answer.Reply (reply.Refused why)))
IsAnswerOf (line.Finish worker) replies given = LastIs true replies given
IsAnswerOf (line.Checkpoint rounds) replies given = LastIs true replies given
IsAnswerOf line.Merge replies given = LastIs true replies given
IsAnswerOf line.Reopen replies given = LastIs true replies given
IsAnswerOf _ replies given = LastIs false replies given

-- ---- from one point of a run to a later one

-- by a line and its answer
pub record GoesByLine {D : Type 0} (g : Ghosts D) (asked : Line) (first : Point D) (given : Answer)
    (last : Point D) : Type 0 where
  pub events : List Event
  pub replies : List Reply
  pub goes : Goes g first events replies last
  pub events_are : AreEventsOf asked events
  pub answer : IsAnswerOf asked replies given

-- by lines, one after the other, each with its answer
abbrev pub GoesByLines : {D : Type 0} → Ghosts D → Point D → List Line → List Answer → Point D → Type 0
GoesByLines g first [] [] last = last ≡ first
GoesByLines {D} g first (asked ∷ lines) (given ∷ answers) last =
    (next : Point D) × GoesByLine g asked first given next × GoesByLines g next lines answers last
GoesByLines g first [] (given ∷ answers) last = ⊥
GoesByLines g first (asked ∷ lines) [] last = ⊥

-- an answer is returned, and its line printed after what was
abbrev pub Tells : Answer → Option (List ℕ) → Option (List ℕ) → Answer → Type 0
Tells given before now told = (told ≡ given) × Appends before now (answer_line given)

-- One line was answered, which was printed where the writer took it, and the world stands at the point that the run
-- came to.
pub record RunsLine {D E : Type 0} (g : Ghosts D) (asked : Line) (first : Point D) (world : WorldView D)
    (ended : Result Answer E) (before now : Option (List ℕ)) : Type 0 where
  pub last : Point D
  pub stands : StandsAt world last
  pub given : Answer
  pub goes : GoesByLine g asked first given last
  pub told : IfOk ended (Tells given before now)

-- ---- from the disk that was opened to the one that is left

-- A run over these lines, as far as it came.
pub record PromiseSoFar {D : Type 0} (g : Ghosts D) (lines : List Line) (old new : D)
    (before now : Option (List ℕ)) : Type 0 where
  pub first : Point D
  pub last : Point D
  -- It starts: the disk was only read, the journal is empty, and no checkpoint was begun. What was read shows what the
  -- run starts from, or nothing saved, and so does whatever a crash may leave.
  pub reads : OnlyReads g old first.disk
  pub entries : first.entries ≡ []
  pub begun : first.begun ≡ None
  pub shows : Shows (g.contents old) first.start
  pub everywhere : Within (g.may_leave first.disk) (λ c. Shows c first.start)
  -- The first of the lines were answered, and their answers are printed after what was; of the last one a beginning,
  -- where its printing was broken off.
  pub done : List Line
  pub rest : List Line
  pub parts : lines ≡ done ++ rest
  pub told : List Answer
  pub broken : List Answer
  pub one : length broken ≤ 1
  pub goes : GoesByLines g first done (told ++ broken) last
  pub ends : new ≡ last.disk
  pub front : List ℕ
  pub back : List ℕ
  pub text : front ++ back ≡ flat_map answer_line broken
  pub printed : Appends before now (flat_map answer_line told ++ front)

-- it came to its end: all lines were answered, and all answers printed
abbrev pub Promise : {D : Type 0} → Ghosts D → List Line → D → D → Option (List ℕ) → Option (List ℕ) → Type 0
Promise g lines old new before now =
    (run : PromiseSoFar g lines old new before now) × (run.rest ≡ []) × (run.broken ≡ [])

-- what is promised however a run ends: the disk was only read, and no answer was printed; or it came so far
abbrev pub PromiseAnyway : {D : Type 0} → Ghosts D → List Line → D → D → Option (List ℕ) → Option (List ℕ) → Type 0
PromiseAnyway g lines old new before now =
    (OnlyReads g old new × (now ≡ before)) ⊎ PromiseSoFar g lines old new before now

-- The same up to the exit: after what was printed stands why the run was stopped, if it was, and the status is the one
-- that comes with that.
pub record PromiseToExit {D : Type 0} (g : Ghosts D) (blames : ℕ → Type 0) (lines : List Line) (old new : D)
    (before after : Option (List ℕ)) (refused : Bool) (status : ℕ) : Type 0 where
  pub ended : Result Unit Stop
  pub printed : Option (List ℕ)
  pub so_far : PromiseAnyway g lines old new before printed
  pub why : IfErr ended (IsWhyRun blames (g.contents old) (g.failed old) (g.failed new))
  pub writer : OnWriter ended (refused ≡ true)
  pub exits : ExitsAs ended printed after refused status
