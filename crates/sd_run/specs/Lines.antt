-- What the lines of a script are answered, and what they do to a world.
use Rattle.std.specs.Prelude.{◌≡◌, ℕ, max, List, [], ◌∷◌}
use Rattle.sd_command.specs.declared.reply.Reply.{Reply}
use Rattle.sd_disk.specs.declared.disk.Disk.{Ghosts}
use Rattle.sd_gate.specs.declared.worker.Worker.TheVariants.{Dumper, Merger, Opener}
use Rattle.sd_script.specs.declared.answer.Answer.{Answer}
use Rattle.sd_script.specs.declared.answer.Answer.TheVariants as answer
use Rattle.sd_script.specs.declared.line.Line.{Line}
use Rattle.sd_script.specs.declared.line.Line.TheVariants as line
use Rattle.sd_world.specs.declared.event.Event.TheVariants.{Command, Begin, Work, Perform, PerformAt, Merge, Cancel}
use Rattle.sd_world.specs.declared.event.Event.TheVariants.{Reopen, Trim}
use Rattle.sd_world.specs.Runs.{IsStep}
use Rattle.sd_world.specs.View.{WorldView}
use Rattle.sd_world.specs.Jobs.{IsDriven, IsFinished, IsJob}
use Rattle.sd_run.specs.Words.{AreGiven}

-- the seat that a script's commands come from
abbrev pub script_seat : ℕ
script_seat = 0

-- an answer is a reply of which this is so
abbrev pub IsReplyOf : (Reply → Type 0) → Answer → Type 0
IsReplyOf fact (answer.Reply given) = fact given
IsReplyOf fact (answer.Words words) = ⊥

-- A line's events, and what the last of them is answered. A step makes one event at least. A line that asks for words
-- makes no event: they are those of the memory as it stands.
abbrev pub AnswersLine : {D : Type 0} → Ghosts D → Line → WorldView D → Answer → WorldView D → Type 0
AnswersLine g (line.Command command) first given last =
    IsReplyOf (λ r. IsStep g (Command script_seat command) first r last) given
AnswersLine g (line.Words space address count) first given last =
    AreGiven first.core.memory space address count given × (last ≡ first)
AnswersLine g (line.Begin rounds) first given last = IsReplyOf (λ r. IsStep g (Begin rounds) first r last) given
AnswersLine g line.BeginMerge first given last = IsReplyOf (λ r. IsStep g Merge first r last) given
AnswersLine g line.Cancel first given last = IsReplyOf (λ r. IsStep g Cancel first r last) given
AnswersLine g (line.Work worker) first given last = IsReplyOf (λ r. IsStep g (Work worker) first r last) given
AnswersLine g (line.Perform worker) first given last = IsReplyOf (λ r. IsStep g (Perform worker) first r last) given
AnswersLine g (line.PerformAt worker place) first given last =
    IsReplyOf (λ r. IsStep g (PerformAt worker place) first r last) given
AnswersLine g (line.Step worker count) first given last =
    IsReplyOf (λ r. IsDriven g worker (max count 1) first r last) given
AnswersLine g (line.Finish worker) first given last = IsReplyOf (λ r. IsFinished g worker first r last) given
AnswersLine g (line.Checkpoint rounds) first given last =
    IsReplyOf (λ r. IsJob g (Begin rounds) Dumper first r last) given
AnswersLine g line.Merge first given last = IsReplyOf (λ r. IsJob g Merge Merger first r last) given
AnswersLine g line.Reopen first given last = IsReplyOf (λ r. IsJob g Reopen Opener first r last) given
AnswersLine g line.Trim first given last = IsReplyOf (λ r. IsStep g Trim first r last) given

-- the lines, one after the other, each with its answer
abbrev pub AnswersLines : {D : Type 0} → Ghosts D → WorldView D → List Line → List Answer → WorldView D → Type 0
AnswersLines g first [] [] last = last ≡ first
AnswersLines {D} g first (asked ∷ lines) (given ∷ answers) last =
    (next : WorldView D) × AnswersLine g asked first given next × AnswersLines g next lines answers last
AnswersLines g first [] (given ∷ answers) last = ⊥
AnswersLines g first (asked ∷ lines) [] last = ⊥
