-- Where a strict run ends.
use Rattle.std.specs.Prelude.{◌≡◌, Bool, true, false, ℕ, List, [], ◌∷◌, ◌++◌, Option, Result, Err, OnOk}
use Rattle.std.specs.List.{AllByRecursion, flat_map}
use Rattle.std.specs.Io.KnownBytes.{Appends}
use Rattle.sd_command.specs.declared.reply.Reply.TheVariants as reply
use Rattle.sd_disk.specs.declared.disk.Disk.{Ghosts}
use Rattle.sd_exit.specs.declared.stop.Stop.{Stop}
use Rattle.sd_exit.specs.declared.stop.Stop.TheVariants as stop
use Rattle.sd_script.specs.declared.answer.Answer.{Answer}
use Rattle.sd_script.specs.declared.answer.Answer.TheVariants as answer
use Rattle.sd_script.specs.declared.line.Line.{Line}
use Rattle.sd_script.specs.Texts.{answer_line}
use Rattle.sd_world.specs.View.{WorldView}
use Rattle.sd_run.specs.declared.rule.Rule.{Rule}
use Rattle.sd_run.specs.declared.rule.Rule.TheVariants.{Strict}
use Rattle.sd_run.specs.Ending.{IsUnprinted}
use Rattle.sd_run.specs.Whole.{AnswersSome, IsPartOfRun}

-- an answer that is a refusal, or `segv`
abbrev pub is_failure : Answer → Bool
is_failure (answer.Reply (reply.Refused why)) = true
is_failure (answer.Reply (reply.Segv kind)) = true
is_failure _ = false

-- where a run is strict, none of these answers is one
abbrev pub Passes : Rule → List Answer → Type 0
Passes rule answers = rule ≡ Strict → AllByRecursion (λ given. is_failure given ≡ false) answers

-- a strict run ended so: the last of these answers is the first that is one
pub record EndsStrictly (rule : Rule) (answers : List Answer) : Type 0 where
  pub strict : rule ≡ Strict
  pub passed : List Answer
  pub last : Answer
  pub are : answers ≡ passed ++ last ∷ []
  pub passes : AllByRecursion (λ given. is_failure given ≡ false) passed
  pub fails : is_failure last ≡ true

-- an answer that was printed was looked at by the rule of its run
pub record ChecksAnswer (rule : Rule) (given : Answer) (ended : Result Unit Stop)
    (before now : Option (List ℕ)) : Type 0 where
  pub passes : OnOk ended (Passes rule (given ∷ []))
  pub fails : ended ≡ Err stop.Refused
      → (rule ≡ Strict) × (is_failure given ≡ true) × Appends before now (answer_line given)

-- why lines end early: an answer isn't printed, or ends a strict run
abbrev pub IsEndOfLines : Rule → Stop → Type 0
IsEndOfLines rule stop.Refused = rule ≡ Strict
IsEndOfLines rule why = IsUnprinted why

-- the first of these lines were answered, up to the one that ended a strict run, and their answers printed
pub record StopsStrictly {D : Type 0} (g : Ghosts D) (rule : Rule) (first : WorldView D) (lines : List Line)
    (last : WorldView D) (before now : Option (List ℕ)) : Type 0 where
  pub some : AnswersSome g first lines last
  pub ends : EndsStrictly rule some.answers
  pub printed : Appends before now (flat_map answer_line some.answers)

-- the same of a run from one disk to another
pub record IsStrictRun {D : Type 0} (g : Ghosts D) (rule : Rule) (lines : List Line) (old new : D)
    (before now : Option (List ℕ)) : Type 0 where
  pub run : IsPartOfRun g lines old new
  pub ends : EndsStrictly rule run.answers.answers
  pub printed : Appends before now (flat_map answer_line run.answers.answers)
