-- Little work, of a world's events.
use Rattle.std.proofs.Common.{◌≡◌, ℕ, sym, ◌∙◌, subst, arith}
use Rattle.sd_command.specs.declared.refusal.Refusal.{Refusal}
use Rattle.sd_command.specs.declared.refusal.Refusal.TheVariants.{Idle}
use Rattle.sd_command.specs.declared.reply.Reply.{Reply}
use Rattle.sd_command.specs.declared.reply.Reply.TheVariants as reply
use Rattle.sd_disk.specs.declared.disk.Disk.{Ghosts}
use Rattle.sd_gate.specs.declared.worker.Worker.{Worker}
use Rattle.sd_journal.specs.History.{History}
use Rattle.sd_crash_safety.specs.Calls.{AddsByStep, IsOut}
use Rattle.sd_crash_safety.specs.View.{CoreView}
use Rattle.sd_world.specs.declared.event.Event.{Event}
use Rattle.sd_world.specs.declared.event.Event.TheVariants.{Work, TakeUp, HandInAt}
use Rattle.sd_world.specs.Consistent.{IsWorld}
use Rattle.sd_world.specs.Little.{DoesLittle, WorksLittle}
use Rattle.sd_world.specs.Steps.{Does, HandsInAt, HandsInIfAny, WorkerTakesUp, WorkerWorks}
use Rattle.sd_world.specs.View.{WorldView}
use Rattle.sd_world.proofs.AddsLemmas.{is_out}
use Rattle.sd_world.proofs.KeptLemmas.{whose}

-- no step acknowledges
no_step : (worker : Worker) (core : CoreView) (answer : Reply) (n : ℕ) (old new : History) → answer ≡ reply.Acked n → AddsByStep worker core answer old new → ⊥
no_step worker core answer n old new is adds = subst (λ a. AddsByStep worker core a old new) is adds

not_acked : (answer other : Reply) (n : ℕ) → answer ≡ other → (other ≡ reply.Acked n → ⊥) → answer ≡ reply.Acked n → ⊥
not_acked answer other n is apart acked = apart (sym is ∙ acked)

worked_apart : (n : ℕ) → reply.Worked ≡ reply.Acked n → ⊥
worked_apart n e = cc

refused_apart : (why : Refusal) (n : ℕ) → reply.Refused why ≡ reply.Acked n → ⊥
refused_apart why n e = cc

module _ {D : Type 0} (g : Ghosts D) (old new : WorldView D) (world : IsWorld g old) where
  none_taken : (worker : Worker) (answer : Reply) (n : ℕ) → WorkerTakesUp worker old.core old.kept answer new.core new.kept → answer ≡ reply.Acked n → ⊥
  none_taken worker answer n given is = grind arith

  handed_little : (worker : Worker) (place : ℕ) (answer : Reply) → HandsInAt worker place old.core old.kept answer new.core new.kept → WorksLittle worker place old answer new
  handed_little worker place answer hands = record {
    acked = λ n is. hands.hands.does.acked n out is;
    little = λ n is. hands.hands.does.little n out is;
    round = λ lane running dumper at opens. hands.hands.does.round out (whose old.kept worker place hands.lane hands.made hands.at hands.is ∙ dumper) running opens;
  }
    where
      out : IsOut old.core hands.made.request.id
      out = is_out g old new world hands.lane hands.made hands.is

  works_little : (worker : Worker) (answer : Reply) → WorkerWorks worker old.core old.kept answer new.core new.kept → WorksLittle worker 0 old answer new
  works_little worker answer (WorkerWorks.hands_in hands) = handed_little worker 0 answer hands
  works_little worker answer (WorkerWorks.takes_up none takes) = record {
    acked = λ n is. absurd (none_taken worker answer n takes is);
    little = λ n is. absurd (none_taken worker answer n takes is);
    round = λ lane running dumper at opens. absurd (none lane at);
  }

  hand_in_little : (worker : Worker) (place : ℕ) (answer : Reply) → HandsInIfAny worker place old.core old.kept answer new.core new.kept → WorksLittle worker place old answer new
  hand_in_little worker place answer (HandsInIfAny.hands_in hands) = handed_little worker place answer hands
  hand_in_little worker place answer (HandsInIfAny.none none idle) = record {
    acked = λ n is. absurd (not_acked answer (reply.Refused Idle) n idle.refused (refused_apart Idle n) is);
    little = λ n is. absurd (not_acked answer (reply.Refused Idle) n idle.refused (refused_apart Idle n) is);
    round = λ lane running dumper at opens. absurd (none lane at);
  }

  pub step_little : (event : Event) (answer : Reply) → Does g event old answer new → DoesLittle event old answer new
  step_little (Work worker) answer does = works_little worker answer does.works
  step_little (TakeUp worker) answer does = λ n is. none_taken worker answer n does.takes is
  step_little (HandInAt worker place) answer does = hand_in_little worker place answer does.hands
  step_little _ answer does = tt
