-- How a checkpoint began, over a run.
use Rattle.std.proofs.Common.{◌≡◌, ℕ, ◌+◌, List, [], ◌∷◌, ◌++◌, length, Option, Some, None, IfSome, refl, sym, ◌∙◌, ap, subst, arith}
use Rattle.std.proofs.lemmas.List.{append_assoc, append-nil, length-take-le}
use Rattle.sd_command.specs.declared.reply.Reply.{Reply}
use Rattle.sd_command.specs.declared.reply.Reply.TheVariants as reply
use Rattle.sd_disk.specs.declared.disk.Disk.{Ghosts}
use Rattle.sd_rounds.specs.Dumper.{Running}
use Rattle.sd_core.specs.Beginning.{Begins}
use Rattle.sd_core.specs.Images.{begun_as}
use Rattle.sd_world.specs.declared.event.Event.{Event}
use Rattle.sd_world.specs.declared.event.Event.TheVariants.{Begin}
use Rattle.sd_world.specs.Begun.{BegunWithin, RunsAsBegun}
use Rattle.sd_world.specs.KeptCheckpoint.{KeepsCheckpoint, RanBefore}
use Rattle.sd_world.specs.Runs.{IsStep, Runs}
use Rattle.sd_world.specs.View.{WorldView}
use Rattle.sd_world.proofs.RunLemmas.{runs_more}

module _ {D : Type 0} (g : Ghosts D) (first : WorldView D) where
  -- the checkpoint that runs in a world began within the run that leads to it
  abbrev HasBegun : List Event → List Reply → WorldView D → Type 0
  HasBegun events answers world = IfSome world.core.dumper.running (λ running. BegunWithin g first events answers (begun_as running))

  -- one event more
  longer : (events : List Event) (answers : List Reply) (event : Event) (answer : Reply) (checkpoint : Running) → BegunWithin g first events answers checkpoint
      → BegunWithin g first (events ++ event ∷ []) (answers ++ answer ∷ []) checkpoint
  longer events answers event answer checkpoint begun = record {
    before = begun.before;
    told = begun.told;
    mid = begun.mid;
    there = begun.there;
    rounds = begun.rounds;
    next = begun.next;
    step = begun.step;
    after = begun.after ++ event ∷ [];
    more = begun.more ++ answer ∷ [];
    events_are = ap (λ e. e ++ event ∷ []) begun.events_are ∙ append_assoc begun.before (Begin begun.rounds ∷ begun.after) (event ∷ []);
    answers_are = ap (λ a. a ++ answer ∷ []) begun.answers_are ∙ append_assoc begun.told (reply.Begun checkpoint.number ∷ begun.more) (answer ∷ []);
    begins = begun.begins;
    running = begun.running;
    asked = begun.asked;
  }

  -- a checkpoint that ran before began within the run before
  ran_on : (events : List Event) (answers : List Reply) (event : Event) (answer : Reply) (old new : WorldView D) → HasBegun events answers old
      → RanBefore old.core.dumper.running new.core.dumper.running → HasBegun (events ++ event ∷ []) (answers ++ answer ∷ []) new
  ran_on events answers event answer old new has ran = by new.core.dumper.running ran
    where
      by : (running : Option Running) → RanBefore old.core.dumper.running running
          → IfSome running (λ r. BegunWithin g first (events ++ event ∷ []) (answers ++ answer ∷ []) (begun_as r))
      by None ran = tt
      by (Some next) ran = subst (BegunWithin g first (events ++ event ∷ []) (answers ++ answer ∷ [])) (sym ran.2)
          (longer events answers event answer (begun_as ran.0) (subst (λ o. IfSome o (λ r. BegunWithin g first events answers (begun_as r))) ran.1 has))

  -- one that the event begins has as many pre-dumps as were asked for
  begins_now : (events : List Event) (answers : List Reply) (event : Event) (answer : Reply) (old new : WorldView D) (rounds n : ℕ) → Runs g first events answers old
      → IsStep g event old answer new → event ≡ Begin rounds → answer ≡ reply.Begun n → Begins old.core rounds n new.core
      → HasBegun (events ++ event ∷ []) (answers ++ answer ∷ []) new
  begins_now events answers event answer old new rounds n there step is_begin is_begun begins =
      subst (λ o. IfSome o (λ r. BegunWithin g first (events ++ event ∷ []) (answers ++ answer ∷ []) (begun_as r))) (sym begins.running) record {
        before = events;
        told = answers;
        mid = old;
        there = there;
        rounds = rounds;
        next = new;
        step = subst (λ e. IsStep g e old (reply.Begun n) new) is_begin (subst (λ a. IsStep g event old a new) is_begun step);
        after = [];
        more = [];
        events_are = ap (λ e. events ++ e ∷ []) is_begin;
        answers_are = ap (λ a. answers ++ a ∷ []) is_begun;
        begins = begins;
        running = begins.running;
        asked = ap length begins.reserved.firsts ∙ length-take-le rounds begins.reserved.slots (let spare = begins.reserved.spare in omega (arith, spare));
      }

  one_more : (events : List Event) (answers : List Reply) (event : Event) (answer : Reply) (old new : WorldView D) → Runs g first events answers old → HasBegun events answers old
      → IsStep g event old answer new → HasBegun (events ++ event ∷ []) (answers ++ answer ∷ []) new
  one_more events answers event answer old new there has step = by step.checkpoint
    where
      by : KeepsCheckpoint event answer old.core new.core → HasBegun (events ++ event ∷ []) (answers ++ answer ∷ []) new
      by (KeepsCheckpoint.ran ran) = ran_on events answers event answer old new has ran
      by (KeepsCheckpoint.begun rounds n is_begin is_begun begins) = begins_now events answers event answer old new rounds n there step is_begin is_begun begins

  go_on : (before : List Event) (told : List Reply) (mid last : WorldView D) (events : List Event) (answers : List Reply) → Runs g first before told mid
      → HasBegun before told mid → Runs g mid events answers last → HasBegun (before ++ events) (told ++ answers) last
  go_on before told mid last [] [] there has runs = subst (λ events. HasBegun events (told ++ []) last) (sym (append-nil before))
      (subst (λ answers. HasBegun before answers last) (sym (append-nil told)) (subst (HasBegun before told) (sym runs) has))
  go_on before told mid last (event ∷ events) (answer ∷ answers) there has runs =
      subst (λ e. HasBegun e (told ++ answer ∷ answers) last) (append_assoc before (event ∷ []) events)
      (subst (λ a. HasBegun ((before ++ event ∷ []) ++ events) a last) (append_assoc told (answer ∷ []) answers)
      (go_on (before ++ event ∷ []) (told ++ answer ∷ []) runs.0 last events answers (runs_more g first mid runs.0 before told event answer there runs.1)
      (one_more before told event answer mid runs.0 there has runs.1) runs.2))
  go_on before told mid last _ _ there has runs = absurd runs

pub runs_as_begun : {D : Type 0} (g : Ghosts D) → RunsAsBegun g
runs_as_begun g first last events answers none runs =
    go_on g first [] [] first last events answers refl (subst (λ o. IfSome o (λ r. BegunWithin g first [] [] (begun_as r))) (sym none) tt) runs
