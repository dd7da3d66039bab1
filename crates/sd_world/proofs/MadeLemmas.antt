-- All that is said of an event follows from what it does.
use Rattle.std.proofs.Common.{◌≡◌, ◌≢◌, ℕ, refl, sym, ◌∙◌, ap, subst}
use Rattle.sd_disk.specs.Crash.{Within}
use Rattle.sd_disk.specs.declared.disk.Disk.{Ghosts}
use Rattle.sd_command.specs.declared.reply.Reply.{Reply}
use Rattle.sd_gate.specs.declared.worker.Worker.{Worker}
use Rattle.sd_gate.specs.Laws.{WritesCommute}
use Rattle.sd_store_laws.specs.Beliefs.{ContentsShow}
use Rattle.sd_store_laws.specs.Gates.{LeftAsBelieved}
use Rattle.sd_crash_safety.specs.Shown.{ShowsAllowed}
use Rattle.sd_crash_safety.specs.View.{CoreView, history_of}
use Rattle.sd_world.specs.declared.event.Event.{Event}
use Rattle.sd_world.specs.declared.event.Event.TheVariants.{Command, Begin, Work, TakeUp, HandInAt, Perform, PerformAt, Merge, Cancel, Reopen, Trim}
use Rattle.sd_world.specs.Adds.{AddsToJournal}
use Rattle.sd_world.specs.Made.{Counts, IsMade, IsSoundWorld, MadeCounts, MadeIsStep}
use Rattle.sd_world.specs.Merges.{DoesMerge}
use Rattle.sd_world.specs.Refused.{GoesOnUnless}
use Rattle.sd_world.specs.Runs.{IsStep, ShowsReply}
use Rattle.sd_world.specs.Steps.{Does}
use Rattle.sd_world.specs.View.{WorldView}
use Rattle.sd_world.proofs.AckedLemmas.{step_acks, step_checkpoint}
use Rattle.sd_world.proofs.AddsLemmas.{step_adds, step_base, step_honest, step_span}
use Rattle.sd_world.proofs.AllowedLemmas.{world_allows}
use Rattle.sd_world.proofs.ClosesLemmas.{step_closes, step_ends}
use Rattle.sd_world.proofs.CopiedLemmas.{step_copies}
use Rattle.sd_world.proofs.FirstLemmas.{device_step, idle_step, made_step}
use Rattle.sd_world.proofs.LittleLemmas.{step_little}
use Rattle.sd_world.proofs.LowersLemmas.{hand_in_lowers, take_up_lowers, work_lowers}
use Rattle.sd_world.proofs.MergesLemmas.{step_keeps, step_merges}
use Rattle.sd_world.proofs.RefusedLemmas.{job_refused}
use Rattle.sd_world.proofs.ReplyLemmas.{marked_legal, says}
use Rattle.sd_world.proofs.StaysLemmas.{step_files}

-- ---- device calls

-- an event that is no device call touches no disk
quiet_event : {D : Type 0} (g : Ghosts D) (event : Event) (old : WorldView D) (answer : Reply) (new : WorldView D) → Does g event old answer new
    → ((worker : Worker) → event ≢ Perform worker) → ((worker : Worker) (place : ℕ) → event ≢ PerformAt worker place) → new.disk ≡ old.disk
quiet_event g (Command seat command) old answer new does one other = does.rest.disk
quiet_event g (Work worker) old answer new does one other = does.disk
quiet_event g (TakeUp worker) old answer new does one other = does.disk
quiet_event g (HandInAt worker place) old answer new does one other = does.disk
quiet_event g (Perform worker) old answer new does one other = absurd (one worker refl)
quiet_event g (PerformAt worker place) old answer new does one other = absurd (other worker place refl)
quiet_event g Trim old answer new does one other = does.disk
quiet_event g _ old answer new does one other = does.0.disk

-- ---- all of it

module _ (law : WritesCommute) (left : LeftAsBelieved) (show : ContentsShow) {D : Type 0} (g : Ghosts D) where
  allows : (world : WorldView D) → IsSoundWorld g world → g.is_honest world.disk → Within (g.may_leave world.disk) (ShowsAllowed world.core.base (history_of world.core))
  allows world sound honest = world_allows g world left show law sound.disk.same_slots sound.there.is honest

  module _ (event : Event) (old : WorldView D) (answer : Reply) (new : WorldView D) (made : IsMade g event old answer new) where
    before : g.is_honest new.disk → g.is_honest old.disk
    before = step_honest g old new made.was.there.is event answer made.does

    adds : AddsToJournal event answer old.core new.core
    adds = step_adds g old new made.was.there.is event answer made.does

    merges : g.is_honest new.disk → DoesMerge g event old answer new
    merges honest = step_merges g old new made.was.there.is law made.was.disk.given_up made.was.core.lanes event answer made.does (before honest)

    jobs : g.is_honest new.disk → GoesOnUnless event old answer
    jobs honest worker why is unasked busy refused =
        job_refused g old new made.was.there.is made.was.core.goes made.was.core.opener made.was.disk.as_read worker answer why busy refused unasked (before honest)
        (subst (λ e. Does g e old answer new) is made.does)

    shows : g.is_honest new.disk → Within (g.may_leave new.disk) (ShowsReply answer new.core.base (history_of new.core))
    shows honest contents may = says event answer old.core new.core contents adds (marked_legal new.core.base new.core.items made.is.core.tracked.marked) (allows new made.is honest contents may)

    told : IsStep g event old answer new
    told = record {
      does = made.does;
      adds = adds;
      little = step_little g old new made.was.there.is event answer made.does;
      checkpoint = step_checkpoint g old new made.is.core.pre_dumps made.was.there.is event answer made.does;
      acked = λ honest. step_acks g old new made.is.core.pre_dumps made.was.there.is (made.was.there.is.consistent (before honest)) made.is.there.is (made.is.there.is.consistent honest)
          event answer made.was.core.few (made.was.there.pre_dumps (before honest)) made.does;
      merges = merges;
      keeps = step_keeps g old new made.was.there.is law made.was.disk.given_up made.was.core.lanes made.was.core.merged event answer made.does;
      closes = λ honest. step_closes g old new made.was.there.is event answer made.does (merges honest);
      ends = λ honest. step_ends g old new made.was.there.is event answer made.does (merges honest);
      copies = λ honest. step_copies g old new made.was.there.is law made.was.disk.given_up made.was.core.lanes made.is.there.is left made.is.disk.as_read event answer made.does
          (made.was.there.is.consistent (before honest)) (made.is.there.is.consistent honest);
      files = λ honest. step_files g old new made.was.core.jobs made.is.core.jobs made.is.core.lanes made.is.there.is (made.is.there.is.consistent honest) event answer made.does;
      jobs = jobs;
      honest = before;
      base = step_base g old new made.was.there.is event answer made.does;
      tracked = made.is.core.tracked;
      any_moment = λ honest. step_span g old new made.was.there.is (ShowsAllowed old.core.base (history_of old.core)) made.was.disk.only_now
          (allows old made.was (before honest)) event answer made.does
          (λ same. subst (λ (core : CoreView). Within (g.may_leave new.disk) (ShowsAllowed core.base (history_of core))) same (allows new made.is honest));
      at_end = allows new made.is;
      shows = shows;
      reads = λ honest. shows honest (g.contents new.disk) made.is.disk.as_read;
    }

    by_event : (other : Event) → event ≡ other → Does g other old answer new
    by_event other is = subst (λ e. Does g e old answer new) is made.does

    counts : Counts g event old answer new
    counts = record {
      idle = λ worker is unasked. idle_step g old new worker answer unasked (by_event (Perform worker) is);
      made = λ worker is asked. made_step g old new worker answer asked (by_event (Perform worker) is);
      device = λ worker is asked. device_step g old new worker answer asked (by_event (Perform worker) is);
      quiet = quiet_event g event old answer new made.does;
      lowers = λ worker is. work_lowers g old new made.was.there.is worker answer (by_event (Work worker) is);
      lowers_up = λ worker is. take_up_lowers g old new made.was.there.is worker answer (by_event (TakeUp worker) is);
      lowers_at = λ worker place is. hand_in_lowers g old new made.was.there.is worker place answer (by_event (HandInAt worker place) is);
    }

  pub made_is_step : MadeIsStep g
  made_is_step event old answer new made = told event old answer new made

  pub made_counts : MadeCounts g
  made_counts event old answer new made = counts event old answer new made
