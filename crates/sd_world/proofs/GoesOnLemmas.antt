-- How a run goes on, step by step.
use Rattle.std.proofs.Common.{List, [], ◌∷◌, ◌++◌, refl, sym, ◌∙◌, ap, subst}
use Rattle.std.proofs.lemmas.List.{append_assoc}
use Rattle.sd_command.specs.declared.reply.Reply.{Reply}
use Rattle.sd_disk.specs.Crash.{Within}
use Rattle.sd_disk.specs.Spans.{LeavesOnly, nothing_called, span_widened, spans_join}
use Rattle.sd_disk.specs.declared.disk.Disk.{Ghosts}
use Rattle.sd_crash_safety.specs.Shown.{ShowsAllowed}
use Rattle.sd_crash_safety.specs.View.{history_of}
use Rattle.sd_world.specs.declared.event.Event.{Event}
use Rattle.sd_world.specs.Runs.{IsStep, Runs, ShowsAllowedWithin}
use Rattle.sd_world.specs.View.{WorldView}
use Rattle.sd_world.specs.Goes.{GoesOn}

module _ {D : Type 0} (g : Ghosts D) where
  -- what is shown in a world is so at the beginning of a run from it
  shown_first : (first : WorldView D) (events : List Event) (replies : List Reply) (last : WorldView D) → Runs g first events replies last
      → Within (ShowsAllowed first.core.base (history_of first.core)) (ShowsAllowedWithin g first events replies last)
  shown_first first events replies last runs contents shown = record {
    before = [];
    told = [];
    mid = first;
    there = refl;
    after = events;
    more = replies;
    goes_on = runs;
    events_are = refl;
    answers_are = refl;
    shows = shown;
  }

  -- without an event
  pub goes_nowhere : (world : WorldView D) → Within (g.left_since world.disk (g.moment world.disk)) (g.may_leave world.disk)
      → (g.is_honest world.disk → Within (g.may_leave world.disk) (ShowsAllowed world.core.base (history_of world.core))) → GoesOn g world world
  goes_nowhere world only_now allowed = record {
    events = [];
    replies = [];
    runs = refl;
    honest = λ honest. honest;
    any_moment = λ honest. nothing_called g world.disk (ShowsAllowedWithin g world [] [] world) (g.may_leave world.disk) only_now
        (λ c may. shown_first world [] [] world refl c (allowed honest c may));
  }

  -- by one event
  pub goes_by_event : (event : Event) (answer : Reply) (old new : WorldView D) → IsStep g event old answer new
      → (g.is_honest new.disk → g.is_honest old.disk)
      → (g.is_honest new.disk → LeavesOnly g old.disk new.disk (ShowsAllowed old.core.base (history_of old.core))) → GoesOn g old new
  goes_by_event event answer old new step honest any_moment = record {
    events = event ∷ [];
    replies = answer ∷ [];
    runs = (new, step, refl);
    honest = honest;
    any_moment = λ is_honest. span_widened g old.disk new.disk (ShowsAllowed old.core.base (history_of old.core))
        (ShowsAllowedWithin g old (event ∷ []) (answer ∷ []) new)
        (shown_first old (event ∷ []) (answer ∷ []) new (new, step, refl)) (any_moment is_honest);
  }

  runs_join : (first mid last : WorldView D) (events others : List Event) (replies more : List Reply) → Runs g first events replies mid
      → Runs g mid others more last → Runs g first (events ++ others) (replies ++ more) last
  runs_join first mid last [] others [] more runs further = subst (λ world. Runs g world others more last) runs further
  runs_join first mid last (e ∷ es) others (r ∷ rs) more runs further =
      (runs.0, runs.1, runs_join runs.0 mid last es others rs more runs.2 further)
  runs_join first mid last _ others _ more runs further = absurd runs

  -- what is shown within the first part of a run, or within the rest of it, is so within the whole
  module _ (old mid new : WorldView D) (first : GoesOn g old mid) (second : GoesOn g mid new) where
    in_first : Within (ShowsAllowedWithin g old first.events first.replies mid)
        (ShowsAllowedWithin g old (first.events ++ second.events) (first.replies ++ second.replies) new)
    in_first contents shown = record {
      before = shown.before;
      told = shown.told;
      mid = shown.mid;
      there = shown.there;
      after = shown.after ++ second.events;
      more = shown.more ++ second.replies;
      goes_on = runs_join shown.mid mid new shown.after second.events shown.more second.replies shown.goes_on second.runs;
      events_are = ap (λ e. e ++ second.events) shown.events_are ∙ append_assoc shown.before shown.after second.events;
      answers_are = ap (λ r. r ++ second.replies) shown.answers_are ∙ append_assoc shown.told shown.more second.replies;
      shows = shown.shows;
    }

    in_second : Within (ShowsAllowedWithin g mid second.events second.replies new)
        (ShowsAllowedWithin g old (first.events ++ second.events) (first.replies ++ second.replies) new)
    in_second contents shown = record {
      before = first.events ++ shown.before;
      told = first.replies ++ shown.told;
      mid = shown.mid;
      there = runs_join old mid shown.mid first.events shown.before first.replies shown.told first.runs shown.there;
      after = shown.after;
      more = shown.more;
      goes_on = shown.goes_on;
      events_are = ap (λ e. first.events ++ e) shown.events_are ∙ sym (append_assoc first.events shown.before shown.after);
      answers_are = ap (λ r. first.replies ++ r) shown.answers_are ∙ sym (append_assoc first.replies shown.told shown.more);
      shows = shown.shows;
    }

  -- one part after the other
  pub goes_further : (old mid new : WorldView D) → GoesOn g old mid → GoesOn g mid new → GoesOn g old new
  goes_further old mid new first second =
      let whole = ShowsAllowedWithin g old (first.events ++ second.events) (first.replies ++ second.replies) new in
      record {
        events = first.events ++ second.events;
        replies = first.replies ++ second.replies;
        runs = runs_join old mid new first.events second.events first.replies second.replies first.runs second.runs;
        honest = λ honest. first.honest (second.honest honest);
        any_moment = λ honest. spans_join g old.disk mid.disk new.disk whole
            (span_widened g old.disk mid.disk (ShowsAllowedWithin g old first.events first.replies mid) whole (in_first old mid new first second) (first.any_moment (second.honest honest)))
            (span_widened g mid.disk new.disk (ShowsAllowedWithin g mid second.events second.replies new) whole (in_second old mid new first second) (second.any_moment honest));
      }
