-- Whatever moment of a run a crash comes, it leaves what the journal allowed at one of its points.
use Rattle.std.proofs.Common.{List, [], ◌∷◌, refl, sym, ap, subst}
use Rattle.sd_command.specs.declared.reply.Reply.{Reply}
use Rattle.sd_disk.specs.Crash.{Within}
use Rattle.sd_disk.specs.Spans.{LeavesOnly, nothing_called, span_widened, spans_join}
use Rattle.sd_disk.specs.declared.disk.Disk.{Ghosts}
use Rattle.sd_journal.specs.Tell.{tell}
use Rattle.sd_world.specs.declared.event.Event.{Event}
use Rattle.sd_world.specs.Moments.{GoesLeave, ShowsOnTheWay}
use Rattle.sd_world.specs.Promise.{Goes, Moves, Point, ShowsWhatRunAllows}

module _ {D : Type 0} (g : Ghosts D) (only_now : (disk : D) → Within (g.left_since disk (g.moment disk)) (g.may_leave disk)) where
  shown_at_once : (first last : Point D) (events : List Event) (answers : List Reply) → Goes g first events answers last
      → Within (ShowsWhatRunAllows (tell first.start first.entries)) (ShowsOnTheWay g first events answers last)
  shown_at_once first last events answers goes contents shows = record {
    before = [];
    told = [];
    mid = first;
    there = refl;
    after = events;
    more = answers;
    goes_on = goes;
    events_are = refl;
    answers_are = refl;
    shows = shows;
  }

  shown_later : (first next last : Point D) (event : Event) (answer : Reply) (events : List Event) (answers : List Reply) → Moves g event answer first next
      → Within (ShowsOnTheWay g next events answers last) (ShowsOnTheWay g first (event ∷ events) (answer ∷ answers) last)
  shown_later first next last event answer events answers moves contents shows = record {
    before = event ∷ shows.before;
    told = answer ∷ shows.told;
    mid = shows.mid;
    there = (next, moves, shows.there);
    after = shows.after;
    more = shows.more;
    goes_on = shows.goes_on;
    events_are = ap (λ e. event ∷ e) shows.events_are;
    answers_are = ap (λ a. answer ∷ a) shows.answers_are;
    shows = shows.shows;
  }

  pub goes_span : GoesLeave g
  goes_span first last [] [] begins goes = subst (λ (point : Point D). LeavesOnly g first.disk point.disk (ShowsOnTheWay g first [] [] point)) (sym goes)
      (nothing_called g first.disk (ShowsOnTheWay g first [] [] first) (g.may_leave first.disk) (only_now first.disk)
      (λ contents may. shown_at_once first first [] [] refl contents (begins contents may)))
  goes_span first last (e ∷ events) (a ∷ answers) begins goes =
      let whole = ShowsOnTheWay g first (e ∷ events) (a ∷ answers) last in
      spans_join g first.disk goes.0.disk last.disk whole
      (span_widened g first.disk goes.0.disk (ShowsWhatRunAllows (tell first.start first.entries)) whole (shown_at_once first last (e ∷ events) (a ∷ answers) goes) goes.1.any_moment)
      (span_widened g goes.0.disk last.disk (ShowsOnTheWay g goes.0 events answers last) whole (shown_later first goes.0 last e a events answers goes.1)
      (goes_span goes.0 last events answers goes.1.at_end goes.2))
  goes_span first last _ _ begins goes = absurd goes
