-- Whole runs, one event after the other.
use Rattle.std.proofs.Common.{◌≡◌, List, [], ◌∷◌, ◌++◌, refl, ◌∙◌, ap, subst}
use Rattle.std.proofs.lemmas.List.{append_assoc}
use Rattle.sd_command.specs.declared.reply.Reply.{Reply}
use Rattle.sd_disk.specs.Crash.{Within}
use Rattle.sd_disk.specs.Spans.{LeavesOnly, nothing_called, span_widened, spans_join}
use Rattle.sd_disk.specs.declared.disk.Disk.{Ghosts}
use Rattle.sd_crash_safety.specs.Shown.{ShowsAllowed}
use Rattle.sd_crash_safety.specs.View.{history_of}
use Rattle.sd_world.specs.declared.event.Event.{Event}
use Rattle.sd_world.specs.Runs.{IsStep, Runs, ShowsAllowedWithin}
use Rattle.sd_world.specs.View.{WorldView}

-- one event more
pub runs_more : {D : Type 0} (g : Ghosts D) (first mid last : WorldView D) (events : List Event) (answers : List Reply) (event : Event) (answer : Reply)
    → Runs g first events answers mid → IsStep g event mid answer last → Runs g first (events ++ event ∷ []) (answers ++ answer ∷ []) last
runs_more g first mid last [] [] event answer runs step = (last, subst (λ world. IsStep g event world answer last) runs step, refl)
runs_more g first mid last (e ∷ es) (r ∷ rs) event answer runs step =
    (runs.0, runs.1, runs_more g runs.0 mid last es rs event answer runs.2 step)
runs_more g first mid last _ _ event answer runs step = absurd runs

-- the disk was honest all along
pub honest_before : {D : Type 0} (g : Ghosts D) (first last : WorldView D) (events : List Event) (answers : List Reply) → Runs g first events answers last → g.is_honest last.disk
    → g.is_honest first.disk
honest_before {D} g first last [] [] runs honest = subst (λ (v : WorldView D). g.is_honest v.disk) runs honest
honest_before g first last [] (r ∷ rs) runs honest = absurd runs
honest_before g first last (e ∷ es) [] runs honest = absurd runs
honest_before g first last (e ∷ es) (r ∷ rs) runs honest = runs.1.honest (honest_before g runs.0 last es rs runs.2 honest)

module _ {D : Type 0} (g : Ghosts D) where
  -- what is shown within a run is so within a longer one
  shown_longer : (first mid last : WorldView D) (events : List Event) (answers : List Reply) (event : Event) (answer : Reply) → IsStep g event mid answer last
      → Within (ShowsAllowedWithin g first events answers mid) (ShowsAllowedWithin g first (events ++ event ∷ []) (answers ++ answer ∷ []) last)
  shown_longer first mid last events answers event answer step contents shown = record {
    before = shown.before;
    told = shown.told;
    mid = shown.mid;
    there = shown.there;
    after = shown.after ++ event ∷ [];
    more = shown.more ++ answer ∷ [];
    goes_on = runs_more g shown.mid mid last shown.after shown.more event answer shown.goes_on step;
    events_are = ap (λ e. e ++ event ∷ []) shown.events_are ∙ append_assoc shown.before shown.after (event ∷ []);
    answers_are = ap (λ a. a ++ answer ∷ []) shown.answers_are ∙ append_assoc shown.told shown.more (answer ∷ []);
    shows = shown.shows;
  }

  -- what is shown before a step
  shown_before : (first mid last : WorldView D) (events : List Event) (answers : List Reply) (event : Event) (answer : Reply) → Runs g first events answers mid
      → IsStep g event mid answer last
      → Within (ShowsAllowed mid.core.base (history_of mid.core)) (ShowsAllowedWithin g first (events ++ event ∷ []) (answers ++ answer ∷ []) last)
  shown_before first mid last events answers event answer runs step contents shown = record {
    before = events;
    told = answers;
    mid = mid;
    there = runs;
    after = event ∷ [];
    more = answer ∷ [];
    goes_on = (last, step, refl);
    events_are = refl;
    answers_are = refl;
    shows = shown;
  }

  pub span_none : (world : WorldView D) (answers : List Reply) → answers ≡ [] → Within (g.left_since world.disk (g.moment world.disk)) (g.may_leave world.disk)
      → Within (g.may_leave world.disk) (ShowsAllowed world.core.base (history_of world.core)) → LeavesOnly g world.disk world.disk (ShowsAllowedWithin g world [] answers world)
  span_none world answers none only_now allowed = nothing_called g world.disk (ShowsAllowedWithin g world [] answers world) (g.may_leave world.disk) only_now
      (λ contents may. record {
        before = [];
        told = [];
        mid = world;
        there = refl;
        after = [];
        more = [];
        goes_on = refl;
        events_are = refl;
        answers_are = none;
        shows = allowed contents may;
      })

  pub span_more : (first mid last : WorldView D) (events : List Event) (answers : List Reply) (event : Event) (answer : Reply) → Runs g first events answers mid
      → IsStep g event mid answer last → LeavesOnly g first.disk mid.disk (ShowsAllowedWithin g first events answers mid)
      → LeavesOnly g mid.disk last.disk (ShowsAllowed mid.core.base (history_of mid.core))
      → LeavesOnly g first.disk last.disk (ShowsAllowedWithin g first (events ++ event ∷ []) (answers ++ answer ∷ []) last)
  span_more first mid last events answers event answer runs step span one =
      let whole = ShowsAllowedWithin g first (events ++ event ∷ []) (answers ++ answer ∷ []) last in
      spans_join g first.disk mid.disk last.disk whole
      (span_widened g first.disk mid.disk (ShowsAllowedWithin g first events answers mid) whole (shown_longer first mid last events answers event answer step) span)
      (span_widened g mid.disk last.disk (ShowsAllowed mid.core.base (history_of mid.core)) whole (shown_before first mid last events answers event answer runs step) one)
