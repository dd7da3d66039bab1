-- The points of a run between which a worker's events, and whole jobs, go.
use Rattle.std.proofs.Common.{◌≡◌, ◌⊎◌, Bool, true, false, List, [], ◌∷◌, ◌++◌, if◌then◌else◌, refl, sym, subst, inl, inr}
use Rattle.std.specs.List.{AllByRecursion}
use Rattle.sd_command.specs.declared.reply.Reply.{Reply}
use Rattle.sd_disk.specs.declared.disk.Disk.{Ghosts}
use Rattle.sd_gate.specs.declared.worker.Worker.{Worker}
use Rattle.sd_world.specs.declared.event.Event.{Event}
use Rattle.sd_world.specs.declared.event.Event.TheVariants.{Perform, Work}
use Rattle.sd_world.specs.declared.kept.Kept.{Kept}
use Rattle.sd_world.specs.Jobs.{Drives, GoesByJob, IsFinished, IsJob, next_event}
use Rattle.sd_world.specs.Points.{PointsFollow, StandsAt}
use Rattle.sd_world.specs.Promise.{Goes, Point}
use Rattle.sd_world.specs.Runs.{Runs}
use Rattle.sd_world.specs.View.{WorldView, is_asked}

next_of : (kept : List Kept) (worker : Worker) → (next_event kept worker ≡ Work worker) ⊎ (next_event kept worker ≡ Perform worker)
next_of kept worker = by (is_asked kept worker)
  where
    by : (b : Bool) → ((if b then Perform worker else Work worker) ≡ Work worker) ⊎ ((if b then Perform worker else Work worker) ≡ Perform worker)
    by true = inr refl
    by false = inl refl

module _ {D : Type 0} (g : Ghosts D) where
  -- these events of a worker, with these replies
  pub record GoesBy (worker : Worker) (replies : List Reply) (from to : Point D) : Type 0 where
    pub events : List Event
    pub are : AllByRecursion (λ event. (event ≡ Work worker) ⊎ (event ≡ Perform worker)) events
    pub goes : Goes g from events replies to

  pub drives_honest : (worker : Worker) (first last : WorldView D) (replies : List Reply) → Drives g worker first replies last → g.is_honest last.disk
      → g.is_honest first.disk
  drives_honest worker first last [] drives honest = subst (λ (w : WorldView D). g.is_honest w.disk) drives honest
  drives_honest worker first last (r ∷ rs) drives honest = drives.1.honest (drives_honest worker drives.0 last rs drives.2 honest)

  module _ (follow : PointsFollow g) where
    pub drives_reach : (worker : Worker) (first last : WorldView D) (replies : List Reply) → Drives g worker first replies last → g.is_honest last.disk
        → (from : Point D) → StandsAt first from → (to : Point D) × StandsAt last to × GoesBy worker replies from to
    drives_reach worker first last [] drives honest from stands =
        (from, subst (λ (w : WorldView D). StandsAt w from) (sym drives) stands, record { events = []; are = tt; goes = refl })
    drives_reach worker first last (r ∷ rs) drives honest from stands =
        let one = follow (next_event first.kept worker) first r drives.0 drives.1 (drives_honest worker drives.0 last rs drives.2 honest) from stands in
        let rest = drives_reach worker drives.0 last rs drives.2 honest one.0 one.1 in (
          rest.0,
          rest.1,
          record {
            events = next_event first.kept worker ∷ rest.2.events;
            are = (next_of first.kept worker, rest.2.are);
            goes = (one.0, one.2, rest.2.goes);
          },
        )

    -- a worker's events up to the end of its job
    pub finished_reaches : (worker : Worker) (first last : WorldView D) (answer : Reply) → IsFinished g worker first answer last → g.is_honest last.disk
        → (from : Point D) → StandsAt first from → (to : Point D) × StandsAt last to × GoesByJob g [] worker from answer to
    finished_reaches worker first last answer finished honest from stands =
        let driven = finished.driven in
        let all = drives_reach worker first last (driven.before ++ answer ∷ []) driven.drives honest from stands in
        (all.0, all.1, record { others = all.2.events; of_worker = all.2.are; before = driven.before; goes = all.2.goes })

    -- a whole job
    pub job_reaches : (order : Event) (worker : Worker) (first last : WorldView D) (answer : Reply) → IsJob g order worker first answer last
        → g.is_honest last.disk → (from : Point D) → StandsAt first from
        → (to : Point D) × StandsAt last to × GoesByJob g (order ∷ []) worker from answer to
    job_reaches order worker first last answer (IsJob.refused ends step) honest from stands =
        let one = follow order first answer last step honest from stands in
        (one.0, one.1, record { others = []; of_worker = tt; before = []; goes = (one.0, one.2, refl) })
    job_reaches order worker first last answer (IsJob.finished begun mid goes step finished) honest from stands =
        let driven = finished.driven in
        let before = drives_honest worker mid last (driven.before ++ answer ∷ []) driven.drives honest in
        let one = follow order first begun mid step before from stands in
        let all = drives_reach worker mid last (driven.before ++ answer ∷ []) driven.drives honest one.0 one.1 in
        (all.0, all.1, record { others = all.2.events; of_worker = all.2.are; before = begun ∷ driven.before; goes = (one.0, one.2, all.2.goes) })

-- ---- a list of events

module _ {D : Type 0} (g : Ghosts D) (follow : PointsFollow g) where
  runs_honest : (first last : WorldView D) (events : List Event) (answers : List Reply) → Runs g first events answers last → g.is_honest last.disk
      → g.is_honest first.disk
  runs_honest first last [] [] runs honest = subst (λ (w : WorldView D). g.is_honest w.disk) runs honest
  runs_honest first last (e ∷ events) (a ∷ answers) runs honest = runs.1.honest (runs_honest runs.0 last events answers runs.2 honest)
  runs_honest first last _ _ runs honest = absurd runs

  pub points_reached : (first last : WorldView D) (events : List Event) (answers : List Reply) → Runs g first events answers last → g.is_honest last.disk
      → (from : Point D) → StandsAt first from → (to : Point D) × StandsAt last to × Goes g from events answers to
  points_reached first last [] [] runs honest from stands = (from, subst (λ (w : WorldView D). StandsAt w from) (sym runs) stands, refl)
  points_reached first last (e ∷ events) (a ∷ answers) runs honest from stands =
      let one = follow e first a runs.0 runs.1 (runs_honest runs.0 last events answers runs.2 honest) from stands in
      let rest = points_reached runs.0 last events answers runs.2 honest one.0 one.1 in
      (rest.0, rest.1, (one.0, one.2, rest.2))
  points_reached first last _ _ runs honest from stands = absurd runs
