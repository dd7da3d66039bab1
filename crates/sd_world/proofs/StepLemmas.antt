-- What each event does to a world.
use Rattle.std.proofs.Common.{◌≡◌, ℕ, Some, length, map, slice_get, slice_set, sym, ◌∙◌, ap, subst, inl, inr, arith}
use Rattle.sd_command.specs.declared.reply.Reply.{Reply}
use Rattle.sd_disk.specs.Contents.{file_at}
use Rattle.sd_disk.specs.declared.disk.Disk.{Ghosts}
use Rattle.sd_gate.specs.declared.phase.Phase.{Phase}
use Rattle.sd_gate.specs.declared.worker.Worker.{Worker}
use Rattle.sd_gate.specs.Laws.{GivenUpFits, WritesCommute}
use Rattle.sd_store_laws.specs.GateSteps.{SyncedIsFound}
use Rattle.sd_crash_safety.specs.Calls.{HandsOut, Stays}
use Rattle.sd_crash_safety.specs.Laws.{PerformedIsBelieved}
use Rattle.sd_world.specs.declared.event.Event.{Event}
use Rattle.sd_world.specs.declared.event.Event.TheVariants.{Command, Work, TakeUp, HandInAt, Perform, PerformAt, Trim}
use Rattle.sd_world.specs.declared.kept.Kept.TheVariants.{Nothing, Request}
use Rattle.sd_world.specs.Consistent.{FitsNow, IsWorld, slot_now}
use Rattle.sd_world.specs.Steps.{ChangesCoreAlone, Does, HandsInAt, HandsInIfAny, IsTrim, Performs, WorkerTakesUp, WorkerWorks}
use Rattle.sd_world.specs.View.{WorldView, asked_of}
use Rattle.sd_world.proofs.AnewLemmas.{anew_world}
use Rattle.sd_world.proofs.HandInLemmas.{handed_world}
use Rattle.sd_world.proofs.PerformLemmas.{performed_world}
use Rattle.sd_world.proofs.TrimLemmas.{trim_outs, trim_phases}
use Rattle.sd_world.proofs.Worlds.{hands_out_world, same_lane, stays_world}

module _ {D : Type 0} (g : Ghosts D) (old new : WorldView D) (gives : GivenUpFits (g.contents old.disk) (g.may_leave old.disk))
    (found : SyncedIsFound (g.contents old.disk) (g.may_leave old.disk)) (as_read : g.may_leave old.disk (g.contents old.disk))
    (performed : PerformedIsBelieved) (law : WritesCommute) (world : IsWorld g old) where
  same_rest : new.disk ≡ old.disk → new.kept ≡ old.kept → IsWorld g (record { core = new.core; disk = old.disk; kept = old.kept }) → IsWorld g new
  same_rest disk kept it = subst (λ k. IsWorld g (record { core = new.core; disk = new.disk; kept = k })) (sym kept)
      (subst (λ d. IsWorld g (record { core = new.core; disk = d; kept = old.kept })) (sym disk) it)

  order_world : ChangesCoreAlone old new → Stays old.core new.core → IsWorld g new
  order_world order stays = same_rest order.disk order.kept (stays_world g old.disk old.core new.core old.kept gives stays world)

  trim_world : (answer : Reply) → IsTrim old answer new → IsWorld g new
  trim_world answer trim = same_rest trim.disk trim.kept (record {
    count = world.count ∙ ap length (sym (trim_phases old.core answer new.core trim.trims));
    outs = trim_outs old.core answer new.core trim.trims ∙ world.outs;
    places = world.places;
    consistent = λ honest.
        let was = world.consistent honest in
        record {
          bodies = was.bodies;
          believes = trim.goes_on (map asked_of old.kept) was.bodies (g.contents old.disk) was.believes;
          stands = subst (λ phases. (slot : ℕ) (phase : Phase) → slice_get phases slot ≡ Some phase
              → FitsNow g old.disk slot (slot_now old.kept slot (record { phase = phase; body = file_at was.bodies slot })))
              (sym (trim_phases old.core answer new.core trim.trims)) was.stands;
          told = was.told;
        };
  })

  takes_world : (worker : Worker) (answer : Reply) → WorkerTakesUp worker old.core old.kept answer new.core new.kept → new.disk ≡ old.disk → IsWorld g new
  takes_world worker answer (WorkerTakesUp.step taken left) disk = same_rest disk left (elim taken.takes.keeps [
    | inl stays ↦ stays_world g old.disk old.core new.core old.kept gives stays world
    | inr anew ↦ anew_world g old.disk old.core new.core old.kept anew world found as_read
  ])
  takes_world worker answer (WorkerTakesUp.call request taken keeps worked) disk =
      let hands : HandsOut old.core worker request new.core = taken.takes in
      let left = keeps.left ∙ ap (λ lane. slice_set old.kept lane (Request request)) (same_lane old.core new.core old.kept new.kept worker request hands keeps) in
      subst (λ k. IsWorld g (record { core = new.core; disk = new.disk; kept = k })) (sym left)
      (subst (λ d. IsWorld g (record { core = new.core; disk = d; kept = slice_set old.kept hands.lane (Request request) })) (sym disk)
      (hands_out_world g old.disk old.core new.core old.kept worker request hands world))

  handed_in_world : (worker : Worker) (place : ℕ) (answer : Reply) → HandsInAt worker place old.core old.kept answer new.core new.kept → new.disk ≡ old.disk → IsWorld g new
  handed_in_world worker place answer hands disk =
      subst (λ k. IsWorld g (record { core = new.core; disk = new.disk; kept = k })) (sym hands.hands.left)
      (subst (λ d. IsWorld g (record { core = new.core; disk = d; kept = slice_set old.kept hands.lane Nothing })) (sym disk)
      (handed_world g old.disk old.core new.core old.kept hands.lane hands.made answer law hands.is gives hands.hands.does.handed world))

  works_world : (worker : Worker) (answer : Reply) → WorkerWorks worker old.core old.kept answer new.core new.kept → new.disk ≡ old.disk → IsWorld g new
  works_world worker answer (WorkerWorks.hands_in hands) disk = handed_in_world worker 0 answer hands disk
  works_world worker answer (WorkerWorks.takes_up none takes) disk = takes_world worker answer takes disk

  hand_in_world : (worker : Worker) (place : ℕ) (answer : Reply) → HandsInIfAny worker place old.core old.kept answer new.core new.kept → new.disk ≡ old.disk → IsWorld g new
  hand_in_world worker place answer (HandsInIfAny.hands_in hands) disk = handed_in_world worker place answer hands disk
  hand_in_world worker place answer (HandsInIfAny.none none idle) disk =
      same_rest disk idle.left (subst (λ c. IsWorld g (record { core = c; disk = old.disk; kept = old.kept })) (sym idle.core) world)

  performs_world : (worker : Worker) (place : ℕ) (answer : Reply) → Performs g worker place old.disk old.kept answer new.disk new.kept → new.core ≡ old.core → IsWorld g new
  performs_world worker place answer given core = grind (arith, performed_world)

  pub step_world : (event : Event) (answer : Reply) → Does g event old answer new → IsWorld g new
  step_world (Command seat command) answer does = order_world does.rest does.applied.keeps
  step_world (Work worker) answer does = works_world worker answer does.works does.disk
  step_world (TakeUp worker) answer does = takes_world worker answer does.takes does.disk
  step_world (HandInAt worker place) answer does = hand_in_world worker place answer does.hands does.disk
  step_world (Perform worker) answer does = performs_world worker 0 answer does.performs does.core
  step_world (PerformAt worker place) answer does = performs_world worker place answer does.performs does.core
  step_world Trim answer does = trim_world answer does
  step_world _ answer does = order_world does.0 does.1.keeps
