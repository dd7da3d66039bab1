-- What the events of a merge make of the contents of a disk.
use Rattle.std.proofs.Common.{◌≡◌, ℕ, List, map, Option, Some, slice_get, sym, ◌∙◌, ap, subst, arith}
use Rattle.sd_command.specs.declared.reply.Reply.{Reply}
use Rattle.sd_command.specs.declared.reply.Reply.TheVariants as reply
use Rattle.sd_command.specs.declared.refusal.Refusal.TheVariants.{Idle}
use Rattle.sd_chain.specs.Catalog.{Opened, place_of}
use Rattle.sd_disk.specs.Contents.{file_at}
use Rattle.sd_disk.specs.declared.disk.Disk.{Ghosts}
use Rattle.sd_gate.specs.declared.phase.Phase.{Phase}
use Rattle.sd_gate.specs.declared.phase.Phase.TheVariants.{Bare, Whole}
use Rattle.sd_gate.specs.declared.request_id.RequestId.{RequestId}
use Rattle.sd_gate.specs.declared.worker.Worker.{Worker}
use Rattle.sd_gate.specs.declared.worker.Worker.TheVariants.{Merger}
use Rattle.sd_gate.specs.Fits.{PhaseReads}
use Rattle.sd_gate.specs.Laws.{GivenUpFits, WritesCommute}
use Rattle.sd_gate.specs.Phases.{bodies_after}
use Rattle.sd_image.specs.Image.{IsImage}
use Rattle.sd_journal.specs.History.{History}
use Rattle.sd_merge.specs.Merger as merger
use Rattle.sd_merge.specs.Merger.{list_of}
use Rattle.sd_crash_safety.specs.Calls.{AddsByStep, IsFree, IsOut}
use Rattle.sd_crash_safety.specs.View.{CoreView}
use Rattle.sd_core.specs.GoingOn.{AreOwnLanes}
use Rattle.sd_core.specs.Lasting.{LeavesMerged}
use Rattle.sd_core.specs.Merging.{IsAsBelieved, OpensMerged}
use Rattle.sd_core.specs.Working.{LeavesByOutcome}
use Rattle.sd_world.specs.declared.event.Event.{Event}
use Rattle.sd_world.specs.declared.event.Event.TheVariants.{Command, Work, TakeUp, HandInAt, Perform, PerformAt, Trim}
use Rattle.sd_world.specs.declared.kept.Kept.{Kept}
use Rattle.sd_world.specs.declared.kept.Kept.TheVariants.{Request, Outcome}
use Rattle.sd_world.specs.Consistent.{IsConsistent, IsWorld}
use Rattle.sd_world.specs.Merges.{AreCutThere, DoesMerge, IsMergedThere, KeepsMerged, MergesThere}
use Rattle.sd_world.specs.Steps.{Does, HandsInAt, HandsInIfAny, Performs, WorkerTakesUp, WorkerWorks}
use Rattle.sd_world.specs.View.{WorldView, asked_of, kept_id}
use Rattle.sd_core.proofs.HandedLemmas.{merger_lane}
use Rattle.sd_world.proofs.AddsLemmas.{is_out}
use Rattle.sd_world.proofs.HandInLemmas.{handed_stands}
use Rattle.sd_world.proofs.KeptLemmas.{free_now, whose}
use Rattle.sd_world.proofs.Lists.{get_map}
use Rattle.sd_world.proofs.Worlds.{Fits, Stand, slot_as}

-- a slot on which no request is out reads as its phase says
pub reads_free : (contents : List (List ℕ)) (may_leave : List (List ℕ) → Type 0) (phases : List Phase) (kept : List Kept) (bodies : List (List ℕ)) (outs : List (Option RequestId))
    (slot : ℕ) (phase : Phase) → outs ≡ map kept_id kept → Stand contents may_leave phases kept bodies → IsFree outs slot → slice_get phases slot ≡ Some phase
    → PhaseReads phase (file_at bodies slot) (file_at contents slot)
reads_free contents may_leave phases kept bodies outs slot phase are stand free is =
    (subst (Fits contents may_leave slot) (free_now kept slot (slot_as phase (file_at bodies slot)) (subst (λ all. IsFree all slot) are free)) (stand slot phase is)).reads

no_step : (worker : Worker) (core : CoreView) (answer : Reply) (serial : ℕ) (old new : History) → answer ≡ reply.Merged serial → AddsByStep worker core answer old new → ⊥
no_step worker core answer serial old new is adds = subst (λ a. AddsByStep worker core a old new) is adds

pub same_opened : (a b : Opened) → Some (Some a) ≡ Some (Some b) → a ≡ b
same_opened a b e = cc

module _ {D : Type 0} (g : Ghosts D) (old new : WorldView D) (world : IsWorld g old) (law : WritesCommute) (gives : GivenUpFits (g.contents old.disk) (g.may_leave old.disk))
    (own : AreOwnLanes old.core.outs) where
  none_taken : (worker : Worker) (answer : Reply) (serial : ℕ) → WorkerTakesUp worker old.core old.kept answer new.core new.kept → answer ≡ reply.Merged serial → ⊥
  none_taken worker answer serial given is = grind arith

  module _ (worker : Worker) (place : ℕ) (answer : Reply) (hands : HandsInAt worker place old.core old.kept answer new.core new.kept) (was : IsConsistent g old) where
    pub out : IsOut old.core hands.made.request.id
    out = is_out g old new world hands.lane hands.made hands.is

    pub stands : (new.core.outs ≡ map kept_id new.kept)
        × Stand (g.contents old.disk) (g.may_leave old.disk) new.core.phases new.kept (bodies_after was.bodies hands.made.request.id hands.made.request.bytes)
    stands = subst (λ kept. (new.core.outs ≡ map kept_id kept)
        × Stand (g.contents old.disk) (g.may_leave old.disk) new.core.phases kept (bodies_after was.bodies hands.made.request.id hands.made.request.bytes)) (sym hands.hands.left)
        (handed_stands g old.disk old.core new.core old.kept hands.lane hands.made answer law hands.is gives hands.hands.does.handed world was)

    pub believed : hands.made.request.id.worker ≡ Merger → IsAsBelieved old.core hands.made.request was.bodies
    believed merger =
        let lane_is : hands.lane ≡ 1 = merger_lane hands.lane (sym (own hands.lane hands.made.request.id
        (ap (λ outs. slice_get outs hands.lane) world.outs ∙ get_map kept_id old.kept hands.lane (Outcome hands.made) hands.is)) ∙ merger) in
        record {
          asked = map asked_of old.kept;
          files = g.contents old.disk;
          out = ap (slice_get (map asked_of old.kept)) (sym lane_is) ∙ get_map asked_of old.kept hands.lane (Outcome hands.made) hands.is;
          believes = was.believes;
        }

    enters_by : worker ≡ Merger → (merge : merger.Running) (serial : ℕ) → OpensMerged merge serial old.core new.core
        → IsMergedThere (g.contents old.disk) old.core.catalog merge serial
    enters_by is merge serial opens =
        let its = whose old.kept worker place hands.lane hands.made hands.at hands.is ∙ is in
        let e = hands.hands.does.copies out its merge serial was.bodies opens (believed its) in
        let s = e.0.stands in
        let same : s.opened ≡ e.1.image = same_opened s.opened e.1.image (sym s.there ∙ ap (place_in new.core) e.0.own_serial ∙ e.1.there) in
        let slot_is : s.opened.slot ≡ merge.slot = ap (λ (o : Opened). o.slot) same ∙ e.1.slot in
        let file = reads_free (g.contents old.disk) (g.may_leave old.disk) new.core.phases new.kept (bodies_after was.bodies hands.made.request.id hands.made.request.bytes)
        new.core.outs s.opened.slot Whole stands.0 stands.1 (subst (IsFree new.core.outs) (sym slot_is) e.2) s.whole in
        record {
          images = e.0.images;
          are = e.0.are;
          source = e.0.source;
          its_serial = e.0.its_serial;
          copy = e.0.copy;
          own = e.0.own_serial;
          stands = subst (λ n. IsImage (file_at (g.contents old.disk) n) e.0.copy) slot_is (subst (λ f. IsImage f e.0.copy) (sym file) s.spelled);
          copies = e.0.copies;
        }
      where
        place_in : CoreView → ℕ → Option (Option Opened)
        place_in core serial = place_of core.catalog serial

    cuts_by : (serial : ℕ) → answer ≡ reply.Merged serial → AreCutThere (g.contents old.disk) (list_of old.core.merger)
    cuts_by serial is one listed =
        let its = (subst (λ a. LeavesByOutcome old.core hands.made.request.id.worker a new.core) is (hands.hands.does.leaves out)).0 in
        let cut = hands.hands.does.cuts serial out is was.bodies (believed its) in
        let byte = cut.each one listed in
        byte.reads (file_at (bodies_after was.bodies hands.made.request.id hands.made.request.bytes) one.slot) (file_at (g.contents old.disk) one.slot)
        (reads_free (g.contents old.disk) (g.may_leave old.disk) new.core.phases new.kept (bodies_after was.bodies hands.made.request.id hands.made.request.bytes)
        new.core.outs one.slot Bare stands.0 stands.1 (cut.free one listed) byte.bare)

  handed_merges : (worker : Worker) (place : ℕ) (answer : Reply) → HandsInAt worker place old.core old.kept answer new.core new.kept → new.disk ≡ old.disk → g.is_honest old.disk
      → MergesThere g worker place old answer new
  handed_merges worker place answer hands disk honest = record {
    enters = λ lane is at merge serial opens. subst (λ d. IsMergedThere (g.contents d) old.core.catalog merge serial) (sym disk)
        (enters_by worker place answer hands (world.consistent honest) is merge serial opens);
    cuts = λ serial is. subst (λ d. AreCutThere (g.contents d) (list_of old.core.merger)) (sym disk) (cuts_by worker place answer hands (world.consistent honest) serial is);
  }

  works_merges : (worker : Worker) (answer : Reply) → WorkerWorks worker old.core old.kept answer new.core new.kept → new.disk ≡ old.disk → g.is_honest old.disk → MergesThere g worker 0 old answer new
  works_merges worker answer (WorkerWorks.hands_in hands) disk honest = handed_merges worker 0 answer hands disk honest
  works_merges worker answer (WorkerWorks.takes_up none takes) disk honest = record {
    enters = λ lane is at. absurd (none lane at);
    cuts = λ serial is. absurd (none_taken worker answer serial takes is);
  }

  hand_in_merges : (worker : Worker) (place : ℕ) (answer : Reply) → HandsInIfAny worker place old.core old.kept answer new.core new.kept → new.disk ≡ old.disk → g.is_honest old.disk
      → MergesThere g worker place old answer new
  hand_in_merges worker place answer (HandsInIfAny.hands_in hands) disk honest = handed_merges worker place answer hands disk honest
  hand_in_merges worker place answer (HandsInIfAny.none none idle) disk honest = record {
    enters = λ lane is at. absurd (none lane at);
    cuts = λ serial is. absurd (let no : reply.Refused Idle ≡ reply.Merged serial = sym idle.refused ∙ is in cc);
  }

  pub step_merges : (event : Event) (answer : Reply) → Does g event old answer new → g.is_honest old.disk → DoesMerge g event old answer new
  step_merges (Work worker) answer does honest = works_merges worker answer does.works does.disk honest
  step_merges (TakeUp worker) answer does honest = λ serial is. none_taken worker answer serial does.takes is
  step_merges (HandInAt worker place) answer does honest = hand_in_merges worker place answer does.hands does.disk honest
  step_merges _ answer does honest = tt

  -- ---- the file of the merged image

  module _ (left : LeavesMerged old.core) where
    same_file : new.disk ≡ old.disk → KeepsMerged g old new
    same_file disk merge r was doing = ap (λ d. file_at (g.contents d) merge.slot) disk

    perform_keeps : (worker : Worker) (place : ℕ) (answer : Reply) → Performs g worker place old.disk old.kept answer new.disk new.kept → KeepsMerged g old new
    perform_keeps worker place answer (Performs.none none idle) = same_file idle.disk
    perform_keeps worker place answer (Performs.performs it) = λ merge r was doing.
        it.keeps.performed.others merge.slot (λ on. (left merge r was doing).free it.lane it.request.id
        (ap (λ outs. slice_get outs it.lane) world.outs ∙ get_map kept_id old.kept it.lane (Request it.request) it.is) (sym on))

    pub step_keeps : (event : Event) (answer : Reply) → Does g event old answer new → KeepsMerged g old new
    step_keeps (Command seat command) answer does = same_file does.rest.disk
    step_keeps (Work worker) answer does = same_file does.disk
    step_keeps (TakeUp worker) answer does = same_file does.disk
    step_keeps (HandInAt worker place) answer does = same_file does.disk
    step_keeps (Perform worker) answer does = perform_keeps worker 0 answer does.performs
    step_keeps (PerformAt worker place) answer does = perform_keeps worker place answer does.performs
    step_keeps Trim answer does = same_file does.disk
    step_keeps _ answer does = same_file does.0.disk
