-- How long a file stays: which requests would change it, and whose job has its slot.
use Rattle.std.proofs.Common.{◌≡◌, ◌≢◌, ◌⊎◌, ℕ, ◌<◌, ◌||◌, Bool, true, false, is_none, List, [], ◌∷◌, drop, map, Option, Some, None, IfSome, slice_get, slice_set, zero, suc, refl, sym, ◌∙◌, ap, subst, inl, inr, arith}
use Rattle.std.specs.Prelude.{Contains}
use Rattle.std.proofs.lemmas.Bool.{cases_eq}
use Rattle.std.proofs.lemmas.Option.{same_Some}
use Rattle.sd_command.specs.declared.refusal.Refusal.{Refusal}
use Rattle.sd_command.specs.declared.refusal.Refusal.TheVariants.{Busy, Idle}
use Rattle.sd_command.specs.declared.reply.Reply.{Reply}
use Rattle.sd_command.specs.declared.reply.Reply.TheVariants as reply
use Rattle.sd_disk.specs.Contents.{file_at}
use Rattle.sd_disk.specs.declared.disk.Disk.{Ghosts}
use Rattle.sd_gate.specs.declared.call.Call.{Call}
use Rattle.sd_gate.specs.declared.call.Call.TheVariants.{Len, Read, Write, WriteHeader, Close, Open as OpenGate, Cut, Sync}
use Rattle.sd_gate.specs.declared.request_id.RequestId.{RequestId}
use Rattle.sd_gate.specs.declared.worker.Worker.{Worker}
use Rattle.sd_gate.specs.declared.worker.Worker.TheVariants.{Dumper, Merger, Opener}
use Rattle.sd_gate.specs.Calls.{IsLook}
use Rattle.sd_gate.specs.Requests.{Asked}
use Rattle.sd_merge.specs.declared.retired.Retired.{Retired}
use Rattle.sd_merge.specs.declared.stage.Stage.{Stage as CopyStage}
use Rattle.sd_merge.specs.declared.stage.Stage.TheVariants as copy
use Rattle.sd_merge.specs.Copying.{Copying}
use Rattle.sd_merge.specs.Merger as merger
use Rattle.sd_merge.specs.Merger.{Doing, Retiring, copying, due, list_of, opened, retiring}
use Rattle.sd_opener.specs.Looking.{Looking}
use Rattle.sd_rounds.specs.Dumper.{Running, writes_of_image, writes_of_running}
use Rattle.sd_rounds.specs.Making.{Making}
use Rattle.sd_rounds.specs.Writes.{no_writes}
use Rattle.sd_crash_safety.specs.declared.standing.Standing.TheVariants.{Open}
use Rattle.sd_crash_safety.specs.LiveImages.{IsAtWork, IsImageOn, ids_of, lanes_of}
use Rattle.sd_crash_safety.specs.Knows.{SeesStore}
use Rattle.sd_crash_safety.specs.Merges.{IsAskedIn, IsMergeAt, IsMergeOn}
use Rattle.sd_crash_safety.specs.View.{CoreView, history_of}
use Rattle.sd_core.specs.declared.taken.Taken.TheVariants.{Step as StepTaken, Call as CallTaken}
use Rattle.sd_core.specs.Beginning.{first_of}
use Rattle.sd_core.specs.Called.{IsTakenUp}
use Rattle.sd_core.specs.GoingOn.{AreOwnLanes, HasItsJobs}
use Rattle.sd_core.specs.Refusals.{is_idle, must_wait, work_refusal}
use Rattle.sd_core.specs.Sound.{worker_of_lane}
use Rattle.sd_core.specs.Working.{MovesOn}
use Rattle.sd_world.specs.declared.event.Event.{Event}
use Rattle.sd_world.specs.declared.event.Event.TheVariants.{Command, Begin, Work, TakeUp, HandInAt, Perform, PerformAt, Merge, Cancel, Reopen, Trim}
use Rattle.sd_world.specs.declared.kept.Kept.{Kept}
use Rattle.sd_world.specs.declared.kept.Kept.TheVariants.{Nothing, Request, Outcome}
use Rattle.sd_world.specs.Consistent.{IsConsistent, IsWorld}
use Rattle.sd_world.specs.Stays.{FilesStay, IsTaken, IsUnasked}
use Rattle.sd_world.specs.Steps.{Does, HandsInAt, HandsInIfAny, KeepsRequest, Performs, WorkerTakesUp, WorkerWorks}
use Rattle.sd_world.specs.View.{WorldView, asked_of, kept_id}
use Rattle.sd_image.proofs.Members.{contains_at}
use Rattle.sd_world.proofs.Lists.{get_map, map_get}

-- ---- lists

get_set : {A : Type 0} (xs : List A) (i j : ℕ) (y z : A) → slice_get (slice_set xs i y) j ≡ Some z → (z ≡ y) ⊎ (slice_get xs j ≡ Some z)
get_set [] i j y z is = inr is
get_set (x ∷ xs) zero zero y z is = inl (same_Some z y (sym is))
get_set (x ∷ xs) zero (suc j) y z is = inr is
get_set (x ∷ xs) (suc i) zero y z is = inr is
get_set (x ∷ xs) (suc i) (suc j) y z is = get_set xs i j y z is

get_later : {A : Type 0} (xs : List A) (i : ℕ) → slice_get (drop 3 xs) i ≡ slice_get xs (suc (suc (suc i)))
get_later [] i = refl
get_later (x ∷ []) i = refl
get_later (x ∷ (y ∷ [])) i = refl
get_later (x ∷ (y ∷ (z ∷ xs))) i = refl

set_there : {A : Type 0} (xs : List A) (i : ℕ) (y z : A) → slice_get (slice_set xs i y) i ≡ Some z → slice_get (slice_set xs i y) i ≡ Some y
set_there [] i y z is = absurd cc
set_there (x ∷ xs) zero y z is = refl
set_there (x ∷ xs) (suc i) y z is = set_there xs i y z is

-- ---- the requests that would change a file

looks_or_not : (call : Call) → IsLook call ⊎ (IsLook call → ⊥)
looks_or_not Len = inl tt
looks_or_not (Read at) = inl tt
looks_or_not (Write at) = inr (λ looks. looks)
looks_or_not WriteHeader = inr (λ looks. looks)
looks_or_not Close = inr (λ looks. looks)
looks_or_not OpenGate = inr (λ looks. looks)
looks_or_not Cut = inr (λ looks. looks)
looks_or_not Sync = inl tt

record AsksFor (kept : List Kept) (slot : ℕ) : Type 0 where
  pub lane : ℕ
  pub request : Asked
  pub at : slice_get kept lane ≡ Some (Request request)
  pub on : request.id.slot ≡ slot
  pub writes : IsLook request.id.call → ⊥

same_request : (a b : Asked) → Some (Request a) ≡ Some (Request b) → a ≡ b
same_request a b e = cc

-- one that would is kept, or none is
asked_or_not : (kept : List Kept) (slot : ℕ) → IsUnasked kept slot ⊎ AsksFor kept slot
asked_or_not [] slot = inl (λ lane request at. absurd cc)
asked_or_not (k ∷ others) slot = elim (asked_or_not others slot) [
  | inr later ↦ inr (record { lane = suc later.lane; request = later.request; at = later.at; on = later.on; writes = later.writes })
  | inl none ↦ first k none
]
  where
    all : (k : Kept) → ((request : Asked) → k ≡ Request request → request.id.slot ≡ slot → IsLook request.id.call) → IsUnasked others slot → IsUnasked (k ∷ others) slot
    all k here none zero request at = here request (same_Some k (Request request) at)
    all k here none (suc lane) request at = none lane request at

    first : (k : Kept) → IsUnasked others slot → IsUnasked (k ∷ others) slot ⊎ AsksFor (k ∷ others) slot
    first Nothing none = inl (all Nothing (λ request is. absurd cc) none)
    first (Outcome made) none = inl (all (Outcome made) (λ request is. absurd cc) none)
    first (Request request) none = elim (cases_eq request.id.slot slot) [
      | inr elsewhere ↦ inl (all (Request request) (λ one is on. absurd (elsewhere (ap (λ (r : Asked). r.id.slot) (same_request request one (ap Some is)) ∙ on))) none)
      | inl on ↦ elim (looks_or_not request.id.call) [
        | inl looks ↦ inl (all (Request request) (λ one is there. subst (λ (r : Asked). IsLook r.id.call) (same_request request one (ap Some is)) looks) none)
        | inr writes ↦ inr (record { lane = zero; request = request; at = refl; on = on; writes = writes })
      ]
    ]

-- no other request is kept after one was set
unasked_set : (kept : List Kept) (lane slot : ℕ) (k : Kept) → ((request : Asked) → k ≡ Request request → request.id.slot ≡ slot → IsLook request.id.call) → IsUnasked kept slot
    → IsUnasked (slice_set kept lane k) slot
unasked_set kept lane slot k here none other request at on = elim (get_set kept lane other k (Request request) at) [
  | inl same ↦ here request (sym same) on
  | inr there ↦ none other request there on
]

-- ---- whose job it is

same_asked : (a : Asked) (b : Option Asked) → Some (Some a) ≡ Some b → b ≡ Some a
same_asked a b e = cc

none_asked : (a : Asked) → Some (Some a) ≡ Some None → ⊥
none_asked a e = cc

no_write : (lane : ℕ) (id : RequestId) → slice_get no_writes lane ≡ Some (Some id) → ⊥
no_write lane id at = grind arith

-- a request of the merger that writes is on the slot of its image
copy_on : (stage : CopyStage) (phases : _) (bodies : _) (store : _) (beliefs : _) (running : _) (target : ℕ) (source : _) (page : _) (request : Asked) → (IsLook request.id.call → ⊥)
    → IsAskedIn stage phases bodies store beliefs running target source page (Some request) → target ≡ request.id.slot
copy_on (copy.Format plan) phases bodies store beliefs running target source page request writes asked = sym asked
copy_on copy.Pass phases bodies store beliefs running target source page request writes asked = sym asked
copy_on (copy.PageRead plan) phases bodies store beliefs running target source page request writes asked = absurd (writes (subst IsLook (sym asked.call) tt))
copy_on (copy.PageWrite plan) phases bodies store beliefs running target source page request writes asked = sym asked.on
copy_on (copy.Close plan header tables) phases bodies store beliefs running target source page request writes asked = sym asked

module _ {D : Type 0} (g : Ghosts D) (world : WorldView D) (is : IsWorld g world) (was : IsConsistent g world) (stands : world.core.standing ≡ Open) (request : Asked)
    (writes : IsLook request.id.call → ⊥) where
  abbrev asked : List (Option Asked)
  asked = map asked_of world.kept

  abbrev OnTaken : Type 0
  OnTaken = IsTaken world.core request.id.slot

  -- the dumper's own lane
  dumper_has : slice_get asked 0 ≡ Some (Some request) → OnTaken
  dumper_has at = by world.core.dumper.running refl (was.believes.knows.is_live stands).job
    where
      making : (running : Running) (image : Option Making) → world.core.dumper.running ≡ Some running → running.image ≡ image
          → IsImageOn world.core.base (history_of world.core) world.core.memory world.core.phases asked was.bodies world.core.numbers.serial was.believes.store was.believes.dump was.believes.beliefs running.parent running.number image
          → OnTaken
      making running None runs its between = absurd (none_asked request (sym at ∙ between.none))
      making running (Some image) runs its made = IsTaken.by_checkpoint running image runs its
          (sym (subst (λ o. IfSome o (λ r. r.id.slot ≡ image.order.slot)) (same_asked request made.request (sym at ∙ made.own)) made.asked_at))

      by : (running : Option Running) → world.core.dumper.running ≡ running
          → IsAtWork world.core.base (history_of world.core) world.core.grows world.core.memory world.core.phases asked was.bodies world.core.numbers.serial was.believes.store was.believes.dump was.believes.beliefs world.core.dumper.running
          → OnTaken
      by None rests job = absurd (none_asked request (sym at ∙ (subst (IsAtWork world.core.base (history_of world.core) world.core.grows world.core.memory world.core.phases asked was.bodies world.core.numbers.serial was.believes.store was.believes.dump was.believes.beliefs) rests job).none))
      by (Some running) runs job = making running running.image runs refl
          (subst (IsAtWork world.core.base (history_of world.core) world.core.grows world.core.memory world.core.phases asked was.bodies world.core.numbers.serial was.believes.store was.believes.dump was.believes.beliefs) runs job).image

  -- a lane of the writes of data pages
  page_has : (lane : ℕ) → slice_get (lanes_of asked) lane ≡ Some (Some request) → OnTaken
  page_has lane at = by world.core.dumper.running refl
    where
      out : slice_get (writes_of_running world.core.dumper.running) lane ≡ Some (Some request.id)
      out = ap (λ ids. slice_get ids lane) (sym (was.believes.knows.is_live stands).writes) ∙ get_map _ (lanes_of asked) lane (Some request) at

      making : (running : Running) (image : Option Making) → world.core.dumper.running ≡ Some running → running.image ≡ image
          → IsImageOn world.core.base (history_of world.core) world.core.memory world.core.phases asked was.bodies world.core.numbers.serial was.believes.store was.believes.dump was.believes.beliefs running.parent running.number image
          → OnTaken
      making running None runs its between = absurd (no_write lane request.id (subst (λ o. slice_get (writes_of_image o) lane ≡ Some (Some request.id)) its (subst (λ o. slice_get (writes_of_running o) lane ≡ Some (Some request.id)) runs out)))
      making running (Some image) runs its made = IsTaken.by_checkpoint running image runs its (sym (made.writing.each lane request at).on)

      by : (running : Option Running) → world.core.dumper.running ≡ running → OnTaken
      by None rests = absurd (no_write lane request.id (subst (λ o. slice_get (writes_of_running o) lane ≡ Some (Some request.id)) rests out))
      by (Some running) runs = making running running.image runs refl
          (subst (IsAtWork world.core.base (history_of world.core) world.core.grows world.core.memory world.core.phases asked was.bodies world.core.numbers.serial was.believes.store was.believes.dump was.believes.beliefs) runs (was.believes.knows.is_live stands).job).image

  -- the merger's lane
  merger_has : slice_get asked 1 ≡ Some (Some request) → OnTaken
  merger_has at = by world.core.merger refl (was.believes.knows.merging stands).is
    where
      doing_has : (merge : merger.Running) (doing : Doing) → world.core.merger ≡ Some merge → merge.doing ≡ doing
          → IsMergeAt world.core.phases asked was.bodies world.core.numbers.serial was.believes.store was.believes.beliefs world.core.dumper.running merge.slot merge.source doing → OnTaken
      doing_has merge due runs doing its = absurd (none_asked request (sym at ∙ its.1))
      doing_has merge (copying made) runs doing its = IsTaken.by_copy merge made runs doing
          (copy_on made.stage world.core.phases was.bodies was.believes.store was.believes.beliefs world.core.dumper.running merge.slot its.repeats.image made.taking request writes
          (subst (IsAskedIn made.stage world.core.phases was.bodies was.believes.store was.believes.beliefs world.core.dumper.running merge.slot its.repeats.image made.taking) (same_asked request its.copy.request (sym at ∙ its.copy.own)) its.copy.asked_in))
      doing_has merge (opened serial) runs doing its = absurd its
      doing_has merge (retiring r) runs doing its = IsTaken.by_list its.one
          (subst (λ m. Contains (list_of m) its.one) (sym runs) (subst (λ d. Contains (merger.list_in d) its.one) (sym doing) (contains_at r.list r.ended its.one its.there)))
          (sym (its.closes.asked_at request (same_asked request its.closes.request (sym at ∙ its.closes.own))))

      by : (merge : Option merger.Running) → world.core.merger ≡ merge
          → IsMergeOn world.core.phases asked was.bodies world.core.numbers.serial was.believes.store was.believes.beliefs world.core.dumper.running world.core.merger → OnTaken
      by None rests its = absurd (none_asked request (sym at ∙ (subst (IsMergeOn world.core.phases asked was.bodies world.core.numbers.serial was.believes.store was.believes.beliefs world.core.dumper.running) rests its).1))
      by (Some merge) runs its = doing_has merge merge.doing runs refl (subst (IsMergeOn world.core.phases asked was.bodies world.core.numbers.serial was.believes.store was.believes.beliefs world.core.dumper.running) runs its)

-- ---- what an opener asks for only looks

module _ {D : Type 0} (g : Ghosts D) (world : WorldView D) (is : IsWorld g world) (was : IsConsistent g world) (jobs : HasItsJobs world.core) where
  opener_looks : (lane : ℕ) (request : Asked) (opener : Looking) → world.core.opener ≡ Some opener → slice_get (map asked_of world.kept) lane ≡ Some (Some request) → IsLook request.id.call
  opener_looks lane request opener runs at =
      (subst (λ o. IfSome o (SeesStore (g.contents world.disk) world.core.phases (map asked_of world.kept))) runs was.believes.knows.sees).looks lane request at

  -- the opener's lane
  opener_asks : (request : Asked) → slice_get world.kept 2 ≡ Some (Request request) → IsLook request.id.call
  opener_asks request at = by world.core.opener refl
    where
      by : (opener : Option Looking) → world.core.opener ≡ opener → IsLook request.id.call
      by None rests = absurd (let clash : Some None ≡ Some (Some request.id) = sym (jobs.opener rests) ∙ ap (λ outs. slice_get outs 2) is.outs ∙ get_map kept_id world.kept 2 (Request request) at in cc)
      by (Some opener) runs = opener_looks 2 request opener runs (get_map asked_of world.kept 2 (Request request) at)

  -- a request that writes is on a slot that a job has, in an open store
  pub has_taken : world.core.standing ≡ Open → (lane : ℕ) (request : Asked) → slice_get world.kept lane ≡ Some (Request request) → (IsLook request.id.call → ⊥) → IsTaken world.core request.id.slot
  has_taken stands zero request at writes = dumper_has g world is was stands request writes (get_map asked_of world.kept 0 (Request request) at)
  has_taken stands (suc zero) request at writes = merger_has g world is was stands request writes (get_map asked_of world.kept 1 (Request request) at)
  has_taken stands (suc (suc zero)) request at writes = absurd (writes (opener_asks request at))
  has_taken stands (suc (suc (suc lane))) request at writes = page_has g world is was stands request writes lane
      (get_later (map asked_of world.kept) lane ∙ get_map asked_of world.kept (suc (suc (suc lane))) (Request request) at)

  -- a slot of an open store for which no such request is kept, or that a job has
  pub free_or_taken : world.core.standing ≡ Open → (slot : ℕ) → IsUnasked world.kept slot ⊎ IsTaken world.core slot
  free_or_taken stands slot = elim (asked_or_not world.kept slot) [
    | inl free ↦ inl free
    | inr asks ↦ inr (subst (IsTaken world.core) asks.on (has_taken stands asks.lane asks.request asks.at asks.writes))
  ]

-- ---- an event

has_job : (core : CoreView) (worker : Worker) (busy idle : Bool) → must_wait core worker ≡ busy → is_idle core worker ≡ idle → work_refusal core worker ≡ None → is_idle core worker ≡ false
has_job core worker busy idle must rests none = grind arith

module _ {D : Type 0} (g : Ghosts D) (old new : WorldView D) (jobs : HasItsJobs old.core) (now : HasItsJobs new.core) (lanes : AreOwnLanes new.core.outs)
    (world : IsWorld g new) (was : IsConsistent g new) where
  same_files : new.disk ≡ old.disk → new.kept ≡ old.kept → FilesStay g old new
  same_files disk kept slot free = (ap (λ d. file_at (g.contents d) slot) disk, inl (subst (λ k. IsUnasked k slot) (sym kept) free))

  set_files : new.disk ≡ old.disk → (lane : ℕ) (k : Kept) → new.kept ≡ slice_set old.kept lane k → ((request : Asked) → k ≡ Request request → ⊥) → FilesStay g old new
  set_files disk lane k left none slot free =
      (ap (λ d. file_at (g.contents d) slot) disk, inl (subst (λ l. IsUnasked l slot) (sym left) (unasked_set old.kept lane slot k (λ request is on. absurd (none request is)) free)))

  -- the request that a worker takes up
  module _ (worker : Worker) (request : Asked) (taken : IsTakenUp worker old.core (CallTaken request) new.core) (keeps : KeepsRequest new.core.outs old.kept request new.kept) where
    unrefused : (o : Option Refusal) → work_refusal old.core worker ≡ o → work_refusal old.core worker ≡ None
    unrefused None is = is
    unrefused (Some why) is = absurd (let no : CallTaken request ≡ StepTaken (reply.Refused why) = (taken.refused why is).0 in cc)

    goes : MovesOn old.core worker new.core
    goes = taken.leaves (unrefused (work_refusal old.core worker) refl)

    its_lane : worker_of_lane keeps.lane ≡ worker
    its_lane = sym (lanes keeps.lane request.id keeps.out) ∙ taken.takes.whose

    there : slice_get new.kept keeps.lane ≡ Some (Request request)
    there =
        let k = map_get kept_id new.kept keeps.lane (Some request.id) (ap (λ outs. slice_get outs keeps.lane) (sym world.outs) ∙ keeps.out) in
        subst (λ l. slice_get l keeps.lane ≡ Some (Request request)) (sym keeps.left)
        (set_there old.kept keeps.lane (Request request) k.0 (subst (λ l. slice_get l keeps.lane ≡ Some k.0) keeps.left k.1))

    opened_by : (w : Worker) → worker ≡ w → (IsLook request.id.call → ⊥) → IsTaken new.core request.id.slot
    opened_by Dumper its writes = has_taken g new world was now
        (goes.stands ∙ jobs.checkpoint (has_job old.core Dumper (must_wait old.core Dumper) (is_idle old.core Dumper) refl refl (subst (λ w. work_refusal old.core w ≡ None) its (unrefused (work_refusal old.core worker) refl))))
        keeps.lane request there writes
    opened_by Merger its writes = has_taken g new world was now
        (goes.stands ∙ jobs.merge (has_job old.core Merger (must_wait old.core Merger) (is_idle old.core Merger) refl refl (subst (λ w. work_refusal old.core w ≡ None) its (unrefused (work_refusal old.core worker) refl))))
        keeps.lane request there writes
    opened_by Opener its writes = absurd (writes (opener_asks g new world was now request (subst (λ lane. slice_get new.kept lane ≡ Some (Request request)) (opener_lane keeps.lane (its_lane ∙ its)) there)))
      where
        opener_lane : (lane : ℕ) → worker_of_lane lane ≡ Opener → lane ≡ 2
        opener_lane zero own = cc
        opener_lane (suc zero) own = cc
        opener_lane (suc (suc zero)) own = refl
        opener_lane (suc (suc (suc lane))) own = cc

    asked_files : new.disk ≡ old.disk → FilesStay g old new
    asked_files disk slot free = (
      ap (λ d. file_at (g.contents d) slot) disk,
      elim (cases_eq request.id.slot slot) [
        | inr elsewhere ↦ inl (unasked (λ one is on. absurd (elsewhere (ap (λ (r : Asked). r.id.slot) (same_request request one (ap Some is)) ∙ on))))
        | inl on ↦ elim (looks_or_not request.id.call) [
          | inl looks ↦ inl (unasked (λ one is here. subst (λ (r : Asked). IsLook r.id.call) (same_request request one (ap Some is)) looks))
          | inr writes ↦ inr (subst (IsTaken new.core) on (opened_by worker refl writes))
        ]
      ],
    )
      where
        unasked : ((one : Asked) → Request request ≡ Request one → one.id.slot ≡ slot → IsLook one.id.call) → IsUnasked new.kept slot
        unasked here = subst (λ l. IsUnasked l slot) (sym keeps.left) (unasked_set old.kept keeps.lane slot (Request request) here free)

  takes_files : (worker : Worker) (answer : Reply) → WorkerTakesUp worker old.core old.kept answer new.core new.kept → new.disk ≡ old.disk → FilesStay g old new
  takes_files worker answer (WorkerTakesUp.step taken left) disk = same_files disk left
  takes_files worker answer (WorkerTakesUp.call request taken keeps worked) disk = asked_files worker request taken keeps disk

  hands_files : (worker : Worker) (place : ℕ) (answer : Reply) → HandsInAt worker place old.core old.kept answer new.core new.kept → new.disk ≡ old.disk → FilesStay g old new
  hands_files worker place answer hands disk = set_files disk hands.lane Nothing hands.hands.left (λ request is. (let clash : Nothing ≡ Request request = is in cc))

  works_files : (worker : Worker) (answer : Reply) → WorkerWorks worker old.core old.kept answer new.core new.kept → new.disk ≡ old.disk → FilesStay g old new
  works_files worker answer (WorkerWorks.hands_in hands) disk = hands_files worker 0 answer hands disk
  works_files worker answer (WorkerWorks.takes_up none takes) disk = takes_files worker answer takes disk

  hand_in_files : (worker : Worker) (place : ℕ) (answer : Reply) → HandsInIfAny worker place old.core old.kept answer new.core new.kept → new.disk ≡ old.disk → FilesStay g old new
  hand_in_files worker place answer (HandsInIfAny.hands_in hands) disk = hands_files worker place answer hands disk
  hand_in_files worker place answer (HandsInIfAny.none none idle) disk = same_files disk idle.left

  perform_files : (worker : Worker) (place : ℕ) (answer : Reply) → Performs g worker place old.disk old.kept answer new.disk new.kept → FilesStay g old new
  perform_files worker place answer (Performs.none none idle) slot free = same_files idle.disk idle.left slot free
  perform_files worker place answer (Performs.performs it) slot free = (
    file,
    inl (subst (λ l. IsUnasked l slot) (sym it.keeps.left)
        (unasked_set old.kept it.lane slot (Outcome it.keeps.made) (λ request is. (let clash : Outcome it.keeps.made ≡ Request request = is in cc)) free)),
  )
    where
      file : file_at (g.contents new.disk) slot ≡ file_at (g.contents old.disk) slot
      file = elim (cases_eq it.request.id.slot slot) [
        | inl on ↦ ap (λ c. file_at c slot) (it.keeps.performed.made_of.looks (free it.lane it.request it.is on))
        | inr elsewhere ↦ it.keeps.performed.others slot (λ same. elsewhere (sym same))
      ]

  pub step_files : (event : Event) (answer : Reply) → Does g event old answer new → FilesStay g old new
  step_files (Command seat command) answer does = same_files does.rest.disk does.rest.kept
  step_files (Work worker) answer does = works_files worker answer does.works does.disk
  step_files (TakeUp worker) answer does = takes_files worker answer does.takes does.disk
  step_files (HandInAt worker place) answer does = hand_in_files worker place answer does.hands does.disk
  step_files (Perform worker) answer does = perform_files worker 0 answer does.performs
  step_files (PerformAt worker place) answer does = perform_files worker place answer does.performs
  step_files Trim answer does = same_files does.disk does.kept
  step_files _ answer does = same_files does.0.disk does.0.kept
