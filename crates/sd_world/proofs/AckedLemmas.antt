-- The images of a checkpoint, in the contents of a disk, from event to event.
use Rattle.std.proofs.Common.{◌≡◌, ◌≢◌, ◌⊎◌, ℕ, zero, suc, ◌<◌, ◌≤◌, Bool, true, false, List, get_or, length, map, is_none, Option, Some, None, IfSome, slice_get, refl, sym, ◌∙◌, ap, subst, inl, inr, arith}
use Rattle.std.proofs.lemmas.Bool.{cases_eq, leb-true}
use Rattle.std.proofs.Math.Numerals.{add-one}
use Rattle.sd_chain.specs.Catalog.{Opened, Places, place_of}
use Rattle.sd_command.specs.declared.refusal.Refusal.{Refusal}
use Rattle.sd_command.specs.declared.refusal.Refusal.TheVariants as refusal
use Rattle.sd_command.specs.declared.reply.Reply.{Reply}
use Rattle.sd_command.specs.declared.reply.Reply.TheVariants as reply
use Rattle.sd_disk.specs.Contents.{file_at}
use Rattle.sd_disk.specs.declared.disk.Disk.{Ghosts}
use Rattle.sd_gate.specs.declared.phase.Phase.TheVariants.{Whole}
use Rattle.sd_gate.specs.declared.worker.Worker.{Worker}
use Rattle.sd_gate.specs.declared.worker.Worker.TheVariants.{Dumper, Merger, Opener}
use Rattle.sd_gate.specs.Calls.{is_done}
use Rattle.sd_gate.specs.Requests.{Asked, Made}
use Rattle.sd_image.specs.Image.{IsImage}
use Rattle.sd_rounds.specs.Dumper.{Dumping, Running, slot_of}
use Rattle.sd_store_laws.specs.Beliefs.{Closing, Kept as KeptBelief}
use Rattle.sd_crash_safety.specs.declared.standing.Standing.TheVariants.{Open}
use Rattle.sd_crash_safety.specs.Calls.{AddsByOutcome, IsFree, IsOut}
use Rattle.sd_crash_safety.specs.View.{CoreView, history_of}
use Rattle.sd_core.specs.declared.taken.Taken.{Taken}
use Rattle.sd_core.specs.declared.taken.Taken.TheVariants.{Step, Call}
use Rattle.sd_core.specs.Beginning.{Begins, BeginsAs, begin_refusal}
use Rattle.sd_core.specs.Beside.{LeavesOthers}
use Rattle.sd_core.specs.Called.{IsHandedIn, IsTakenUp}
use Rattle.sd_core.specs.Images.{HasPreDumps, begun_as}
use Rattle.sd_core.specs.Kept.{HasItsPreDumps, KeepsEach}
use Rattle.sd_core.specs.Orders.{IsCancelled}
use Rattle.sd_core.specs.Refusals.{cancel_refusal, work_refusal}
use Rattle.sd_core.specs.Rounds.{HasFewOpen, IsNextRound, IsOpenAt, IsSameRound, LeavesPreDumps, SameRound, TurnsRound}
use Rattle.sd_core.specs.Working.{HasEnded, HasFallen, LeavesByOutcome, opener_left}
use Rattle.sd_world.specs.declared.event.Event.{Event}
use Rattle.sd_world.specs.declared.event.Event.TheVariants.{Command, Begin, Work, TakeUp, HandInAt, Perform, PerformAt, Merge, Cancel, Reopen, Trim}
use Rattle.sd_world.specs.declared.kept.Kept.TheVariants.{Outcome, Request}
use Rattle.sd_world.specs.Acked.{AcksThere, ArePreDumpsThere, DoesAck, HasPreDumpsThere, IsAckedThere, IsThere}
use Rattle.sd_world.specs.Consistent.{IsConsistent, IsWorld}
use Rattle.sd_world.specs.KeptCheckpoint.{KeepsCheckpoint, RanBefore}
use Rattle.sd_world.specs.Steps.{Does, HandsInAt, HandsInIfAny, Performs, WorkerTakesUp, WorkerWorks}
use Rattle.sd_world.specs.View.{WorldView, asked_of, kept_id}
use Rattle.sd_world.proofs.KeptLemmas.{asked_id_of}
use Rattle.sd_world.proofs.Lists.{get_map, map_get}
use Rattle.sd_world.proofs.MergesLemmas.{reads_free}
use Rattle.sd_world.proofs.TrimLemmas.{trim_cases}

-- where they stood before an event they do after it
abbrev pub KeepsPreDumps : {D : Type 0} → Ghosts D → WorldView D → WorldView D → Type 0
KeepsPreDumps g old new = HasPreDumpsThere g old → HasPreDumpsThere g new

-- ---- the pre-dumps that stand

same_image : (a b : Opened) → Some (Some a) ≡ Some (Some b) → a ≡ b
same_image a b e = cc

-- they are those of the catalog, in which no image changes
there_still : (contents : List (List ℕ)) (job : Running) (old new : Places) (count serial : ℕ) → KeepsEach old new → HasPreDumps job new count serial
    → ArePreDumpsThere contents job old count serial → ArePreDumpsThere contents job new count serial
there_still contents job old new zero serial keeps has there = there
there_still contents job old new (suc place) serial keeps has there =
    let same : has.0 ≡ there.0 = keeps serial there.0 has.0 there.1.is_in has.1.is_in in (
      has.0,
      has.1,
      subst (IsThere contents) (sym same) there.2,
      there_still contents job old new place has.0.header.parent keeps has.2 (subst (λ (o : Opened). ArePreDumpsThere contents job old place o.header.parent) (sym same) there.3),
    )

-- the files of their slots stay
there_after : (before after : List (List ℕ)) (job : Running) (places : Places) (count serial : ℕ)
    → ((place : ℕ) → place < count → file_at after (get_or job.pre_dumps place job.dump) ≡ file_at before (get_or job.pre_dumps place job.dump))
    → ArePreDumpsThere before job places count serial → ArePreDumpsThere after job places count serial
there_after before after job places zero serial same there = there
there_after before after job places (suc place) serial same there = (
  there.0,
  there.1,
  record {
    image = there.2.image;
    told = there.2.told;
    stands = subst (λ file. IsImage file there.2.image) (sym (ap (file_at after) there.1.slot ∙ same place (omega arith) ∙ ap (file_at before) (sym there.1.slot))) there.2.stands;
  },
  there_after before after job places place there.0.header.parent (λ k below. same k (omega (arith, below))) there.3,
)

-- no checkpoint runs
pub none_there : {D : Type 0} (g : Ghosts D) (world : WorldView D) → world.core.dumper.running ≡ None → HasPreDumpsThere g world
none_there g world is = subst (λ o. IfSome o (λ r. ArePreDumpsThere (g.contents world.disk) (begun_as r) world.core.catalog r.opened r.parent)) (sym is) tt

-- one more entered, and stands
there_next : (contents : List (List ℕ)) (job from : Running) (old new : Places) (opened serial : ℕ) (image : Opened) → KeepsEach old new → HasPreDumps job new (suc opened) serial
    → ArePreDumpsThere contents job old opened from.parent → place_of new serial ≡ Some (Some image) → image.header.parent ≡ from.parent → IsThere contents image
    → ArePreDumpsThere contents job new (suc opened) serial
there_next contents job from old new opened serial image keeps has there is_in parent stands = grind (arith, same_image, there_still)

-- ---- an image whose gate is open

module _ {D : Type 0} (g : Ghosts D) (world : WorldView D) (is : IsWorld g world) (was : IsConsistent g world) where
  none_at : (slot : ℕ) → IsFree world.core.outs slot → (worker : ℕ) (request : Asked) → slice_get (map asked_of world.kept) worker ≡ Some (Some request) → request.id.slot ≢ slot
  none_at slot free worker request out same =
      let k = map_get asked_of world.kept worker (Some request) out in
      free worker request.id (ap (λ outs. slice_get outs worker) is.outs ∙ get_map kept_id world.kept worker k.0 k.1 ∙ ap Some (asked_id_of k.0 request k.2)) same

  pub open_there : (serial : ℕ) (o : Opened) → IsOpenAt world.core o.slot → place_of world.core.catalog serial ≡ Some (Some o) → IsThere (g.contents world.disk) o
  open_there serial o opens is_in =
      let u = was.believes.knows.is_live opens.stands in
      let its = u.catalog.image serial o is_in in
      elim its.2 [
        | inl kept ↦
            let b = u.exact o.slot Whole (KeptBelief its.0) opens.whole kept (none_at o.slot opens.free) in
            let same : b.0 ≡ its.0 = (let e : KeptBelief its.0 ≡ KeptBelief b.0 = b.1 in cc) in
            record {
              image = its.0;
              told = its.1;
              stands = subst (λ i. IsImage (file_at (g.contents world.disk) o.slot) i) same
                  (subst (λ file. IsImage file b.0) (sym (reads_free (g.contents world.disk) (g.may_leave world.disk) world.core.phases world.kept was.bodies world.core.outs o.slot Whole is.outs was.stands opens.free opens.whole)) b.2);
            }
        | inr closing ↦
            let b = u.exact o.slot Whole (Closing its.0) opens.whole closing (none_at o.slot opens.free) in
            absurd (let no : Closing its.0 ≡ KeptBelief b.0 = b.1 in cc)
      ]

-- ---- what an event leaves of a checkpoint

-- a checkpoint runs, none of whose images is open
record IsFirstRound (core : CoreView) : Type 0 where
  pub job : Running
  pub is : core.dumper.running ≡ Some job
  pub none : job.opened ≡ 0
  pub first : job.parent ≡ job.first

-- the core is as it was, or the checkpoint begins that was asked for
begins_or_stays : (old : CoreView) (rounds : ℕ) (answer : Reply) (new : CoreView) → BeginsAs old rounds answer new
    → (new ≡ old) ⊎ ((n : ℕ) × (answer ≡ reply.Begun n) × Begins old rounds n new)
begins_or_stays old rounds answer new begins = grind arith

begins_there : (old : CoreView) (rounds : ℕ) (answer : Reply) (new : CoreView) → BeginsAs old rounds answer new → (new ≡ old) ⊎ IsFirstRound new
begins_there old rounds answer new begins = grind arith

same_dumper : (old new : CoreView) → new.dumper ≡ old.dumper → SameRound old.dumper.running new.dumper.running
same_dumper old new same = subst (SameRound old.dumper.running) (sym (ap (λ (d : Dumping). d.running) same)) (itself old.dumper.running refl)
  where
    itself : (running : Option Running) → old.dumper.running ≡ running → SameRound old.dumper.running running
    itself None is = tt
    itself (Some running) is = (running, is, record { job = refl; opened = refl; parent = refl })

none_goes : (old new : CoreView) → is_none new.dumper.running ≡ true → SameRound old.dumper.running new.dumper.running
none_goes old new idle = by new.dumper.running idle
  where
    by : (running : Option Running) → is_none running ≡ true → SameRound old.dumper.running running
    by None is = tt
    by (Some running) is = absurd (let no : false ≡ true = is in cc)

-- another worker's call leaves the dumper
others_dumper : (worker : Worker) (old new : CoreView) → LeavesOthers worker old new → worker ≢ Dumper → new.dumper ≡ old.dumper
others_dumper worker old new others other = grind arith

is_dumper : (worker : Worker) → (worker ≡ Dumper) ⊎ (worker ≢ Dumper)
is_dumper worker = grind arith

module _ {D : Type 0} (g : Ghosts D) (old new : WorldView D) (pre_new : HasItsPreDumps new.core) where
  abbrev contents : List (List ℕ)
  contents = g.contents old.disk

  -- as many stand as before
  same_there : g.contents new.disk ≡ contents → KeepsEach old.core.catalog new.core.catalog → SameRound old.core.dumper.running new.core.dumper.running → KeepsPreDumps g old new
  same_there still keeps round there = by new.core.dumper.running refl round pre_new
    where
      by : (running : Option Running) → new.core.dumper.running ≡ running → SameRound old.core.dumper.running running
          → IfSome running (λ r. HasPreDumps (begun_as r) new.core.catalog r.opened r.parent) → HasPreDumpsThere g new
      by None is round has = subst (λ o. IfSome o (λ r. ArePreDumpsThere (g.contents new.disk) (begun_as r) new.core.catalog r.opened r.parent)) (sym is) tt
      by (Some next) is round has =
          let from = round.0 in
          let was = subst (λ o. IfSome o (λ r. ArePreDumpsThere contents (begun_as r) old.core.catalog r.opened r.parent)) round.1 there in
          let now : ArePreDumpsThere contents (begun_as next) old.core.catalog next.opened next.parent =
          subst (λ job. ArePreDumpsThere contents job old.core.catalog next.opened next.parent) (sym round.2.job)
          (subst (λ n. ArePreDumpsThere contents (begun_as from) old.core.catalog n next.parent) (sym round.2.opened)
          (subst (ArePreDumpsThere contents (begun_as from) old.core.catalog from.opened) (sym round.2.parent) was)) in
          subst (λ o. IfSome o (λ r. ArePreDumpsThere (g.contents new.disk) (begun_as r) new.core.catalog r.opened r.parent)) (sym is)
          (subst (λ c. ArePreDumpsThere c (begun_as next) new.core.catalog next.opened next.parent) (sym still)
          (there_still contents (begun_as next) old.core.catalog new.core.catalog next.opened next.parent keeps has now))

  -- the core is as it was, and so are the contents
  core_there : g.contents new.disk ≡ contents → new.core ≡ old.core → KeepsPreDumps g old new
  core_there still same = same_there still (λ serial image other at its. same_image other image (sym its ∙ ap (λ (v : CoreView). place_of v.catalog serial) same ∙ at))
      (same_dumper old.core new.core (ap (λ (v : CoreView). v.dumper) same))

  -- none is open yet
  first_there : IsFirstRound new.core → HasPreDumpsThere g new
  first_there first = subst (λ o. IfSome o (λ r. ArePreDumpsThere (g.contents new.disk) (begun_as r) new.core.catalog r.opened r.parent)) (sym first.is)
      (subst (λ n. ArePreDumpsThere (g.contents new.disk) (begun_as first.job) new.core.catalog n first.job.parent) (sym first.none) first.first)

  begin_there : (rounds : ℕ) (answer : Reply) → g.contents new.disk ≡ contents
      → ((why : Refusal) → begin_refusal old.core rounds ≡ Some why → (answer ≡ reply.Refused why) × (new.core ≡ old.core))
      → (begin_refusal old.core rounds ≡ None → BeginsAs old.core rounds answer new.core) → KeepsPreDumps g old new
  begin_there rounds answer still refused begins = by (begin_refusal old.core rounds) refl
    where
      by : (o : Option Refusal) → begin_refusal old.core rounds ≡ o → KeepsPreDumps g old new
      by (Some why) is = core_there still (refused why is).1
      by None is = elim (begins_there old.core rounds answer new.core (begins is)) [
        | inl same ↦ core_there still same
        | inr first ↦ (λ there. first_there first)
      ]

  cancel_there : (answer : Reply) → g.contents new.disk ≡ contents → KeepsEach old.core.catalog new.core.catalog
      → ((why : Refusal) → cancel_refusal old.core ≡ Some why → (answer ≡ reply.Refused why) × (new.core ≡ old.core))
      → (cancel_refusal old.core ≡ None → IsCancelled old.core answer new.core) → KeepsPreDumps g old new
  cancel_there answer still keeps refused cancelled = by (cancel_refusal old.core) refl
    where
      by : (o : Option Refusal) → cancel_refusal old.core ≡ o → KeepsPreDumps g old new
      by (Some why) is = core_there still (refused why is).1
      by None is = same_there still keeps (none_goes old.core new.core (ap is_none (cancelled is).idle))

  -- ---- a worker's step

  taken_round : (worker : Worker) (taken : Taken) → IsTakenUp worker old.core taken new.core → SameRound old.core.dumper.running new.core.dumper.running
  taken_round worker taken up = elim (is_dumper worker) [
    | inl dumper ↦ up.rounds dumper
    | inr other ↦ same_dumper old.core new.core (others_dumper worker old.core new.core up.beside.others other)
  ]

  -- a step that opens the store anew is one of an opener, beside which no checkpoint runs
  anew : (worker : Worker) (m : Option ℕ) → (old.core.opener ≢ None → old.core.dumper.running ≡ None) → IsTakenUp worker old.core (Step (reply.Reopened m)) new.core
      → is_none new.core.dumper.running ≡ true
  anew worker m alone up = by (work_refusal old.core worker) refl
    where
      runs : (o : Option Running) → old.core.dumper.running ≡ o → SameRound o new.core.dumper.running → o ≡ None → is_none new.core.dumper.running ≡ true
      runs o was round none = from new.core.dumper.running (subst (λ r. SameRound r new.core.dumper.running) none round)
        where
          from : (running : Option Running) → SameRound None running → is_none running ≡ true
          from None round = refl
          from (Some running) round = absurd (let no : None ≡ Some round.0 = round.1 in cc)

      opens : (whose : Worker) → worker ≡ whose → HasEnded Open old.core whose new.core → is_none new.core.dumper.running ≡ true
      opens Dumper is ended = ended.idle
      opens Merger is ended = absurd (let no : Merger ≡ Opener = sym is ∙ up.takes.adds.0 in cc)
      opens Opener is ended = runs old.core.dumper.running refl (taken_round worker (Step (reply.Reopened m)) up) (alone (λ none. never ended.lowers none))
        where
          never : opener_left new.core.opener < opener_left old.core.opener → old.core.opener ≡ None → ⊥
          never less none = let zero_is = ap opener_left none in omega (arith, less, zero_is)

      by : (o : Option Refusal) → work_refusal old.core worker ≡ o → is_none new.core.dumper.running ≡ true
      by (Some why) is = absurd (let no : Step (reply.Reopened m) ≡ Step (reply.Refused why) = (up.refused why is).0 in cc)
      by None is = opens worker refl (up.leaves is)

  step_there : (worker : Worker) (taken : Taken) → g.contents new.disk ≡ contents → (old.core.opener ≢ None → old.core.dumper.running ≡ None) → IsTakenUp worker old.core taken new.core
      → KeepsPreDumps g old new
  step_there worker (Call request) still alone up =
      same_there still (up.beside.images (λ m no. (let not : Call request ≡ Step (reply.Reopened m) = no in cc))) (taken_round worker (Call request) up)
  step_there worker (Step answer) still alone up = by answer refl up
    where
      other : (answer : Reply) → ((m : Option ℕ) → Step answer ≢ Step (reply.Reopened m)) → IsTakenUp worker old.core (Step answer) new.core → KeepsPreDumps g old new
      other answer apart up = same_there still (up.beside.images apart) (taken_round worker (Step answer) up)

      by : (a : Reply) → answer ≡ a → IsTakenUp worker old.core (Step a) new.core → KeepsPreDumps g old new
      by (reply.Reopened m) is up = λ there. gone new.core.dumper.running refl (anew worker m alone up)
        where
          gone : (running : Option Running) → new.core.dumper.running ≡ running → is_none new.core.dumper.running ≡ true → HasPreDumpsThere g new
          gone None is none = subst (λ o. IfSome o (λ r. ArePreDumpsThere (g.contents new.disk) (begun_as r) new.core.catalog r.opened r.parent)) (sym is) tt
          gone (Some running) is none = absurd (let no : false ≡ true = sym (ap is_none is) ∙ none in cc)
      by reply.Done is up = other reply.Done (λ m no. (let not : Step reply.Done ≡ Step (reply.Reopened m) = no in cc)) up
      by (reply.Bytes bytes) is up = other (reply.Bytes bytes) (λ m no. (let not : Step (reply.Bytes bytes) ≡ Step (reply.Reopened m) = no in cc)) up
      by (reply.Child space) is up = other (reply.Child space) (λ m no. (let not : Step (reply.Child space) ≡ Step (reply.Reopened m) = no in cc)) up
      by reply.NeedsFault is up = other reply.NeedsFault (λ m no. (let not : Step reply.NeedsFault ≡ Step (reply.Reopened m) = no in cc)) up
      by (reply.Segv why) is up = other (reply.Segv why) (λ m no. (let not : Step (reply.Segv why) ≡ Step (reply.Reopened m) = no in cc)) up
      by (reply.Begun n) is up = other (reply.Begun n) (λ m no. (let not : Step (reply.Begun n) ≡ Step (reply.Reopened m) = no in cc)) up
      by reply.Worked is up = other reply.Worked (λ m no. (let not : Step reply.Worked ≡ Step (reply.Reopened m) = no in cc)) up
      by (reply.Acked n) is up = other (reply.Acked n) (λ m no. (let not : Step (reply.Acked n) ≡ Step (reply.Reopened m) = no in cc)) up
      by (reply.Cancelled n) is up = other (reply.Cancelled n) (λ m no. (let not : Step (reply.Cancelled n) ≡ Step (reply.Reopened m) = no in cc)) up
      by (reply.Merged serial) is up = other (reply.Merged serial) (λ m no. (let not : Step (reply.Merged serial) ≡ Step (reply.Reopened m) = no in cc)) up
      by (reply.Trimmed count) is up = other (reply.Trimmed count) (λ m no. (let not : Step (reply.Trimmed count) ≡ Step (reply.Reopened m) = no in cc)) up
      by (reply.Refused why) is up = other (reply.Refused why) (λ m no. (let not : Step (reply.Refused why) ≡ Step (reply.Reopened m) = no in cc)) up

  takes_there : (worker : Worker) (answer : Reply) → g.contents new.disk ≡ contents → (old.core.opener ≢ None → old.core.dumper.running ≡ None)
      → WorkerTakesUp worker old.core old.kept answer new.core new.kept → KeepsPreDumps g old new
  takes_there worker answer still alone (WorkerTakesUp.step taken left) = step_there worker (Step answer) still alone taken
  takes_there worker answer still alone (WorkerTakesUp.call request taken left worked) = step_there worker (Call request) still alone taken

  -- ---- an outcome

  -- of another worker: the dumper goes on, or no job does
  outcome_round : (made : Made) (answer : Reply) → IsHandedIn made answer old.core new.core → IsOut old.core made.request.id → made.request.id.worker ≢ Dumper
      → SameRound old.core.dumper.running new.core.dumper.running
  outcome_round made answer handed out other = by (is_done made.answer) refl
    where
      by : (b : Bool) → is_done made.answer ≡ b → SameRound old.core.dumper.running new.core.dumper.running
      by true is = same_dumper old.core new.core (others_dumper made.request.id.worker old.core new.core ((handed.beside out).others is) other)
      by false is = (let fallen : HasFallen old.core made.request.id.worker new.core =
          subst (λ a. LeavesByOutcome old.core made.request.id.worker a new.core) (handed.failed out is) (handed.leaves out) in none_goes old.core new.core (fallen.idle Dumper))

  module _ (world : IsWorld g old) (was : IsConsistent g old) (world_new : IsWorld g new) (was_new : IsConsistent g new) where
    module _ (worker : Worker) (place : ℕ) (answer : Reply) (hands : HandsInAt worker place old.core old.kept answer new.core new.kept) (still : g.contents new.disk ≡ contents) where
      abbrev out : IsOut old.core hands.made.request.id
      out = record { lane = hands.lane; is = ap (λ outs. slice_get outs hands.lane) world.outs ∙ get_map kept_id old.kept hands.lane (Outcome hands.made) hands.is }

      asked_at : slice_get (map asked_of old.kept) hands.lane ≡ Some (Some hands.made.request)
      asked_at = get_map asked_of old.kept hands.lane (Outcome hands.made) hands.is

      keeps_each : KeepsEach old.core.catalog new.core.catalog
      keeps_each = (hands.hands.does.beside out).images

      -- the image that enters stands in its slot
      entered : (running : Running) (o : Opened) (serial : ℕ) → IsOpenAt new.core (slot_of running) → o.slot ≡ slot_of running → place_of new.core.catalog serial ≡ Some (Some o)
          → IsThere (g.contents new.disk) o
      entered running o serial opens slot is_in = open_there g new world_new was_new serial o (subst (IsOpenAt new.core) (sym slot) opens) is_in

      next_there : (dumper : hands.made.request.id.worker ≡ Dumper) (running next : Running) → old.core.dumper.running ≡ Some running → new.core.dumper.running ≡ Some next
          → IsNextRound running next new.core.catalog → KeepsPreDumps g old new
      next_there dumper running next from is round there =
          let opens = hands.hands.does.gates out dumper running (map asked_of old.kept) was.bodies contents
          (inl (record { was = from; next = next; is = is; one = round.opened })) asked_at was.believes in
          let stands = entered running round.image round.image.header.serial opens round.has.slot round.has.is_in in
          let had = subst (λ o. IfSome o (λ r. ArePreDumpsThere contents (begun_as r) old.core.catalog r.opened r.parent)) from there in
          let has = subst (λ o. IfSome o (λ r. HasPreDumps (begun_as r) new.core.catalog r.opened r.parent)) is pre_new in
          let suc_is : next.opened ≡ suc running.opened = round.opened ∙ add-one running.opened in
          let has_more : HasPreDumps (begun_as next) new.core.catalog (suc running.opened) next.parent = subst (λ n. HasPreDumps (begun_as next) new.core.catalog n next.parent) suc_is has in
          subst (λ o. IfSome o (λ r. ArePreDumpsThere (g.contents new.disk) (begun_as r) new.core.catalog r.opened r.parent)) (sym is)
          (subst (λ n. ArePreDumpsThere (g.contents new.disk) (begun_as next) new.core.catalog n next.parent) (sym suc_is)
          (there_next (g.contents new.disk) (begun_as next) running old.core.catalog new.core.catalog running.opened next.parent round.image keeps_each has_more
          (subst (λ c. ArePreDumpsThere c (begun_as next) old.core.catalog running.opened running.parent) (sym still)
          (subst (λ job. ArePreDumpsThere contents job old.core.catalog running.opened running.parent) (sym round.job) had))
          (ap (place_of new.core.catalog) round.parent ∙ round.has.is_in) round.has.parent stands))

      hands_there : KeepsPreDumps g old new
      hands_there = elim (is_dumper hands.made.request.id.worker) [
        | inr other ↦ same_there still keeps_each (outcome_round hands.made answer hands.hands.does out other)
        | inl dumper ↦ by dumper new.core.dumper.running refl (hands.hands.does.rounds out dumper)
      ]
        where
          by : hands.made.request.id.worker ≡ Dumper → (running : Option Running) → new.core.dumper.running ≡ running
              → IfSome running (λ next. (from : Running) × (old.core.dumper.running ≡ Some from) × (IsSameRound from next ⊎ IsNextRound from next new.core.catalog)) → KeepsPreDumps g old new
          by dumper None is turns = same_there still keeps_each (none_goes old.core new.core (ap is_none is))
          by dumper (Some next) is turns = elim turns.2 [
            | inl same ↦ same_there still keeps_each (subst (SameRound old.core.dumper.running) (sym is) (turns.0, turns.1, same))
            | inr round ↦ next_there dumper turns.0 next turns.1 is round
          ]

      -- the acknowledgement
      acks_there : HasFewOpen old.core.dumper.running → (n : ℕ) → answer ≡ reply.Acked n → HasPreDumpsThere g old → IsAckedThere g n old new
      acks_there few n is there =
          let a = hands.hands.does.acked n out is in
          let dumper = (subst (λ r. AddsBy r) is (hands.hands.does.handed out).adds) in
          let opens = hands.hands.does.gates out dumper.0 a.running (map asked_of old.kept) was.bodies contents (inr (a.was, (n, is))) asked_at was.believes in
          let had = subst (λ o. IfSome o (λ r. ArePreDumpsThere contents (begun_as r) old.core.catalog r.opened r.parent)) a.was there in
          let below = subst (λ o. IfSome o (λ r. r.opened ≤ length r.pre_dumps)) a.was few in
          let over = leb-true (length a.running.pre_dumps) a.running.opened a.last in
          let all : a.running.opened ≡ length a.running.pre_dumps = omega (arith, below, over) in
          record {
            running = a.running;
            was = a.was;
            number = a.number;
            last = a.last;
            dump = a.dump;
            has = a.has;
            there = entered a.running a.dump a.dump.header.serial opens a.has.slot a.has.is_in;
            stands = opens.stands;
            pre_dumps = subst (λ c. ArePreDumpsThere c (begun_as a.running) new.core.catalog (length a.running.pre_dumps) a.dump.header.parent) (sym still)
                (there_still contents (begun_as a.running) old.core.catalog new.core.catalog (length a.running.pre_dumps) a.dump.header.parent keeps_each a.pre_dumps
                (subst (ArePreDumpsThere contents (begun_as a.running) old.core.catalog (length a.running.pre_dumps)) (sym a.has.parent)
                (subst (λ k. ArePreDumpsThere contents (begun_as a.running) old.core.catalog k a.running.parent) all had)));
          }
        where
          AddsBy : Reply → Type 0
          AddsBy r = AddsByOutcome hands.made.request.id.worker r (history_of old.core) (history_of new.core)

    works_there : (worker : Worker) (answer : Reply) → g.contents new.disk ≡ contents → (old.core.opener ≢ None → old.core.dumper.running ≡ None)
        → WorkerWorks worker old.core old.kept answer new.core new.kept → KeepsPreDumps g old new
    works_there worker answer still alone (WorkerWorks.hands_in hands) = hands_there worker 0 answer hands still
    works_there worker answer still alone (WorkerWorks.takes_up none takes) = takes_there worker answer still alone takes

    hand_in_there : (worker : Worker) (place : ℕ) (answer : Reply) → g.contents new.disk ≡ contents → HandsInIfAny worker place old.core old.kept answer new.core new.kept → KeepsPreDumps g old new
    hand_in_there worker place answer still (HandsInIfAny.hands_in hands) = hands_there worker place answer hands still
    hand_in_there worker place answer still (HandsInIfAny.none none idle) = core_there still idle.core

    -- ---- a device call

    perform_there : (worker : Worker) (place : ℕ) (answer : Reply) → LeavesPreDumps old.core → new.core ≡ old.core → Performs g worker place old.disk old.kept answer new.disk new.kept
        → KeepsPreDumps g old new
    perform_there worker place answer looks same (Performs.none none idle) = core_there (ap g.contents idle.disk) same
    perform_there worker place answer looks same (Performs.performs it) = λ there. by old.core.dumper.running refl there
      where
        request : Asked
        request = it.request

        at : slice_get old.core.outs it.lane ≡ Some (Some request.id)
        at = ap (λ outs. slice_get outs it.lane) world.outs ∙ get_map kept_id old.kept it.lane (Request request) it.is

        file_stays : (running : Running) → old.core.dumper.running ≡ Some running → (k : ℕ) → k < running.opened
            → file_at (g.contents new.disk) (get_or running.pre_dumps k running.dump) ≡ file_at contents (get_or running.pre_dumps k running.dump)
        file_stays running from k below = elim (cases_eq (get_or running.pre_dumps k running.dump) request.id.slot) [
          | inl on ↦ ap (λ c. file_at c (get_or running.pre_dumps k running.dump))
              (it.keeps.performed.made_of.looks (looks running k (map asked_of old.kept) was.bodies contents from below was.believes it.lane request.id at (sym on)))
          | inr other ↦ it.keeps.performed.others (get_or running.pre_dumps k running.dump) other
        ]

        by : (running : Option Running) → old.core.dumper.running ≡ running → IfSome old.core.dumper.running (λ r. ArePreDumpsThere contents (begun_as r) old.core.catalog r.opened r.parent)
            → HasPreDumpsThere g new
        by None is had = subst (λ (v : CoreView). IfSome v.dumper.running (λ r. ArePreDumpsThere (g.contents new.disk) (begun_as r) v.catalog r.opened r.parent)) (sym same)
            (subst (λ o. IfSome o (λ r. ArePreDumpsThere (g.contents new.disk) (begun_as r) old.core.catalog r.opened r.parent)) (sym is) tt)
        by (Some running) is had = subst (λ (v : CoreView). IfSome v.dumper.running (λ r. ArePreDumpsThere (g.contents new.disk) (begun_as r) v.catalog r.opened r.parent)) (sym same)
            (subst (λ o. IfSome o (λ r. ArePreDumpsThere (g.contents new.disk) (begun_as r) old.core.catalog r.opened r.parent)) (sym is)
            (there_after contents (g.contents new.disk) (begun_as running) old.core.catalog running.opened running.parent (file_stays running is)
            (subst (λ o. IfSome o (λ r. ArePreDumpsThere contents (begun_as r) old.core.catalog r.opened r.parent)) is had)))

    -- ---- all events

    pub step_pre_dumps : (event : Event) (answer : Reply) → LeavesPreDumps old.core → (old.core.opener ≢ None → old.core.dumper.running ≡ None) → Does g event old answer new → KeepsPreDumps g old new
    step_pre_dumps (Command seat command) answer looks alone does = same_there (ap g.contents does.rest.disk) does.applied.images (same_dumper old.core new.core does.applied.job)
    step_pre_dumps (Begin rounds) answer looks alone does = begin_there rounds answer (ap g.contents does.0.disk) does.1.refused does.1.begins
    step_pre_dumps (Work worker) answer looks alone does = works_there worker answer (ap g.contents does.disk) alone does.works
    step_pre_dumps (TakeUp worker) answer looks alone does = takes_there worker answer (ap g.contents does.disk) alone does.takes
    step_pre_dumps (HandInAt worker place) answer looks alone does = hand_in_there worker place answer (ap g.contents does.disk) does.hands
    step_pre_dumps (Perform worker) answer looks alone does = perform_there worker 0 answer looks does.core does.performs
    step_pre_dumps (PerformAt worker place) answer looks alone does = perform_there worker place answer looks does.core does.performs
    step_pre_dumps Cancel answer looks alone does = cancel_there answer (ap g.contents does.0.disk) does.1.beside.images does.1.refused does.1.cancelled
    step_pre_dumps Trim answer looks alone does = elim (trim_cases old.core answer new.core does.trims) [
      | inl gone ↦ same_there (ap g.contents does.disk) (λ serial image other at its. same_image other image (sym its ∙ ap (λ (v : CoreView). place_of v.catalog serial) gone.is ∙ at))
          (same_dumper old.core new.core (ap (λ (v : CoreView). v.dumper) gone.is))
      | inr all ↦ core_there (ap g.contents does.disk) all.is
    ]
    step_pre_dumps _ answer looks alone does = same_there (ap g.contents does.0.disk) does.1.beside.images (same_dumper old.core new.core does.1.beside.others.0)

    -- ---- the acknowledgement

    none_taken : (worker : Worker) (answer : Reply) → WorkerTakesUp worker old.core old.kept answer new.core new.kept → AcksThere g old answer new
    none_taken worker answer given n is = grind arith

    works_ack : (worker : Worker) (answer : Reply) → g.contents new.disk ≡ contents → HasFewOpen old.core.dumper.running → HasPreDumpsThere g old
        → WorkerWorks worker old.core old.kept answer new.core new.kept → AcksThere g old answer new
    works_ack worker answer still few there (WorkerWorks.hands_in hands) n is = acks_there worker 0 answer hands still few n is there
    works_ack worker answer still few there (WorkerWorks.takes_up none takes) n is = none_taken worker answer takes n is

    hand_in_acks : (worker : Worker) (place : ℕ) (answer : Reply) → g.contents new.disk ≡ contents → HasFewOpen old.core.dumper.running → HasPreDumpsThere g old
        → HandsInIfAny worker place old.core old.kept answer new.core new.kept → AcksThere g old answer new
    hand_in_acks worker place answer still few there (HandsInIfAny.hands_in hands) n is = acks_there worker place answer hands still few n is there
    hand_in_acks worker place answer still few there (HandsInIfAny.none none idle) n is = absurd (let no : reply.Refused refusal.Idle ≡ reply.Acked n = sym idle.refused ∙ is in cc)

    pub step_acks : (event : Event) (answer : Reply) → HasFewOpen old.core.dumper.running → HasPreDumpsThere g old → Does g event old answer new → DoesAck g event old answer new
    step_acks (Work worker) answer few there does = works_ack worker answer (ap g.contents does.disk) few there does.works
    step_acks (TakeUp worker) answer few there does = none_taken worker answer does.takes
    step_acks (HandInAt worker place) answer few there does = hand_in_acks worker place answer (ap g.contents does.disk) few there does.hands
    step_acks _ answer few there does = tt

-- ---- the checkpoint that runs

-- it ran before where the event opens none of its images, or one
ran_same : (old new : Option Running) → SameRound old new → RanBefore old new
ran_same old None round = tt
ran_same old (Some next) round = (round.0, round.1, round.2.job)

ran_turned : (old new : Option Running) (places : Places) → TurnsRound old new places → RanBefore old new
ran_turned old None places turns = tt
ran_turned old (Some next) places turns = elim turns.2 [
  | inl same ↦ (turns.0, turns.1, same.job)
  | inr round ↦ (turns.0, turns.1, round.job)
]

module _ {D : Type 0} (g : Ghosts D) (old new : WorldView D) (pre_new : HasItsPreDumps new.core) (world : IsWorld g old) where
  abbrev Ran : Type 0
  Ran = RanBefore old.core.dumper.running new.core.dumper.running

  same_ran : SameRound old.core.dumper.running new.core.dumper.running → Ran
  same_ran round = ran_same old.core.dumper.running new.core.dumper.running round

  core_ran : new.core ≡ old.core → Ran
  core_ran same = same_ran (same_dumper old.core new.core (ap (λ (v : CoreView). v.dumper) same))

  takes_ran : (worker : Worker) (answer : Reply) → WorkerTakesUp worker old.core old.kept answer new.core new.kept → Ran
  takes_ran worker answer (WorkerTakesUp.step taken left) = same_ran (taken_round g old new pre_new worker (Step answer) taken)
  takes_ran worker answer (WorkerTakesUp.call request taken left worked) = same_ran (taken_round g old new pre_new worker (Call request) taken)

  hands_ran : (worker : Worker) (place : ℕ) (answer : Reply) → HandsInAt worker place old.core old.kept answer new.core new.kept → Ran
  hands_ran worker place answer hands = elim (is_dumper hands.made.request.id.worker) [
    | inr other ↦ same_ran (outcome_round g old new pre_new hands.made answer hands.hands.does out other)
    | inl dumper ↦ ran_turned old.core.dumper.running new.core.dumper.running new.core.catalog (hands.hands.does.rounds out dumper)
  ]
    where
      out : IsOut old.core hands.made.request.id
      out = record { lane = hands.lane; is = ap (λ outs. slice_get outs hands.lane) world.outs ∙ get_map kept_id old.kept hands.lane (Outcome hands.made) hands.is }

  works_ran : (worker : Worker) (answer : Reply) → WorkerWorks worker old.core old.kept answer new.core new.kept → Ran
  works_ran worker answer (WorkerWorks.hands_in hands) = hands_ran worker 0 answer hands
  works_ran worker answer (WorkerWorks.takes_up none takes) = takes_ran worker answer takes

  hand_in_ran : (worker : Worker) (place : ℕ) (answer : Reply) → HandsInIfAny worker place old.core old.kept answer new.core new.kept → Ran
  hand_in_ran worker place answer (HandsInIfAny.hands_in hands) = hands_ran worker place answer hands
  hand_in_ran worker place answer (HandsInIfAny.none none idle) = core_ran idle.core

  cancel_ran : (answer : Reply) → ((why : Refusal) → cancel_refusal old.core ≡ Some why → (answer ≡ reply.Refused why) × (new.core ≡ old.core))
      → (cancel_refusal old.core ≡ None → IsCancelled old.core answer new.core) → Ran
  cancel_ran answer refused cancelled = by (cancel_refusal old.core) refl
    where
      by : (o : Option Refusal) → cancel_refusal old.core ≡ o → Ran
      by (Some why) is = core_ran (refused why is).1
      by None is = same_ran (none_goes old.core new.core (ap is_none (cancelled is).idle))

  begin_keeps : (rounds : ℕ) (answer : Reply) → ((why : Refusal) → begin_refusal old.core rounds ≡ Some why → (answer ≡ reply.Refused why) × (new.core ≡ old.core))
      → (begin_refusal old.core rounds ≡ None → BeginsAs old.core rounds answer new.core) → KeepsCheckpoint (Begin rounds) answer old.core new.core
  begin_keeps rounds answer refused begins = by (begin_refusal old.core rounds) refl
    where
      by : (o : Option Refusal) → begin_refusal old.core rounds ≡ o → KeepsCheckpoint (Begin rounds) answer old.core new.core
      by (Some why) is = KeepsCheckpoint.ran (core_ran (refused why is).1)
      by None is = elim (begins_or_stays old.core rounds answer new.core (begins is)) [
        | inl same ↦ KeepsCheckpoint.ran (core_ran same)
        | inr begun ↦ KeepsCheckpoint.begun rounds begun.0 refl begun.1 begun.2
      ]

  pub step_checkpoint : (event : Event) (answer : Reply) → Does g event old answer new → KeepsCheckpoint event answer old.core new.core
  step_checkpoint (Command seat command) answer does = KeepsCheckpoint.ran (same_ran (same_dumper old.core new.core does.applied.job))
  step_checkpoint (Begin rounds) answer does = begin_keeps rounds answer does.1.refused does.1.begins
  step_checkpoint (Work worker) answer does = KeepsCheckpoint.ran (works_ran worker answer does.works)
  step_checkpoint (TakeUp worker) answer does = KeepsCheckpoint.ran (takes_ran worker answer does.takes)
  step_checkpoint (HandInAt worker place) answer does = KeepsCheckpoint.ran (hand_in_ran worker place answer does.hands)
  step_checkpoint Merge answer does = KeepsCheckpoint.ran (same_ran (same_dumper old.core new.core does.1.beside.others.0))
  step_checkpoint Cancel answer does = KeepsCheckpoint.ran (cancel_ran answer does.1.refused does.1.cancelled)
  step_checkpoint Reopen answer does = KeepsCheckpoint.ran (same_ran (same_dumper old.core new.core does.1.beside.others.0))
  step_checkpoint Trim answer does = elim (trim_cases old.core answer new.core does.trims) [
    | inl gone ↦ KeepsCheckpoint.ran (same_ran (same_dumper old.core new.core (ap (λ (v : CoreView). v.dumper) gone.is)))
    | inr all ↦ KeepsCheckpoint.ran (core_ran all.is)
  ]
  step_checkpoint _ answer does = KeepsCheckpoint.ran (core_ran does.core)
