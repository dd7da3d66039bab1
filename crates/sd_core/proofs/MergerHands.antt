-- What is known of an outcome of a merger's call, and what it leaves of the merge and of the checkpoint beside it.
use Rattle.std.proofs.Common.{◌≡◌, ℕ, ◌+◌, ◌≤◌, Bool, true, false, List, ◌∷◌, length, Option, Some, None, IfSome, slice_get, slice_set, refl, sym, ◌∙◌, ap, subst, inl, inr, arith}
use Rattle.std.proofs.lemmas.Option.{same_Some}
use Rattle.sd_chain.specs.Catalog.{Opened, Places, place_of}
use Rattle.sd_command.specs.declared.reply.Reply.{Reply}
use Rattle.sd_command.specs.declared.reply.Reply.TheVariants as reply
use Rattle.sd_gate.specs.declared.phase.Phase.{Phase}
use Rattle.sd_gate.specs.declared.request_id.RequestId.{RequestId}
use Rattle.sd_gate.specs.Calls.{is_done}
use Rattle.sd_gate.specs.Plans.{Planned, plan_after}
use Rattle.sd_gate.specs.Requests.{Made}
use Rattle.sd_gate.specs.Sequences.{Calls}
use Rattle.sd_journal.specs.Marked.{entries_of}
use Rattle.sd_merge.specs.declared.copy_order.CopyOrder.{CopyOrder}
use Rattle.sd_merge.specs.declared.merge_progress.MergeProgress.{MergeProgress}
use Rattle.sd_merge.specs.declared.merge_progress.MergeProgress.TheVariants as progress
use Rattle.sd_merge.specs.declared.retired.Retired.{Retired}
use Rattle.sd_merge.specs.declared.stage.Stage.{Stage}
use Rattle.sd_merge.specs.Copying.{Copying, PlanGoesOn, out_of, stage_after}
use Rattle.sd_merge.specs.Merger as merger
use Rattle.sd_merge.specs.Merger.{AreRunning, Doing, GoesOnWith, Hands, HandsAt, HandsClosing, HasSoundCopy, HasSoundCopyIn, IsRunningAt, Retiring, due, copying, opened, retiring}
use Rattle.sd_rounds.specs.Dumper.{AreRunning as MakesInOrder, HasSlot, out_of_running, writes_of_running}
use Rattle.sd_crash_safety.specs.Calls.{AddsByOutcome, HandedIn, IsFree}
use Rattle.sd_crash_safety.specs.DumperOutcomes.{LeavesCatalog, closes_for_sure}
use Rattle.sd_crash_safety.specs.MergerOutcomes.{IsMergersOutcome, MergerOutcomes, OutcomeIsBelieved, RetiringGoesOn}
use Rattle.sd_crash_safety.specs.MergerSteps.{OnlyMerges}
use Rattle.sd_crash_safety.specs.Merges.{IsSpared}
use Rattle.sd_crash_safety.specs.View.{CoreView}
use Rattle.sd_core.specs.Following.{FollowsOutcome}
use Rattle.sd_core.specs.Merging.{IsMore}
use Rattle.sd_core.specs.Sound.{ClosesWithHeader, IsCore, IsDoing, MergeRuns, Parts, serials_to_come}
use Rattle.sd_core.proofs.BesideLemmas.{LeavesWork, copy_goes_on, core_beside, free_spared, jobs_out, merger_works, retiring_goes_on}
use Rattle.sd_core.proofs.CoreParts.{seen_of}
use Rattle.sd_core.proofs.EnteredLemmas.{left_image}
use Rattle.sd_core.proofs.FallenLemmas.{free_after}
use Rattle.sd_core.proofs.HandedLemmas.{handed_merger, sync_of}
use Rattle.sd_core.proofs.OutcomeLemmas.{left_counted, left_held}
use Rattle.sd_core.proofs.OwnLemmas.{makes_in, spared_of}
use Rattle.sd_core.proofs.WorkLemmas.{at_work, same_numbers}

-- ---- the outcome

-- An outcome of the merger's call is handed in, and followed: what is known of the core before it, and of the phases of
-- the slots and the requests that are out after it.
pub record HandsMerge (core : Parts) (seen : CoreView) (made : Made) (phases : List Phase)
    (outs : List (Option RequestId)) (closed : Bool) (merge : merger.Running) : Type 0 where
  pub sound : IsCore core
  pub seen_is : seen_of core ≡ seen
  pub out : slice_get seen.outs 1 ≡ Some (Some made.request.id)
  pub was : core.merger ≡ Some merge
  pub running : AreRunning core.merger
  pub copied : HasSoundCopy core.merger
  pub makes : MakesInOrder core.dumper.since_freeze core.dumper.running
  pub follows : FollowsOutcome core.phases made phases closed
  pub outs_are : outs ≡ slice_set core.outs 1 None

-- the core after it, unless it failed
abbrev pub merged_core : Parts → List Phase → List (Option RequestId) → Places → ℕ → Option merger.Running → Parts
merged_core core phases outs places room now = record core { phases = phases; outs = outs; places = places; room = room; merger = now }

module _ {core : Parts} {seen : CoreView} {made : Made} {phases : List Phase} {outs : List (Option RequestId)}
    {closed : Bool} {merge : merger.Running} (h : HandsMerge core seen made phases outs closed merge) where
  pub work : MergeRuns core.standing core.phases core.places core.opener core.numbers core.room core.dumper.running merge
  work = merger_works core merge h.sound h.was

  own : slice_get core.outs 1 ≡ Some (Some made.request.id)
  own = ap (λ (v : CoreView). slice_get v.outs 1) h.seen_is ∙ h.out

  its_out : merger.out_in merge.doing ≡ Some made.request.id
  its_out = same_Some (merger.out_in merge.doing) (Some made.request.id)
      (ap (λ m. Some (merger.out_of_merge m)) (sym h.was) ∙ ap (λ all. slice_get all 1) (sym (jobs_out core h.sound work.stands)) ∙ own)

  -- a slot that the checkpoint spares has no request out after it
  pub free_then : (slot : ℕ) → IsSpared core.dumper.running slot → IsFree (slice_set core.outs 1 None) slot
  free_then slot spared = free_spared core slot h.sound work.stands spared

  -- so has each slot of its list
  pub list_free : (r : Retiring) → merge.doing ≡ retiring r → (place : ℕ) (one : Retired) → slice_get r.list place ≡ Some one → IsFree (slice_set core.outs 1 None) one.slot
  list_free r doing place one at =
      let d = subst (IsDoing core.phases core.places core.numbers core.room core.dumper.running merge) doing work.doing in
      free_then one.slot (spared_of core.dumper.running one.slot (d.each place one at).spared)

  pub outs_then : outs ≡ out_of_running core.dumper.running ∷ None ∷ None ∷ writes_of_running core.dumper.running
  outs_then = h.outs_are ∙ ap (λ all. slice_set all 1 None) (jobs_out core h.sound work.stands)

  -- as the laws of beliefs take it
  pub its_outcome : (new : Parts) → new.outs ≡ outs → new.phases ≡ phases → IsMergersOutcome (seen_of core) made h.follows.phase (seen_of new)
  its_outcome new now_out now_phases = record {
    out = own;
    outs = now_out ∙ h.outs_are;
    apart = free_after core.standing core.outs core.phases core.dumper.running core.merger core.opener 1 made.request.id h.sound.outs_are own (omega arith);
    phase_is = h.follows.is;
    phases = now_phases ∙ h.follows.phases;
  }

  pub only_merges : (places : Places) (room : ℕ) (now : Option merger.Running) → OnlyMerges (seen_of core) (seen_of (merged_core core phases outs places room now))
  only_merges places room now = record {
    stands = work.stands;
    base = refl;
    history = refl;
    memory = refl;
    closed = work.closed;
    grows = refl;
    committing = refl;
    dumper = refl;
    makes = makes_in core.dumper.since_freeze core.dumper.running h.makes;
  }

  -- as the calls of a core say it
  pub merge_handed : (new : Parts) (answer : Reply) → IsMergersOutcome (seen_of core) made h.follows.phase (seen_of new) → new.base ≡ core.base → OutcomeIsBelieved (seen_of core) (seen_of new) made
      → AddsByOutcome made.request.id.worker answer (entries_of core.journal.items) (entries_of new.journal.items) → HandedIn seen 1 made answer (seen_of new)
  merge_handed new answer o base goes adds = subst (λ old. HandedIn old 1 made answer (seen_of new)) h.seen_is
      (handed_merger (seen_of core) (seen_of new) made h.follows.phase answer o base (ap length (o.phases ∙ sym h.follows.phases) ∙ h.follows.count) goes adds)

-- ---- the merge that goes on

-- the merge that goes on
pub record IsHandedOn (old : Option merger.Running) (made : Made) (done : MergeProgress) (new : Option merger.Running) : Type 0 where
  pub merge : merger.Running
  pub was : old ≡ Some merge
  pub doing : Doing
  pub hands : HandsAt merge.doing made done doing
  pub is : new ≡ Some (record merge { doing = doing })

pub handed_on : (old : Option merger.Running) (made : Made) (done : MergeProgress) (new : Option merger.Running) → IsMore done → Hands old made done new → IsHandedOn old made done new
handed_on old made done new given hands = grind arith

-- ---- what is left of the plan

header_after : (order : CopyOrder) (stage : Stage) (plan : Planned) (calls : Calls) → ClosesWithHeader order stage → ClosesWithHeader order (stage_after stage plan calls)
header_after order stage plan calls has = grind arith

rests_after : (stage : Stage) (plan : Planned) (calls : Calls) → plan.out ≡ None → out_of (stage_after stage plan calls) ≡ None
rests_after stage plan calls rests = grind arith

-- ---- an image that the merger closed may leave the catalog

-- an outcome of a call after which the image of its slot leaves the catalog, if it closed that for sure
pub record LeavesMerge (core : Parts) (seen : CoreView) (made : Made) (phases : List Phase)
    (outs : List (Option RequestId)) (places : Places) (now : Option merger.Running) : Type 0 where
  pub closed : Bool
  pub merge : merger.Running
  pub hands : HandsMerge core seen made phases outs closed merge
  pub leaves : LeavesCatalog closed made.request.id.slot core.places places

-- what it leaves of the merge
pub record RestsBeside (core : Parts) (phases : List Phase) (places : Places) (merge : merger.Running)
    (now : Option merger.Running) : Type 0 where
  pub rests : merger.out_of_merge now ≡ None
  pub fewer : serials_to_come now ≤ serials_to_come (Some merge)
  pub merging : IfSome now (MergeRuns core.standing phases places core.opener core.numbers core.room core.dumper.running)

module _ {core : Parts} {seen : CoreView} {made : Made} {phases : List Phase} {outs : List (Option RequestId)}
    {places : Places} {now : Option merger.Running} (l : LeavesMerge core seen made phases outs places now) where
  -- the images of the checkpoint stay
  leaves_work : serials_to_come now ≤ serials_to_come (Some l.merge) → LeavesWork core places core.numbers now
  leaves_work fewer = record {
    begun = refl;
    given = omega arith;
    checkpoint = refl;
    above = l.hands.sound.numbers_are.serials;
    serials = λ running runs. (let before = (at_work core running l.hands.sound runs).serials in let due_is = ap serials_to_come l.hands.was in omega (arith, before, due_is, fewer));
    held = λ running image runs making held. left_held l.closed made.request.id.slot core.places places image.order.serial l.leaves held;
    stay = λ serial o there has. by l.closed refl l.leaves serial o there has;
  }
    where
      by : (b : Bool) → l.closed ≡ b → LeavesCatalog b made.request.id.slot core.places places → (serial : ℕ) (o : Opened) → place_of core.places serial ≡ Some (Some o) → HasSlot core.dumper.running o.slot
          → place_of places serial ≡ Some (Some o)
      by true is_closed leaves serial o there has =
          let sync = sync_of l.hands.follows.phase made.request.id.call (sym l.hands.follows.closes ∙ is_closed) in
          left_image true made.request.id.slot core.places places serial o leaves
          (λ same. (work l.hands).syncs made.request.id (its_out l.hands) sync (subst (HasSlot core.dumper.running) same has)) there
      by false is_closed leaves serial o there has = ap (λ all. place_of all serial) leaves ∙ there

  leaves_core : RestsBeside core phases places l.merge now → IsCore (merged_core core phases outs places core.room now)
  leaves_core r = core_beside core outs phases places core.room core.numbers now l.hands.sound (work l.hands).stands (work l.hands).closed l.hands.follows.count (leaves_work r.fewer)
      (left_counted l.closed made.request.id.slot core.places places core.numbers l.leaves l.hands.sound.counted)
      (outs_then l.hands ∙ ap (λ o. out_of_running core.dumper.running ∷ o ∷ None ∷ writes_of_running core.dumper.running) (sym r.rests))
      (λ other at. absurd (let no : None ≡ Some other = sym r.rests ∙ at in cc)) (λ other at. absurd (let no : None ≡ Some other = sym r.rests ∙ at in cc)) r.merging

  leaves_surely : LeavesCatalog (closes_for_sure l.hands.follows.phase made.request.id.call) made.request.id.slot core.places places
  leaves_surely = subst (λ b. LeavesCatalog b made.request.id.slot core.places places) l.hands.follows.closes l.leaves

  -- an image of the list goes on to be closed, or is
  pub retiring_on : (r next : Retiring) (done : MergeProgress) → l.merge.doing ≡ retiring r → is_done made.answer ≡ true → HandsClosing r made done next
      → RetiringGoesOn (seen_of core) l.merge r made l.hands.follows.phase done next (seen_of (merged_core core phases outs places core.room now))
  retiring_on r next done doing ok hands = record {
    outcome = its_outcome l.hands (merged_core core phases outs places core.room now) refl refl;
    rest = only_merges l.hands places core.room now;
    serial = refl;
    catalog = leaves_surely;
    was = l.hands.was;
    doing = doing;
    sound = subst (IsRunningAt l.merge) doing (subst AreRunning l.hands.was l.hands.running);
    free = λ other at. list_free l.hands r doing (r.ended + 1) other at;
    ok = ok;
    hands = hands;
  }

  leaves_handed : (answer : Reply) → OutcomeIsBelieved (seen_of core) (seen_of (merged_core core phases outs places core.room now)) made
      → AddsByOutcome made.request.id.worker answer (entries_of core.journal.items) (entries_of core.journal.items) → HandedIn seen 1 made answer (seen_of (merged_core core phases outs places core.room now))
  leaves_handed answer believed adds =
      merge_handed l.hands (merged_core core phases outs places core.room now) answer (its_outcome l.hands (merged_core core phases outs places core.room now) refl refl) refl believed adds

-- ---- the merge goes on

-- an outcome with which the merge goes on
pub record GoesOnMerge (core : Parts) (seen : CoreView) (made : Made) (phases : List Phase)
    (outs : List (Option RequestId)) (places : Places) (done : MergeProgress) (now : Option merger.Running) : Type 0 where
  pub leaves : LeavesMerge core seen made phases outs places now
  pub more : IsMore done
  pub doing : Doing
  pub goes : HandsAt leaves.merge.doing made done doing
  pub is : now ≡ Some (record leaves.merge { doing = doing })

module _ {core : Parts} {seen : CoreView} {made : Made} {phases : List Phase} {outs : List (Option RequestId)}
    {places : Places} {done : MergeProgress} {now : Option merger.Running}
    (g : GoesOnMerge core seen made phases outs places done now) where
  by_more : {X : Type 0} → (done ≡ progress.More → X) → ((one : Retired) → done ≡ progress.Closed one → X) → X
  by_more more closed = elim g.more [ inl one ↦ more one | inr one ↦ closed one.0 one.1 ]

  -- it goes on with its image, or with one that it closes
  goes_by : (P : Doing → Type 0) → ((copy next : Copying) → g.leaves.merge.doing ≡ copying copy → PlanGoesOn copy made next → P (copying next))
      → ((r next : Retiring) → g.leaves.merge.doing ≡ retiring r → HandsClosing r made done next → P (retiring next)) → P g.doing
  goes_by P copies closes = by g.leaves.merge.doing refl g.goes
    where
      by : (was : Doing) → g.leaves.merge.doing ≡ was → HandsAt was made done g.doing → P g.doing
      by due was hands = absurd (by_more (λ one. subst (λ k. HandsAt due made k g.doing) one hands) (λ one same. subst (λ k. HandsAt due made k g.doing) same hands))
      by (copying copy) was hands = by_more
          (λ one. (let h = subst (λ k. HandsAt (copying copy) made k g.doing) one hands in subst P (sym h.is) (copies copy h.copy was h.hands)))
          (λ one same. absurd (subst (λ k. HandsAt (copying copy) made k g.doing) same hands))
      by (opened serial) was hands =
          absurd (by_more (λ one. subst (λ k. HandsAt (opened serial) made k g.doing) one hands) (λ one same. subst (λ k. HandsAt (opened serial) made k g.doing) same hands))
      by (retiring r) was hands = subst P (sym hands.is) (closes r hands.next was hands.hands)

  pub goes_on_core : IsCore (merged_core core phases outs places core.room now)
  goes_on_core = leaves_core g.leaves (subst (RestsBeside core phases places g.leaves.merge) (sym g.is)
      (goes_by (λ d. RestsBeside core phases places g.leaves.merge (Some (record g.leaves.merge { doing = d }))) copies closes))
    where
      copies : (copy next : Copying) → g.leaves.merge.doing ≡ copying copy → PlanGoesOn copy made next
          → RestsBeside core phases places g.leaves.merge (Some (record g.leaves.merge { doing = copying next }))
      copies copy next was goes =
          let rests : out_of next.stage ≡ None = ap (λ (k : Copying). out_of k.stage) goes.is ∙ rests_after copy.stage (plan_after goes.plan made) (plan_after goes.plan made).calls refl in
          record {
            rests = rests;
            fewer = omega arith;
            merging = copy_goes_on core phases places core.numbers g.leaves.merge copy next g.leaves.hands.sound g.leaves.hands.was was (ap (λ (k : Copying). k.order) goes.is) g.leaves.hands.follows.count
                (same_numbers core.numbers)
                (λ has. subst (ClosesWithHeader copy.order) (sym (ap (λ (k : Copying). k.stage) goes.is)) (header_after copy.order copy.stage (plan_after goes.plan made) (plan_after goes.plan made).calls has))
                (λ held. left_held g.leaves.closed made.request.id.slot core.places places copy.order.serial g.leaves.leaves held)
                (λ id out. absurd (let no : None ≡ Some id = sym rests ∙ out in cc)) (λ id out. absurd (let no : None ≡ Some id = sym rests ∙ out in cc));
          }

      list_rests : (r next : Retiring) → g.leaves.merge.doing ≡ retiring r → r.plan.out ≡ Some made.request.id → next.serial ≡ r.serial → next.list ≡ r.list → next.plan.out ≡ None
          → RestsBeside core phases places g.leaves.merge (Some (record g.leaves.merge { doing = retiring next }))
      list_rests r next was out serial list rests =
          let d = subst (IsDoing core.phases core.places core.numbers core.room core.dumper.running g.leaves.merge) was (work g.leaves.hands).doing in
          record {
            rests = rests;
            fewer = omega arith;
            merging = retiring_goes_on core phases places core.numbers g.leaves.merge r next g.leaves.hands.sound g.leaves.hands.was was (serial, list) g.leaves.hands.follows.count (same_numbers core.numbers)
                (λ o there at. left_image g.leaves.closed made.request.id.slot core.places places r.serial o g.leaves.leaves (λ same. d.elsewhere made.request.id out (sym same ∙ at)) there)
                (λ other other_out. absurd (let no : None ≡ Some other = sym rests ∙ other_out in cc));
          }

      with_next : (r next : Retiring) → g.leaves.merge.doing ≡ retiring r → GoesOnWith r made next → RestsBeside core phases places g.leaves.merge (Some (record g.leaves.merge { doing = retiring next }))
      with_next r next was goes = list_rests r next was goes.done.out (ap (λ (k : Retiring). k.serial) goes.is) (ap (λ (k : Retiring). k.list) goes.is) (ap (λ (k : Retiring). k.plan.out) goes.is)

      closes : (r next : Retiring) → g.leaves.merge.doing ≡ retiring r → HandsClosing r made done next → RestsBeside core phases places g.leaves.merge (Some (record g.leaves.merge { doing = retiring next }))
      closes r next was hands = by_more
          (λ one. elim (subst (λ k. HandsClosing r made k next) one hands) [
            | inl goes ↦ with_next r next was goes.0
            | inr ends ↦ list_rests r next was ends.0.done.out (ap (λ (k : Retiring). k.serial) ends.1.is) (ap (λ (k : Retiring). k.list) ends.1.is) (ap (λ (k : Retiring). k.plan.out) ends.1.is)
          ])
          (λ one same. with_next r next was (subst (λ k. HandsClosing r made k next) same hands).goes)

  pub goes_on_handed : {before : Places} → MergerOutcomes before → HandedIn seen 1 made reply.Worked (seen_of (merged_core core phases outs places core.room now))
  goes_on_handed laws = leaves_handed g.leaves reply.Worked
      (goes_by (λ d. now ≡ Some (record g.leaves.merge { doing = d }) → OutcomeIsBelieved (seen_of core) (seen_of (merged_core core phases outs places core.room now)) made) copies closes g.is) refl
    where
      copies : (copy next : Copying) → g.leaves.merge.doing ≡ copying copy → PlanGoesOn copy made next → now ≡ Some (record g.leaves.merge { doing = copying next })
          → OutcomeIsBelieved (seen_of core) (seen_of (merged_core core phases outs places core.room now)) made
      copies copy next was goes is = laws.goes_on (seen_of core) (seen_of (merged_core core phases outs places core.room now)) g.leaves.merge copy next made g.leaves.hands.follows.phase (record {
        outcome = its_outcome g.leaves.hands (merged_core core phases outs places core.room now) refl refl;
        rest = only_merges g.leaves.hands places core.room now;
        serial = refl;
        catalog = leaves_surely g.leaves;
        was = g.leaves.hands.was;
        doing = was;
        sound = subst HasSoundCopyIn was (subst HasSoundCopy g.leaves.hands.was g.leaves.hands.copied);
        hands = goes;
        is = is;
      })

      closes : (r next : Retiring) → g.leaves.merge.doing ≡ retiring r → HandsClosing r made done next → now ≡ Some (record g.leaves.merge { doing = retiring next })
          → OutcomeIsBelieved (seen_of core) (seen_of (merged_core core phases outs places core.room now)) made
      closes r next was hands is = by_more
          (λ one.
          let h = subst (λ k. HandsClosing r made k next) one hands in
          laws.retires _ _ g.leaves.merge r next made g.leaves.hands.follows.phase progress.More
          (retiring_on g.leaves r next progress.More was (elim h [ inl goes ↦ goes.0.done.done | inr ends ↦ ends.0.done.done ]) h) is)
          (λ one same.
          let h = subst (λ k. HandsClosing r made k next) same hands in
          laws.retires _ _ g.leaves.merge r next made g.leaves.hands.follows.phase (progress.Closed one) (retiring_on g.leaves r next (progress.Closed one) was h.goes.done.done h) is)

-- ---- it has ended

-- its last image is closed
pub record EndsList (merge : merger.Running) (made : Made) (serial : ℕ) : Type 0 where
  pub r : Retiring
  pub was : merge.doing ≡ retiring r
  pub next : Retiring
  pub hands : HandsClosing r made (progress.Merged serial) next

pub ends_list : (merge : merger.Running) (made : Made) (serial : ℕ) (doing : Doing) → HandsAt merge.doing made (progress.Merged serial) doing → EndsList merge made serial
ends_list merge made serial doing hands = by merge.doing refl hands
  where
    by : (was : Doing) → merge.doing ≡ was → HandsAt was made (progress.Merged serial) doing → EndsList merge made serial
    by due was hands = absurd hands
    by (copying copy) was hands = absurd hands
    by (opened number) was hands = absurd hands
    by (retiring r) was hands = record { r = r; was = was; next = hands.next; hands = hands.hands }

-- an outcome with which the merge has ended
pub record EndsMerge (core : Parts) (seen : CoreView) (made : Made) (phases : List Phase)
    (outs : List (Option RequestId)) (places : Places) (serial : ℕ) (now : Option merger.Running) : Type 0 where
  pub leaves : LeavesMerge core seen made phases outs places now
  pub ends : EndsList leaves.merge made serial
  pub is : now ≡ None

module _ {core : Parts} {seen : CoreView} {made : Made} {phases : List Phase} {outs : List (Option RequestId)}
    {places : Places} {serial : ℕ} {now : Option merger.Running}
    (m : EndsMerge core seen made phases outs places serial now) where
  pub ends_core : IsCore (merged_core core phases outs places core.room now)
  ends_core = leaves_core m.leaves (subst (RestsBeside core phases places m.leaves.merge) (sym m.is) (record { rests = refl; fewer = omega arith; merging = tt }))

  pub ended_goes_on : RetiringGoesOn (seen_of core) m.leaves.merge m.ends.r made m.leaves.hands.follows.phase (progress.Merged serial) m.ends.next (seen_of (merged_core core phases outs places core.room now))
  ended_goes_on = retiring_on m.leaves m.ends.r m.ends.next (progress.Merged serial) m.ends.was m.ends.hands.0.done.done m.ends.hands

  pub ends_handed : {before : Places} → MergerOutcomes before → HandedIn seen 1 made (reply.Merged serial) (seen_of (merged_core core phases outs places core.room now))
  ends_handed laws = leaves_handed m.leaves (reply.Merged serial)
      (laws.retires _ _ m.leaves.merge m.ends.r m.ends.next made m.leaves.hands.follows.phase (progress.Merged serial) ended_goes_on m.is) refl
