-- The calls that a merger asks for, as a core sees them.
use Rattle.std.proofs.Common.{◌≡◌, ◌⊎◌, ℕ, ◌<◌, ◌≤◌, List, length, Option, Some, None, slice_get, slice_index_or, slice_set, refl, sym, ◌∙◌, ap, subst, inl, inr, arith}
use Rattle.std.proofs.lemmas.Option.{same_Some, slice_get-get_or}
use Rattle.sd_chain.specs.Catalog.{Places}
use Rattle.sd_gate.specs.declared.request_id.RequestId.{RequestId}
use Rattle.sd_gate.specs.declared.worker.Worker.TheVariants as its
use Rattle.sd_gate.specs.Requests.{Asked}
use Rattle.sd_merge.specs.declared.copy_order.CopyOrder.{CopyOrder}
use Rattle.sd_merge.specs.declared.merge_step.MergeStep.{MergeStep}
use Rattle.sd_merge.specs.declared.merge_step.MergeStep.TheVariants.{Call, ReadCall, PageCall, TableCall, Zero}
use Rattle.sd_merge.specs.Copying.{Copying, IsSoundCopying, Steps}
use Rattle.sd_merge.specs.Merger as merger
use Rattle.sd_merge.specs.Merger.{AreRunning, Doing, HasSoundCopy, HasSoundCopyIn, IsRetiring, IsRunningAt, Loses, LosesPage, RetiresOn, Retiring, due, copying, opened, retiring}
use Rattle.sd_rounds.specs.Dumper.{AreRunning as MakesInOrder, HasSlot}
use Rattle.sd_crash_safety.specs.Believes.{Believes}
use Rattle.sd_crash_safety.specs.Calls.{HandsOut, IsFree}
use Rattle.sd_crash_safety.specs.MergerSteps.{MergerSteps, MergesOn, OnlyMerges}
use Rattle.sd_crash_safety.specs.Merges.{IsSpared}
use Rattle.sd_crash_safety.specs.View.{CoreView}
use Rattle.sd_core.specs.declared.numbers.Numbers.{Numbers}
use Rattle.sd_core.specs.Merging.{IsStepOf, MayRead, StepsAt}
use Rattle.sd_core.specs.Sound.{ClosesWithHeader, IsCore, IsDoing, MergeRuns, Parts, serials_to_come}
use Rattle.sd_core.proofs.BesideLemmas.{copy_goes_on, core_asks, free_asked, leaves_same, merger_works, retiring_goes_on}
use Rattle.sd_core.proofs.CoreParts.{seen_of}
use Rattle.sd_core.proofs.MergerSteps.{AsksOwn, asks_header, asks_own, tables_header, tables_own, writes_header, writes_own}
use Rattle.sd_core.proofs.OwnLemmas.{makes_in, spared_of}
use Rattle.sd_core.proofs.WorkLemmas.{SameNumbers, counted_same}

-- a step that asks for a call, but for a read
abbrev pub IsCallOf : MergeStep → Asked → Type 0
IsCallOf made request = (made ≡ Call request) ⊎ ((made ≡ PageCall request) ⊎ (made ≡ TableCall request))

-- what a request leaves of the merge
pub record AsksBeside (core : Parts) (numbers : Numbers) (merge : merger.Running) (doing : Doing) (request : Asked) : Type 0 where
  pub out : merger.out_in doing ≡ Some request.id
  pub worker : request.id.worker ≡ its.Merger
  pub within : request.id.slot < length core.phases
  pub spared : IsSpared core.dumper.running request.id.slot
  pub fewer : serials_to_come (Some (record merge { doing = doing })) ≤ serials_to_come (Some merge)
  pub merging : MergeRuns core.standing core.phases core.places core.opener numbers core.room core.dumper.running (record merge { doing = doing })

-- ---- on the slot of the merged image

own_slot_of : (merge : merger.Running) (copy : Copying) → copy.order ≡ merger.order_of merge copy.order.serial copy.order.state → copy.order.slot ≡ merge.slot
own_slot_of merge copy is = ap (λ (o : CopyOrder). o.slot) is

asks_on_own : (core : Parts) (numbers : Numbers) (merge : merger.Running) (copy next : Copying) (request : Asked) → IsCore core → core.merger ≡ Some merge → merge.doing ≡ copying copy
    → SameNumbers core.numbers numbers → copy.order ≡ merger.order_of merge copy.order.serial copy.order.state → request.id.worker ≡ its.Merger → AsksOwn copy next request
    → (ClosesWithHeader copy.order copy.stage → ClosesWithHeader copy.order next.stage)
    → AsksBeside core numbers merge (copying next) request
asks_on_own core numbers merge copy next request sound is doing same order worker own header =
    let m = merger_works core merge sound is in
    let at = own.slot ∙ own_slot_of merge copy order in
    let spared = (λ (has : HasSlot core.dumper.running request.id.slot). m.spared (subst (HasSlot core.dumper.running) at has)) in
    record {
      out = own.out;
      worker = worker;
      within = subst (λ s. s < length core.phases) (sym at) m.within;
      spared = spared_of core.dumper.running request.id.slot spared;
      fewer = omega arith;
      merging = copy_goes_on core core.phases core.places numbers merge copy next sound is doing own.order refl same header (λ held. held)
          (λ id out. subst (λ (i : RequestId). IsSpared core.dumper.running i.slot) (same_Some request.id id (sym own.out ∙ out)) (spared_of core.dumper.running request.id.slot spared))
          (λ id out sync has. spared (subst (λ (i : RequestId). HasSlot core.dumper.running i.slot) (sym (same_Some request.id id (sym own.out ∙ out))) has));
    }

-- ---- on the slot of an image of the list

asks_on_listed : (core : Parts) (numbers : Numbers) (merge : merger.Running) (r : Retiring) (ticket : ℕ) (request : Asked) (doing : Doing) → IsCore core → core.merger ≡ Some merge
    → merge.doing ≡ retiring r → SameNumbers core.numbers numbers → IsRetiring r → RetiresOn ticket r (Call request) doing → AsksBeside core numbers merge doing request
asks_on_listed core numbers merge r ticket request doing sound is was same retired goes =
    let one = slice_index_or r.list r.ended (record { serial = 0; slot = 0 }) in
    let there : slice_get r.list r.ended ≡ Some one = slice_get-get_or r.list r.ended (record { serial = 0; slot = 0 }) retired.some in
    let own : goes.request ≡ request = request_of goes.request request goes.call in
    let at : request.id.slot ≡ one.slot = ap (λ (a : Asked). a.id.slot) (sym own) ∙ goes.gives.slot ∙ retired.own one there in
    let m = merger_works core merge sound is in
    let d = subst (IsDoing core.phases core.places core.numbers core.room core.dumper.running merge) was m.doing in
    let e = d.each r.ended one there in
    let out : goes.next.out ≡ Some request.id = goes.gives.out ∙ ap (λ (a : Asked). Some a.id) own in
    record {
      out = ap merger.out_in goes.is ∙ out;
      worker = ap (λ (a : Asked). a.id.worker) (sym own) ∙ goes.asked.worker;
      within = subst (λ s. s < length core.phases) (sym at) e.within;
      spared = spared_of core.dumper.running request.id.slot (λ has. e.spared (subst (HasSlot core.dumper.running) at has));
      fewer = subst (λ k. serials_to_come (Some (record merge { doing = k })) ≤ serials_to_come (Some merge)) (sym goes.is) (omega arith);
      merging = subst (λ k. MergeRuns core.standing core.phases core.places core.opener numbers core.room core.dumper.running (record merge { doing = k })) (sym goes.is)
          (retiring_goes_on core core.phases core.places numbers merge r (record r { plan = goes.next }) sound is was (refl, refl) refl same (λ o there at. there)
          (λ id id_out. (r.ended, one, there, ap (λ (i : RequestId). i.slot) (sym (same_Some request.id id (sym out ∙ id_out))) ∙ at)));
    }
  where
    request_of : (a b : Asked) → Call b ≡ Call a → a ≡ b
    request_of a b e = cc

-- ---- the step

-- What is known as a merger that has no request out makes a step: the core before it, and the step.
pub record StepsMerge (core : Parts) (seen : CoreView) (made : MergeStep) (now : Option merger.Running) : Type 0 where
  pub laws : MergerSteps core.places
  pub sound : IsCore core
  pub seen_is : seen_of core ≡ seen
  pub rests : slice_get seen.outs 1 ≡ Some None
  pub running : AreRunning core.merger
  pub copied : HasSoundCopy core.merger
  pub makes : MakesInOrder core.dumper.since_freeze core.dumper.running
  pub on : IsStepOf core.numbers.ticket core.places core.merger made now

-- the core after it
abbrev pub stepped_core : Parts → List (Option RequestId) → Numbers → Option merger.Running → Parts
stepped_core core outs numbers now = record core { outs = outs; numbers = numbers; merger = now }

-- a step on the merged image
pub record OnImage (ticket : ℕ) (places : Places) (merge : merger.Running) (made : MergeStep) (doing : Doing) : Type 0 where
  pub copy : Copying
  pub was : merge.doing ≡ copying copy
  pub next : Copying
  pub is : doing ≡ copying next
  pub sound : IsSoundCopying copy
  pub steps : Steps ticket places copy made next

module _ {core : Parts} {seen : CoreView} {made : MergeStep} {now : Option merger.Running} (s : StepsMerge core seen made now) where
  pub work : MergeRuns core.standing core.phases core.places core.opener core.numbers core.room core.dumper.running s.on.merge
  work = merger_works core s.on.merge s.sound s.on.was

  rests : slice_get core.outs 1 ≡ Some None
  rests = ap (λ (v : CoreView). slice_get v.outs 1) s.seen_is ∙ s.rests

  running : IsRunningAt s.on.merge s.on.merge.doing
  running = subst AreRunning s.on.was s.running

  copied : HasSoundCopyIn s.on.merge.doing
  copied = subst HasSoundCopy s.on.was s.copied

  only_merges : (outs : List (Option RequestId)) (numbers : Numbers) → OnlyMerges (seen_of core) (seen_of (stepped_core core outs numbers now))
  only_merges outs numbers = record {
    stands = work.stands;
    base = refl;
    history = refl;
    memory = refl;
    closed = work.closed;
    grows = refl;
    committing = refl;
    dumper = refl;
    makes = makes_in core.dumper.since_freeze core.dumper.running s.makes;
  }

  on_image : ((request : Asked) → made ≡ Call request → ⊥) → OnImage core.numbers.ticket core.places s.on.merge made s.on.doing
  on_image other = by s.on.merge.doing refl copied s.on.steps
    where
      by : (was : Doing) → s.on.merge.doing ≡ was → HasSoundCopyIn was → StepsAt core.numbers.ticket core.places s.on.merge was made s.on.doing
          → OnImage core.numbers.ticket core.places s.on.merge made s.on.doing
      by due was good steps = absurd steps
      by (copying copy) was good steps = record { copy = copy; was = was; next = steps.copy; is = steps.is; sound = good; steps = steps.steps }
      by (opened serial) was good steps = absurd steps
      by (retiring r) was good steps = absurd (other steps.request steps.call)

  merges_on : (outs : List (Option RequestId)) (numbers : Numbers) → numbers.serial ≡ core.numbers.serial → (i : OnImage core.numbers.ticket core.places s.on.merge made s.on.doing)
      → MergesOn (seen_of core) s.on.merge i.copy core.numbers.ticket made i.next (seen_of (stepped_core core outs numbers now))
  merges_on outs numbers serial i = grind arith

  -- ---- it asks for a call

  pub asked_core : (outs : List (Option RequestId)) (numbers : Numbers) (request : Asked) → SameNumbers core.numbers numbers → outs ≡ slice_set core.outs 1 (Some request.id)
      → AsksBeside core numbers s.on.merge s.on.doing request → IsCore (stepped_core core outs numbers now)
  asked_core outs numbers request same are a =
      core_asks core outs core.places numbers (record s.on.merge { doing = s.on.doing }) now request.id s.sound work.stands work.closed s.on.is rests are a.out a.within a.worker a.spared
      (leaves_same core numbers s.on.merge (record s.on.merge { doing = s.on.doing }) s.sound s.on.was a.fewer same) (counted_same core.places core.numbers numbers same s.sound.counted) a.merging

  free_to_ask : (numbers : Numbers) (request : Asked) → AsksBeside core numbers s.on.merge s.on.doing request → IsFree core.outs request.id.slot
  free_to_ask numbers request a = free_asked core request.id.slot s.sound work.stands rests a.spared

  asks_handed : (outs : List (Option RequestId)) (numbers : Numbers) (request : Asked) → outs ≡ slice_set core.outs 1 (Some request.id) → AsksBeside core numbers s.on.merge s.on.doing request
      → ((asked : List (Option Asked)) (bodies files : List (List ℕ)) → Believes (seen_of core) asked bodies files
      → Believes (seen_of (stepped_core core outs numbers now)) (slice_set asked 1 (Some request)) bodies files)
      → HandsOut seen its.Merger request (seen_of (stepped_core core outs numbers now))
  asks_handed outs numbers request are a goes = subst (λ old. HandsOut old its.Merger request (seen_of (stepped_core core outs numbers now))) s.seen_is (record {
    lane = 1;
    free = rests;
    base = refl;
    history = refl;
    phases = refl;
    outs = are;
    whose = a.worker;
    slot = a.within;
    apart = λ lane other at same. absurd (free_to_ask numbers request a lane other at same);
    pages = λ few. absurd (omega (arith, few));
    beside = λ lane other at same. absurd (free_to_ask numbers request a lane other at same);
    goes_on = goes;
  })

  pub call_asks : (numbers : Numbers) (request : Asked) → SameNumbers core.numbers numbers → IsCallOf made request → AsksBeside core numbers s.on.merge s.on.doing request
  call_asks numbers request same call = by s.on.merge.doing refl running copied s.on.steps
    where
      by_copy : (copy next : Copying) → s.on.merge.doing ≡ copying copy → copy.order ≡ merger.order_of s.on.merge copy.order.serial copy.order.state → IsSoundCopying copy
          → IsCallOf made request → Steps core.numbers.ticket core.places copy made next → AsksBeside core numbers s.on.merge (copying next) request
      by_copy copy next was order good (inl one) steps =
          let t = subst (λ k. Steps core.numbers.ticket core.places copy k next) one steps in
          asks_on_own core numbers s.on.merge copy next request s.sound s.on.was was same order t.1.worker (asks_own copy next request good t.0) (asks_header copy next request t.0)
      by_copy copy next was order good (inr (inl one)) steps =
          let t = subst (λ k. Steps core.numbers.ticket core.places copy k next) one steps in
          asks_on_own core numbers s.on.merge copy next request s.sound s.on.was was same order t.1.worker (writes_own copy next request t.0) (writes_header copy next request t.0)
      by_copy copy next was order good (inr (inr one)) steps =
          let t = subst (λ k. Steps core.numbers.ticket core.places copy k next) one steps in
          asks_on_own core numbers s.on.merge copy next request s.sound s.on.was was same order t.1.worker (tables_own core.places copy next request t.0) (tables_header core.places copy next request t.0)

      by_list : (r : Retiring) → s.on.merge.doing ≡ retiring r → IsRetiring r → IsCallOf made request → RetiresOn core.numbers.ticket r made s.on.doing
          → AsksBeside core numbers s.on.merge s.on.doing request
      by_list r was good (inl one) goes =
          asks_on_listed core numbers s.on.merge r core.numbers.ticket request s.on.doing s.sound s.on.was was same good (subst (λ k. RetiresOn core.numbers.ticket r k s.on.doing) one goes)
      by_list r was good (inr (inl one)) goes = absurd (let no : PageCall request ≡ Call goes.request = sym one ∙ goes.call in cc)
      by_list r was good (inr (inr one)) goes = absurd (let no : TableCall request ≡ Call goes.request = sym one ∙ goes.call in cc)

      by : (was : Doing) → s.on.merge.doing ≡ was → IsRunningAt s.on.merge was → HasSoundCopyIn was → StepsAt core.numbers.ticket core.places s.on.merge was made s.on.doing
          → AsksBeside core numbers s.on.merge s.on.doing request
      by due was order good steps = absurd steps
      by (copying copy) was order good steps = subst (λ k. AsksBeside core numbers s.on.merge k request) (sym steps.is) (by_copy copy steps.copy was order good call steps.steps)
      by (opened serial) was order good steps = absurd steps
      by (retiring r) was order good steps = by_list r was order call steps

  pub call_handed : (outs : List (Option RequestId)) (numbers : Numbers) (request : Asked) → SameNumbers core.numbers numbers → outs ≡ slice_set core.outs 1 (Some request.id) → IsCallOf made request
      → HandsOut seen its.Merger request (seen_of (stepped_core core outs numbers now))
  call_handed outs numbers request same are call = asks_handed outs numbers request are asks (λ asked bodies files b. by asked bodies files b s.on.merge.doing refl running copied s.on.steps)
    where
      asks : AsksBeside core numbers s.on.merge s.on.doing request
      asks = call_asks numbers request same call

      merges : (i : OnImage core.numbers.ticket core.places s.on.merge made s.on.doing) (step : MergeStep) → made ≡ step
          → MergesOn (seen_of core) s.on.merge i.copy core.numbers.ticket step i.next (seen_of (stepped_core core outs numbers now))
      merges i step is = subst (λ k. MergesOn (seen_of core) s.on.merge i.copy core.numbers.ticket k i.next (seen_of (stepped_core core outs numbers now))) is (merges_on outs numbers same.serial i)

      by_copy : (asked : List (Option Asked)) (bodies files : List (List ℕ)) → Believes (seen_of core) asked bodies files → OnImage core.numbers.ticket core.places s.on.merge made s.on.doing
          → IsCallOf made request → Believes (seen_of (stepped_core core outs numbers now)) (slice_set asked 1 (Some request)) bodies files
      by_copy asked bodies files b i (inl one) = s.laws.asks _ _ s.on.merge i.copy i.next core.numbers.ticket request asked bodies files refl
          (record { merges = merges i (Call request) one; free = rests; apart = free_to_ask numbers request asks; outs = are }) b
      by_copy asked bodies files b i (inr (inl one)) = s.laws.writes_page _ _ s.on.merge i.copy i.next core.numbers.ticket request asked bodies files refl
          (record { merges = merges i (PageCall request) one; free = rests; apart = free_to_ask numbers request asks; outs = are }) b
      by_copy asked bodies files b i (inr (inr one)) = s.laws.writes_table _ _ s.on.merge i.copy i.next core.numbers.ticket request asked bodies files refl
          (record { merges = merges i (TableCall request) one; free = rests; apart = free_to_ask numbers request asks; outs = are }) b

      by_list : (asked : List (Option Asked)) (bodies files : List (List ℕ)) → Believes (seen_of core) asked bodies files → (r : Retiring) → s.on.merge.doing ≡ retiring r → IsRetiring r → IsCallOf made request
          → RetiresOn core.numbers.ticket r made s.on.doing → Believes (seen_of (stepped_core core outs numbers now)) (slice_set asked 1 (Some request)) bodies files
      by_list asked bodies files b r was good (inl one) goes = s.laws.retires _ _ s.on.merge r (record r { plan = goes.next }) core.numbers.ticket request asked bodies files (record {
        rest = only_merges outs numbers;
        phases = refl;
        serial = same.serial;
        catalog = refl;
        was = s.on.was;
        doing = was;
        sound = good;
        retires = subst (λ k. RetiresOn core.numbers.ticket r (Call request) k) goes.is (subst (λ k. RetiresOn core.numbers.ticket r k s.on.doing) one goes);
        free = rests;
        apart = free_to_ask numbers request asks;
        outs = are;
        is = s.on.is ∙ ap (λ k. Some (record s.on.merge { doing = k })) goes.is;
      }) b
      by_list asked bodies files b r was good (inr (inl one)) goes = absurd (let no : PageCall request ≡ Call goes.request = sym one ∙ goes.call in cc)
      by_list asked bodies files b r was good (inr (inr one)) goes = absurd (let no : TableCall request ≡ Call goes.request = sym one ∙ goes.call in cc)

      by : (asked : List (Option Asked)) (bodies files : List (List ℕ)) → Believes (seen_of core) asked bodies files → (was : Doing) → s.on.merge.doing ≡ was → IsRunningAt s.on.merge was → HasSoundCopyIn was
          → StepsAt core.numbers.ticket core.places s.on.merge was made s.on.doing → Believes (seen_of (stepped_core core outs numbers now)) (slice_set asked 1 (Some request)) bodies files
      by asked bodies files b due was order good steps = absurd steps
      by asked bodies files b (copying copy) was order good steps =
          by_copy asked bodies files b (record { copy = copy; was = was; next = steps.copy; is = steps.is; sound = good; steps = steps.steps }) call
      by asked bodies files b (opened serial) was order good steps = absurd steps
      by asked bodies files b (retiring r) was order good steps = by_list asked bodies files b r was order call steps

-- ---- a read

module _ {core : Parts} {seen : CoreView} {request : Asked} {now : Option merger.Running} (s : StepsMerge core seen (ReadCall request) now) where
  read_image : OnImage core.numbers.ticket core.places s.on.merge (ReadCall request) s.on.doing
  read_image = on_image s (λ other is. let no : ReadCall request ≡ Call other = is in cc)

  pub read_asks : (numbers : Numbers) → SameNumbers core.numbers numbers → MayRead core.dumper.running (length core.phases) request.id.slot → AsksBeside core numbers s.on.merge s.on.doing request
  read_asks numbers same may = grind arith

  pub read_handed : (outs : List (Option RequestId)) (numbers : Numbers) → SameNumbers core.numbers numbers → outs ≡ slice_set core.outs 1 (Some request.id)
      → MayRead core.dumper.running (length core.phases) request.id.slot → HandsOut seen its.Merger request (seen_of (stepped_core core outs numbers now))
  read_handed outs numbers same are may = asks_handed s outs numbers request are (read_asks numbers same may)
      (λ asked bodies files b. s.laws.reads _ _ s.on.merge read_image.copy read_image.next core.numbers.ticket request asked bodies files refl
      (record { merges = merges_on s outs numbers same.serial read_image; free = rests s; apart = free_to_ask s numbers request (read_asks numbers same may); outs = are }) b)

  -- such a read is in a slot of the store that the checkpoint spares
  pub may_read_by : (asked : List (Option Asked)) (bodies files : List (List ℕ)) → Believes (seen_of core) asked bodies files → MayRead core.dumper.running (length core.phases) request.id.slot
  may_read_by asked bodies files b =
      let may = s.laws.spares _ _ s.on.merge read_image.copy read_image.next core.numbers.ticket request asked bodies files refl (merges_on s core.outs core.numbers refl read_image) b in
      record { within = may.0; spared = may.1 }

-- it takes a page of zeros
pub goes_by_zeros : {core : Parts} {seen : CoreView} {now : Option merger.Running} (s : StepsMerge core seen Zero now) (asked : List (Option Asked)) (bodies files : List (List ℕ))
    → Believes (seen_of core) asked bodies files → Believes (seen_of (stepped_core core core.outs core.numbers now)) asked bodies files
goes_by_zeros {core = core} s asked bodies files b =
    let i = on_image s (λ other is. let no : Zero ≡ Call other = is in cc) in
    s.laws.takes_zeros _ _ s.on.merge i.copy i.next core.numbers.ticket asked bodies files refl (record { merges = merges_on s core.outs core.numbers refl i; outs = refl }) b

-- the source is there to be read: no page of it is lost
pub never_lost : (places : Places) → MergerSteps places → (parts : Parts) (core : CoreView) → IsCore parts → core.merger ≡ parts.merger → core.standing ≡ parts.standing → core.catalog ≡ places
    → Loses places parts.merger → (asked : List (Option Asked)) (bodies files : List (List ℕ)) → Believes core asked bodies files → ⊥
never_lost places laws parts core sound merger_is stands here lost asked bodies files b = by parts.merger refl lost
  where
    by_doing : (merge : merger.Running) (doing : Doing) → parts.merger ≡ Some merge → merge.doing ≡ doing → LosesPage places doing → ⊥
    by_doing merge due is was none = none
    by_doing merge (copying copy) is was none =
        laws.finds core merge copy asked bodies files here (stands ∙ (merger_works parts merge sound is).stands) (merger_is ∙ is) was b none
    by_doing merge (opened serial) is was none = none
    by_doing merge (retiring r) is was none = none

    by : (merge : Option merger.Running) → parts.merger ≡ merge → Loses places merge → ⊥
    by None is none = none
    by (Some merge) is none = by_doing merge merge.doing is refl none
