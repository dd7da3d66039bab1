-- The source of a merge is read, and its pages are written.
use Rattle.std.proofs.Common.{◌≡◌, ◌≢◌, ◌⊎◌, ℕ, ◌<◌, ◌≤◌, true, List, [], ◌∷◌, ◌++◌, length, map, Option, Some, None, Contains, option_and_then, slice_get, slice_set, refl, sym, ◌∙◌, ap, subst, inl, inr, arith}
use Rattle.std.proofs.lemmas.Bool.{false≢true}
use Rattle.std.proofs.lemmas.Option.{same_Some, slice_get_within}
use Rattle.sd_disk.specs.Contents.{file_at}
use Rattle.sd_image.specs.Image.{Image, IsImage, gate, image_text}
use Rattle.sd_image.specs.Table.{table_text}
use Rattle.sd_image.specs.declared.header.Header.{Header}
use Rattle.sd_image.proofs.Members.{contains_at, place_in}
use Rattle.sd_chain.specs.Catalog.{Opened, Places, place_of}
use Rattle.sd_chain.specs.Recorded.{CatalogLists}
use Rattle.sd_gate.specs.declared.call.Call.TheVariants.{Read, Write, Close as CloseCall, Open}
use Rattle.sd_gate.specs.declared.phase.Phase.{Phase}
use Rattle.sd_gate.specs.declared.phase.Phase.TheVariants.{Whole, Closing as ClosingPhase, Opening as OpeningPhase, Doubt, DoubtSynced}
use Rattle.sd_gate.specs.Laws.{BodiesFill, Leads, PlansLead, pages_body}
use Rattle.sd_gate.specs.PlanRuns.{body_closed}
use Rattle.sd_gate.specs.Phases.{body_after, is_ready}
use Rattle.sd_gate.specs.Requests.{Asked}
use Rattle.sd_gate.specs.Sequences.{body_calls, data_place}
use Rattle.sd_journal.specs.History.{History}
use Rattle.sd_merge.specs.declared.merge_step.MergeStep.{MergeStep}
use Rattle.sd_merge.specs.declared.merge_step.MergeStep.TheVariants.{ReadCall, PageCall, TableCall, Zero}
use Rattle.sd_merge.specs.declared.stage.Stage.TheVariants as copy
use Rattle.sd_merge.specs.Copying.{Copying, Steps, StepsRead, StepsTable, StepsZero, WritesPage}
use Rattle.sd_merge.specs.Files.{AreItsNumbers, FileLaws, FilesCopy, IsFiled, IsFiledIn}
use Rattle.sd_merge.specs.Merger as merger
use Rattle.sd_merge.specs.Merging.{IsReadOf, IsSourceAt, KeepsCopy, MergeLaws, pages_after}
use Rattle.sd_rounds.specs.Dumper.{Running}
use Rattle.sd_rounds.specs.MakingLaws.{MakingLaws}
use Rattle.sd_writing.specs.Files.{Pages, image_of}
use Rattle.sd_writing.specs.Entries.{data_pages}
use Rattle.sd_store_laws.specs.Beliefs.{Belief, Closed, Kept, Closing, Opening, image_at, image_in}
use Rattle.sd_store_laws.specs.Gates.{IsBelievedAs, IsInDoubt}
use Rattle.sd_store_laws.specs.LiveImages.{CatalogFollows, IsLiveCatalog}
use Rattle.sd_store_laws.specs.Needs.{IsNeededIn}
use Rattle.sd_store_laws.specs.Stays.{SourceReachesNeeded}
use Rattle.sd_crash_safety.specs.Believes.{Believes, HasStore}
use Rattle.sd_crash_safety.specs.Calls.{IsFree}
use Rattle.sd_crash_safety.specs.LiveImages.{IsAtWork, IsFilledSlot, IsLiveOn, IsSlotFor, body_written, ids_of, kind_of_call}
use Rattle.sd_crash_safety.specs.MergerSteps.{AsksForMerged, MergesOn, TakesZeros}
use Rattle.sd_crash_safety.specs.Merges.{IsAskedIn, IsCopyOfSource, IsCopyOn, IsMergeAt, IsMergeOn, IsSpared, MakesOther, lanes_in_slot, order_of_slot, request_in_slot, stage_in_slot}
use Rattle.sd_crash_safety.specs.StoreSteps.{IsQuiet, QuietSteps}
use Rattle.sd_crash_safety.specs.View.{CoreView, history_of}
use Rattle.sd_crash_safety.proofs.Asks.{unchanged_at}
use Rattle.sd_crash_safety.proofs.BeginsImage.{none_at}
use Rattle.sd_crash_safety.proofs.FoundLive.{numbers_fall}
use Rattle.sd_crash_safety.proofs.MergerSource.{KnowsCatalog, source_in}
use Rattle.sd_crash_safety.proofs.MergerUse.{use_then}
use Rattle.sd_crash_safety.proofs.Places.{has_too, ids_set, set_same}
use Rattle.sd_crash_safety.proofs.WritesLaw.{first_is}

-- an image that a slot keeps stands in a whole file
pub kept_whole : (phase : Phase) (body : List ℕ) (i : Image) → IsBelievedAs phase body (Kept i) → (phase ≡ Whole) × IsImage (gate ∷ body) i
kept_whole Whole body i is = (refl, subst (IsImage (gate ∷ body)) (its is.0 is.1) is.2)
  where
    its : (j : Image) → Kept i ≡ Kept j → j ≡ i
    its j same = cc
kept_whole ClosingPhase body i is = absurd (no_doubt body i is)
  where
    no_doubt : (body : List ℕ) (i : Image) → IsInDoubt body (Kept i) → ⊥
    no_doubt body i (j, inl closing, file) = let no : Kept i ≡ Closing j = closing in cc
    no_doubt body i (j, inr opening, file) = let no : Kept i ≡ Opening j = opening in cc
kept_whole OpeningPhase body i is = absurd (no_doubt body i is)
  where
    no_doubt : (body : List ℕ) (i : Image) → IsInDoubt body (Kept i) → ⊥
    no_doubt body i (j, inl closing, file) = let no : Kept i ≡ Closing j = closing in cc
    no_doubt body i (j, inr opening, file) = let no : Kept i ≡ Opening j = opening in cc
kept_whole Doubt body i is = absurd (no_doubt body i is)
  where
    no_doubt : (body : List ℕ) (i : Image) → IsInDoubt body (Kept i) → ⊥
    no_doubt body i (j, inl closing, file) = let no : Kept i ≡ Closing j = closing in cc
    no_doubt body i (j, inr opening, file) = let no : Kept i ≡ Opening j = opening in cc
kept_whole DoubtSynced body i is = absurd (no_doubt body i is)
  where
    no_doubt : (body : List ℕ) (i : Image) → IsInDoubt body (Kept i) → ⊥
    no_doubt body i (j, inl closing, file) = let no : Kept i ≡ Closing j = closing in cc
    no_doubt body i (j, inr opening, file) = let no : Kept i ≡ Opening j = opening in cc
kept_whole _ body i is = absurd (let no : Kept i ≡ Closed = is in cc)

-- a merge has no dump of its own
abbrev no_dump : Option Image
no_dump = None

-- a needed image stands in no slot of the checkpoint
pub needed_spared : (core : CoreView) (asked : List (Option Asked)) (bodies files : List (List ℕ)) (b : Believes core asked bodies files) (slot : ℕ) (i : Image) → image_at b.beliefs slot ≡ Some i → IsNeededIn b.store i
    → (running : Option Running) → IsAtWork core.base (history_of core) core.grows core.memory core.phases asked bodies core.numbers.serial b.store b.dump b.beliefs running → IsSpared running slot
needed_spared core asked bodies files b slot i at needed running w = grind arith

module _ (quiet : QuietSteps) (merge_laws : MergeLaws) (files_of : FileLaws) (needed_of : SourceReachesNeeded) (follows : CatalogFollows) (making : MakingLaws) (plans : PlansLead) (bodies_fill : BodiesFill)
    (places : Places) (knows : KnowsCatalog places)
    (old new : CoreView) (merge : merger.Running) (made next : Copying) (ticket : ℕ) (step : MergeStep) (asked : List (Option Asked)) (bodies files : List (List ℕ))
    (its_catalog : old.catalog ≡ places) (s : MergesOn old merge made ticket step next new) (b : Believes old asked bodies files) where
  abbrev history : History
  history = history_of old

  abbrev target : ℕ
  target = merge.slot

  abbrev running : Option Running
  running = old.dumper.running

  abbrev last : ℕ
  last = old.numbers.serial

  u : IsLiveOn old.base history old.catalog old.grows old.memory old.phases asked bodies last b.store b.dump b.beliefs running
  u = b.knows.is_live s.rest.stands

  k : IsCopyOfSource old.phases asked bodies last b.store b.beliefs running merge.slot merge.source made
  k = subst (IsMergeAt old.phases asked bodies last b.store b.beliefs running merge.slot merge.source) s.doing
      (subst (λ m. IsMergeOn old.phases asked bodies last b.store b.beliefs running m) s.was (b.knows.merging s.rest.stands).is)

  c : IsCopyOn old.phases asked bodies last b.store b.beliefs running target k.repeats.image made
  c = k.copy

  abbrev source : Image
  source = k.repeats.image

  there : Contains b.store.catalog source
  there = (b.has.slots.catalog source).1 (inl (contains_at b.beliefs k.repeats.source.slot (Kept source) k.repeats.source.kept))

  told : CatalogLists places b.store.catalog
  told = knows.tells b.store b.dump b.beliefs b.has.slots (subst (λ p. IsLiveCatalog p b.beliefs) its_catalog u.catalog)

  source_is : IsSourceAt places b.store.catalog made.order.source.serial source
  source_is = subst (λ n. IsSourceAt places b.store.catalog n source) (sym k.repeats.source.serial ∙ ap (λ x. x.serial) (sym k.order.0))
      (source_in places knows b.store.catalog (b.knows.merging s.rest.stands).spelled b.has.sound.fall told source there)

  steps : Steps ticket places made step next
  steps = subst (λ p. Steps ticket p made step next) its_catalog s.steps

  keeps_next : KeepsCopy b.store.catalog source (pages_after step c.pages) next
  keeps_next = merge_laws.steps ticket places b.store.catalog source c.pages made next step steps s.sound.ready source_is c.keeps

  -- the copy that the step leaves: its slot is believed to be as before
  copying_next : (pages : Pages) (asked_now : List (Option Asked)) (request : Option Asked) → next.order ≡ made.order → KeepsCopy b.store.catalog source pages next → FilesCopy source pages next
      → slice_get asked_now 1 ≡ Some request → IsAskedIn next.stage old.phases bodies b.store b.beliefs running target source next.taking request
      → IsSlotFor (stage_in_slot next.stage) (order_of_slot target made.order.state) pages c.phase (body_written (file_at bodies target) (lanes_in_slot next.stage request)) (request_in_slot next.stage request) c.belief None
      → IsCopyOfSource old.phases asked_now bodies last b.store b.beliefs running merge.slot merge.source next
  copying_next pages asked_now request same keeps filed own asked_in slot_is = record {
    repeats = k.repeats;
    order = (ap (λ o. o.source) same ∙ k.order.0, ap (λ o. o.slot) same ∙ k.order.1);
    copy = record {
      pages = pages;
      keeps = keeps;
      files = filed;
      serial = subst (λ o. o.serial ≤ last) (sym same) c.serial;
      other = subst (λ o. MakesOther running o.serial) (sym same) c.other;
      above = λ j member stands. subst (λ o. j.header.serial < o.serial) (sym same) (c.above j member stands);
      others = λ slot j has apart. subst (λ o. j.header.serial ≢ o.serial) (sym same) (c.others slot j has apart);
      phase = c.phase;
      phase_is = c.phase_is;
      belief = c.belief;
      belief_is = c.belief_is;
      request = request;
      own = own;
      asked_in = asked_in;
      slot_is = subst (λ o. IsSlotFor (stage_in_slot next.stage) (order_of_slot target o.state) pages c.phase (body_written (file_at bodies target) (lanes_in_slot next.stage request)) (request_in_slot next.stage request) c.belief None) (sym same) slot_is;
    };
  }

  -- the new core
  believes_next : (asked_now : List (Option Asked)) → ids_of asked_now ≡ new.outs → HasStore old.base history old.phases asked_now bodies b.store b.dump b.beliefs
      → IsLiveOn old.base history old.catalog old.grows old.memory old.phases asked_now bodies last b.store b.dump b.beliefs running
      → IsCopyOfSource old.phases asked_now bodies last b.store b.beliefs running merge.slot merge.source next → Believes new asked_now bodies files
  believes_next asked_now out has is_live copying_it = grind arith

  -- ---- in the pass

  module _ (stage : made.stage ≡ copy.Pass) where
    none_out : c.request ≡ None
    none_out = ready.1
      where
        ready : IsFilledSlot c.pages c.phase (file_at bodies target) c.belief × (c.request ≡ None) × (no_dump ≡ None)
        ready = subst (λ st. IsSlotFor (stage_in_slot st) (order_of_slot target made.order.state) c.pages c.phase (body_written (file_at bodies target) (lanes_in_slot st c.request)) (request_in_slot st c.request) c.belief None) stage c.slot_is

    filled_slot : IsFilledSlot c.pages c.phase (file_at bodies target) c.belief
    filled_slot = ready.0
      where
        ready : IsFilledSlot c.pages c.phase (file_at bodies target) c.belief × (c.request ≡ None) × (no_dump ≡ None)
        ready = subst (λ st. IsSlotFor (stage_in_slot st) (order_of_slot target made.order.state) c.pages c.phase (body_written (file_at bodies target) (lanes_in_slot st c.request)) (request_in_slot st c.request) c.belief None) stage c.slot_is

    own_none : slice_get asked 1 ≡ Some None
    own_none = c.own ∙ ap Some none_out

    -- a call is asked for on a slot that the checkpoint spares
    module _ (request : Asked) (free : slice_get old.outs 1 ≡ Some None) (apart : IsFree old.outs request.id.slot) (outs : new.outs ≡ slice_set old.outs 1 (Some request.id)) where
      abbrev asked_now : List (Option Asked)
      asked_now = slice_set asked 1 (Some request)

      own_now : slice_get asked_now 1 ≡ Some (Some request)
      own_now = set_same asked 1 None (Some request) own_none

      out_now : ids_of asked_now ≡ new.outs
      out_now = ids_set asked 1 (Some request) ∙ ap (λ ids. slice_set ids 1 (Some request.id)) b.knows.out ∙ sym outs

      asks_on_slot : (phase : Phase) (belief : Belief) → slice_get old.phases request.id.slot ≡ Some phase → slice_get b.beliefs request.id.slot ≡ Some belief → is_ready phase request.id.call ≡ true
          → IsQuiet phase request.id.call → IsSpared running request.id.slot
          → IsCopyOfSource old.phases asked_now bodies last b.store b.beliefs running merge.slot merge.source next → Believes new asked_now bodies files
      asks_on_slot phase belief phase_is belief_is ready is_quiet spared copying_it =
          believes_next asked_now out_now
          (quiet.asks old.base history old.phases asked bodies b.store b.dump b.beliefs 1 request
          (record { free = own_none; phase = phase; waits = record { is = phase_is; ready = ready } }) is_quiet b.has)
          (use_then follows making old.base history old.catalog old.grows old.memory old.phases asked bodies last b.store b.dump b.beliefs b.beliefs running request.id.slot belief belief request
          u own_none refl belief_is (unchanged_at b.beliefs request.id.slot belief belief_is) (λ i. (λ has. has, λ has. has))
          (λ i has. u.used.slots request.id.slot i (ap (λ o. option_and_then image_in o) belief_is ∙ has)) (λ i has. inl has) spared s.rest.makes)
          copying_it

-- ---- a page of zeros

module _ (quiet : QuietSteps) (merge_laws : MergeLaws) (files_of : FileLaws) (needed_of : SourceReachesNeeded) (follows : CatalogFollows) (making : MakingLaws) (plans : PlansLead) (bodies_fill : BodiesFill)
    (places : Places) (knows : KnowsCatalog places) where
  pub takes_zeros_lem : (old new : CoreView) (merge : merger.Running) (made next : Copying) (ticket : ℕ) (asked : List (Option Asked)) (bodies files : List (List ℕ))
      → old.catalog ≡ places → TakesZeros old merge made ticket next new → Believes old asked bodies files → Believes new asked bodies files
  takes_zeros_lem old new merge made next ticket asked bodies files its_catalog z b =
      let s = z.merges in
      let takes : StepsZero old.catalog made next = s.steps in
      let stage = takes.takes.stage in
      let stays : next.stage ≡ copy.Pass = ap (λ (x : Copying). x.stage) takes.takes.is ∙ stage in
      let c0 = c quiet merge_laws files_of needed_of follows making plans bodies_fill places knows old new merge made next ticket Zero asked bodies files its_catalog s b in
      let source0 = source quiet merge_laws files_of needed_of follows making plans bodies_fill places knows old new merge made next ticket Zero asked bodies files its_catalog s b in
      let none0 = none_out quiet merge_laws files_of needed_of follows making plans bodies_fill places knows old new merge made next ticket Zero asked bodies files its_catalog s b stage in
      let filled0 = filled_slot quiet merge_laws files_of needed_of follows making plans bodies_fill places knows old new merge made next ticket Zero asked bodies files its_catalog s b stage in
      believes_next quiet merge_laws files_of needed_of follows making plans bodies_fill places knows old new merge made next ticket Zero asked bodies files its_catalog s b
      asked (b.knows.out ∙ sym z.outs) b.has (b.knows.is_live s.rest.stands)
      (copying_next quiet merge_laws files_of needed_of follows making plans bodies_fill places knows old new merge made next ticket Zero asked bodies files its_catalog s b
      c0.pages asked None (ap (λ (x : Copying). x.order) takes.takes.is)
      (keeps_next quiet merge_laws files_of needed_of follows making plans bodies_fill places knows old new merge made next ticket Zero asked bodies files its_catalog s b)
      (subst (λ st. IsFiledIn st next.order source0 next.entries c0.pages) (sym stays) tt)
      (c0.own ∙ ap Some none0)
      (subst (λ st. IsAskedIn st old.phases bodies b.store b.beliefs old.dumper.running merge.slot source0 next.taking None) (sym stays) tt)
      (subst (λ st. IsSlotFor (stage_in_slot st) (order_of_slot merge.slot made.order.state) c0.pages c0.phase (body_written (file_at bodies merge.slot) (lanes_in_slot st None)) (request_in_slot st None) c0.belief None) (sym stays)
      (filled0, refl, refl)))

  -- ---- where a read is

  same_opened : (x y : Opened) {p : Option (Option Opened)} → p ≡ Some (Some x) → p ≡ Some (Some y) → x ≡ y
  same_opened x y one other = same_Some x y (same_Some (Some x) (Some y) (sym one ∙ other))

  -- the image that is read stands for sure in its slot, and nobody fills that
  record IsReadAt (old : CoreView) (beliefs : List Belief) (target : ℕ) (image : Image) (slot : ℕ) : Type 0 where
    pub kept : slice_get beliefs slot ≡ Some (Kept image)
    pub spared : IsSpared old.dumper.running slot
    pub apart : slot ≢ target

  read_at : (old new : CoreView) (merge : merger.Running) (made next : Copying) (ticket : ℕ) (request : Asked) (asked : List (Option Asked)) (bodies files : List (List ℕ))
      → (its_catalog : old.catalog ≡ places) → (s : MergesOn old merge made ticket (ReadCall request) next new) → (b : Believes old asked bodies files)
      → (r : IsReadOf places b.store.catalog (source quiet merge_laws files_of needed_of follows making plans bodies_fill places knows old new merge made next ticket (ReadCall request) asked bodies files its_catalog s b) request next.taking)
      → IsReadAt old b.beliefs merge.slot r.image request.id.slot
  read_at old new merge made next ticket request asked bodies files its_catalog s b r =
      let k0 = k quiet merge_laws files_of needed_of follows making plans bodies_fill places knows old new merge made next ticket (ReadCall request) asked bodies files its_catalog s b in
      let u0 = u quiet merge_laws files_of needed_of follows making plans bodies_fill places knows old new merge made next ticket (ReadCall request) asked bodies files its_catalog s b in
      let source0 = k0.repeats.image in
      let origin = k0.repeats.source in
      let either : (r.image ≡ source0) ⊎ IsNeededIn b.store r.image = needed_of b.store source0 r.image b.has.sound origin.is r.reached in
      let kept_in : Contains b.beliefs (Kept r.image) = elim either [
        | inl same ↦ subst (λ i. Contains b.beliefs (Kept i)) (sym same) (contains_at b.beliefs origin.slot (Kept source0) origin.kept)
        | inr needed ↦ b.has.slots.needed r.image needed
      ] in
      let at = place_in b.beliefs (Kept r.image) kept_in in
      let o = u0.catalog.opened at.0 r.image (inl at.1) in
      let own_place = knows.sound.own r.opened r.among in
      let same_place = ap (place_of places) (ap (λ (h : Header). h.serial) r.told.header) ∙ own_place in
      let o_is : o.0 ≡ r.opened = same_opened o.0 r.opened (ap (λ p. place_of p r.image.header.serial) (sym its_catalog) ∙ o.1) same_place in
      let slot_is : at.0 ≡ request.id.slot = sym o.3 ∙ ap (λ (x : Opened). x.slot) o_is ∙ r.slot in
      let kept : slice_get b.beliefs request.id.slot ≡ Some (Kept r.image) = ap (slice_get b.beliefs) (sym slot_is) ∙ at.1 in
      let image_there : image_at b.beliefs request.id.slot ≡ Some r.image = ap (λ o. option_and_then image_in o) kept in
      let own_slot : (same : r.image ≡ source0) → request.id.slot ≡ origin.slot = (λ same. b.has.slots.serials request.id.slot origin.slot r.image source0 image_there (ap (λ o. option_and_then image_in o) origin.kept) (ap (λ (x : Image). x.header.serial) same)) in
      record {
        kept = kept;
        spared = elim either [
          | inl same ↦ subst (IsSpared old.dumper.running) (sym (own_slot same)) origin.spared
          | inr needed ↦ needed_spared old asked bodies files b request.id.slot r.image image_there needed old.dumper.running u0.job
        ];
        apart = elim either [
          | inl same ↦ (λ target_is. origin.apart (sym (own_slot same) ∙ target_is))
          | inr needed ↦ (λ target_is. k0.repeats.slot.unneeded r.image (ap (image_at b.beliefs) (sym target_is) ∙ image_there) needed)
        ];
      }

  pub spares_lem : (old new : CoreView) (merge : merger.Running) (made next : Copying) (ticket : ℕ) (request : Asked) (asked : List (Option Asked)) (bodies files : List (List ℕ))
      → old.catalog ≡ places → MergesOn old merge made ticket (ReadCall request) next new → Believes old asked bodies files
      → (request.id.slot < length old.phases) × IsSpared old.dumper.running request.id.slot
  spares_lem old new merge made next ticket request asked bodies files its_catalog s b =
      let source0 = source quiet merge_laws files_of needed_of follows making plans bodies_fill places knows old new merge made next ticket (ReadCall request) asked bodies files its_catalog s b in
      let source_is0 = source_is quiet merge_laws files_of needed_of follows making plans bodies_fill places knows old new merge made next ticket (ReadCall request) asked bodies files its_catalog s b in
      let steps0 = steps quiet merge_laws files_of needed_of follows making plans bodies_fill places knows old new merge made next ticket (ReadCall request) asked bodies files its_catalog s b in
      let r : IsReadOf places b.store.catalog source0 request next.taking = merge_laws.reads ticket places b.store.catalog source0 made next request steps0 source_is0 in
      let w = read_at old new merge made next ticket request asked bodies files its_catalog s b r in
      (subst (λ n. request.id.slot < n) b.has.believed.count (slice_get_within b.beliefs request.id.slot (Kept r.image) w.kept), w.spared)

  -- ---- a read

  pub reads_lem : (old new : CoreView) (merge : merger.Running) (made next : Copying) (ticket : ℕ) (request : Asked) (asked : List (Option Asked)) (bodies files : List (List ℕ))
      → old.catalog ≡ places → AsksForMerged old merge made ticket (ReadCall request) request next new → Believes old asked bodies files
      → Believes new (slice_set asked 1 (Some request)) bodies files
  reads_lem old new merge made next ticket request asked bodies files its_catalog a b =
      let s = a.merges in
      let reads : StepsRead old.catalog made request next = s.steps.0 in
      let stage = reads.reads.stage in
      let next_stage : next.stage ≡ copy.PageRead reads.reads.next = ap (λ (x : Copying). x.stage) reads.reads.is in
      let k0 = k quiet merge_laws files_of needed_of follows making plans bodies_fill places knows old new merge made next ticket (ReadCall request) asked bodies files its_catalog s b in
      let c0 = c quiet merge_laws files_of needed_of follows making plans bodies_fill places knows old new merge made next ticket (ReadCall request) asked bodies files its_catalog s b in
      let u0 = u quiet merge_laws files_of needed_of follows making plans bodies_fill places knows old new merge made next ticket (ReadCall request) asked bodies files its_catalog s b in
      let source0 = k0.repeats.image in
      let source_is0 = source_is quiet merge_laws files_of needed_of follows making plans bodies_fill places knows old new merge made next ticket (ReadCall request) asked bodies files its_catalog s b in
      let steps0 = steps quiet merge_laws files_of needed_of follows making plans bodies_fill places knows old new merge made next ticket (ReadCall request) asked bodies files its_catalog s b in
      let none0 = none_out quiet merge_laws files_of needed_of follows making plans bodies_fill places knows old new merge made next ticket (ReadCall request) asked bodies files its_catalog s b stage in
      let filled0 = filled_slot quiet merge_laws files_of needed_of follows making plans bodies_fill places knows old new merge made next ticket (ReadCall request) asked bodies files its_catalog s b stage in
      let r : IsReadOf places b.store.catalog source0 request next.taking = merge_laws.reads ticket places b.store.catalog source0 made next request steps0 source_is0 in
      let w = read_at old new merge made next ticket request asked bodies files its_catalog s b r in
      let kept = w.kept in
      let phase = has_too b.beliefs old.phases request.id.slot (Kept r.image) (sym b.has.believed.count) kept in
      let whole = kept_whole phase.0 (file_at bodies request.id.slot) r.image
      (u0.exact request.id.slot phase.0 (Kept r.image) phase.1 kept (none_at asked old request.id.slot b.knows.out a.apart)) in
      let phase_is : slice_get old.phases request.id.slot ≡ Some Whole = phase.1 ∙ ap Some whole.0 in
      let spared = w.spared in
      let apart = w.apart in
      asks_on_slot quiet merge_laws files_of needed_of follows making plans bodies_fill places knows old new merge made next ticket (ReadCall request) asked bodies files its_catalog s b stage
      request a.free a.apart a.outs Whole (Kept r.image) phase_is kept (ap (is_ready Whole) r.call)
      (record { opens = λ same. (let no : Read (data_place r.place) ≡ Open = sym r.call ∙ same in cc); closes = λ same. absurd (let no : Read (data_place r.place) ≡ CloseCall = sym r.call ∙ same in cc) }) spared
      (copying_next quiet merge_laws files_of needed_of follows making plans bodies_fill places knows old new merge made next ticket (ReadCall request) asked bodies files its_catalog s b
      c0.pages (slice_set asked 1 (Some request)) (Some request) (ap (λ (x : Copying). x.order) reads.reads.is)
      (keeps_next quiet merge_laws files_of needed_of follows making plans bodies_fill places knows old new merge made next ticket (ReadCall request) asked bodies files its_catalog s b)
      (subst (λ st. IsFiledIn st next.order source0 next.entries c0.pages) (sym next_stage) tt)
      (set_same asked 1 None (Some request) (c0.own ∙ ap Some none0))
      (subst (λ st. IsAskedIn st old.phases bodies b.store b.beliefs old.dumper.running merge.slot source0 next.taking (Some request)) (sym next_stage) (record {
        at = r.at;
        taking = r.taking;
        image = r.image;
        kept = kept;
        phase_is = phase_is;
        spelled = whole.1;
        spared = spared;
        apart = apart;
        reached = r.reached;
        place = r.place;
        call = r.call;
        whole = reads.reads.whole;
        bytes = r.bytes;
        stored = r.stored;
        holds = r.holds;
      }))
      (subst (λ st. IsSlotFor (stage_in_slot st) (order_of_slot merge.slot made.order.state) c0.pages c0.phase (body_written (file_at bodies merge.slot) (lanes_in_slot st (Some request))) (request_in_slot st (Some request)) c0.belief None) (sym next_stage)
      (filled0, refl, refl)))

  -- ---- the write of a page that was read

  pub writes_page_lem : (old new : CoreView) (merge : merger.Running) (made next : Copying) (ticket : ℕ) (request : Asked) (asked : List (Option Asked)) (bodies files : List (List ℕ))
      → old.catalog ≡ places → AsksForMerged old merge made ticket (PageCall request) request next new → Believes old asked bodies files
      → Believes new (slice_set asked 1 (Some request)) bodies files
  writes_page_lem old new merge made next ticket request asked bodies files its_catalog a b =
      let s = a.merges in
      let writes : WritesPage made request next = s.steps.0 in
      let stage = writes.stage in
      let next_stage : next.stage ≡ copy.PageWrite writes.next = ap (λ (x : Copying). x.stage) writes.is in
      let k0 = k quiet merge_laws files_of needed_of follows making plans bodies_fill places knows old new merge made next ticket (PageCall request) asked bodies files its_catalog s b in
      let c0 = c quiet merge_laws files_of needed_of follows making plans bodies_fill places knows old new merge made next ticket (PageCall request) asked bodies files its_catalog s b in
      let none0 = none_out quiet merge_laws files_of needed_of follows making plans bodies_fill places knows old new merge made next ticket (PageCall request) asked bodies files its_catalog s b stage in
      let filled0 = filled_slot quiet merge_laws files_of needed_of follows making plans bodies_fill places knows old new merge made next ticket (PageCall request) asked bodies files its_catalog s b stage in
      let given = first_is (Write (data_place (data_pages made.entries))) request.id.call writes.bytes request.bytes [] writes.next.calls writes.gives.next in
      let pages : Pages = c0.pages ++ request.bytes ∷ [] in
      let count : length c0.pages ≡ data_pages made.entries = c0.keeps.count in
      let place = data_place (data_pages made.entries) in
      let body = file_at bodies merge.slot in
      let on : request.id.slot ≡ merge.slot = writes.gives.slot ∙ k0.order.1 in
      asks_on_slot quiet merge_laws files_of needed_of follows making plans bodies_fill places knows old new merge made next ticket (PageCall request) asked bodies files its_catalog s b stage
      request a.free a.apart a.outs c0.phase c0.belief (ap (slice_get old.phases) on ∙ c0.phase_is) (ap (slice_get b.beliefs) on ∙ c0.belief_is)
      (ap (is_ready c0.phase) (sym given.0) ∙ filled0.writes)
      (record { opens = λ same. (let no : Write place ≡ Open = given.0 ∙ same in cc); closes = λ same. absurd (let no : Write place ≡ CloseCall = given.0 ∙ same in cc) })
      (subst (IsSpared old.dumper.running) (sym on) k0.repeats.slot.spared)
      (copying_next quiet merge_laws files_of needed_of follows making plans bodies_fill places knows old new merge made next ticket (PageCall request) asked bodies files its_catalog s b
      pages (slice_set asked 1 (Some request)) (Some request) (ap (λ (x : Copying). x.order) writes.is)
      (keeps_next quiet merge_laws files_of needed_of follows making plans bodies_fill places knows old new merge made next ticket (PageCall request) asked bodies files its_catalog s b)
      (subst (λ st. IsFiledIn st next.order k0.repeats.image next.entries pages) (sym next_stage) tt)
      (set_same asked 1 None (Some request) (c0.own ∙ ap Some none0))
      (subst (λ st. IsAskedIn st old.phases bodies b.store b.beliefs old.dumper.running merge.slot k0.repeats.image next.taking (Some request)) (sym next_stage)
      (record { on = on; last = sym given.2; place = data_pages made.entries; call = sym given.0 }))
      (subst (λ st. IsSlotFor (stage_in_slot st) (order_of_slot merge.slot made.order.state) pages c0.phase (body_written body (lanes_in_slot st (Some request))) (request_in_slot st (Some request)) c0.belief None)
      (sym next_stage) (
        record {
          writes = filled0.writes;
          fills = filled0.fills;
          spelled = ap (λ call. body_after body call request.bytes) (sym given.0) ∙ ap (λ x. body_after x (Write place) request.bytes) filled0.spelled
              ∙ ap (λ n. body_after (pages_body c0.pages) (Write (data_place n)) request.bytes) (sym count) ∙ bodies_fill.page c0.pages request.bytes c0.keeps.whole;
          closed = filled0.closed;
        },
        refl,
        refl,
      )))

  -- ---- the table

  pub writes_table_lem : (old new : CoreView) (merge : merger.Running) (made next : Copying) (ticket : ℕ) (request : Asked) (asked : List (Option Asked)) (bodies files : List (List ℕ))
      → old.catalog ≡ places → AsksForMerged old merge made ticket (TableCall request) request next new → Believes old asked bodies files
      → Believes new (slice_set asked 1 (Some request)) bodies files
  writes_table_lem old new merge made next ticket request asked bodies files its_catalog a b =
      let s = a.merges in
      let table : StepsTable old.catalog made request next = s.steps.0 in
      let writes = table.writes in
      let stage = writes.stage in
      let next_stage : next.stage ≡ copy.Close writes.next writes.header writes.tables = ap (λ (x : Copying). x.stage) writes.is in
      let k0 = k quiet merge_laws files_of needed_of follows making plans bodies_fill places knows old new merge made next ticket (TableCall request) asked bodies files its_catalog s b in
      let c0 = c quiet merge_laws files_of needed_of follows making plans bodies_fill places knows old new merge made next ticket (TableCall request) asked bodies files its_catalog s b in
      let source0 = k0.repeats.image in
      let origin = k0.repeats.source in
      let there0 = there quiet merge_laws files_of needed_of follows making plans bodies_fill places knows old new merge made next ticket (TableCall request) asked bodies files its_catalog s b in
      let source_is0 = source_is quiet merge_laws files_of needed_of follows making plans bodies_fill places knows old new merge made next ticket (TableCall request) asked bodies files its_catalog s b in
      let steps0 = steps quiet merge_laws files_of needed_of follows making plans bodies_fill places knows old new merge made next ticket (TableCall request) asked bodies files its_catalog s b in
      let none0 = none_out quiet merge_laws files_of needed_of follows making plans bodies_fill places knows old new merge made next ticket (TableCall request) asked bodies files its_catalog s b stage in
      let filled0 = filled_slot quiet merge_laws files_of needed_of follows making plans bodies_fill places knows old new merge made next ticket (TableCall request) asked bodies files its_catalog s b stage in
      let text = table_text writes.tables in
      let calls = body_calls writes.header text in
      let given = writes.gives.next in
      let place = data_place writes.header.pages in
      let first = first_is (Write place) request.id.call text request.bytes _ writes.next.calls given in
      let i : Image = image_of writes.header c0.pages writes.tables in
      let body = file_at bodies merge.slot in
      let on : request.id.slot ≡ merge.slot = writes.gives.slot ∙ k0.order.1 in
      let file = (b.knows.merging s.rest.stands).spelled source0 there0 in
      let fall = numbers_fall source0.header.kind source0.header.serial source0.header.stands_for source0.header.parent file.1.header.numbers in
      let numbers : AreItsNumbers made.order = record {
        stands = (let less = b.has.sound.fall source0 there0 in let stands = origin.stands in let same = ap (λ x. x.stands_for) k0.order.0 in omega (arith, less, stands, same));
        below = (let low = fall.0 in let above = c0.above source0 there0 refl in let stands = origin.stands in let same = ap (λ x. x.stands_for) k0.order.0 in omega (arith, low, above, stands, same));
        checkpoint = (let some = origin.some in let checkpoint = origin.checkpoint in let same = ap (λ x. x.checkpoint) k0.order.0 in omega (arith, some, checkpoint, same));
      } in
      let filed : FilesCopy source0 c0.pages next = files_of.files ticket places b.store.catalog source0 c0.pages made next request steps0 source_is0 origin.restorable numbers c0.keeps in
      let filed_as : IsFiled next.order source0 next.entries c0.pages writes.header writes.tables = subst (λ st. IsFiledIn st next.order source0 next.entries c0.pages) next_stage filed in
      let spelled : body_closed (pages_body c0.pages) writes.header text ≡ image_text i = files_of.fills next.order source0 next.entries c0.pages writes.header writes.tables filed_as in
      asks_on_slot quiet merge_laws files_of needed_of follows making plans bodies_fill places knows old new merge made next ticket (TableCall request) asked bodies files its_catalog s b stage
      request a.free a.apart a.outs c0.phase c0.belief (ap (slice_get old.phases) on ∙ c0.phase_is) (ap (slice_get b.beliefs) on ∙ c0.belief_is)
      (ap (is_ready c0.phase) (sym first.0) ∙ filled0.writes)
      (record { opens = λ same. (let no : Write place ≡ Open = first.0 ∙ same in cc); closes = λ same. absurd (let no : Write place ≡ CloseCall = first.0 ∙ same in cc) })
      (subst (IsSpared old.dumper.running) (sym on) k0.repeats.slot.spared)
      (copying_next quiet merge_laws files_of needed_of follows making plans bodies_fill places knows old new merge made next ticket (TableCall request) asked bodies files its_catalog s b
      c0.pages (slice_set asked 1 (Some request)) (Some request) (ap (λ (x : Copying). x.order) writes.is)
      (keeps_next quiet merge_laws files_of needed_of follows making plans bodies_fill places knows old new merge made next ticket (TableCall request) asked bodies files its_catalog s b)
      filed
      (set_same asked 1 None (Some request) (c0.own ∙ ap Some none0))
      (subst (λ st. IsAskedIn st old.phases bodies b.store b.beliefs old.dumper.running merge.slot source0 next.taking (Some request)) (sym next_stage) on)
      (subst (λ st. IsSlotFor (stage_in_slot st) (order_of_slot merge.slot made.order.state) c0.pages c0.phase (body_written body (lanes_in_slot st (Some request))) (request_in_slot st (Some request)) c0.belief None) (sym next_stage) (record {
        place = 0;
        on = writes.gives.same_slot ∙ k0.order.1;
        left = ap (map kind_of_call) (sym given);
        leads = subst (λ cs. Leads c0.phase body cs Whole (image_text i)) given
            (subst (Leads c0.phase body calls Whole) (ap (λ x. body_closed x writes.header text) filled0.spelled ∙ spelled)
            (plans.close_body c0.phase body writes.header text filled0.writes filled0.fills));
        shut = λ is. (filled0.closed, refl);
        opening = λ is. absurd (false≢true is);
      })))
