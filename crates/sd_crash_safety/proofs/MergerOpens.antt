-- The merged image is open: it enters the catalog, and the images of the list begin to be closed.
use Rattle.std.proofs.Common.{◌≡◌, ◌≢◌, ◌⊎◌, ℕ, zero, suc, ◌<◌, Bool, true, List, [], ◌∷◌, length, Option, Some, None, IfSome, Contains, option_and_then, slice_get, slice_set, refl, sym, ◌∙◌, ap, subst, inl, inr, arith}
use Rattle.std.proofs.lemmas.Bool.{cases_eq}
use Rattle.std.proofs.lemmas.Option.{same_Some, slice_get_within}
use Rattle.sd_disk.specs.Contents.{file_at}
use Rattle.sd_image.specs.declared.header.Kind.{Kind}
use Rattle.sd_image.specs.declared.header.Kind.TheVariants.{PreDump, Merged}
use Rattle.sd_image.specs.Image.{Image, IsImage, gate, image_text}
use Rattle.sd_image.specs.Shows.{IsNamed, IsTip}
use Rattle.sd_chain.specs.Catalog.{Changes, Names, Opened, Places, place_of}
use Rattle.sd_chain.specs.Reaches.{ParentsFall, ReachesSerial}
use Rattle.sd_chain.specs.Recorded.{Agrees, CatalogLists, IsRecordedAs}
use Rattle.sd_gate.specs.declared.phase.Phase.{Phase}
use Rattle.sd_gate.specs.declared.phase.Phase.TheVariants.{Whole}
use Rattle.sd_gate.specs.Calls.{is_done}
use Rattle.sd_gate.specs.Laws.{PlansLead}
use Rattle.sd_gate.specs.Phases.{after, bodies_after, body_after}
use Rattle.sd_gate.specs.Requests.{Asked, Made}
use Rattle.sd_journal.specs.History.{Base, History}
use Rattle.sd_merge.specs.declared.merge_progress.MergeProgress.{MergeProgress}
use Rattle.sd_merge.specs.declared.merge_progress.MergeProgress.TheVariants as progress
use Rattle.sd_merge.specs.declared.retired.Retired.{Retired}
use Rattle.sd_merge.specs.Copying.{Copying, IsReadyFor}
use Rattle.sd_merge.specs.Files.{FileLaws, IsFiled, IsFiledIn}
use Rattle.sd_merge.specs.Merger.{TakesList, opened, retiring}
use Rattle.sd_merge.specs.Merger as merger
use Rattle.sd_pagetable.specs.Contents.{Contents}
use Rattle.sd_image.proofs.Members.{contains_at, place_in}
use Rattle.sd_rounds.specs.declared.image_order.ImageOrder.{ImageOrder}
use Rattle.sd_writing.specs.declared.new_image.NewImage.{NewImage}
use Rattle.sd_rounds.specs.declared.stage.Stage.{Stage}
use Rattle.sd_rounds.specs.Dumper.{Running}
use Rattle.sd_rounds.specs.Files.{IsFiledIn as IsDumpFiledIn}
use Rattle.sd_rounds.specs.Making.{Making}
use Rattle.sd_rounds.specs.MakingLaws.{MakingLaws}
use Rattle.sd_writing.specs.Files.{Pages, image_of}
use Rattle.sd_rounds.specs.Pass.{Pass}
use Rattle.sd_store_laws.specs.Beliefs.{Belief, Closing, Kept, Opening, image_at, image_in}
use Rattle.sd_store_laws.specs.Below.{StepsGive}
use Rattle.sd_store_laws.specs.Gates.{IsBelievedAs}
use Rattle.sd_store_laws.specs.LiveImages.{CatalogFollows, LiveCatalogAgrees, IsLiveCatalog, SlotHasImage, RecordedReachesSo}
use Rattle.sd_store_laws.specs.Needed.{NeededIsReached}
use Rattle.sd_store_laws.specs.Needs.{IsNeededIn, NeedsNoMore}
use Rattle.sd_store_laws.specs.Reached.{Reaches}
use Rattle.sd_store_laws.specs.SlotSteps.{with_belief}
use Rattle.sd_store_laws.specs.Stays.{SourceReachesNeeded}
use Rattle.sd_store_laws.specs.Steps.{Adds, StepsKeep, replaced}
use Rattle.sd_store_laws.specs.Store.{IsNextDump, IsMergedCopy, Store, jobs}
use Rattle.sd_crash_safety.specs.Believes.{Believes, HasStore}
use Rattle.sd_crash_safety.specs.Calls.{IsFree}
use Rattle.sd_crash_safety.specs.Copies.{AreImagesOf, IsCopyAtRest, IsCopyThere, IsOrderly, StandsIn}
use Rattle.sd_crash_safety.specs.GateSteps.{GateSteps, IsOnlyMergedCopy}
use Rattle.sd_crash_safety.specs.LiveImages.{ClosesBody, IsAtWork, IsImageOn, IsLiveOn, IsSlotFor, pending_dump}
use Rattle.sd_crash_safety.specs.MergerOutcomes.{MayRetire, MergedOpens, OutcomeIsBelieved}
use Rattle.sd_crash_safety.specs.MergerSteps.{IsUncalled}
use Rattle.sd_crash_safety.specs.Merges.{IsAskedIn, IsCopyOfSource, IsCopyOn, IsListedOn, IsMergeAt, IsMergeOn, IsOtherImage, IsSpared, IsUnmerged, MakesOther, order_of_slot}
use Rattle.sd_crash_safety.specs.StoreSteps.{QuietSteps, SlotIsOpened}
use Rattle.sd_crash_safety.specs.View.{CoreView, history_of}
use Rattle.sd_crash_safety.proofs.BeginsImage.{image_of_has}
use Rattle.sd_crash_safety.proofs.HandsImage.{calls_of_done}
use Rattle.sd_crash_safety.proofs.HandsLaw.{file_set}
use Rattle.sd_crash_safety.proofs.MergeStays.{slots_at}
use Rattle.sd_crash_safety.proofs.MergerOutcome.{asked_then, asks_for, bodies_then, count_handed, has_handed, ids_handed, none_on, others_handed, phases_then, use_handed}
use Rattle.sd_crash_safety.proofs.MergerPass.{kept_whole, needed_spared}
use Rattle.sd_crash_safety.proofs.MergerReplaced.{IsRepeated, own_jobs, store_replaced}
use Rattle.sd_crash_safety.proofs.MergerRetires.{begun_at, retired_begins}
use Rattle.sd_crash_safety.proofs.OpenCore.{believes_parts}
use Rattle.sd_crash_safety.proofs.OpensLaw.{IsOpenThen, open_then}
use Rattle.sd_store_laws.proofs.SlotSteps.{set_other}
use Rattle.sd_crash_safety.proofs.Places.{has_too, set_count, set_same}
use Rattle.sd_crash_safety.proofs.WorkStays.{IsMakingNumber}

-- ---- the dump whose gate is being opened

dump_is : (kind : Kind) (i d : Image) → pending_dump kind i ≡ Some d → i ≡ d
dump_is kind i d is = grind arith

-- it has the serial of the image that the checkpoint makes
pending_serial : (stage : Stage) (order : ImageOrder) (pass : Pass) (pages : Pages) (phase : Phase) (body : List ℕ) (request : Option Asked) (belief : Belief) (d : Image)
    → IsDumpFiledIn stage order pass pages → IsSlotFor stage order pages phase body request belief (Some d) → d.header.serial ≡ order.serial
pending_serial stage order pass pages phase body request belief d files s = grind arith

module _ (base : Base) (history : History) (grows : Bool) (memory : Contents) (phases : List Phase) (asked : List (Option Asked)) (bodies : List (List ℕ)) (last : ℕ) (store : Store)
    (beliefs : List Belief) where
  other_in_image : (d : Image) (serial parent number : ℕ) (image : Option Making) → IsOtherImage image serial
      → IsImageOn base history memory phases asked bodies last store (Some d) beliefs parent number image → serial ≢ d.header.serial
  other_in_image d serial parent number image other m same = grind arith

  -- so it isn't the merged image
  other_dump : (d : Image) (serial : ℕ) (running : Option Running) → MakesOther running serial → IsAtWork base history grows memory phases asked bodies last store (Some d) beliefs running
      → serial ≢ d.header.serial
  other_dump d serial running other w same = grind arith

  -- the number of the image that the checkpoint makes isn't 0
  low_number : (dump : Option Image) (running : Option Running) → IsAtWork base history grows memory phases asked bodies last store dump beliefs running
      → (number : ℕ) → IsMakingNumber running number → 0 < number
  low_number dump running work number given = grind arith

-- ---- the merged image

module _ (quiet : QuietSteps) (gates : GateSteps) (making : MakingLaws) (keeps : StepsKeep) (gives : StepsGive) (needs : NeedsNoMore) (follows : CatalogFollows)
    (plans : PlansLead) (reached : NeededIsReached) (places : Places) (tells : LiveCatalogAgrees places) (reaches : RecordedReachesSo places)
    (agrees : (all : List Image) → CatalogLists places all → Agrees places all)
    (old new : CoreView) (merge : merger.Running) (made : Copying) (call : Made) (phase : Phase) (image : NewImage) (list : List Retired) (done : MergeProgress)
    (s : MergedOpens places old merge made call phase image list done new)
    (asked : List (Option Asked)) (bodies files : List (List ℕ)) (at : slice_get asked 1 ≡ Some (Some call.request)) (b : Believes old asked bodies files) where
  abbrev history : History
  history = history_of old

  abbrev target : ℕ
  target = merge.slot

  abbrev running : Option Running
  running = old.dumper.running

  abbrev last : ℕ
  last = old.numbers.serial

  abbrev phases_now : List Phase
  phases_now = phases_then old call phase

  abbrev bodies_now : List (List ℕ)
  bodies_now = bodies_then bodies call

  abbrev asked_now : List (Option Asked)
  asked_now = asked_then asked

  u : IsLiveOn old.base history old.catalog old.grows old.memory old.phases asked bodies last b.store b.dump b.beliefs running
  u = b.knows.is_live s.rest.stands

  k : IsCopyOfSource old.phases asked bodies last b.store b.beliefs running merge.slot merge.source made
  k = subst (IsMergeAt old.phases asked bodies last b.store b.beliefs running merge.slot merge.source) s.doing
      (subst (λ m. IsMergeOn old.phases asked bodies last b.store b.beliefs running m) s.was (b.knows.merging s.rest.stands).is)

  c : IsCopyOn old.phases asked bodies last b.store b.beliefs running target k.repeats.image made
  c = k.copy

  abbrev source : Image
  source = k.repeats.image

  abbrev order : ImageOrder
  order = order_of_slot target made.order.state

  out_is : c.request ≡ Some call.request
  out_is = same_Some c.request (Some call.request) (sym c.own ∙ at)

  on : call.request.id.slot ≡ target
  on = subst (λ stage. IsAskedIn stage old.phases bodies b.store b.beliefs running target source made.taking (Some call.request)) s.opens.was
      (subst (IsAskedIn made.stage old.phases bodies b.store b.beliefs running target source made.taking) out_is c.asked_in)

  phase_same : c.phase ≡ phase
  phase_same = same_Some c.phase phase (sym c.phase_is ∙ ap (slice_get old.phases) (sym on) ∙ s.outcome.phase_is)

  abbrev i : Image
  i = image_of image.header c.pages image.table

  filed : IsFiled made.order source made.entries c.pages image.header image.table
  filed = subst (λ stage. IsFiledIn stage made.order source made.entries c.pages) s.opens.was c.files

  no_more : s.opens.plan.calls ≡ []
  no_more = sym (calls_of_done s.opens.plan call (subst (IsReadyFor made.entries made.taking made.read) s.opens.was s.sound.ready).2.known s.opens.done) ∙ s.opens.last

  closing_was : ClosesBody order i s.opens.plan phase (file_at bodies target) (Some call.request) c.belief None
  closing_was = grind arith

  opened_then : IsOpenThen order i phase (file_at bodies target) call.request c.belief None
  opened_then = open_then order i s.opens.plan phase (file_at bodies target) call.request c.belief None closing_was no_more

  -- ---- its numbers

  serial_is : i.header.serial ≡ made.order.serial
  serial_is = ap (λ h. h.serial) filed.numbers

  kind_is : i.header.kind ≡ Merged
  kind_is = ap (λ h. h.kind) filed.numbers

  numbers : IsRepeated last running source i
  numbers = grind arith

  -- ---- its slot

  belief_at : slice_get b.beliefs target ≡ Some (Opening i)
  belief_at = c.belief_is ∙ ap Some opened_then.belief_is

  phase_then : slice_get phases_now target ≡ Some Whole
  phase_then = ap (slice_get phases_now) (sym on) ∙ ap (λ d. slice_get (slice_set old.phases call.request.id.slot (after phase call.request.id.call d)) call.request.id.slot) s.opens.done
      ∙ set_same old.phases call.request.id.slot phase (after phase call.request.id.call true) s.outcome.phase_is ∙ ap Some opened_then.whole

  body_then : file_at bodies_now target ≡ image_text i
  body_then =
      let within : call.request.id.slot < length bodies = (let long = slice_get_within old.phases call.request.id.slot phase s.outcome.phase_is in let stored = b.has.stored in omega (arith, long, stored)) in
      ap (file_at bodies_now) (sym on) ∙ file_set bodies call.request.id.slot (body_after (file_at bodies call.request.id.slot) call.request.id.call call.request.bytes) within
      ∙ ap (λ x. body_after (file_at bodies x) call.request.id.call call.request.bytes) on ∙ opened_then.spelled

  abbrev beliefs_now : List Belief
  beliefs_now = with_belief b.beliefs target (Kept i)

  kept_now : slice_get beliefs_now target ≡ Some (Kept i)
  kept_now = set_same b.beliefs target (Opening i) (Kept i) belief_at

  images_then : (n : ℕ) (j : Image) → image_at beliefs_now n ≡ Some j → image_at b.beliefs n ≡ Some j
  images_then n j has = elim (cases_eq n target) [
    | inl its ↦
        let own : i ≡ j = same_Some i j (sym (ap (λ o. option_and_then image_in o) (ap (slice_get beliefs_now) its ∙ kept_now)) ∙ has) in
        ap (λ o. option_and_then image_in o) (ap (slice_get b.beliefs) its ∙ belief_at) ∙ ap Some own
    | inr differs ↦ ap (λ o. option_and_then image_in o) (sym (set_other b.beliefs target n (Kept i) differs)) ∙ has
  ]

  -- ---- the store then

  there : Contains b.store.catalog source
  there = (b.has.slots.catalog source).1 (inl (contains_at b.beliefs k.repeats.source.slot (Kept source) k.repeats.source.kept))

  twin : IsMergedCopy b.store.catalog b.store.source i
  twin = elim (b.has.slots.opening i (contains_at b.beliefs target (Opening i) belief_at)) [
    | inl pre_dump ↦ absurd (let no : Merged ≡ PreDump = sym kind_is ∙ pre_dump.0 in cc)
    | inr others ↦ elim others [
      | inl its ↦ its
      | inr pends ↦
          let next = subst (λ d. IfSome d (IsNextDump b.store)) pends b.has.slots.dump in
          absurd (subst (λ x. IfSome x (λ y. y.header.stands_for ≢ i.header.stands_for)) k.repeats.source.is next.next.fresh.apart (sym numbers.stands))
    ]
  ]

  only : (j : Image) → Contains b.beliefs (Opening j) → IsMergedCopy b.store.catalog b.store.source j → j ≡ i
  only j contains t =
      let here = place_in b.beliefs (Opening j) contains in
      elim (cases_eq here.0 target) [
        | inl its ↦ own (same_Some (Opening j) (Opening i) (sym here.1 ∙ ap (slice_get b.beliefs) its ∙ belief_at))
        | inr differs ↦ absurd (k.repeats.opening here.0 j here.1 differs
            (t.repeats.stands ∙ ap (λ (x : Image). x.header.stands_for) (same_Some t.source source (sym t.running ∙ k.repeats.source.is))))
      ]
    where
      own : Opening j ≡ Opening i → j ≡ i
      own e = cc

  no_dump : (dump : Option Image) → b.dump ≡ dump → IfSome dump (λ d. i.header.serial ≢ d.header.serial)
  no_dump dump is = grind arith

  only_twin : IsOnlyMergedCopy b.store b.dump b.beliefs i
  only_twin = record { twin = twin; only = only; serial = no_dump b.dump refl }

  abbrev store_now : Store
  store_now = replaced b.store (i ∷ b.store.catalog)

  opened_slot : SlotIsOpened phases_now asked_now b.beliefs target i
  opened_slot = record {
    belief = belief_at;
    phase = phase_then;
    none = none_on old new call phase asked bodies files s.outcome at b target (subst (λ x. IsFree (slice_set old.outs 1 None) x) on s.outcome.apart);
  }

  has_now : HasStore old.base history phases_now asked_now bodies_now store_now b.dump beliefs_now
  has_now = (gates old.base history phases_now asked_now bodies_now).replaces b.store b.dump b.beliefs target i opened_slot only_twin
      (has_handed old new call phase asked bodies files s.outcome at b quiet)

  member_then : (j : Image) → Contains (i ∷ b.store.catalog) j → (j ≡ i) ⊎ Contains b.store.catalog j
  member_then j given = grind arith

  adds_it : Adds b.store.catalog i (i ∷ b.store.catalog)
  adds_it j = (
    member_then j,
    λ e. elim e [
      | inl same ↦ subst (Contains (i ∷ b.store.catalog)) (sym same) (0, omega arith, refl)
      | inr (n, within, is) ↦ (suc n, omega (arith, within), is)
    ],
  )

  catalog_then : IsLiveCatalog places beliefs_now
  catalog_then =
      let slot_is : image.slot ≡ target = s.opens.slot ∙ k.order.1 in
      subst (λ n. IsLiveCatalog places (with_belief b.beliefs n (Kept i))) slot_is
      (follows.adds old.catalog places b.beliefs (record { slot = image.slot; header = image.header; spaces = image.table }) i u.catalog
      (ap (slice_get b.beliefs) slot_is ∙ belief_at) (record { header = refl; spaces = refl })
      (λ other has. (let no : Some None ≡ Some (Some other) = sym s.held ∙ ap (place_of old.catalog) (sym serial_is) ∙ has in cc))
      (subst (λ n. Changes old.catalog places n (Some (Some (record { slot = image.slot; header = image.header; spaces = image.table })))) (sym serial_is) s.catalog))

  use_now : IsLiveOn old.base history places old.grows old.memory phases_now asked_now bodies_now last store_now b.dump beliefs_now running
  use_now = use_handed making old.base history old.catalog places old.grows old.memory last b.store store_now b.dump (slots_at old.phases bodies b.beliefs) (slots_at phases_now bodies_now beliefs_now)
      running asked target call.request u at on (record {
        count = set_count old.phases call.request.id.slot (after phase call.request.id.call (is_done call.answer));
        others = λ n differs. others_handed old new call phase asked bodies files s.outcome at b beliefs_now n (λ same. differs (same ∙ on)) (set_other b.beliefs target n (Kept i) differs);
        exact = λ p belief here of. subst (λ x. IsBelievedAs x (file_at bodies_now target) belief) (same_Some Whole p (sym phase_then ∙ here))
            (i, same_Some belief (Kept i) (sym of ∙ kept_now), subst (λ text. IsImage (gate ∷ text) i) (sym body_then) filed.spelled);
        images = images_then;
      })
      (store_replaced keeps gives needs old.memory last running b.beliefs b.store source i target b.has.sound twin k.repeats.source.is there k.repeats.source.restorable numbers adds_it
      k.repeats.slot.spared
      (λ n has. b.has.slots.serials n target i i has (ap (λ o. option_and_then image_in o) belief_at) refl)
      (asks_for old.base history old.grows old.memory old.phases asked bodies last b.store b.dump b.beliefs running u.job)
      (low_number old.base history old.grows old.memory old.phases asked bodies last b.store b.beliefs b.dump running u.job))
      catalog_then k.repeats.slot.spared s.rest.makes

  -- ---- it is a copy of its source

  has_in : (n : ℕ) (j : Image) → SlotHasImage b.beliefs n j → Contains b.beliefs (Kept j) ⊎ Contains b.beliefs (Closing j)
  has_in n j has = grind (arith, contains_at)

  at_slot : (j : Image) → Contains b.store.catalog j → (n : ℕ) × SlotHasImage b.beliefs n j
  at_slot j member = elim ((b.has.slots.catalog j).0 member) [
    | inl kept ↦ (let it = place_in b.beliefs (Kept j) kept in (it.0, inl it.1))
    | inr closing_it ↦ (let it = place_in b.beliefs (Closing j) closing_it in (it.0, inr it.1))
  ]

  images_before : AreImagesOf old.catalog b.store.catalog
  images_before = record {
    image = λ serial o has. (let it = u.catalog.image serial o has in (it.0, (b.has.slots.catalog it.0).1 (has_in o.slot it.0 it.2), it.1));
    opened = λ j member. (let n = at_slot j member in let o = u.catalog.opened n.0 j n.1 in (o.0, o.1, o.2));
  }

  its_own : StandsIn new.catalog new.phases bodies_now i
  its_own =
      let o = catalog_then.opened target i (inl kept_now) in
      record {
        opened = o.0;
        there = ap (λ all. place_of all i.header.serial) s.its_catalog ∙ o.1;
        whole = ap (slice_get new.phases) o.3 ∙ ap (λ all. slice_get all target) s.outcome.phases ∙ phase_then;
        spelled = subst (λ n. IsImage (gate ∷ file_at bodies_now n) i) (sym o.3) (subst (λ text. IsImage (gate ∷ text) i) (sym body_then) filed.spelled);
      }

  module _ (needed_of : SourceReachesNeeded) (files_of : FileLaws) (free : (slot : ℕ) → IsSpared running slot → IsFree (slice_set old.outs 1 None) slot) where
    -- what the source reaches is kept in a slot that nobody fills
    kept_at : (j : Image) → Reaches b.store.catalog j source → (n : ℕ) × (slice_get b.beliefs n ≡ Some (Kept j)) × IsSpared running n × (n ≢ target)
    kept_at j way = elim (needed_of b.store source j b.has.sound k.repeats.source.is way) [
      | inl same ↦ (let x = k.repeats.source in (x.slot, x.kept ∙ ap (λ (y : Image). Some (Kept y)) (sym same), x.spared, x.apart))
      | inr needed ↦ needed_at needed
    ]
      where
        needed_at : IsNeededIn b.store j → (n : ℕ) × (slice_get b.beliefs n ≡ Some (Kept j)) × IsSpared running n × (n ≢ target)
        needed_at needed =
            let it = place_in b.beliefs (Kept j) (b.has.slots.needed j needed) in
            let has : image_at b.beliefs it.0 ≡ Some j = ap (λ o. option_and_then image_in o) it.1 in
            (it.0, it.1, needed_spared old asked bodies files b it.0 j has needed running u.job, λ its. k.repeats.slot.unneeded j (ap (image_at b.beliefs) (sym its) ∙ has) needed)

    stands_there : (j : Image) → Reaches b.store.catalog j source → StandsIn new.catalog new.phases bodies_now j
    stands_there j way =
        let r = kept_at j way in
        let kept : slice_get beliefs_now r.0 ≡ Some (Kept j) = set_other b.beliefs target r.0 (Kept i) r.3 ∙ r.1 in
        let o = catalog_then.opened r.0 j (inl kept) in
        let p = has_too beliefs_now phases_now r.0 (Kept j) (sym has_now.believed.count) kept in
        let whole = kept_whole p.0 (file_at bodies_now r.0) j
        (use_now.exact r.0 p.0 (Kept j) p.1 kept (none_on old new call phase asked bodies files s.outcome at b r.0 (free r.0 r.2))) in
        record {
          opened = o.0;
          there = ap (λ all. place_of all j.header.serial) s.its_catalog ∙ o.1;
          whole = ap (slice_get new.phases) o.3 ∙ ap (λ all. slice_get all r.0) s.outcome.phases ∙ p.1 ∙ ap Some whole.0;
          spelled = subst (λ n. IsImage (gate ∷ file_at bodies_now n) j) (sym o.3) whole.1;
        }

    pub is_copy : IsCopyThere merge.source.serial image.header.serial old.catalog new bodies_now
    is_copy = record {
      images = b.store.catalog;
      are = images_before;
      source = source;
      its_serial = sym k.repeats.source.serial;
      stand = stands_there;
      copy = i;
      own_serial = refl;
      stands = its_own;
      copies = files_of.merged b.store.catalog source c.pages made s.opens.plan image.header image.table s.opens.was c.files c.keeps
          (record {
            stands = ap (λ x. x.stands_for) k.order.0 ∙ k.repeats.source.stands;
            checkpoint = ap (λ x. x.checkpoint) k.order.0 ∙ k.repeats.source.checkpoint;
          })
          b.has.sound.serials (λ j member. ((b.knows.merging s.rest.stands).spelled j member).1.table) there;
    }

    pub is_at_rest : IsCopyAtRest merge.source.serial image.header.serial old.catalog new bodies_now
    unfolding is_copy k stands_there catalog_then
    is_at_rest = record {
      copy = is_copy;
      rests = λ j way.
          let r = kept_at j way in
          let kept : slice_get beliefs_now r.0 ≡ Some (Kept j) = set_other b.beliefs target r.0 (Kept i) r.3 ∙ r.1 in
          subst (IsFree new.outs) (sym (catalog_then.opened r.0 j (inl kept)).3) (subst (λ all. IsFree all r.0) (sym s.outcome.outs) (free r.0 r.2));
    }

  -- ---- the list

  told : CatalogLists places store_now.catalog
  told = tells store_now b.dump beliefs_now has_now.slots catalog_then

  so : Agrees places store_now.catalog
  so = agrees store_now.catalog told

  falls : ParentsFall places
  falls = so.fall.1 has_now.sound.fall

  own_serial : (serial : ℕ) (o : Opened) → place_of places serial ≡ Some (Some o) → o.header.serial ≡ serial
  own_serial serial o has = let it = so.at serial o has in ap (λ h. h.serial) (sym it.2.header) ∙ it.3

  pub orderly : IsOrderly places
  orderly = record {
    falls = falls;
    apart = λ one other x y has_x has_y same.
        let in_x = catalog_then.image one x has_x in
        let in_y = catalog_then.image other y has_y in
        let equal : in_x.0 ≡ in_y.0 = same_Some in_x.0 in_y.0 (sym (image_of_has beliefs_now x.slot in_x.0 in_x.2) ∙ ap (image_at beliefs_now) same ∙ image_of_has beliefs_now y.slot in_y.0 in_y.2) in
        sym (own_serial one x has_x) ∙ ap (λ h. h.serial) (sym in_x.1.header) ∙ ap (λ (z : Image). z.header.serial) equal ∙ ap (λ h. h.serial) in_y.1.header ∙ own_serial other y has_y;
  }

  module _ (one : Retired) (m : MayRetire places old one) where
    its : (j : Image) × IsRecordedAs m.opened j × SlotHasImage beliefs_now m.opened.slot j
    its = catalog_then.image one.serial m.opened m.there

    abbrev j : Image
    j = its.0

    here : SlotHasImage beliefs_now one.slot j
    here = subst (λ n. SlotHasImage beliefs_now n j) m.slot its.2

    has : image_at beliefs_now one.slot ≡ Some j
    has = grind arith

    at_it : (o : Opened) × (place_of places j.header.serial ≡ Some (Some o)) × IsRecordedAs o j × (o.slot ≡ one.slot)
    at_it = catalog_then.opened one.slot j here

    by_tip : (tip : Image) → IsTip store_now.catalog tip → Reaches store_now.catalog j tip → ⊥
    by_tip tip is way =
        let t = told.opened tip is.member in
        let serial : tip.header.serial ≡ t.0.header.serial = ap (λ h. h.serial) t.2.header in
        m.unreached falls j.header.serial at_it.0 t.0 at_it.1 at_it.3 ((so.tip t.0 tip t.1 is.member t.2).1 is)
        (subst (λ n. ReachesSerial places n j.header.serial) serial
        ((reaches store_now.catalog told tip.header.serial j.header.serial).1 (tip, j, is.member, refl, way, refl)))

    by_number : (r : Option Running) → IsUncalled places r one.slot → IsAtWork old.base history old.grows old.memory phases_now asked_now bodies_now last store_now b.dump beliefs_now r
        → (number : ℕ) (start : Image) → Contains b.store.chain number → IsNamed store_now.catalog number start → Reaches store_now.catalog j start → ⊥
    by_number None uncalled w number start member names way =
        let within : member.0 < 0 = subst (λ chain. member.0 < length chain) w.idle member.1 in omega (arith, within)
    by_number (Some r) uncalled w number start member names way =
        let is : number ≡ r.parent = first r.parent number (subst (λ chain. Contains chain number) w.chain member) in
        let t = told.opened start names.member in
        let serial : start.header.serial ≡ t.0.header.serial = ap (λ h. h.serial) t.2.header in
        uncalled j.header.serial at_it.0 t.0 at_it.1 at_it.3 (subst (λ n. Names places n t.0) is ((so.named number t.0 start t.1 names.member t.2).1 names))
        (subst (λ n. ReachesSerial places n j.header.serial) serial
        ((reaches store_now.catalog told start.header.serial j.header.serial).1 (start, j, names.member, refl, way, refl)))
      where
        first : (parent n : ℕ) → Contains (parent ∷ []) n → n ≡ parent
        first parent n (zero, within, same) = sym same
        first parent n (suc x, within, same) = absurd (omega (arith, within))

    unneeded : IsNeededIn store_now j → ⊥
    unneeded needed = elim ((reached store_now.catalog (jobs store_now) j).0 needed) [
      | inl way ↦ by_tip way.0 way.1 way.2
      | inr way ↦ by_number running (m.uncalled falls) use_now.job way.0 way.1 (own_jobs b.store.chain way.0 way.2) way.3 way.4
    ]

    listed : IsListedOn store_now beliefs_now running one
    listed = record { image = j; has = has; unneeded = unneeded; spared = m.spared }

  -- ---- the core then

  alone : IsUnmerged store_now
  alone = record { source = refl; work = refl }

  silent : slice_get asked_now 1 ≡ Some None
  silent = set_same asked 1 (Some call.request) None at

  believes_merge : (later : Option merger.Running) → new.merger ≡ later → IsMergeOn phases_now asked_now bodies_now last store_now beliefs_now running later → Believes new asked_now bodies_now files
  believes_merge later is m = believes_parts new old.base history places old.grows old.memory phases_now last running later
      (record {
        base_is = s.rest.base;
        history_is = s.rest.history;
        places_is = s.its_catalog;
        grows_is = s.rest.grows;
        memory_is = s.rest.memory;
        phases_is = s.outcome.phases;
        last_is = s.serial;
        running_is = s.rest.dumper;
        merger_is = is;
        closed = s.rest.closed;
      })
      asked_now bodies_now files store_now b.dump beliefs_now (λ sure. b.knows.sure (sym s.rest.committing ∙ sure))
      (count_handed old new call phase asked bodies files s.outcome at b) (ids_handed old new call phase asked bodies files s.outcome at b) has_now use_now
      (record {
        spelled = λ j member. elim (member_then j member) [
          | inl same ↦ subst (λ x. (text : List ℕ) × IsImage text x) (sym same) (gate ∷ image_text i, filed.spelled)
          | inr before ↦ (b.knows.merging s.rest.stands).spelled j before
        ];
        is = m;
      })

  opens_by : (done : MergeProgress) → TakesList (Some (record merge { doing = opened made.order.serial })) list done new.merger → Believes new asked_now bodies_now files
  opens_by progress.Strange r = absurd (let no : Some made.order.serial ≡ None = r.0 in cc)
  opens_by progress.More r = believes_merge (Some (record r.running { doing = retiring (begun_at r.serial list 0 r.first) })) r.is (record {
    alone = alone;
    one = r.first;
    there = r.there;
    closes = retired_begins plans phases_now asked_now bodies_now store_now beliefs_now running has_now.believed.count use_now.exact silent r.serial list 0 r.first
        (none_on old new call phase asked bodies files s.outcome at b r.first.slot (s.listed.each 0 r.first r.there).free) (listed r.first (s.listed.each 0 r.first r.there));
    before = λ place other behind has. absurd (omega (arith, behind));
    later = λ place other behind has. listed other (s.listed.each place other has);
    apart = s.listed.apart;
  })
  opens_by (progress.Merged serial) r = believes_merge None r.is (alone, silent)
  opens_by _ r = absurd r

  pub opens_it : Believes new asked_now bodies_now files
  opens_it = opens_by done s.retires

pub opens_lem : QuietSteps → GateSteps → MakingLaws → StepsKeep → StepsGive → NeedsNoMore → CatalogFollows → PlansLead → NeededIsReached
    → (places : Places) → LiveCatalogAgrees places → RecordedReachesSo places → ((all : List Image) → CatalogLists places all → Agrees places all)
    → (old new : CoreView) (merge : merger.Running) (copy : Copying) (made : Made) (phase : Phase) (image : NewImage) (list : List Retired) (done : MergeProgress)
    → MergedOpens places old merge copy made phase image list done new → OutcomeIsBelieved old new made
opens_lem quiet gates making keeps gives needs follows plans reached places tells reaches agrees old new merge copy made phase image list done s asked bodies files at reads b =
    opens_it quiet gates making keeps gives needs follows plans reached places tells reaches agrees old new merge copy made phase image list done s asked bodies files at b

pub copies_lem : QuietSteps → GateSteps → MakingLaws → StepsKeep → StepsGive → NeedsNoMore → CatalogFollows → PlansLead → NeededIsReached → SourceReachesNeeded → FileLaws
    → (places : Places) → LiveCatalogAgrees places → RecordedReachesSo places → ((all : List Image) → CatalogLists places all → Agrees places all)
    → (old new : CoreView) (merge : merger.Running) (copy : Copying) (made : Made) (phase : Phase) (image : NewImage) (list : List Retired) (done : MergeProgress)
    (asked : List (Option Asked)) (bodies files : List (List ℕ)) → MergedOpens places old merge copy made phase image list done new
    → ((slot : ℕ) → IsSpared old.dumper.running slot → IsFree (slice_set old.outs 1 None) slot) → slice_get asked 1 ≡ Some (Some made.request) → Believes old asked bodies files
    → IsCopyThere merge.source.serial image.header.serial old.catalog new (bodies_after bodies made.request.id made.request.bytes)
copies_lem quiet gates making keeps gives needs follows plans reached needed_of files_of places tells reaches agrees old new merge copy made phase image list done asked bodies files s free at b =
    is_copy quiet gates making keeps gives needs follows plans reached places tells reaches agrees old new merge copy made phase image list done s asked bodies files at b needed_of files_of free

pub rests_lem : QuietSteps → GateSteps → MakingLaws → StepsKeep → StepsGive → NeedsNoMore → CatalogFollows → PlansLead → NeededIsReached → SourceReachesNeeded → FileLaws
    → (places : Places) → LiveCatalogAgrees places → RecordedReachesSo places → ((all : List Image) → CatalogLists places all → Agrees places all)
    → (old new : CoreView) (merge : merger.Running) (copy : Copying) (made : Made) (phase : Phase) (image : NewImage) (list : List Retired) (done : MergeProgress)
    (asked : List (Option Asked)) (bodies files : List (List ℕ)) → MergedOpens places old merge copy made phase image list done new
    → ((slot : ℕ) → IsSpared old.dumper.running slot → IsFree (slice_set old.outs 1 None) slot) → slice_get asked 1 ≡ Some (Some made.request) → Believes old asked bodies files
    → IsCopyAtRest merge.source.serial image.header.serial old.catalog new (bodies_after bodies made.request.id made.request.bytes)
rests_lem quiet gates making keeps gives needs follows plans reached needed_of files_of places tells reaches agrees old new merge copy made phase image list done asked bodies files s free at b =
    is_at_rest quiet gates making keeps gives needs follows plans reached places tells reaches agrees old new merge copy made phase image list done s asked bodies files at b needed_of files_of free

pub orderly_lem : QuietSteps → GateSteps → MakingLaws → StepsKeep → StepsGive → NeedsNoMore → CatalogFollows → PlansLead → NeededIsReached
    → (places : Places) → LiveCatalogAgrees places → RecordedReachesSo places → ((all : List Image) → CatalogLists places all → Agrees places all)
    → (old new : CoreView) (merge : merger.Running) (copy : Copying) (made : Made) (phase : Phase) (image : NewImage) (list : List Retired) (done : MergeProgress)
    (asked : List (Option Asked)) (bodies files : List (List ℕ)) → MergedOpens places old merge copy made phase image list done new
    → slice_get asked 1 ≡ Some (Some made.request) → Believes old asked bodies files → IsOrderly places
orderly_lem quiet gates making keeps gives needs follows plans reached places tells reaches agrees old new merge copy made phase image list done asked bodies files s at b =
    orderly quiet gates making keeps gives needs follows plans reached places tells reaches agrees old new merge copy made phase image list done s asked bodies files at b
