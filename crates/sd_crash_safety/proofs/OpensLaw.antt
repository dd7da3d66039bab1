-- The image of a pre-dump is open, and enters the catalog.
use Rattle.std.proofs.Common.{◌≡◌, ◌≢◌, ◌⊎◌, ℕ, zero, suc, ◌+◌, ◌<◌, ◌≤◌, ◌==◌, ◌&&◌, Bool, true, false, if◌then◌else◌, List, [], ◌∷◌, drop, get_or, length, map, Option, Some, None, IfSome, Contains, option_and_then, slice_get, slice_set, refl, sym, ◌∙◌, ap, subst, inl, inr, arith}
use Rattle.std.proofs.lemmas.Bool.{cases_eq, cases_lt}
use Rattle.std.proofs.lemmas.List.Elements.{Contains-append_cases, Contains-append_right}
use Rattle.std.proofs.lemmas.Option.{same_Some, slice_get_within}
use Rattle.sd_disk.specs.Contents.{file_at}
use Rattle.sd_image.specs.declared.header.Kind.TheVariants.{PreDump, Dump}
use Rattle.sd_image.specs.Image.{Image, IsImage, gate, image_text}
use Rattle.sd_image.specs.Table.{table_text}
use Rattle.sd_image.specs.Words.{kind_number}
use Rattle.sd_gate.specs.declared.call.Call.{Call}
use Rattle.sd_gate.specs.declared.phase.Phase.{Phase}
use Rattle.sd_gate.specs.declared.phase.Phase.TheVariants.{Whole}
use Rattle.sd_gate.specs.Laws.{Leads}
use Rattle.sd_gate.specs.Phases.{after, body_after, bodies_after, phases_after}
use Rattle.sd_gate.specs.Plans.{Planned}
use Rattle.sd_gate.specs.Requests.{Asked, Made}
use Rattle.sd_gate.specs.Sequences.{body_calls}
use Rattle.sd_rounds.specs.declared.image_order.ImageOrder.{ImageOrder}
use Rattle.sd_store_laws.specs.Beliefs.{Belief, Kept, Opening, image_at, image_in}
use Rattle.sd_crash_safety.specs.LiveImages.{AreExact, ClosesBody, IsImageOn, IsLiveOn, IsMakingOn, IsRunningOn, NoneAt, kind_of_call, chain_of, is_opening_at, pending_dump, ids_of, lanes_of}
use Rattle.sd_chain.specs.Catalog.{Changes, place_of}
use Rattle.sd_gate.specs.Calls.{is_done}
use Rattle.sd_journal.specs.declared.entry.Entry.TheVariants.{Acked}
use Rattle.sd_journal.specs.History.{History, pending}
use Rattle.sd_journal.specs.Legal.{IsLegal}
use Rattle.sd_journal.specs.Marked.{Told, entries_of}
use Rattle.sd_writing.specs.declared.new_image.NewImage.{NewImage}
use Rattle.sd_rounds.specs.Dumper.{IsReserved, Running, after_pre_dump, is_last, slot_of, writes_of_image}
use Rattle.sd_rounds.specs.Files.{FileLaws, IsFiled, IsFiledIn}
use Rattle.sd_rounds.specs.Keeps.{Rests}
use Rattle.sd_rounds.specs.Making.{Making, is_past_freeze, plan_of}
use Rattle.sd_writing.specs.Files.{image_of}
use Rattle.sd_store_laws.specs.Below.{StepsGive}
use Rattle.sd_store_laws.specs.Cut.{CutHoldsTheSame}
use Rattle.sd_store_laws.specs.ShownStays.{UnusedIsUncalled}
use Rattle.sd_store_laws.specs.Gates.{IsBelievedAs}
use Rattle.sd_store_laws.specs.LiveImages.{CatalogFollows, IsLiveCatalog}
use Rattle.sd_store_laws.specs.Needed.{IsCalled, by_job}
use Rattle.sd_store_laws.specs.Makers.{IsAboveStore}
use Rattle.sd_store_laws.specs.Needs.{IsNeededIn, NeedsNoMore}
use Rattle.sd_image.specs.Shows.{IsRestorable, IsTip}
use Rattle.sd_store_laws.specs.SlotSteps.{with_belief}
use Rattle.sd_store_laws.specs.Steps.{Adds, added, committed}
use Rattle.sd_store_laws.specs.Store.{IsNext, IsNextDump, IsNextPreDump, Store, jobs}
use Rattle.sd_crash_safety.specs.Believes.{Believes, HasStore}
use Rattle.sd_crash_safety.specs.DumperOutcomes.{ImageOpens}
use Rattle.sd_crash_safety.specs.GateSteps.{GateSteps}
use Rattle.sd_crash_safety.specs.StoreSteps.{QuietSteps, SlotIsOpened}
use Rattle.sd_crash_safety.specs.View.{CoreView, history_of}
use Rattle.sd_crash_safety.proofs.AsksLaw.{its_parent}
use Rattle.sd_crash_safety.proofs.BeginsImage.{in_front}
use Rattle.sd_crash_safety.proofs.HandsImage.{calls_of_done}
use Rattle.sd_crash_safety.proofs.HandsLaw.{count_then, file_set, has_then, ids_then, known_plan}
use Rattle.sd_store_laws.proofs.SlotSteps.{set_other}
use Rattle.sd_crash_safety.proofs.Places.{body_other, id_there, ids_set, set_count, set_same}
use Rattle.sd_crash_safety.proofs.MergeStays.{ChangesAt, HoldsStill, SparesAsMuch, adds_still, fresh_of, leaves_at, merge_then, merging_of, own_beside, slots_at}
use Rattle.sd_crash_safety.proofs.OpenCore.{believes_parts}
use Rattle.sd_crash_safety.proofs.Leads.{leads_end, leads_head}
use Rattle.sd_crash_safety.proofs.Lanes.{body_still, lanes_beside}
use Rattle.sd_rounds.specs.Writes.{no_writes}

-- the last sync of a body was out: the slot holds the image, whose gate was opened
pub record IsOpenThen (order : ImageOrder) (i : Image) (phase : Phase) (body : List ℕ) (request : Asked) (belief : Belief) (dump : Option Image) : Type 0 where
  pub whole : after phase request.id.call true ≡ Whole
  pub spelled : body_after body request.id.call request.bytes ≡ image_text i
  pub belief_is : belief ≡ Opening i
  pub dump_is : dump ≡ pending_dump order.kind i

module _ (order : ImageOrder) (i : Image) (plan : Planned) (phase : Phase) (body : List ℕ) (request : Asked) (belief : Belief) (dump : Option Image)
    (c : ClosesBody order i plan phase body (Some request) belief dump) (none : plan.calls ≡ []) where
  named : request.id.call ∷ [] ≡ drop c.place (map kind_of_call (body_calls i.header (table_text i.spaces)))
  named = ap (λ cs. request.id.call ∷ map kind_of_call cs) (sym none) ∙ c.left

  too_many : (first second : Call) (rest : List Call) → request.id.call ∷ [] ≡ first ∷ second ∷ rest → ⊥
  too_many first second rest e = let no : 1 ≡ suc (suc (length rest)) = ap length e in omega (arith, no)

  none_made : (k : ℕ) → drop {A = Call} k [] ≡ []
  none_made k = grind arith

  opened_by : (place : ℕ) → request.id.call ∷ [] ≡ drop place (map kind_of_call (body_calls i.header (table_text i.spaces)))
      → (is_opening_at place (Some request) ≡ true → (belief ≡ Opening i) × (dump ≡ pending_dump order.kind i)) → (belief ≡ Opening i) × (dump ≡ pending_dump order.kind i)
  opened_by (suc (suc (suc (suc zero)))) is opening = opening refl
  opened_by (suc (suc (suc (suc (suc n))))) is opening = absurd (let no : 1 ≡ 0 = ap length (is ∙ none_made n) in omega (arith, no))
  opened_by _ is opening = absurd (too_many _ _ _ is)

  pub open_then : IsOpenThen order i phase body request belief dump
  open_then =
      let led = (leads_head phase Whole body (image_text i) request.id.call request.bytes plan.calls c.leads).rest in
      let end = leads_end (after phase request.id.call true) Whole (body_after body request.id.call request.bytes) (image_text i)
      (subst (λ cs. Leads (after phase request.id.call true) (body_after body request.id.call request.bytes) cs Whole (image_text i)) none led) in
      let opened = opened_by c.place named c.opening in
      record { whole = end.0; spelled = end.1; belief_is = opened.0; dump_is = opened.1 }

-- ---- it enters the catalog

-- the place of a checkpoint's image, after the last one that of the dump
slots_end : (pre_dumps : List ℕ) (dump place : ℕ) → length pre_dumps ≤ place → get_or pre_dumps place dump ≡ get_or pre_dumps (length pre_dumps) dump
slots_end [] dump place behind = refl
slots_end (p ∷ pre_dumps) dump zero behind = absurd (omega (arith, behind))
slots_end (p ∷ pre_dumps) dump (suc place) behind = slots_end pre_dumps dump place (omega (arith, behind))

module _ (quiet : QuietSteps) (gates : GateSteps) (file : FileLaws) (gives : StepsGive) (needs : NeedsNoMore) (follows : CatalogFollows) (cut : CutHoldsTheSame) (unused : UnusedIsUncalled)
    (old new : CoreView) (running : Running) (image : Making) (made : Made) (phase : Phase) (opened : NewImage) (asked : List (Option Asked)) (bodies files : List (List ℕ))
    (s : ImageOpens old running image made phase opened new) (at : slice_get asked 0 ≡ Some (Some made.request)) (b : Believes old asked bodies files) where
  abbrev history : History
  history = history_of old

  abbrev slot : ℕ
  slot = image.order.slot

  abbrev asked_now : List (Option Asked)
  asked_now = slice_set asked 0 None

  abbrev phases_now : List Phase
  phases_now = phases_after old.phases made.request.id phase (is_done made.answer)

  abbrev bodies_now : List (List ℕ)
  bodies_now = bodies_after bodies made.request.id made.request.bytes

  u : IsLiveOn old.base history old.catalog old.grows old.memory old.phases asked bodies old.numbers.serial b.store b.dump b.beliefs (Some running)
  u = subst (λ r. IsLiveOn old.base history old.catalog old.grows old.memory old.phases asked bodies old.numbers.serial b.store b.dump b.beliefs r) s.was (b.knows.is_live s.stands)

  w : IsRunningOn old.base history old.memory old.phases asked bodies old.numbers.serial b.store b.dump b.beliefs running
  w = u.job

  m : IsMakingOn old.base history old.memory old.phases asked bodies old.numbers.serial b.store b.dump b.beliefs running.parent running.number image
  m = subst (λ i. IsImageOn old.base history old.memory old.phases asked bodies old.numbers.serial b.store b.dump b.beliefs running.parent running.number i) s.making w.image

  out_is : m.request ≡ Some made.request
  out_is = same_Some m.request (Some made.request) (sym m.own ∙ at)

  on : made.request.id.slot ≡ slot
  on = subst (λ r. IfSome r (λ x. x.id.slot ≡ slot)) out_is m.asked_at

  phase_same : m.phase ≡ phase
  phase_same = same_Some m.phase phase (sym m.phase_is ∙ ap (slice_get old.phases) (sym on) ∙ s.outcome.phase_is)

  -- no data page is being written
  lanes_empty : ids_of (lanes_of asked) ≡ no_writes
  lanes_empty = u.writes ∙ ap writes_of_image s.making ∙ s.opens.rests

  lanes_then : ids_of (lanes_of asked_now) ≡ no_writes
  lanes_then = ap ids_of (lanes_beside asked 0 None (omega arith)) ∙ lanes_empty

  abbrev i : Image
  i = image_of opened.header m.pages opened.table

  filed : IsFiled image.order image.pass m.pages opened.header opened.table
  filed = subst (λ st. IsFiledIn st image.order image.pass m.pages) s.opens.was m.files

  plan_is : plan_of image.stage ≡ Some s.opens.plan
  plan_is = ap plan_of s.opens.was

  no_more : s.opens.plan.calls ≡ []
  no_more = sym (calls_of_done s.opens.plan made (known_plan image.order image.pass image.stage s.opens.plan plan_is s.sound.ready) s.opens.done) ∙ s.opens.last

  closing_was : ClosesBody image.order i s.opens.plan phase (file_at bodies slot) (Some made.request) m.belief b.dump
  closing_was = grind (arith, body_still)

  opened_then : IsOpenThen image.order i phase (file_at bodies slot) made.request m.belief b.dump
  opened_then = open_then image.order i s.opens.plan phase (file_at bodies slot) made.request m.belief b.dump closing_was no_more

  -- ---- its numbers

  serial_is : i.header.serial ≡ image.order.serial
  serial_is = ap (λ h. h.serial) filed.numbers

  stands_is : i.header.stands_for ≡ image.order.serial
  stands_is = ap (λ h. h.stands_for) filed.numbers

  parent_is : i.header.parent ≡ running.parent
  parent_is = ap (λ h. h.parent) filed.numbers ∙ ap (λ o. o.parent) s.own

  falls : i.header.parent < i.header.stands_for
  falls = grind arith

  next_is : IsNext b.store i
  next_is = record {
    fresh = fresh_of b.store i image.order.serial serial_is stands_is falls m.fresh;
    parent = subst (Contains b.store.chain) (sym parent_is) (its_parent b.store.chain running.parent w.chain);
  }

  -- ---- the slot

  belief_at : slice_get b.beliefs slot ≡ Some (Opening i)
  belief_at = m.belief_is ∙ ap Some opened_then.belief_is

  phase_then : slice_get phases_now slot ≡ Some Whole
  phase_then = ap (slice_get phases_now) (sym on) ∙ ap (λ d. slice_get (slice_set old.phases made.request.id.slot (after phase made.request.id.call d)) made.request.id.slot) s.opens.done
      ∙ set_same old.phases made.request.id.slot phase (after phase made.request.id.call true) s.outcome.phase_is ∙ ap Some opened_then.whole

  pub open_lem : slice_get new.phases slot ≡ Some Whole
  open_lem = ap (λ phases. slice_get phases slot) s.outcome.phases ∙ phase_then

  body_then : file_at bodies_now slot ≡ image_text i
  body_then =
      let within : made.request.id.slot < length bodies = (let long = slice_get_within old.phases made.request.id.slot phase s.outcome.phase_is in let stored = b.has.stored in omega (arith, long, stored)) in
      ap (file_at bodies_now) (sym on) ∙ file_set bodies made.request.id.slot (body_after (file_at bodies made.request.id.slot) made.request.id.call made.request.bytes) within
      ∙ ap (λ k. body_after (file_at bodies k) made.request.id.call made.request.bytes) on ∙ opened_then.spelled

  none_then : NoneAt asked_now slot
  none_then worker r out same = s.alone worker r.id (ap (λ ids. slice_get ids worker) (sym (ids_set asked 0 None ∙ ap (λ ids. slice_set ids 0 None) b.knows.out)) ∙ id_there asked_now worker r out)
      (same ∙ sym on)

  abbrev beliefs_now : List Belief
  beliefs_now = with_belief b.beliefs slot (Kept i)

  has_one : HasStore old.base history phases_now asked_now bodies_now b.store b.dump b.beliefs
  has_one = has_then quiet old new 0 made phase asked bodies files s.outcome at b

  opened_slot : SlotIsOpened phases_now asked_now b.beliefs slot i
  opened_slot = record { belief = belief_at; phase = phase_then; none = none_then }

  -- ---- what is known then

  -- an image of the store then is the one that entered, or was there
  member_then : (j : Image) → Contains (i ∷ b.store.catalog) j → (j ≡ i) ⊎ Contains b.store.catalog j
  member_then j given = grind arith

  first_in : Contains (i ∷ b.store.catalog) i
  first_in = (0, omega arith, refl)

  adds_it : Adds b.store.catalog i (i ∷ b.store.catalog)
  adds_it j = (
    member_then j,
    λ e. elim e [
      | inl same ↦ subst (Contains (i ∷ b.store.catalog)) (sym same) first_in
      | inr (k, within, is) ↦ (suc k, omega (arith, within), is)
    ],
  )

  called : IsCalled b.store.catalog (jobs b.store) running.parent
  called = by_job running.parent (in_front b.store.chain b.store.work running.parent w.chain)

  -- where an image stands then
  image_then : (k : ℕ) (j : Image) → image_at beliefs_now k ≡ Some j → ((k ≡ slot) × (j ≡ i)) ⊎ ((k ≢ slot) × (image_at b.beliefs k ≡ Some j))
  image_then k j has = elim (cases_eq k slot) [
    | inl its ↦ inl (its, sym (same_Some i j (sym (ap (λ o. option_and_then image_in o) (ap (slice_get beliefs_now) its ∙ set_same b.beliefs slot (Opening i) (Kept i) belief_at)) ∙ has)))
    | inr differs ↦ inr (differs, ap (λ o. option_and_then image_in o) (sym (set_other b.beliefs slot k (Kept i) differs)) ∙ has)
  ]

  -- a store with it, that asks for these numbers
  above_then : (chain : List ℕ) (grows : Bool) → ((asked_for : ℕ) → Contains chain asked_for → asked_for < old.numbers.serial + 1)
      → IsAboveStore (record { catalog = i ∷ b.store.catalog; chain = chain; work = b.store.work; source = b.store.source; grows = grows }) (old.numbers.serial + 1)
  above_then chain grows few = record {
    serials = λ j member. elim (member_then j member) [
      | inl same ↦ (let its = ap (λ (x : Image). x.header.serial) same in let serial = serial_is in let last = m.serial in omega (arith, its, serial, last))
      | inr before ↦ u.used.above.serials j before
    ];
    stands = λ j member. elim (member_then j member) [
      | inl same ↦ (let its = ap (λ (x : Image). x.header.stands_for) same in let stands = stands_is in let last = m.serial in omega (arith, its, stands, last))
      | inr before ↦ u.used.above.stands j before
    ];
    parents = λ j member. elim (member_then j member) [
      | inl same ↦ (let its = ap (λ (x : Image). x.header.parent) same in let less = falls in let stands = stands_is in let last = m.serial in omega (arith, its, less, stands, last))
      | inr before ↦ u.used.above.parents j before
    ];
    jobs = λ asked_for member. elim (Contains-append_cases chain b.store.work asked_for member) [
      | inl own ↦ few asked_for own
      | inr work ↦ u.used.above.jobs asked_for (Contains-append_right b.store.chain b.store.work asked_for work)
    ];
    source = u.used.above.source;
  }

  exact_then : AreExact phases_now asked_now bodies_now beliefs_now
  exact_then k p belief here of none = elim (cases_eq k slot) [
    | inl its ↦
        let p_is : Whole ≡ p = same_Some Whole p (sym phase_then ∙ ap (slice_get phases_now) (sym its) ∙ here) in
        let belief_is : Kept i ≡ belief = same_Some (Kept i) belief (sym (set_same b.beliefs slot (Opening i) (Kept i) belief_at) ∙ ap (slice_get beliefs_now) (sym its) ∙ of) in
        subst (λ x. IsBelievedAs x (file_at bodies_now k) belief) p_is
        (i, sym belief_is, subst (λ text. IsImage (gate ∷ text) i) (sym (ap (file_at bodies_now) its ∙ body_then)) filed.spelled)
    | inr differs ↦
        let other : k ≢ made.request.id.slot = (λ same. differs (same ∙ on)) in
        subst (λ body. IsBelievedAs p body belief) (sym (body_other bodies made.request.id.slot k (body_after (file_at bodies made.request.id.slot) made.request.id.call made.request.bytes) other))
        (u.exact k p belief (sym (set_other old.phases made.request.id.slot k (after phase made.request.id.call (is_done made.answer)) other) ∙ here) (sym (set_other b.beliefs slot k (Kept i) differs) ∙ of)
        (before_none k differs none))
  ]
    where
      before_none : (k : ℕ) → k ≢ slot → NoneAt asked_now k → NoneAt asked k
      before_none k differs none worker r out same = elim (cases_eq worker 0) [
        | inl its ↦
            let own : r ≡ made.request = same_Some r made.request (same_Some (Some r) (Some made.request) (sym out ∙ ap (slice_get asked) its ∙ at)) in
            differs (sym same ∙ ap (λ (q : Asked). q.id.slot) own ∙ on)
        | inr other ↦ none worker r (set_other asked 0 worker None other ∙ out) same
      ]

  -- the next image names it, and its number gives each clean page
  rests_then : Rests (record { images = i ∷ b.store.catalog; number = opened.header.serial }) old.memory
  rests_then = subst (λ n. Rests (record { images = i ∷ b.store.catalog; number = n }) old.memory) (sym (ap (λ h. h.serial) filed.numbers))
      (file.commits m.pages (chain_of b.store running.parent) (record { images = i ∷ b.store.catalog; number = running.parent }) image made opened old.memory s.opens (sym (ap (λ o. o.parent) s.own)) m.files
      (record {
        member = first_in;
        stands = stands_is;
        greatest = λ j member stands. elim (member_then j member) [
          | inl same ↦ (let its = ap (λ (x : Image). x.header.serial) same in omega (arith, its))
          | inr before ↦ absurd (m.fresh.unused.stands j before stands)
        ];
      })
      (λ place bytes below. (gives.adds b.store i (i ∷ b.store.catalog) b.has.sound next_is adds_it running.parent place.0 place.1 bytes called).0 below) m.keeps)

  catalog_then : IsLiveCatalog new.catalog beliefs_now
  catalog_then = subst (λ k. IsLiveCatalog new.catalog (with_belief b.beliefs k (Kept i))) s.opens.slot
      (follows.adds old.catalog new.catalog b.beliefs (record { slot = opened.slot; header = opened.header; spaces = opened.table }) i u.catalog
      (ap (slice_get b.beliefs) s.opens.slot ∙ belief_at) (record { header = refl; spaces = refl })
      (λ other there. (let no : Some None ≡ Some (Some other) = sym s.held ∙ ap (place_of old.catalog) (sym serial_is) ∙ there in cc))
      (subst (λ n. Changes old.catalog new.catalog n (Some (Some (record { slot = opened.slot; header = opened.header; spaces = opened.table })))) (sym serial_is) s.catalog))

  slots_then : (k : ℕ) (j : Image) → image_at beliefs_now k ≡ Some j → j.header.serial ≤ old.numbers.serial
  slots_then k j has = elim (image_then k j has) [
    | inl own ↦ (let its = ap (λ (x : Image). x.header.serial) own.1 in let serial = serial_is in let last = m.serial in omega (arith, its, serial, last))
    | inr before ↦ u.used.slots k j before.1
  ]

  -- ---- the merge beside it

  spelled_then : (j : Image) → Contains (i ∷ b.store.catalog) j → (text : List ℕ) × IsImage text j
  spelled_then j member = elim (member_then j member) [
    | inl same ↦ subst (λ x. (text : List ℕ) × IsImage text x) (sym same) (gate ∷ image_text i, filed.spelled)
    | inr before ↦ (b.knows.merging s.stands).spelled j before
  ]

  still_then : (source : Image) → b.store.source ≡ Some source → HoldsStill b.store.catalog (i ∷ b.store.catalog) source
  still_then = adds_still cut unused b.store i (i ∷ b.store.catalog) b.has.sound next_is.fresh adds_it

  changes : (store_now : Store) (running_now : Option Running) → ((source : Image) → b.store.source ≡ Some source → HoldsStill b.store.catalog store_now.catalog source)
      → store_now.source ≡ b.store.source → store_now.work ≡ b.store.work → SparesAsMuch old.numbers.serial old.numbers.serial (Some running) running_now
      → ((j : Image) → IsNeededIn store_now j → (j ≡ i) ⊎ IsNeededIn b.store j)
      → ChangesAt old.numbers.serial b.store running (slots_at old.phases bodies b.beliefs) store_now running_now (slots_at phases_now bodies_now beliefs_now) slot
  changes store_now running_now still source work spares needed_now = record {
    reserved = record { place = running.opened; from = omega arith; is = ap (λ o. o.slot) s.own };
    count = set_count old.phases made.request.id.slot (after phase made.request.id.call (is_done made.answer));
    others = λ k differs. (let other : k ≢ made.request.id.slot = (λ same. differs (same ∙ on)) in record {
      phase = set_other old.phases made.request.id.slot k (after phase made.request.id.call (is_done made.answer)) other;
      body = body_other bodies made.request.id.slot k (body_after (file_at bodies made.request.id.slot) made.request.id.call made.request.bytes) other;
      belief = set_other b.beliefs slot k (Kept i) differs;
    });
    spares = spares;
    source = source;
    work = work;
    needs = λ k j differs has needed. elim (needed_now j needed) [
      | inl same ↦ absurd (differs (b.has.slots.serials k slot j i has (ap (λ o. option_and_then image_in o) belief_at) (ap (λ (x : Image). x.header.serial) same)))
      | inr before ↦ before
    ];
    still = still;
    here = λ j has. inl (ap (λ o. option_and_then image_in o) belief_at ∙ sym (ap (λ o. option_and_then image_in o) (set_same b.beliefs slot (Opening i) (Kept i) belief_at)) ∙ has);
    opens = λ j opens. absurd (let no : Some (Kept i) ≡ Some (Opening j) = sym (set_same b.beliefs slot (Opening i) (Kept i) belief_at) ∙ opens in cc);
  }

  -- ---- a pre-dump

  module _ (more : is_last running ≡ false) (same_history : history_of new ≡ history) (same_grows : new.grows ≡ old.grows) (is_then : new.dumper.running ≡ Some (after_pre_dump running opened)) where
    kind_is : image.order.kind ≡ PreDump
    kind_is = ap (λ o. o.kind) s.own ∙ ap (λ last. if last then Dump else PreDump) more

    pre_dump : i.header.kind ≡ PreDump
    pre_dump = ap (λ h. h.kind) filed.numbers ∙ kind_is

    no_dump : b.dump ≡ None
    no_dump = opened_then.dump_is ∙ ap (λ k. pending_dump k i) kind_is

    next_pre_dump : IsNextPreDump b.store i
    next_pre_dump = record { next = next_is; kind = pre_dump }

    abbrev store_now : Store
    store_now = added b.store (i ∷ b.store.catalog) i.header.stands_for

    has_now : HasStore old.base history phases_now asked_now bodies_now store_now None beliefs_now
    has_now = (gates old.base history phases_now asked_now bodies_now).adds b.store b.beliefs slot i opened_slot next_pre_dump
        (subst (λ d. HasStore old.base history phases_now asked_now bodies_now b.store d b.beliefs) no_dump has_one)

    asks_serial : (asked_for : ℕ) → Contains (i.header.stands_for ∷ []) asked_for → asked_for < old.numbers.serial + 1
    asks_serial asked_for given = grind arith

    -- another slot of the checkpoint
    other_slot : (k : ℕ) → IsReserved (after_pre_dump running opened) k → k ≢ slot
    other_slot k r same = elim (cases_lt (length running.pre_dumps) r.place) [
      | inr within ↦ w.apart running.opened r.place (omega arith) (let from = r.from in omega (arith, from)) within (sym own_slot ∙ sym same ∙ r.is)
      | inl behind ↦
          let last = slots_end running.pre_dumps running.dump r.place (omega (arith, behind)) in
          w.apart running.opened (length running.pre_dumps) (omega arith) few (omega arith) (sym own_slot ∙ sym same ∙ r.is ∙ last)
    ]
      where
        own_slot : slot ≡ slot_of running
        own_slot = ap (λ o. o.slot) s.own

        few : running.opened < length running.pre_dumps
        few = grind arith

    pub pre_dump_lem : Believes new asked_now bodies_now files
    pre_dump_lem = believes_parts new old.base history new.catalog old.grows old.memory phases_now old.numbers.serial (Some (after_pre_dump running opened)) old.merger
        (record { base_is = s.outcome.base; history_is = same_history; places_is = refl; grows_is = same_grows; memory_is = s.outcome.memory; phases_is = s.outcome.phases; last_is = s.serial; running_is = is_then; merger_is = s.merger; closed = s.outcome.closed })
        asked_now bodies_now files store_now None beliefs_now (λ is. refl) (count_then old new 0 made phase asked bodies files s.outcome b) (ids_then old new 0 made phase asked bodies files s.outcome b) has_now
        (record {
          catalog = catalog_then;
          grows_is = u.grows_is;
          used = record { above = above_then (i.header.stands_for ∷ []) b.store.grows asks_serial; slots = slots_then };
          exact = exact_then;
          writes = lanes_then;
          job = record {
            some = w.some;
            chain = ap (λ n. n ∷ []) (stands_is ∙ sym serial_is);
            newest = λ j member restored. elim (member_then j member) [
              | inl same ↦ absurd (restored (ap (λ (x : Image). x.header.kind) same ∙ pre_dump))
              | inr before ↦ w.newest j before restored
            ];
            within = λ k r. (let count = set_count old.phases made.request.id.slot (after phase made.request.id.call (is_done made.answer)) in
                let from = r.from in let below = w.within k (record { place = r.place; from = omega (arith, from); is = r.is }) in omega (arith, below, count));
            unneeded = λ k j r has needed. elim (image_then k j has) [
              | inl own ↦ absurd (other_slot k r own.0)
              | inr before ↦ elim (needs.adds b.store i j (i ∷ b.store.catalog) b.has.sound next_pre_dump adds_it needed) [
                | inl same ↦ other_slot k r (b.has.slots.serials k slot j i before.1 (ap (λ o. option_and_then image_in o) belief_at) (ap (λ (x : Image). x.header.serial) same))
                | inr still ↦ w.unneeded k j (record { place = r.place; from = (let from = r.from in omega (arith, from)); is = r.is }) before.1 still
              ]
            ];
            apart = λ one other from less few. w.apart one other (omega (arith, from)) less few;
            image = record { rests = λ some. rests_then; none = set_same asked 0 (Some made.request) None at; alone = refl };
          };
        })
        (merge_then old.numbers.serial b.store (Some running) (slots_at old.phases bodies b.beliefs) old.numbers.serial store_now (Some (after_pre_dump running opened)) (slots_at phases_now bodies_now beliefs_now)
        (leaves_at old.numbers.serial b.store running (slots_at old.phases bodies b.beliefs) store_now (Some (after_pre_dump running opened)) (slots_at phases_now bodies_now beliefs_now) slot
        (changes store_now (Some (after_pre_dump running opened)) (λ source is. still_then source is) refl refl
        (record { spares = λ k spared r. spared (record { place = r.place; from = (let from = r.from in omega (arith, from)); is = r.is }); last_is = omega arith; makes = λ serial low other. tt })
        (λ j needed. needs.adds b.store i j (i ∷ b.store.catalog) b.has.sound next_pre_dump adds_it needed)))
        asked asked_now (own_beside asked None) old.merger spelled_then (merging_of old asked bodies files (Some running) s.stands s.was b))

  -- ---- the dump

  module _ (last_is : is_last running ≡ true) (items : new.items ≡ Told (Acked running.number) ∷ old.items) (legal : IsLegal old.base history) (grown : new.grows ≡ true)
      (is_then : new.dumper.running ≡ None) where
    dump_kind : image.order.kind ≡ Dump
    dump_kind = ap (λ o. o.kind) s.own ∙ ap (λ last. if last then Dump else PreDump) last_is

    its_kind : i.header.kind ≡ Dump
    its_kind = ap (λ h. h.kind) filed.numbers ∙ dump_kind

    checkpoint_is : i.header.checkpoint ≡ running.number
    checkpoint_is = ap (λ h. h.checkpoint) filed.numbers ∙ ap (λ o. o.checkpoint) s.own

    restorable : IsRestorable i
    restorable other = let no : Dump ≡ PreDump = sym its_kind ∙ other in cc

    pending_is : b.dump ≡ Some i
    pending_is = opened_then.dump_is ∙ ap (λ k. pending_dump k i) dump_kind

    pends : pending history ≡ Some running.number
    pends = (m.frozen (ap (λ k. (kind_number k == 2) && is_past_freeze image.stage) dump_kind ∙ ap is_past_freeze s.opens.was)).pends

    abbrev store_then : Store
    store_then = committed b.store (i ∷ b.store.catalog)

    has_dump : HasStore old.base (Acked running.number ∷ history) phases_now asked_now bodies_now store_then None beliefs_now
    has_dump = (gates old.base history phases_now asked_now bodies_now).commits b.store b.beliefs slot running.number i opened_slot (pends, legal)
        (subst (λ d. HasStore old.base history phases_now asked_now bodies_now b.store d b.beliefs) pending_is has_one)

    next_dump : IsNextDump b.store i
    next_dump = subst (λ d. IfSome d (IsNextDump b.store)) pending_is b.has.slots.dump

    -- the tip then is the dump
    tip_is : (tip : Image) → IsTip (i ∷ b.store.catalog) tip → tip ≡ i
    tip_is tip is = elim (member_then tip is.member) [
      | inl same ↦ same
      | inr before ↦ absurd (let less = w.newest tip before is.restorable in let checkpoint = checkpoint_is in elim (is.greatest i first_in restorable) [
        | inl below ↦ omega (arith, less, checkpoint, below)
        | inr (same, serial) ↦ omega (arith, less, checkpoint, same)
      ])
    ]

    pub dump_lem : Believes new asked_now bodies_now files
    dump_lem = believes_parts new old.base (Acked running.number ∷ history) new.catalog true old.memory phases_now old.numbers.serial None old.merger
        (record { base_is = s.outcome.base; history_is = ap entries_of items; places_is = refl; grows_is = grown; memory_is = s.outcome.memory; phases_is = s.outcome.phases; last_is = s.serial; running_is = is_then; merger_is = s.merger; closed = s.outcome.closed })
        asked_now bodies_now files store_then None beliefs_now (λ is. refl) (count_then old new 0 made phase asked bodies files s.outcome b) (ids_then old new 0 made phase asked bodies files s.outcome b) has_dump
        (record {
          catalog = catalog_then;
          grows_is = refl;
          used = record { above = above_then [] true (λ asked_for member. absurd (let within = member.1 in omega (arith, within))); slots = slots_then };
          exact = exact_then;
          writes = lanes_then;
          job = record {
            gives = λ grows tip is. subst (λ n. Rests (record { images = i ∷ b.store.catalog; number = n }) old.memory)
                (serial_is ∙ sym stands_is ∙ ap (λ (x : Image). x.header.stands_for) (sym (tip_is tip is))) rests_then;
            none = set_same asked 0 (Some made.request) None at;
            alone = refl;
            idle = refl;
          };
        })
        (merge_then old.numbers.serial b.store (Some running) (slots_at old.phases bodies b.beliefs) old.numbers.serial store_then None (slots_at phases_now bodies_now beliefs_now)
        (leaves_at old.numbers.serial b.store running (slots_at old.phases bodies b.beliefs) store_then None (slots_at phases_now bodies_now beliefs_now) slot
        (changes store_then None (λ source is. still_then source is) refl refl
        (record { spares = λ k spared. tt; last_is = omega arith; makes = λ serial low other. tt })
        (λ j needed. needs.commits b.store i j (i ∷ b.store.catalog) b.has.sound next_dump adds_it needed)))
        asked asked_now (own_beside asked None) old.merger spelled_then (merging_of old asked bodies files (Some running) s.stands s.was b))
