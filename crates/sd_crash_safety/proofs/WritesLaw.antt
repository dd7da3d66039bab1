-- The write of a page, and the first of the table, are asked for.
use Rattle.std.proofs.Common.{◌≡◌, ℕ, ◌<◌, ◌≤◌, ◌==◌, ◌&&◌, Bool, true, if◌then◌else◌, List, [], ◌∷◌, ◌++◌, length, map, Option, Some, None, option_and_then, slice_get, slice_set, refl, sym, ◌∙◌, ap, subst, arith}
use Rattle.std.proofs.lemmas.Bool.{false≢true}
use Rattle.sd_disk.specs.Contents.{file_at}
use Rattle.sd_image.specs.declared.header.Kind.{Kind}
use Rattle.sd_image.specs.declared.header.Kind.TheVariants.{PreDump, Dump, Merged}
use Rattle.sd_image.specs.Image.{Image, image_text}
use Rattle.sd_image.specs.Table.{table_text}
use Rattle.sd_image.specs.Words.{kind_number}
use Rattle.sd_gate.specs.declared.call.Call.{Call as GateCall}
use Rattle.sd_gate.specs.declared.call.Call.TheVariants.{Write, Close as CloseCall, Open}
use Rattle.sd_gate.specs.declared.phase.Phase.TheVariants.{Whole}
use Rattle.sd_gate.specs.declared.request_id.RequestId.{RequestId}
use Rattle.sd_gate.specs.Laws.{BodiesFill, Leads, PlansLead, WritesCommute, pages_body}
use Rattle.sd_gate.specs.PlanRuns.{body_closed}
use Rattle.sd_gate.specs.Phases.{body_after, is_ready}
use Rattle.sd_gate.specs.Requests.{Asked}
use Rattle.sd_gate.specs.Sequences.{Calls, body_calls, data_place}
use Rattle.sd_journal.specs.History.{History}
use Rattle.sd_rounds.specs.declared.image_order.ImageOrder.{ImageOrder}
use Rattle.sd_rounds.specs.declared.image_step.ImageStep.TheVariants.{PageCall, TableCall}
use Rattle.sd_rounds.specs.declared.stage.Stage.{Stage}
use Rattle.sd_rounds.specs.declared.stage.Stage.TheVariants.{Pass as PassStage, Close}
use Rattle.sd_rounds.specs.Dumper.{IsReserved, Running, is_last, order_of, writes_of_image}
use Rattle.sd_rounds.specs.Files.{FileLaws, FilesImage, HasAreasAtFreeze}
use Rattle.sd_rounds.specs.Keeps.{Chain}
use Rattle.sd_rounds.specs.Making.{Making, WritesPage, WritesTable, is_frozen_dump, is_past_freeze}
use Rattle.sd_rounds.specs.MakingLaws.{AreItsNumbers, DumpsImage, KeepsImage, MakingLaws}
use Rattle.sd_writing.specs.Files.{Pages, image_of}
use Rattle.sd_rounds.specs.Pass.{Pass}
use Rattle.sd_writing.specs.Entries.{data_pages}
use Rattle.sd_rounds.specs.Writes.{no_writes}
use Rattle.sd_store_laws.specs.Beliefs.{image_in}
use Rattle.sd_store_laws.specs.LiveImages.{CatalogFollows}
use Rattle.sd_store_laws.specs.Needs.{IsNeededIn}
use Rattle.sd_crash_safety.specs.Believes.{Believes}
use Rattle.sd_crash_safety.specs.DumperSteps.{AsksFor, AsksToWrite, OnlyDumps}
use Rattle.sd_crash_safety.specs.LiveImages.{ArePagesOf, ClosesBody, IsFilledSlot, IsFrozenAs, IsImageOn, IsLiveOn, IsMakingOn, IsPageOf, IsRunningOn, IsSlotFor, body_written, chain_of, ids_of, kind_of_call, lanes_of}
use Rattle.sd_crash_safety.specs.StoreSteps.{MayAsk, QuietSteps}
use Rattle.sd_crash_safety.specs.View.{CoreView, history_of, page_lane}
use Rattle.sd_crash_safety.proofs.Asks.{in_use_from, unchanged_at}
use Rattle.sd_crash_safety.proofs.Lanes.{IsOther, body_still, lanes_beside, lanes_get, lanes_set, no_pages, pages_more, written_more}
use Rattle.sd_crash_safety.proofs.MergeStays.{merge_beside, own_beside, spares_on}
use Rattle.sd_crash_safety.proofs.OpenCore.{believes_parts}
use Rattle.sd_store_laws.proofs.SlotSteps.{set_other}
use Rattle.sd_crash_safety.proofs.Places.{free_there, id_there, ids_set, set_same}

heads : (call first : GateCall) (bytes own : List ℕ) (calls rest : Calls) → (call, bytes) ∷ calls ≡ (first, own) ∷ rest → ◌≡◌ {A = GateCall × List ℕ} (call, bytes) (first, own)
heads call first bytes own calls rest same = cc

pub first_is : (call first : GateCall) (bytes own : List ℕ) (calls rest : Calls) → (call, bytes) ∷ calls ≡ (first, own) ∷ rest → (call ≡ first) × (bytes ≡ own) × (calls ≡ rest)
first_is call first bytes own calls rest same = grind arith

-- what a write leaves that is asked for in a lane
record AsksIn (old : CoreView) (running : Running) (image : Making) (lane : ℕ) (request : Asked) (next : Making) (new : CoreView) : Type 0 where
  rest : OnlyDumps old new
  history : history_of new ≡ history_of old
  catalog : new.catalog ≡ old.catalog
  memory : new.memory ≡ old.memory
  phases : new.phases ≡ old.phases
  serial : new.numbers.serial ≡ old.numbers.serial
  free : slice_get old.outs lane ≡ Some None
  outs : new.outs ≡ slice_set old.outs lane (Some request.id)
  was : old.dumper.running ≡ Some running
  making : running.image ≡ Some image
  is : new.dumper.running ≡ Some (record running { image = Some next })

module _ (quiet : QuietSteps) (follows : CatalogFollows)
    (old new : CoreView) (running : Running) (image next : Making) (lane : ℕ) (request : Asked) (asked : List (Option Asked)) (bodies files : List (List ℕ))
    (s : AsksIn old running image lane request next new) (b : Believes old asked bodies files) (stage : image.stage ≡ PassStage) where
  abbrev history : History
  history = history_of old

  abbrev slot : ℕ
  slot = image.order.slot

  abbrev asked_now : List (Option Asked)
  asked_now = slice_set asked lane (Some request)

  u : IsLiveOn old.base history old.catalog old.grows old.memory old.phases asked bodies old.numbers.serial b.store b.dump b.beliefs (Some running)
  u = subst (λ r. IsLiveOn old.base history old.catalog old.grows old.memory old.phases asked bodies old.numbers.serial b.store b.dump b.beliefs r) s.was (b.knows.is_live s.rest.stands)

  w : IsRunningOn old.base history old.memory old.phases asked bodies old.numbers.serial b.store b.dump b.beliefs running
  w = u.job

  m : IsMakingOn old.base history old.memory old.phases asked bodies old.numbers.serial b.store b.dump b.beliefs running.parent running.number image
  m = subst (λ i. IsImageOn old.base history old.memory old.phases asked bodies old.numbers.serial b.store b.dump b.beliefs running.parent running.number i) s.making w.image

  free : slice_get asked lane ≡ Some None
  free = free_there asked lane (ap (λ ids. slice_get ids lane) b.knows.out ∙ s.free)

  writes_in : ids_of (lanes_of asked) ≡ image.writes
  writes_in = u.writes ∙ ap writes_of_image s.making

  ready : IsFilledSlot m.pages m.phase (body_written (file_at bodies slot) (lanes_of asked)) m.belief × (m.request ≡ None) × (b.dump ≡ None)
  ready = subst (λ st. IsSlotFor st image.order m.pages m.phase (body_written (file_at bodies slot) (lanes_of asked)) m.request m.belief b.dump) stage m.slot_is

  few_of : (i : Image) → image_in m.belief ≡ Some i → i.header.serial ≤ old.numbers.serial
  few_of i has = u.used.slots slot i (ap (λ o. option_and_then image_in o) m.belief_is ∙ has)

  unneeded_of : (i : Image) → IsReserved running slot → image_in m.belief ≡ Some i → IsNeededIn b.store i → ⊥
  unneeded_of i r has = w.unneeded slot i r (ap (λ o. option_and_then image_in o) m.belief_is ∙ has)

  -- a write after the gate is asked for, and the image is this one
  believes_write : (place : ℕ) → request.id.call ≡ Write place → request.id.slot ≡ slot → slice_get asked_now 1 ≡ slice_get asked 1 → (later : Making) → next ≡ later → later.order ≡ image.order
      → ids_of (lanes_of asked_now) ≡ later.writes
      → IsMakingOn old.base history old.memory old.phases asked_now bodies old.numbers.serial b.store b.dump b.beliefs running.parent running.number later → Believes new asked_now bodies files
  believes_write place call on beside later is same_order writes_now making_it =
      let may : MayAsk old.phases asked lane request = record {
        free = free;
        phase = m.phase;
        waits = record { is = ap (slice_get old.phases) on ∙ m.phase_is; ready = ap (is_ready m.phase) call ∙ ready.0.writes };
      } in
      believes_parts new old.base history old.catalog old.grows old.memory old.phases old.numbers.serial (Some (record running { image = Some later })) old.merger
      (record {
        base_is = s.rest.base;
        history_is = s.history;
        places_is = s.catalog;
        grows_is = s.rest.grows;
        memory_is = s.memory;
        phases_is = s.phases;
        last_is = s.serial;
        running_is = s.is ∙ ap (λ x. Some (record running { image = Some x })) is;
        merger_is = s.rest.merger;
        closed = s.rest.closed;
      })
      asked_now bodies files b.store b.dump b.beliefs (λ is. ready.2) b.knows.count
      (ids_set asked lane (Some request) ∙ ap (λ ids. slice_set ids lane (Some request.id)) b.knows.out ∙ sym s.outs)
      (quiet.asks old.base history old.phases asked bodies b.store b.dump b.beliefs lane request may (record {
        opens = λ same. (let no : Write place ≡ Open = sym call ∙ same in cc);
        closes = λ same. absurd (let no : Write place ≡ CloseCall = sym call ∙ same in cc);
      }) b.has)
      (in_use_from follows old.base history old.catalog old.grows old.memory old.phases asked bodies old.numbers.serial b.store b.dump b.dump b.beliefs b.beliefs running image request m.belief
      u m lane free on (unchanged_at b.beliefs slot m.belief m.belief_is) (λ i. (λ has. has, λ has. has)) few_of unneeded_of later writes_now making_it)
      (merge_beside old asked asked_now bodies files running later old.numbers.serial s.rest.stands s.was beside
      (spares_on old.numbers.serial running image later s.making same_order) b)

-- ---- a page

pub writes_page_lem : QuietSteps → WritesCommute → BodiesFill → CatalogFollows → MakingLaws → (old new : CoreView) (running : Running) (image next : Making) (number lane : ℕ) (request : Asked)
    (asked : List (Option Asked)) (bodies files : List (List ℕ)) → AsksToWrite old running image number lane request next new → Believes old asked bodies files
    → Believes new (slice_set asked (page_lane lane) (Some request)) bodies files
writes_page_lem quiet commutes bodies_fill follows making old new running image next number lane request asked bodies files s b =
    let writes_it : WritesPage image lane request next = s.steps.0 in
    let parts : AsksIn old running image (page_lane lane) request next new = record {
      rest = s.rest;
      history = s.history;
      catalog = s.catalog;
      memory = s.memory;
      phases = s.phases;
      serial = s.serial;
      free = s.free;
      outs = s.outs;
      was = s.was;
      making = s.making;
      is = s.is;
    } in
    let m0 = m quiet follows old new running image next (page_lane lane) request asked bodies files parts b writes_it.stage in
    let ready0 = ready quiet follows old new running image next (page_lane lane) request asked bodies files parts b writes_it.stage in
    let writes0 = writes_in quiet follows old new running image next (page_lane lane) request asked bodies files parts b writes_it.stage in
    let slot = image.order.slot in
    let lanes = lanes_of asked in
    let asked_now = slice_set asked (page_lane lane) (Some request) in
    let later : Making = record image { pass = next.pass; stage = PassStage; writes = slice_set image.writes lane (Some request.id); digester = next.digester } in
    let is : next ≡ later = whole_image next image.order next.pass PassStage (slice_set image.writes lane (Some request.id)) writes_it.order refl writes_it.still writes_it.writes in
    let chain = chain_of b.store running.parent in
    let pages : Pages = m0.pages ++ request.bytes ∷ [] in
    let count : length m0.pages ≡ data_pages image.pass.entries = m0.keeps.count in
    let keeps : KeepsImage pages chain later old.memory = subst (λ mem. KeepsImage pages chain later mem) s.memory
    (subst (λ i. KeepsImage pages chain i new.memory) is (making.steps number m0.pages chain image next old.memory new.memory (PageCall lane request) s.steps m0.keeps)) in
    let place = data_place (data_pages image.pass.entries) in
    let body = file_at bodies slot in
    let page : IsPageOf slot request = record { on = writes_it.slot; place = data_pages image.pass.entries; call = writes_it.call; whole = writes_it.taken.whole } in
    let free_lane : slice_get lanes lane ≡ Some None = lanes_get asked lane ∙ free_there asked (page_lane lane) (ap (λ ids. slice_get ids (page_lane lane)) b.knows.out ∙ s.free) in
    let other : IsOther request lanes = other_page m0.writing in
    let lanes_now : lanes_of asked_now ≡ slice_set lanes lane (Some request) = lanes_set asked lane (Some request) in
    believes_write quiet follows old new running image next (page_lane lane) request asked bodies files parts b writes_it.stage
    place writes_it.call writes_it.slot (set_other asked (page_lane lane) 1 (Some request) (λ e. omega (arith, e))) later is refl
    (ap ids_of lanes_now ∙ ids_set lanes lane (Some request) ∙ ap (λ ids. slice_set ids lane (Some request.id)) writes0) (record {
      pages = pages;
      keeps = keeps;
      files = tt;
      frozen = λ past.
          let f = m0.frozen (ap (λ p. (kind_number image.order.kind == 2) && p) (ap is_past_freeze writes_it.stage) ∙ past) in
          record {
            cut = f.cut;
            pends = f.pends;
            shown = f.shown;
            still = f.still;
            dumps = subst (λ mem. DumpsImage f.cut pages chain later mem) s.memory
                (subst (λ i. DumpsImage f.cut pages chain i new.memory) is
                (making.dumps number f.cut m0.pages chain image next old.memory new.memory (PageCall lane request) s.steps (ap is_past_freeze writes_it.stage) s.rising m0.keeps f.dumps));
            areas = tt;
          };
      serial = m0.serial;
      fresh = m0.fresh;
      low = m0.low;
      others = m0.others;
      phase = m0.phase;
      phase_is = m0.phase_is;
      belief = m0.belief;
      belief_is = m0.belief_is;
      request = m0.request;
      own = set_other asked (page_lane lane) 0 (Some request) (λ e. omega (arith, e)) ∙ m0.own;
      asked_at = m0.asked_at;
      rests = λ outside. absurd (false≢true (sym outside));
      writing = subst (ArePagesOf slot) (sym lanes_now) (pages_more slot lanes lane request m0.writing page other);
      slot_is = (
        record {
          writes = ready0.0.writes;
          fills = ready0.0.fills;
          spelled = ap (body_written body) lanes_now ∙ written_more commutes slot body lanes lane request m0.writing page other free_lane
              ∙ ap (λ x. body_after x request.id.call request.bytes) ready0.0.spelled ∙ ap (λ call. body_after (pages_body m0.pages) call request.bytes) writes_it.call
              ∙ ap (λ n. body_after (pages_body m0.pages) (Write (data_place n)) request.bytes) (sym count) ∙ bodies_fill.page m0.pages request.bytes m0.keeps.whole;
          closed = ready0.0.closed;
        },
        ready0.1,
        ready0.2,
      );
    })
  where
    whole_image : (n : Making) (order : ImageOrder) (pass : Pass) (st : Stage) (own : List (Option RequestId)) → n.order ≡ order → n.pass ≡ pass → n.stage ≡ st → n.writes ≡ own
        → n ≡ record { order = order; pass = pass; stage = st; writes = own; digester = n.digester }
    whole_image n order pass st own a p t w = ap (λ o. record { order = o; pass = n.pass; stage = n.stage; writes = n.writes; digester = n.digester }) a
        ∙ ap (λ o. record { order = order; pass = o; stage = n.stage; writes = n.writes; digester = n.digester }) p
        ∙ ap (λ o. record { order = order; pass = pass; stage = o; writes = n.writes; digester = n.digester }) t
        ∙ ap (λ o. record { order = order; pass = pass; stage = st; writes = o; digester = n.digester }) w

    -- what is being written is another page
    other_page : ArePagesOf image.order.slot (lanes_of asked) → IsOther request (lanes_of asked)
    other_page writing k r at = (s.apart (page_lane k) r.id
        (ap (λ ids. slice_get ids (page_lane k)) (sym b.knows.out) ∙ id_there asked (page_lane k) r (sym (lanes_get asked k) ∙ at))
        ((writing.each k r at).on ∙ sym (s.steps.0).slot)).apart

-- ---- the table

-- numbers that an image may have
its_numbers : (old : CoreView) (running : Running) (image : Making) → image.order ≡ order_of running image.order.serial image.order.state → 0 < running.number → running.parent < image.order.serial
    → AreItsNumbers image.order
its_numbers old running image own some less = grind arith

pub writes_table_lem : QuietSteps → PlansLead → CatalogFollows → MakingLaws → FileLaws → (old new : CoreView) (running : Running) (image next : Making) (number : ℕ) (request : Asked)
    (asked : List (Option Asked)) (bodies files : List (List ℕ)) → AsksFor old running image number (TableCall request) request next new → Believes old asked bodies files
    → Believes new (slice_set asked 0 (Some request)) bodies files
writes_table_lem quiet plans follows making file old new running image next number request asked bodies files s b =
    let writes : WritesTable image old.memory request next = s.steps.0 in
    let parts : AsksIn old running image 0 request next new = record {
      rest = s.rest;
      history = s.history;
      catalog = s.catalog;
      memory = s.memory;
      phases = s.phases;
      serial = s.serial;
      free = s.free;
      outs = s.outs;
      was = s.was;
      making = s.making;
      is = s.is;
    } in
    let m0 = m quiet follows old new running image next 0 request asked bodies files parts b writes.stage in
    let w0 = w quiet follows old new running image next 0 request asked bodies files parts b writes.stage in
    let ready0 = ready quiet follows old new running image next 0 request asked bodies files parts b writes.stage in
    let lanes_empty : ids_of (lanes_of asked) ≡ no_writes = writes_in quiet follows old new running image next 0 request asked bodies files parts b writes.stage ∙ writes.rests in
    let lanes_same : lanes_of (slice_set asked 0 (Some request)) ≡ lanes_of asked = lanes_beside asked 0 (Some request) (omega arith) in
    let still = body_still (file_at bodies image.order.slot) (lanes_of asked) lanes_empty in
    let text = table_text writes.tables in
    let later : Making = record image { stage = Close writes.next writes.header writes.tables } in
    let calls = body_calls writes.header text in
    let given = writes.gives.next in
    let place = data_place writes.header.pages in
    let chain = chain_of b.store running.parent in
    let i : Image = image_of writes.header m0.pages writes.tables in
    let body = file_at bodies image.order.slot in
    let numbers = its_numbers old running image s.own w0.some m0.low in
    let keeps : KeepsImage m0.pages chain later old.memory = subst (λ mem. KeepsImage m0.pages chain later mem) s.memory
    (subst (λ x. KeepsImage m0.pages chain x new.memory) writes.is (making.steps number m0.pages chain image next old.memory new.memory (TableCall request) s.steps m0.keeps)) in
    let filed : FilesImage m0.pages later = subst (FilesImage m0.pages) writes.is (filed_by image.order.kind refl m0.pages chain m0.keeps numbers (λ kind. m0.frozen (is_frozen_so writes.stage kind))) in
    let spelled : body_closed (pages_body m0.pages) writes.header text ≡ image_text i = file.fills image.order image.pass m0.pages writes.header writes.tables filed in
    believes_write quiet follows old new running image next 0 request asked bodies files parts b writes.stage
    place (sym (first_is (Write place) request.id.call text request.bytes _ writes.next.calls given).0) writes.gives.slot (own_beside asked (Some request)) later writes.is refl
    (ap ids_of lanes_same ∙ writes_in quiet follows old new running image next 0 request asked bodies files parts b writes.stage) (record {
      pages = m0.pages;
      keeps = keeps;
      files = filed;
      frozen = λ past.
          let f = m0.frozen (ap (λ p. (kind_number image.order.kind == 2) && p) (ap is_past_freeze writes.stage) ∙ past) in
          record {
            cut = f.cut;
            pends = f.pends;
            shown = f.shown;
            still = f.still;
            dumps = subst (λ mem. DumpsImage f.cut m0.pages chain later mem) s.memory
                (subst (λ x. DumpsImage f.cut m0.pages chain x new.memory) writes.is
                (making.dumps number f.cut m0.pages chain image next old.memory new.memory (TableCall request) s.steps (ap is_past_freeze writes.stage) s.rising m0.keeps f.dumps));
            areas = subst (HasAreasAtFreeze f.cut) writes.is (areas_by image.order.kind refl past m0.pages chain m0.keeps numbers f);
          };
      serial = m0.serial;
      fresh = m0.fresh;
      low = m0.low;
      others = m0.others;
      phase = m0.phase;
      phase_is = m0.phase_is;
      belief = m0.belief;
      belief_is = m0.belief_is;
      request = Some request;
      own = set_same asked 0 None (Some request) (free quiet follows old new running image next 0 request asked bodies files parts b writes.stage);
      asked_at = writes.gives.slot;
      rests = λ outside. writes.rests;
      writing = subst (ArePagesOf image.order.slot) (sym lanes_same) (no_pages image.order.slot (lanes_of asked) lanes_empty);
      slot_is = subst (λ x. ClosesBody image.order i writes.next m0.phase x (Some request) m0.belief b.dump) (sym (ap (body_written body) lanes_same ∙ still)) (record {
        place = 0;
        on = writes.gives.same_slot;
        left = ap (map kind_of_call) (sym given);
        leads = subst (λ cs. Leads m0.phase body cs Whole (image_text i)) given
            (subst (Leads m0.phase body calls Whole) (ap (λ x. body_closed x writes.header text) (sym still ∙ ready0.0.spelled) ∙ spelled)
            (plans.close_body m0.phase body writes.header text ready0.0.writes ready0.0.fills));
        shut = λ is. (ready0.0.closed, ready0.2);
        opening = λ is. absurd (false≢true is);
      });
    })
  where
    is_frozen_so : image.stage ≡ PassStage → image.order.kind ≡ Dump → is_frozen_dump image ≡ true
    is_frozen_so stage kind = ap (λ k. (kind_number k == 2) && is_past_freeze image.stage) kind ∙ ap is_past_freeze stage

    never_merged : (last : Bool) → (if last then Dump else PreDump) ≡ Merged → ⊥
    never_merged last same = grind arith

    filed_by : (kind : Kind) → image.order.kind ≡ kind → (pages : Pages) (chain : Chain) → KeepsImage pages chain image old.memory → AreItsNumbers image.order
        → (image.order.kind ≡ Dump → IsFrozenAs old.base (history_of old) running.number old.memory pages chain image) → FilesImage pages next
    filed_by PreDump is pages chain keeps numbers frozen = file.pre_dump number pages chain image next old.memory new.memory request s.steps is numbers keeps
    filed_by Dump is pages chain keeps numbers frozen =
        let f = frozen is in (file.dump number f.cut pages chain image next old.memory new.memory request s.steps is numbers s.rising keeps f.dumps).0
    filed_by Merged is pages chain keeps numbers frozen = absurd (never_merged (is_last running) (sym (ap (λ o. o.kind) s.own) ∙ is))

    areas_by : (kind : Kind) → image.order.kind ≡ kind → ((kind_number image.order.kind == 2) && true) ≡ true → (pages : Pages) (chain : Chain) → KeepsImage pages chain image old.memory
        → AreItsNumbers image.order → (f : IsFrozenAs old.base (history_of old) running.number old.memory pages chain image) → HasAreasAtFreeze f.cut next
    areas_by PreDump is past pages chain keeps numbers f = absurd (false≢true (ap (λ k. (kind_number k == 2) && true) (sym is) ∙ past))
    areas_by Dump is past pages chain keeps numbers f = (file.dump number f.cut pages chain image next old.memory new.memory request s.steps is numbers s.rising keeps f.dumps).1
    areas_by Merged is past pages chain keeps numbers f = absurd (never_merged (is_last running) (sym (ap (λ o. o.kind) s.own) ∙ is))
