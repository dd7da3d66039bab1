-- A device call that was made leaves what is believed.
use Rattle.std.proofs.Common.{◌≡◌, ◌⊎◌, ℕ, zero, suc, Bool, true, List, [], ◌∷◌, drop, length, map, Option, Some, None, IfSome, slice_get, slice_set, refl, sym, ◌∙◌, ap, subst, inl, inr, arith}
use Rattle.std.proofs.lemmas.Bool.{cases_eq}
use Rattle.std.proofs.lemmas.Option.{same_Some}
use Rattle.sd_disk.specs.Contents.{file_at}
use Rattle.sd_gate.specs.declared.call.Call.{Call}
use Rattle.sd_gate.specs.declared.call.Call.TheVariants.{Close}
use Rattle.sd_gate.specs.declared.phase.Phase.{Phase}
use Rattle.sd_gate.specs.Calls.{AreKept, IsLook}
use Rattle.sd_gate.specs.declared.request_id.RequestId.{RequestId}
use Rattle.sd_gate.specs.Looks.{LooksAt, IsCallAt, Look, asks}
use Rattle.sd_gate.specs.Plans.{Planned}
use Rattle.sd_gate.specs.Phases.{body_after, after as phase_after}
use Rattle.sd_gate.specs.Requests.{Asked, Made}
use Rattle.sd_store_laws.specs.Beliefs.{Belief}
use Rattle.sd_crash_safety.specs.Believes.{Believes, IsCovered}
use Rattle.sd_crash_safety.specs.Knows.{AreLooks, SeesStore}
use Rattle.sd_crash_safety.specs.Laws.{IsMadeOf, PerformedIsBelieved}
use Rattle.sd_image.specs.Table.{table_text}
use Rattle.sd_image.specs.Image.{Image, image_text}
use Rattle.sd_chain.specs.Catalog.{Places}
use Rattle.sd_gate.specs.declared.phase.Phase.TheVariants.{Bare, Whole as WholePhase}
use Rattle.sd_gate.specs.Laws.{Leads, one_call}
use Rattle.sd_gate.specs.Sequences.{Calls, body_calls, format_calls}
use Rattle.sd_journal.specs.History.{Base, History}
use Rattle.sd_pagetable.specs.Contents.{Contents}
use Rattle.sd_rounds.specs.declared.image_order.ImageOrder.{ImageOrder}
use Rattle.sd_rounds.specs.declared.stage.Stage.{Stage as RoundStage}
use Rattle.sd_rounds.specs.declared.stage.Stage.TheVariants.{Format, Pass as PassStage, Close as CloseStage}
use Rattle.sd_rounds.specs.Dumper.{Running}
use Rattle.sd_rounds.specs.Making.{Making}
use Rattle.sd_writing.specs.Files.{Pages, image_of}
use Rattle.sd_writing.specs.Entries.{Place}
use Rattle.sd_gate.specs.declared.slot_state.SlotState.{SlotState}
use Rattle.sd_gate.specs.declared.slot_state.SlotState.TheVariants.{Open as OpenSlot}
use Rattle.sd_merge.specs.declared.retired.Retired.{Retired}
use Rattle.sd_merge.specs.declared.source.Source.{Source}
use Rattle.sd_merge.specs.declared.stage.Stage.{Stage as CopyStage}
use Rattle.sd_merge.specs.declared.stage.Stage.TheVariants as copy
use Rattle.sd_merge.specs.Copying.{Copying}
use Rattle.sd_merge.specs.Merger.{Doing, Retiring, due, copying, opened, retiring}
use Rattle.sd_merge.specs.Merger as merger
use Rattle.sd_crash_safety.specs.Merges.{IsAskedIn, IsCopyOn, IsMergeAt, IsMergeOn, IsReadOn, IsRetiredOn, lanes_in_slot, order_of_slot, request_in_slot, stage_in_slot}
use Rattle.sd_store_laws.specs.Store.{Store}
use Rattle.sd_crash_safety.specs.LiveImages.{AreLeft, ArePagesOf, IsAtWork, IsImageOn, IsLiveOn, IsPageOf, IsSlotFor, NoneAt, body_written, calls_left, kind_of_call, lanes_of}
use Rattle.sd_crash_safety.specs.View.{CoreView, history_of}
use Rattle.sd_opener.specs.declared.stage.Stage.{Stage}
use Rattle.sd_opener.specs.Looking.{Looking}
use Rattle.sd_opener.specs.Sees.{Sees, SeesSlot}
use Rattle.sd_crash_safety.proofs.Lanes.{lane_cases, lanes_beside, lanes_get, lanes_ids, lanes_set, put_cases}
use Rattle.sd_store_laws.proofs.SlotSteps.{set_other}
use Rattle.sd_crash_safety.proofs.Places.{ids_same, set_same}

-- a body after a call is the same where the call kept its bytes
pub kept_body : (body : List ℕ) (call : Call) (old new : List ℕ) → AreKept call old new → body_after body call new ≡ body_after body call old
kept_body body call old new kept = grind arith

kept_length : (call : Call) (old new : List ℕ) → AreKept call old new → length new ≡ length old
kept_length call old new kept = grind arith

leads_kept : (phase last : Phase) (body final : List ℕ) (call : Call) (old new : List ℕ) (calls : Calls) → AreKept call old new
    → Leads phase body ((call, old) ∷ calls) last final → Leads phase body ((call, new) ∷ calls) last final
leads_kept _ _ _ _ _ _ new _ kept (one_call phase last body final call old calls ready rest) =
    one_call phase last body final call new calls ready
    (subst (λ b. Leads (phase_after phase call true) b calls last final) (sym (kept_body body call old new kept)) rest)

module _ (asked : List (Option Asked)) (worker : ℕ) (request : Asked) (made : Made) (files new : List (List ℕ))
    (at : slice_get asked worker ≡ Some (Some request)) (is : IsMadeOf request made files new) where
  abbrev pub after : List (Option Asked)
  after = slice_set asked worker (Some made.request)

  after_at : slice_get after worker ≡ Some (Some made.request)
  after_at = set_same asked worker (Some request) (Some made.request) at

  -- a request that is out is the one that was made, or was out before
  was : (other : ℕ) (r : Asked) → slice_get after other ≡ Some (Some r)
      → (r ≡ made.request) ⊎ (slice_get asked other ≡ Some (Some r))
  was other r out = elim (cases_eq other worker) [
    | inl same ↦ inl (same_Some r made.request (same_Some (Some r) (Some made.request) (sym out ∙ ap (slice_get after) same ∙ after_at)))
    | inr differs ↦ inr (sym (set_other asked worker other (Some made.request) differs) ∙ out)
  ]

  -- ---- its slot is covered as before

  covered : (phases : List Phase) (bodies : List (List ℕ)) (beliefs : List Belief) → IsCovered phases bodies beliefs request
      → IsCovered phases bodies beliefs made.request
  covered phases bodies beliefs c = grind arith

  waiting : (phases : List Phase) (bodies : List (List ℕ)) (beliefs : List Belief)
      → ((other : ℕ) (r : Asked) → slice_get asked other ≡ Some (Some r) → IsCovered phases bodies beliefs r)
      → (other : ℕ) (r : Asked) → slice_get after other ≡ Some (Some r) → IsCovered phases bodies beliefs r
  waiting phases bodies beliefs before other r out = elim (was other r out) [
    | inl it ↦ subst (IsCovered phases bodies beliefs) (sym it) (covered phases bodies beliefs (before worker request at))
    | inr old ↦ before other r old
  ]

  -- ---- what an opener sees

  looks : AreLooks asked → AreLooks after
  looks before other r out = elim (was other r out) [
    | inl it ↦ subst (λ q. IsLook q.id.call) (sym it) (subst (λ id. IsLook id.call) (sym is.id) (before worker request at))
    | inr old ↦ before other r old
  ]

  made_at : (look : Look) → IsCallAt look request.id.call (length request.bytes) → IsCallAt look made.request.id.call (length made.request.bytes)
  made_at look here = subst (λ id. IsCallAt look id.call (length made.request.bytes)) (sym is.id)
      (subst (IsCallAt look request.id.call) (sym (kept_length request.id.call request.bytes made.request.bytes is.bytes)) here)

  plan_looks : (slot : ℕ) (file : List ℕ) (plan : Planned) → LooksAt slot file (Some request) plan → LooksAt slot file (Some made.request) plan
  plan_looks slot file plan (look, there, same, on, here) =
      (look, there, same ∙ ap (asks slot file look) (sym is.id), ap (λ (id : RequestId). id.slot) is.id ∙ on, made_at look here)

  slot_looks : (slot : ℕ) (file : List ℕ) (stage : Stage) → SeesSlot slot file (Some request) stage → SeesSlot slot file (Some made.request) stage
  slot_looks slot file stage s = grind arith

  sees_made : (opener : Looking) → Sees files (Some request) opener → Sees files (Some made.request) opener
  sees_made opener s = record {
    count = s.count;
    told = s.told;
    scanned = s.scanned;
    slot = slot_looks (length opener.told) (file_at files (length opener.told)) opener.stage s.slot;
  }

  sees_more : (phases : List Phase) (opener : Looking) → SeesStore files phases asked opener → new ≡ files → SeesStore new phases after opener
  sees_more phases opener s same = elim (cases_eq 2 worker) [
    | inl its ↦
        let told : Some s.request ≡ Some (Some request) = sym s.own ∙ ap (slice_get asked) its ∙ at in
        let asks_it : s.request ≡ Some request = same_Some s.request (Some request) told in
        record {
          looks = looks s.looks;
          request = Some made.request;
          own = ap (slice_get after) its ∙ after_at;
          sees = subst (λ all. Sees all (Some made.request) opener) (sym same) (sees_made opener (subst (λ r. Sees files r opener) asks_it s.sees));
          syncs = s.syncs;
          told = s.told;
          current = s.current;
        }
    | inr differs ↦ record {
      looks = looks s.looks;
      request = s.request;
      own = set_other asked worker 2 (Some made.request) differs ∙ s.own;
      sees = subst (λ all. Sees all s.request opener) (sym same) s.sees;
      syncs = s.syncs;
      told = s.told;
      current = s.current;
    }
  ]

  sees : (phases : List Phase) (opener : Option Looking) → IfSome opener (SeesStore files phases asked) → IfSome opener (SeesStore new phases after)
  sees phases None before = before
  sees phases (Some opener) s = sees_more phases opener s (is.looks (s.looks worker request at))

  -- ---- what is known of a store that is open

  none_before : (slot : ℕ) → NoneAt after slot → NoneAt asked slot
  none_before slot none other r out same = elim (cases_eq other worker) [
    | inl its ↦
        let own : r ≡ request = same_Some r request (same_Some (Some r) (Some request) (sym out ∙ ap (slice_get asked) its ∙ at)) in
        none worker made.request after_at (ap (λ (id : RequestId). id.slot) is.id ∙ ap (λ (q : Asked). q.id.slot) (sym own) ∙ same)
    | inr differs ↦ none other r (set_other asked worker other (Some made.request) differs ∙ out) same
  ]

  still_free : slice_get asked 0 ≡ Some None → slice_get after 0 ≡ Some None
  still_free free = grind (arith, cases_eq, set_other)

  leads_made : (phase last : Phase) (body final : List ℕ) (plan : Planned) → Leads phase body (calls_left (Some request) plan) last final
      → Leads phase body (calls_left (Some made.request) plan) last final
  leads_made phase last body final plan leads = grind (arith, leads_kept)

  left_made : (all : Calls) (place : ℕ) (plan : Planned) → AreLeft all place (Some request) plan → AreLeft all place (Some made.request) plan
  left_made all place plan left = ap (λ (id : RequestId). id.call ∷ map kind_of_call plan.calls) is.id ∙ left

  slot_made : (stage : RoundStage) (order : ImageOrder) (pages : Pages) (phase : Phase) (body : List ℕ) (belief : Belief) (dump : Option Image)
      → IsSlotFor stage order pages phase body (Some request) belief dump → IsSlotFor stage order pages phase body (Some made.request) belief dump
  slot_made (Format plan) order pages phase body belief dump s = (
    record {
      place = s.0.place;
      on = s.0.on;
      left = left_made (format_calls order.state) s.0.place plan s.0.left;
      leads = leads_made phase Bare body [] plan s.0.leads;
      formatted = (
        λ closes. s.0.formatted.0 (ap (λ (id : RequestId). id.call) (sym is.id) ∙ closes),
        λ other. s.0.formatted.1 (λ closes. other (ap (λ (id : RequestId). id.call) is.id ∙ closes)),
      );
    },
    s.1,
  )
  slot_made (CloseStage plan header tables) order pages phase body belief dump s = record {
    place = s.place;
    on = s.on;
    left = left_made (body_calls header (table_text tables)) s.place plan s.left;
    leads = leads_made phase WholePhase body (image_text (image_of header pages tables)) plan s.leads;
    shut = s.shut;
    opening = s.opening;
  }
  slot_made _ order pages phase body belief dump s = absurd (let no : Some request ≡ None = s.1 in cc)

  own_made : (r : Option Asked) → slice_get asked 0 ≡ Some r → (stage : RoundStage) (order : ImageOrder) (pages : Pages) (phase : Phase) (body : List ℕ) (belief : Belief) (dump : Option Image)
      → IsSlotFor stage order pages phase body r belief dump → IfSome r (λ x. x.id.slot ≡ order.slot)
      → (q : Option Asked) × (slice_get after 0 ≡ Some q) × IsSlotFor stage order pages phase body q belief dump × IfSome q (λ x. x.id.slot ≡ order.slot)
  own_made r own stage order pages phase body belief dump s here = elim (cases_eq 0 worker) [
    | inl its ↦
        let told : Some r ≡ Some (Some request) = sym own ∙ ap (slice_get asked) its ∙ at in (
          Some made.request,
          ap (slice_get after) its ∙ after_at,
          slot_made stage order pages phase body belief dump (subst (λ q. IsSlotFor stage order pages phase body q belief dump) (same_Some r (Some request) told) s),
          ap (λ (id : RequestId). id.slot) is.id ∙ subst (λ q. IfSome q (λ x. x.id.slot ≡ order.slot)) (same_Some r (Some request) told) here,
        )
    | inr differs ↦ (r, set_other asked worker 0 (Some made.request) differs ∙ own, s, here)
  ]

  -- ---- the writes of data pages

  body_made : (body : List ℕ) → body_after body made.request.id.call made.request.bytes ≡ body_after body request.id.call request.bytes
  body_made body = ap (λ (id : RequestId). body_after body id.call made.request.bytes) is.id ∙ kept_body body request.id.call request.bytes made.request.bytes is.bytes

  page_made : (slot : ℕ) → IsPageOf slot request → IsPageOf slot made.request
  page_made slot page = grind arith

  body_in_lane : (body : List ℕ) (lanes : List (Option Asked)) (lane : ℕ) → slice_get lanes lane ≡ Some (Some request)
      → body_written body (slice_set lanes lane (Some made.request)) ≡ body_written body lanes
  body_in_lane body [] lane out = absurd (let no : None ≡ Some (Some request) = out in cc)
  body_in_lane body (None ∷ lanes) zero out = absurd (let no : Some None ≡ Some (Some request) = out in cc)
  body_in_lane body (Some first ∷ lanes) zero out =
      let own : first ≡ request = same_Some first request (same_Some (Some first) (Some request) out) in
      ap (λ b. body_written b lanes) (body_made body) ∙ ap (λ (r : Asked). body_written (body_after body r.id.call r.bytes) lanes) (sym own)
  body_in_lane body (None ∷ lanes) (suc lane) out = body_in_lane body lanes lane out
  body_in_lane body (Some first ∷ lanes) (suc lane) out = body_in_lane (body_after body first.id.call first.bytes) lanes lane out

  -- a request in a lane had that id before
  in_lane : (lanes : List (Option Asked)) (lane other : ℕ) (r : Asked) → slice_get lanes lane ≡ Some (Some request) → slice_get (slice_set lanes lane (Some made.request)) other ≡ Some (Some r)
      → (old : Asked) × (slice_get lanes other ≡ Some (Some old)) × (r.id ≡ old.id) × ((slot : ℕ) → IsPageOf slot old → IsPageOf slot r)
  in_lane lanes lane other r out now = grind (arith, put_cases, same_Some)

  pages_in_lane : (slot : ℕ) (lanes : List (Option Asked)) (lane : ℕ) → slice_get lanes lane ≡ Some (Some request) → ArePagesOf slot lanes
      → ArePagesOf slot (slice_set lanes lane (Some made.request))
  pages_in_lane slot lanes lane out are = record {
    each = λ k r now. (let before = in_lane lanes lane k r out now in before.3 slot (are.each k before.0 before.1));
    apart = λ one two a b first second same. (
        let a_was = in_lane lanes lane one a out first in
        let b_was = in_lane lanes lane two b out second in
        are.apart one two a_was.0 b_was.0 a_was.1 b_was.1 (ap (λ (id : RequestId). id.call) (sym a_was.2) ∙ same ∙ ap (λ (id : RequestId). id.call) b_was.2)
        );
  }

  lanes_made : (slot : ℕ) (body : List ℕ) → ArePagesOf slot (lanes_of asked)
      → ArePagesOf slot (lanes_of after) × (body_written body (lanes_of after) ≡ body_written body (lanes_of asked))
  lanes_made slot body are = elim (lane_cases worker) [
    | inl few ↦
        let same : lanes_of after ≡ lanes_of asked = lanes_beside asked worker (Some made.request) few in
        (subst (ArePagesOf slot) (sym same) are, ap (body_written body) same)
    | inr in_page ↦
        let same : lanes_of after ≡ slice_set (lanes_of asked) in_page.0 (Some made.request) =
        ap (λ w. lanes_of (slice_set asked w (Some made.request))) in_page.1 ∙ lanes_set asked in_page.0 (Some made.request) in
        let out : slice_get (lanes_of asked) in_page.0 ≡ Some (Some request) = lanes_get asked in_page.0 ∙ ap (slice_get asked) (sym in_page.1) ∙ at in
        (subst (ArePagesOf slot) (sym same) (pages_in_lane slot (lanes_of asked) in_page.0 out are), ap (body_written body) same ∙ body_in_lane body (lanes_of asked) in_page.0 out)
  ]

  module _ (base : Base) (history : History) (memory : Contents) (phases : List Phase) (bodies : List (List ℕ)) (last : ℕ) (store : Store) (dump : Option Image) (beliefs : List Belief) where
    image_made : (parent number : ℕ) (image : Option Making) → IsImageOn base history memory phases asked bodies last store dump beliefs parent number image
        → IsImageOn base history memory phases after bodies last store dump beliefs parent number image
    image_made parent number None m = record { rests = m.rests; none = still_free m.none; alone = m.alone }
    image_made parent number (Some image) m =
        let own = own_made m.request m.own image.stage image.order m.pages m.phase (body_written (file_at bodies image.order.slot) (lanes_of asked)) m.belief dump m.slot_is m.asked_at in
        let lanes = lanes_made image.order.slot (file_at bodies image.order.slot) m.writing in
        record {
          pages = m.pages;
          keeps = m.keeps;
          files = m.files;
          frozen = m.frozen;
          serial = m.serial;
          fresh = m.fresh;
          low = m.low;
          others = m.others;
          phase = m.phase;
          phase_is = m.phase_is;
          belief = m.belief;
          belief_is = m.belief_is;
          request = own.0;
          own = own.1;
          asked_at = own.3;
          rests = m.rests;
          writing = lanes.0;
          slot_is = subst (λ body. IsSlotFor image.stage image.order m.pages m.phase body own.0 m.belief dump) (sym lanes.1) own.2;
        }

    work_made : (grows : Bool) (running : Option Running) → IsAtWork base history grows memory phases asked bodies last store dump beliefs running
        → IsAtWork base history grows memory phases after bodies last store dump beliefs running
    work_made grows None w = record { gives = w.gives; none = still_free w.none; alone = w.alone; idle = w.idle }
    work_made grows (Some running) w = record {
      some = w.some;
      chain = w.chain;
      newest = w.newest;
      within = w.within;
      unneeded = w.unneeded;
      apart = w.apart;
      image = image_made running.parent running.number running.image w.image;
    }

    in_use_made : (places : Places) (grows : Bool) (running : Option Running) → IsLiveOn base history places grows memory phases asked bodies last store dump beliefs running
        → IsLiveOn base history places grows memory phases after bodies last store dump beliefs running
    in_use_made places grows running u = record {
      catalog = u.catalog;
      grows_is = u.grows_is;
      used = u.used;
      exact = λ slot phase belief here of none. u.exact slot phase belief here of (none_before slot none);
      writes = lanes_ids after ∙ ap (drop 3) (ids_same asked worker made.request request at is.id) ∙ sym (lanes_ids asked) ∙ u.writes;
      job = work_made grows running u.job;
    }

  -- ---- the merge

  -- what the merger has out
  merger_made : (r : Option Asked) → slice_get asked 1 ≡ Some r
      → (q : Option Asked) × (slice_get after 1 ≡ Some q) × ((q ≡ r) ⊎ ((r ≡ Some request) × (q ≡ Some made.request)))
  merger_made r own = elim (cases_eq 1 worker) [
    | inl its ↦ (Some made.request, ap (slice_get after) its ∙ after_at, inr (same_Some r (Some request) (sym own ∙ ap (slice_get asked) its ∙ at), refl))
    | inr differs ↦ (r, set_other asked worker 1 (Some made.request) differs ∙ own, inl refl)
  ]

  silent_made : slice_get asked 1 ≡ Some None → slice_get after 1 ≡ Some None
  silent_made free = grind (arith, cases_eq, set_other)

  module _ (phases : List Phase) (bodies : List (List ℕ)) (last : ℕ) (store : Store) (beliefs : List Belief) (running : Option Running) where
    read_made : (target : ℕ) (source : Image) (page : Option Place) → IsReadOn phases bodies store beliefs running target source page request
        → IsReadOn phases bodies store beliefs running target source page made.request
    read_made target source page a = grind arith

    on_made : (target : ℕ) → request.id.slot ≡ target → made.request.id.slot ≡ target
    on_made target on = ap (λ (id : RequestId). id.slot) is.id ∙ on

    asked_made : (target : ℕ) (source : Image) (stage : CopyStage) (page : Option Place) → IsAskedIn stage phases bodies store beliefs running target source page (Some request)
        → IsAskedIn stage phases bodies store beliefs running target source page (Some made.request)
    asked_made target source stage page a = grind arith

    slot_in_made : (target : ℕ) (state : SlotState) (stage : CopyStage) (pages : Pages) (phase : Phase) (body : List ℕ) (belief : Belief)
        → IsSlotFor (stage_in_slot stage) (order_of_slot target state) pages phase (body_written body (lanes_in_slot stage (Some request))) (request_in_slot stage (Some request)) belief None
        → IsSlotFor (stage_in_slot stage) (order_of_slot target state) pages phase (body_written body (lanes_in_slot stage (Some made.request))) (request_in_slot stage (Some made.request)) belief None
    slot_in_made target state (copy.Format plan) pages phase body belief s = slot_made (Format plan) (order_of_slot target state) pages phase body belief None s
    slot_in_made target state copy.Pass pages phase body belief s = slot_made PassStage (order_of_slot target state) pages phase body belief None s
    slot_in_made target state (copy.PageRead plan) pages phase body belief s = s
    slot_in_made target state (copy.PageWrite plan) pages phase body belief s =
        subst (λ x. IsSlotFor PassStage (order_of_slot target state) pages phase x None belief None) (sym (body_made body)) s
    slot_in_made target state (copy.Close plan header tables) pages phase body belief s = slot_made (CloseStage plan header tables) (order_of_slot target state) pages phase body belief None s

    copy_made : (target : ℕ) (source : Image) (making : Copying) → IsCopyOn phases asked bodies last store beliefs running target source making
        → IsCopyOn phases after bodies last store beliefs running target source making
    copy_made target source making c = elim own.2 [
      | inl same ↦ with_it (subst (λ q. IsAskedIn making.stage phases bodies store beliefs running target source making.taking q) (sym same) c.asked_in)
          (subst (λ q. IsSlotFor (stage_in_slot making.stage) (order_of_slot target making.order.state) c.pages c.phase (body_written (file_at bodies target) (lanes_in_slot making.stage q)) (request_in_slot making.stage q) c.belief None) (sym same) c.slot_is)
      | inr both ↦ with_it (subst (λ q. IsAskedIn making.stage phases bodies store beliefs running target source making.taking q) (sym both.1)
          (asked_made target source making.stage making.taking (subst (λ q. IsAskedIn making.stage phases bodies store beliefs running target source making.taking q) both.0 c.asked_in)))
          (subst (λ q. IsSlotFor (stage_in_slot making.stage) (order_of_slot target making.order.state) c.pages c.phase (body_written (file_at bodies target) (lanes_in_slot making.stage q)) (request_in_slot making.stage q) c.belief None) (sym both.1)
          (slot_in_made target making.order.state making.stage c.pages c.phase (file_at bodies target) c.belief
          (subst (λ q. IsSlotFor (stage_in_slot making.stage) (order_of_slot target making.order.state) c.pages c.phase (body_written (file_at bodies target) (lanes_in_slot making.stage q)) (request_in_slot making.stage q) c.belief None) both.0 c.slot_is)))
    ]
      where
        own : (q : Option Asked) × (slice_get after 1 ≡ Some q) × ((q ≡ c.request) ⊎ ((c.request ≡ Some request) × (q ≡ Some made.request)))
        own = merger_made c.request c.own

        with_it : IsAskedIn making.stage phases bodies store beliefs running target source making.taking own.0
            → IsSlotFor (stage_in_slot making.stage) (order_of_slot target making.order.state) c.pages c.phase (body_written (file_at bodies target) (lanes_in_slot making.stage own.0)) (request_in_slot making.stage own.0) c.belief None
            → IsCopyOn phases after bodies last store beliefs running target source making
        with_it asked_in slot_is = grind arith

    retired_made : (r : Retiring) (one : Retired) → IsRetiredOn phases asked bodies store beliefs running r one → IsRetiredOn phases after bodies store beliefs running r one
    retired_made r one c = elim own.2 [
      | inl same ↦ with_it (λ out is_out. c.asked_at out (sym same ∙ is_out))
          (subst (λ q. IsSlotFor (Format r.plan) (order_of_slot one.slot OpenSlot) [] c.phase (file_at bodies one.slot) q c.belief None) (sym same) c.slot_is)
      | inr both ↦ with_it (λ out is_out. (let made_is = same_Some made.request out (sym both.1 ∙ is_out) in ap (λ (q : Asked). q.id.slot) (sym made_is) ∙ on_made one.slot (c.asked_at request both.0)))
          (subst (λ q. IsSlotFor (Format r.plan) (order_of_slot one.slot OpenSlot) [] c.phase (file_at bodies one.slot) q c.belief None) (sym both.1)
          (slot_made (Format r.plan) (order_of_slot one.slot OpenSlot) [] c.phase (file_at bodies one.slot) c.belief None
          (subst (λ q. IsSlotFor (Format r.plan) (order_of_slot one.slot OpenSlot) [] c.phase (file_at bodies one.slot) q c.belief None) both.0 c.slot_is)))
    ]
      where
        own : (q : Option Asked) × (slice_get after 1 ≡ Some q) × ((q ≡ c.request) ⊎ ((c.request ≡ Some request) × (q ≡ Some made.request)))
        own = merger_made c.request c.own

        with_it : ((out : Asked) → own.0 ≡ Some out → out.id.slot ≡ one.slot)
            → IsSlotFor (Format r.plan) (order_of_slot one.slot OpenSlot) [] c.phase (file_at bodies one.slot) own.0 c.belief None
            → IsRetiredOn phases after bodies store beliefs running r one
        with_it asked_at slot_is = grind arith

    merge_at_made : (target : ℕ) (origin : Source) (doing : Doing) → IsMergeAt phases asked bodies last store beliefs running target origin doing
        → IsMergeAt phases after bodies last store beliefs running target origin doing
    merge_at_made target origin due m = (m.0, silent_made m.1)
    merge_at_made target origin (copying making) m = record { repeats = m.repeats; order = m.order; copy = copy_made target m.repeats.image making m.copy }
    merge_at_made target origin (opened serial) m = m
    merge_at_made target origin (retiring r) m = record { alone = m.alone; one = m.one; there = m.there; closes = retired_made r m.one m.closes; before = m.before; later = m.later; apart = m.apart }

    merge_made : (merge : Option merger.Running) → IsMergeOn phases asked bodies last store beliefs running merge → IsMergeOn phases after bodies last store beliefs running merge
    merge_made None m = (m.0, silent_made m.1)
    merge_made (Some merge) m = merge_at_made merge.slot merge.source merge.doing m

  pub believes_on : (core : CoreView) (bodies : List (List ℕ)) → Believes core asked bodies files → Believes core after bodies new
  believes_on core bodies b = record {
    store = b.store;
    dump = b.dump;
    beliefs = b.beliefs;
    has = record {
      sound = b.has.sound;
      slots = b.has.slots;
      believed = b.has.believed;
      stored = b.has.stored;
      waiting = waiting core.phases bodies b.beliefs b.has.waiting;
      last = b.has.last;
      next = b.has.next;
    };
    knows = record {
      count = is.count ∙ b.knows.count;
      out = ids_same asked worker made.request request at is.id ∙ b.knows.out;
      sees = sees core.phases core.opener b.knows.sees;
      sure = b.knows.sure;
      is_live = λ stands. in_use_made core.base (history_of core) core.memory core.phases bodies core.numbers.serial b.store b.dump b.beliefs
          core.catalog core.grows core.dumper.running (b.knows.is_live stands);
      merging = λ stands. (let m = b.knows.merging stands in record {
        spelled = m.spelled;
        is = merge_made core.phases bodies core.numbers.serial b.store b.beliefs core.dumper.running core.merger m.is;
      });
    };
  }

pub performed_lem : PerformedIsBelieved
performed_lem core asked bodies files new worker request made at is b = believes_on asked worker request made files new at is core bodies b
