-- What a slot is once an outcome of its plan's call was handed in.
use Rattle.std.proofs.Common.{◌≡◌, ◌≢◌, ◌⊎◌, ℕ, zero, suc, ◌&&◌, Bool, true, false, List, [], ◌∷◌, drop, length, map, Option, Some, None, refl, sym, ◌∙◌, ap, subst, inl, inr, arith}
use Rattle.std.proofs.lemmas.Bool.{false≢true}
use Rattle.sd_image.specs.declared.header.Header.{Header}
use Rattle.sd_image.specs.Image.{Image, IsImage, gate, image_text, is_open}
use Rattle.sd_image.specs.Table.{Listed, table_text}
use Rattle.sd_gate.specs.declared.call.Call.{Call}
use Rattle.sd_gate.specs.declared.call.Call.TheVariants.{Write, WriteHeader, Close as CloseCall, Open, Cut, Sync}
use Rattle.sd_gate.specs.declared.phase.Phase.{Phase}
use Rattle.sd_gate.specs.declared.phase.Phase.TheVariants.{Whole, Closing as ClosingPhase, Bare, Writing, Opening as OpeningPhase, Doubt, DoubtSynced}
use Rattle.sd_gate.specs.declared.slot_state.SlotState.{SlotState}
use Rattle.sd_gate.specs.declared.slot_state.SlotState.TheVariants as slot_state
use Rattle.sd_gate.specs.Laws.{Leads}
use Rattle.sd_gate.specs.Phases.{after, body_after, filled, is_ready, may_write, synced}
use Rattle.sd_gate.specs.Plans.{Planned}
use Rattle.sd_gate.specs.Requests.{Asked}
use Rattle.sd_gate.specs.Sequences.{Calls, body_calls, format_calls, table_place}
use Rattle.sd_rounds.specs.declared.image_order.ImageOrder.{ImageOrder}
use Rattle.sd_rounds.specs.declared.stage.Stage.{Stage}
use Rattle.sd_rounds.specs.declared.stage.Stage.TheVariants.{Format, Close}
use Rattle.sd_rounds.specs.Making.{plan_of}
use Rattle.sd_writing.specs.Files.{Pages, image_of}
use Rattle.sd_store_laws.specs.Beliefs.{Belief, Closed, Opening, FitsBelief}
use Rattle.sd_store_laws.specs.Gates.{IsBelievedAs, IsInDoubt, MayBelieve}
use Rattle.sd_crash_safety.specs.DumperOutcomes.{closes_for_sure, is_being_closed, is_sync}
use Rattle.sd_crash_safety.specs.LiveImages.{ClosesBody, IsFilledSlot, IsFormatting, IsSlotFor, is_opening_at, kind_of_call, pending_dump}
use Rattle.sd_crash_safety.proofs.Leads.{leads_end, leads_head}

-- ---- what is closed is believed so in its phase

opens_so : (body : List ℕ) (i : Image) → IsImage (gate ∷ body) i → is_open (gate ∷ body) ≡ false → ⊥
opens_so body i is shut = grind arith

-- an image that is in doubt may be there
doubt_opens : (body : List ℕ) (strong : Belief) → IsInDoubt body strong → (FitsBelief strong (gate ∷ body) → is_open (gate ∷ body) ≡ false) → ⊥
doubt_opens body strong is weaker = grind arith

pub closed_exact : (phase : Phase) (body : List ℕ) → MayBelieve phase body Closed → IsBelievedAs phase body Closed
closed_exact Whole body may = absurd (let is = may.is in opens_so body is.0 is.2 (may.weaker (gate ∷ body) (subst (λ b. FitsBelief b (gate ∷ body)) (sym is.1) is.2)))
closed_exact ClosingPhase body may = absurd (doubt_opens body may.strong may.is (may.weaker (gate ∷ body)))
closed_exact OpeningPhase body may = absurd (doubt_opens body may.strong may.is (may.weaker (gate ∷ body)))
closed_exact Doubt body may = absurd (doubt_opens body may.strong may.is (may.weaker (gate ∷ body)))
closed_exact DoubtSynced body may = absurd (doubt_opens body may.strong may.is (may.weaker (gate ∷ body)))
closed_exact _ body may = refl

-- ---- formatting

-- a slot that may be cut after this call is believed to be what its phase says, but that an image whose gate was closed is gone
abbrev pub belief_after : Bool → Belief → Belief
belief_after true belief = Closed
belief_after false belief = belief

formatted_sync : (phase : Phase) (body : List ℕ) (belief : Belief) → may_write (synced phase) ≡ true → IsBelievedAs phase body belief
    → IsBelievedAs (synced phase) body (belief_after (closes_for_sure phase Sync) belief)
formatted_sync phase body belief may is = grind arith

-- no other call than a sync closes for sure
only_syncs : (phase : Phase) (call : Call) → call ≢ Sync → closes_for_sure phase call ≡ false
only_syncs phase call other = grind arith

-- ---- the calls that are left

left_next : (call : Call) (calls all : List Call) (place : ℕ) → call ∷ calls ≡ drop place all → calls ≡ drop (suc place) all
left_next call calls [] zero same = absurd (none_of same)
  where
    none_of : call ∷ calls ≡ [] → ⊥
    none_of e = let no : suc (length calls) ≡ 0 = ap length e in omega (arith, no)
left_next call calls (x ∷ all) zero same = rest_of same
  where
    rest_of : call ∷ calls ≡ x ∷ all → calls ≡ all
    rest_of e = cc
left_next call calls [] (suc place) same = absurd (none_of same)
  where
    none_of : call ∷ calls ≡ [] → ⊥
    none_of e = let no : suc (length calls) ≡ 0 = ap length e in omega (arith, no)
left_next call calls (x ∷ all) (suc place) same = left_next call calls all place same

none_made : (k : ℕ) → drop {A = Call} k [] ≡ []
none_made k = grind arith

pub no_calls : (calls : Calls) → map kind_of_call calls ≡ [] → calls ≡ []
no_calls [] same = refl
no_calls (c ∷ calls) same = absurd (let no : suc (length (map kind_of_call calls)) ≡ 0 = ap length same in omega (arith, no))

-- the first of the calls that are left is one for which the slot is ready
ready_next : (phase last : Phase) (body final : List ℕ) (calls : Calls) (first : Call) (rest : List Call) → map kind_of_call calls ≡ first ∷ rest → Leads phase body calls last final
    → is_ready phase first ≡ true
ready_next phase last body final [] first rest names leads = absurd (let no : 0 ≡ suc (length rest) = ap length names in omega (arith, no))
ready_next phase last body final ((call, bytes) ∷ calls) first rest names leads =
    ap (is_ready phase) (sym (first_of names)) ∙ (leads_head phase last body final call bytes calls leads).ready
  where
    first_of : call ∷ map kind_of_call calls ≡ first ∷ rest → call ≡ first
    first_of e = cc

-- ---- a slot that is formatted

module _ (order : ImageOrder) (plan next : Planned) (phase : Phase) (body : List ℕ) (request : Asked) (belief : Belief) (f : IsFormatting order plan phase body (Some request) belief)
    (calls : next.calls ≡ plan.calls) (on : next.slot ≡ plan.slot) where
  abbrev then_phase : Phase
  then_phase = after phase request.id.call true

  abbrev then_body : List ℕ
  then_body = body_after body request.id.call request.bytes

  abbrev then_belief : Belief
  then_belief = belief_after (closes_for_sure phase request.id.call) belief

  led : Leads then_phase then_body plan.calls Bare []
  led = (leads_head phase Bare body [] request.id.call request.bytes plan.calls f.leads).rest

  now_ready : is_ready phase request.id.call ≡ true
  now_ready = (leads_head phase Bare body [] request.id.call request.bytes plan.calls f.leads).ready

  left_then : map kind_of_call plan.calls ≡ drop (suc f.place) (map kind_of_call (format_calls order.state))
  left_then = left_next request.id.call (map kind_of_call plan.calls) (map kind_of_call (format_calls order.state)) f.place f.left

  by_close : request.id.call ≡ CloseCall → IsBelievedAs then_phase then_body then_belief
  by_close same = grind arith

  by_cut : request.id.call ≡ Cut → IsBelievedAs then_phase then_body then_belief
  by_cut same = grind arith

  by_sync : request.id.call ≡ Sync → map kind_of_call plan.calls ≡ Cut ∷ [] → IsBelievedAs then_phase then_body then_belief
  by_sync same names = grind arith

  first_named : (first : Call) (rest : List Call) → request.id.call ∷ map kind_of_call plan.calls ≡ first ∷ rest → request.id.call ≡ first
  first_named first rest e = cc

  rest_named : (first : Call) (rest : List Call) → request.id.call ∷ map kind_of_call plan.calls ≡ first ∷ rest → map kind_of_call plan.calls ≡ rest
  rest_named first rest e = cc

  none_named : request.id.call ∷ map kind_of_call plan.calls ≡ [] → ⊥
  none_named e = let no : suc (length (map kind_of_call plan.calls)) ≡ 0 = ap length e in omega (arith, no)

  by_closing : (place : ℕ) → request.id.call ∷ map kind_of_call plan.calls ≡ drop place (CloseCall ∷ Sync ∷ Cut ∷ []) → IsBelievedAs then_phase then_body then_belief
  by_closing zero is = by_close (first_named CloseCall (Sync ∷ Cut ∷ []) is)
  by_closing (suc zero) is = by_sync (first_named Sync (Cut ∷ []) is) (rest_named Sync (Cut ∷ []) is)
  by_closing (suc (suc zero)) is = by_cut (first_named Cut [] is)
  by_closing (suc (suc (suc n))) is = absurd (none_named (is ∙ none_made n))

  by_cutting : (place : ℕ) → request.id.call ∷ map kind_of_call plan.calls ≡ drop place (Cut ∷ []) → IsBelievedAs then_phase then_body then_belief
  by_cutting zero is = by_cut (first_named Cut [] is)
  by_cutting (suc n) is = absurd (none_named (is ∙ none_made n))

  by_state : (state : SlotState) (place : ℕ) → request.id.call ∷ map kind_of_call plan.calls ≡ drop place (map kind_of_call (format_calls state))
      → IsBelievedAs then_phase then_body then_belief
  by_state slot_state.Closed place is = by_cutting place is
  by_state slot_state.Writing place is = by_cutting place is
  by_state _ place is = by_closing place is

  pub formatted_then : IsBelievedAs then_phase then_body then_belief
  formatted_then = by_state order.state f.place f.left

  pub formats_more : IsFormatting order next then_phase then_body None then_belief
  formats_more = record {
    place = suc f.place;
    on = on ∙ f.on;
    left = ap (map kind_of_call) calls ∙ left_then;
    leads = subst (λ cs. Leads then_phase then_body cs Bare []) (sym calls) led;
    formatted = formatted_then;
  }

  -- once all is done it is one closed byte
  pub formats_last : plan.calls ≡ [] → IsFilledSlot [] then_phase then_body then_belief
  formats_last none =
      let end = leads_end then_phase Bare then_body [] (subst (λ cs. Leads then_phase then_body cs Bare []) none led) in
      record {
        writes = ap may_write end.0;
        fills = ap filled end.0;
        spelled = end.1;
        closed = subst (λ p. IsBelievedAs p then_body then_belief) end.0 formatted_then;
      }

-- ---- one whose body is being closed

not_closing : (phase : Phase) → is_ready (synced phase) Open ≡ true → is_being_closed phase ≡ false
not_closing phase may = grind arith

pub record ClosesOn (order : ImageOrder) (i : Image) (next : Planned) (phase : Phase) (body : List ℕ) (request : Asked) (belief : Belief) (dump : Option Image) : Type 0 where
  pub closing_is : ClosesBody order i next (after phase request.id.call true) (body_after body request.id.call request.bytes) None belief dump
  pub stays : closes_for_sure phase request.id.call ≡ false
  -- it is closed still, or its gate was just opened
  pub exact : (belief ≡ Closed) ⊎ ((after phase request.id.call true ≡ OpeningPhase) × (belief ≡ Opening i) × (body_after body request.id.call request.bytes ≡ image_text i))

module _ (order : ImageOrder) (i : Image) (plan next : Planned) (phase : Phase) (body : List ℕ) (request : Asked) (belief : Belief) (dump : Option Image)
    (c : ClosesBody order i plan phase body (Some request) belief dump) (some : plan.calls ≢ []) (calls : next.calls ≡ plan.calls) (on : next.slot ≡ plan.slot) where
  abbrev all : Calls
  all = body_calls i.header (table_text i.spaces)

  led_on : Leads (after phase request.id.call true) (body_after body request.id.call request.bytes) plan.calls Whole (image_text i)
  led_on = (leads_head phase Whole body (image_text i) request.id.call request.bytes plan.calls c.leads).rest

  names_on : map kind_of_call plan.calls ≡ drop (suc c.place) (map kind_of_call all)
  names_on = left_next request.id.call (map kind_of_call plan.calls) (map kind_of_call all) c.place c.left

  closing_at : (place : ℕ) → map kind_of_call plan.calls ≡ drop place (map kind_of_call all)
      → (is_opening_at place None ≡ false → (belief ≡ Closed) × (dump ≡ None)) → (is_opening_at place None ≡ true → (belief ≡ Opening i) × (dump ≡ pending_dump order.kind i))
      → ClosesBody order i next (after phase request.id.call true) (body_after body request.id.call request.bytes) None belief dump
  closing_at place left shut opening = grind arith

  first_call : (first : Call) (rest : List Call) → request.id.call ∷ map kind_of_call plan.calls ≡ first ∷ rest → request.id.call ≡ first
  first_call first rest e = cc

  rest_calls : (first : Call) (rest : List Call) → request.id.call ∷ map kind_of_call plan.calls ≡ first ∷ rest → map kind_of_call plan.calls ≡ rest
  rest_calls first rest e = cc

  -- a call before the gate's opening, which is no sync
  shut_still : (place : ℕ) (call : Call) → request.id.call ≡ call → call ≢ Sync → map kind_of_call plan.calls ≡ drop place (map kind_of_call all) → is_opening_at place None ≡ false
      → (belief ≡ Closed) × (dump ≡ None) → ClosesOn order i next phase body request belief dump
  shut_still place call same other left not_yet closed = grind arith

  closes_at : (place : ℕ) → request.id.call ∷ map kind_of_call plan.calls ≡ drop place (map kind_of_call all)
      → (is_opening_at place (Some request) ≡ false → (belief ≡ Closed) × (dump ≡ None)) → (is_opening_at place (Some request) ≡ true → (belief ≡ Opening i) × (dump ≡ pending_dump order.kind i))
      → ClosesOn order i next phase body request belief dump
  closes_at zero is shut opening =
      shut_still 1 (Write (table_place i.header)) (first_call (Write (table_place i.header)) (WriteHeader ∷ Sync ∷ Open ∷ Sync ∷ []) is) (λ same. cc) (rest_calls (Write (table_place i.header)) (WriteHeader ∷ Sync ∷ Open ∷ Sync ∷ []) is) refl (shut refl)
  closes_at (suc zero) is shut opening =
      shut_still 2 WriteHeader (first_call WriteHeader (Sync ∷ Open ∷ Sync ∷ []) is) (λ same. cc) (rest_calls WriteHeader (Sync ∷ Open ∷ Sync ∷ []) is) refl (shut refl)
  closes_at (suc (suc zero)) is shut opening =
      let same = first_call Sync (Open ∷ Sync ∷ []) is in
      let names = rest_calls Sync (Open ∷ Sync ∷ []) is in
      let closed = shut refl in
      let led_sync = subst (λ x. Leads (after phase x true) (body_after body x request.bytes) plan.calls Whole (image_text i)) same led_on in
      record {
        closing_is = closing_at 3 names (λ at. closed) (λ at. absurd (false≢true at));
        stays = ap (closes_for_sure phase) same ∙ ap (λ x. x && true) (not_closing phase (ready_next (synced phase) Whole body (image_text i) plan.calls Open (Sync ∷ []) names led_sync));
        exact = inl closed.0;
      }
  closes_at (suc (suc (suc zero))) is shut opening =
      let same = first_call Open (Sync ∷ []) is in
      let names = rest_calls Open (Sync ∷ []) is in
      let opened = opening refl in
      let led_open = subst (λ x. Leads (after phase x true) (body_after body x request.bytes) plan.calls Whole (image_text i)) same led_on in
      record {
        closing_is = closing_at 4 names (λ at. absurd (false≢true (sym at))) (λ at. opened);
        stays = only_syncs phase request.id.call (λ at. (let no : Open ≡ Sync = sym same ∙ at in cc));
        exact = inr (ap (λ x. after phase x true) same, opened.0, ap (λ x. body_after body x request.bytes) same ∙ synced_text plan.calls names led_open);
      }
    where
      synced_text : (cs : Calls) → map kind_of_call cs ≡ Sync ∷ [] → Leads OpeningPhase body cs Whole (image_text i) → body ≡ image_text i
      synced_text [] names leads = absurd (let no : 0 ≡ 1 = ap length names in omega (arith, no))
      synced_text ((call, bytes) ∷ cs) names leads =
          let rest = (leads_head OpeningPhase Whole body (image_text i) call bytes cs leads).rest in
          let end = leads_end (after OpeningPhase call true) Whole (body_after body call bytes) (image_text i)
          (subst (λ x. Leads (after OpeningPhase call true) (body_after body call bytes) x Whole (image_text i)) (no_calls cs (tail_is names)) rest) in
          ap (λ x. body_after body x bytes) (sym (head_is names)) ∙ end.1
        where
          head_is : call ∷ map kind_of_call cs ≡ Sync ∷ [] → call ≡ Sync
          head_is e = cc

          tail_is : call ∷ map kind_of_call cs ≡ Sync ∷ [] → map kind_of_call cs ≡ []
          tail_is e = cc
  closes_at (suc (suc (suc (suc zero)))) is shut opening = absurd (some (no_calls plan.calls (rest_calls Sync [] is)))
  closes_at (suc (suc (suc (suc (suc n))))) is shut opening = absurd (let no : suc (length (map kind_of_call plan.calls)) ≡ 0 = ap length (is ∙ none_made n) in omega (arith, no))

  pub closes_more : ClosesOn order i next phase body request belief dump
  closes_more = closes_at c.place c.left c.shut c.opening

-- ---- a sync after a close

is_closing_phase : (phase : Phase) → is_being_closed phase ≡ true → phase ≡ ClosingPhase
is_closing_phase phase is = grind arith

is_sync_call : (call : Call) → is_sync call ≡ true → call ≡ Sync
is_sync_call call is = grind arith

pub syncs_closing : (phase : Phase) (call : Call) → closes_for_sure phase call ≡ true → (phase ≡ ClosingPhase) × (call ≡ Sync)
syncs_closing phase call is = grind arith

-- only a slot that is formatted is closed so, and its image is in doubt
pub closing_in_doubt : (stage : Stage) (order : ImageOrder) (pages : Pages) (phase : Phase) (body : List ℕ) (request : Asked) (belief : Belief) (dump : Option Image) (plan : Planned)
    → plan_of stage ≡ Some plan → ((own : Planned) (header : Header) (tables : List Listed) → stage ≡ Close own header tables → plan.calls ≢ [])
    → IsSlotFor stage order pages phase body (Some request) belief dump → closes_for_sure phase request.id.call ≡ true → IsInDoubt body belief
closing_in_doubt (Format own) order pages phase body request belief dump plan was some s is =
    let both = syncs_closing phase request.id.call is in
    subst (λ p. IsBelievedAs p body belief) both.0 (s.0.formatted.1 (λ closes. (let no : Sync ≡ CloseCall = sym both.1 ∙ closes in cc)))
closing_in_doubt (Close own header tables) order pages phase body request belief dump plan was some s is =
    absurd (false≢true (sym (closes_more order (image_of header pages tables) own own phase body request belief dump s (λ none. some own header tables refl (ap (λ (p : Planned). p.calls) (own_plan was) ∙ none)) refl refl).stays ∙ is))
  where
    own_plan : Some own ≡ Some plan → plan ≡ own
    own_plan e = cc
closing_in_doubt _ order pages phase body request belief dump plan was some s is = absurd (let no : Some request ≡ None = s.1 in cc)
