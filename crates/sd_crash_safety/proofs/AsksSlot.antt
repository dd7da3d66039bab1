-- What a slot is once the next call of its plan was asked for.
use Rattle.std.proofs.Common.{◌≡◌, ◌≢◌, ◌⊎◌, ℕ, zero, suc, true, false, List, [], ◌∷◌, drop, length, map, Option, Some, None, refl, sym, ◌∙◌, ap, subst, inr, arith}
use Rattle.std.proofs.lemmas.Bool.{false≢true}
use Rattle.sd_image.specs.Image.{Image, image_text}
use Rattle.sd_image.specs.declared.header.Header.{Header}
use Rattle.sd_image.specs.Table.{Listed, table_text}
use Rattle.sd_gate.specs.declared.call.Call.{Call}
use Rattle.sd_gate.specs.declared.call.Call.TheVariants.{Write, WriteHeader, Close as CloseCall, Open, Cut, Sync}
use Rattle.sd_gate.specs.declared.phase.Phase.{Phase}
use Rattle.sd_gate.specs.declared.phase.Phase.TheVariants.{Whole, Bare, Writing}
use Rattle.sd_gate.specs.declared.slot_state.SlotState.{SlotState}
use Rattle.sd_gate.specs.declared.slot_state.SlotState.TheVariants as slot_state
use Rattle.sd_gate.specs.Laws.{Leads}
use Rattle.sd_gate.specs.Phases.{after, body_after, closing, is_ready, may_close}
use Rattle.sd_gate.specs.Plans.{Gives, Planned}
use Rattle.sd_gate.specs.Requests.{Asked}
use Rattle.sd_gate.specs.Sequences.{Calls, body_calls, format_calls, table_place}
use Rattle.sd_rounds.specs.declared.image_order.ImageOrder.{ImageOrder}
use Rattle.sd_rounds.specs.declared.stage.Stage.{Stage}
use Rattle.sd_rounds.specs.declared.stage.Stage.TheVariants.{Format, Close}
use Rattle.sd_rounds.specs.Making.{plan_of, with_plan}
use Rattle.sd_writing.specs.Files.{Pages, image_of}
use Rattle.sd_store_laws.specs.Beliefs.{Belief, Closed, Kept, Closing, Opening}
use Rattle.sd_store_laws.specs.Gates.{IsBelievedAs}
use Rattle.sd_crash_safety.specs.LiveImages.{AreLeft, ClosesBody, IsFormatted, IsFormatting, IsSlotFor, calls_left, is_opening_at, kind_of_call, pending_dump}
use Rattle.sd_crash_safety.proofs.Leads.{leads_end, leads_head}

-- the image that a stage writes into its slot
abbrev pub image_in_stage : Stage → Pages → Option Image
image_in_stage (Close plan header tables) pages = Some (image_of header pages tables)
image_in_stage _ pages = None

-- a call that changes no belief
pub record AsksQuietly (stage : Stage) (order : ImageOrder) (pages : Pages) (phase : Phase) (body : List ℕ) (request : Asked) (belief : Belief) (dump : Option Image) : Type 0 where
  pub opens : request.id.call ≢ Open
  pub closes : request.id.call ≡ CloseCall → phase ≢ Whole
  pub slot_is : IsSlotFor stage order pages phase body (Some request) belief dump

-- the gate of an image that the slot keeps is closed
pub record AsksToClose (stage : Stage) (order : ImageOrder) (pages : Pages) (phase : Phase) (body : List ℕ) (request : Asked) (belief : Belief) (dump : Option Image) : Type 0 where
  pub call : request.id.call ≡ CloseCall
  pub whole : phase ≡ Whole
  pub image : Image
  pub kept : belief ≡ Kept image
  pub slot_is : IsSlotFor stage order pages phase body (Some request) (Closing image) dump

-- the gate of the image that is being made is opened
pub record AsksToOpen (stage : Stage) (order : ImageOrder) (pages : Pages) (phase : Phase) (body : List ℕ) (request : Asked) (belief : Belief) (dump : Option Image) : Type 0 where
  pub call : request.id.call ≡ Open
  pub image : Image
  pub its : image_in_stage stage pages ≡ Some image
  pub closed : belief ≡ Closed
  pub alone : dump ≡ None
  pub spelled : body ≡ image_text image
  pub slot_is : IsSlotFor stage order pages phase body (Some request) (Opening image) (pending_dump order.kind image)

abbrev pub AsksOn : Stage → ImageOrder → Pages → Phase → List ℕ → Asked → Belief → Option Image → Type 0
AsksOn stage order pages phase body request belief dump =
    AsksQuietly stage order pages phase body request belief dump
    ⊎ (AsksToClose stage order pages phase body request belief dump ⊎ AsksToOpen stage order pages phase body request belief dump)

-- ---- the slot is ready for the call

pub asked_ready : (phase last : Phase) (body final : List ℕ) (plan next : Planned) (request : Asked) → Gives plan next request → Leads phase body plan.calls last final
    → is_ready phase request.id.call ≡ true
asked_ready phase last body final plan next request gives leads =
    (leads_head phase last body final request.id.call request.bytes next.calls (subst (λ calls. Leads phase body calls last final) gives.next leads)).ready

left_then : (all : Calls) (place : ℕ) (plan next : Planned) (request : Asked) → Gives plan next request → AreLeft all place None plan → AreLeft all place (Some request) next
left_then all place plan next request gives left = ap (map kind_of_call) (sym gives.next) ∙ left

leads_then : (phase last : Phase) (body final : List ℕ) (plan next : Planned) (request : Asked) → Gives plan next request → Leads phase body (calls_left None plan) last final
    → Leads phase body (calls_left (Some request) next) last final
leads_then phase last body final plan next request gives leads = subst (λ calls. Leads phase body calls last final) gives.next leads

-- the names of calls: the first of some that are known
first_name : (call first : Call) (calls rest : List Call) → call ∷ calls ≡ first ∷ rest → call ≡ first
first_name call first calls rest same = cc

rest_names : (call first : Call) (calls rest : List Call) → call ∷ calls ≡ first ∷ rest → calls ≡ rest
rest_names call first calls rest same = cc

none_named : (call : Call) (calls : List Call) → call ∷ calls ≡ [] → ⊥
none_named call calls same = let no : suc (length calls) ≡ 0 = ap length same in omega (arith, no)

none_dropped : (k : ℕ) → drop {A = Call} k [] ≡ []
none_dropped k = grind arith

-- ---- formatting

-- what a slot is believed to be is that also while its close is out, unless it keeps an image
formatted_closing : (phase : Phase) (body : List ℕ) (belief : Belief) → phase ≢ Whole → may_close phase ≡ true → IsBelievedAs phase body belief → IsBelievedAs (closing phase) body belief
formatted_closing phase body belief other may is = grind arith

module _ (order : ImageOrder) (pages : Pages) (phase : Phase) (body : List ℕ) (belief : Belief) (dump : Option Image) (plan next : Planned) (request : Asked)
    (gives : Gives plan next request) (f : IsFormatting order plan phase body None belief) (alone : dump ≡ None) where
  formats_with : (belief_now : Belief) → IsFormatted phase body (Some request) belief_now → IsSlotFor (Format next) order pages phase body (Some request) belief_now dump
  formats_with belief_now is = grind arith

  -- another call than a close
  formats_other : request.id.call ≢ CloseCall → request.id.call ≢ Open → AsksOn (Format next) order pages phase body request belief dump
  formats_other other shut = grind arith

  formats_close : request.id.call ≡ CloseCall → AsksOn (Format next) order pages phase body request belief dump
  formats_close same = grind arith

  abbrev names : List Call
  names = map kind_of_call next.calls

  its_names : (request.id.call ∷ names) ≡ drop f.place (map kind_of_call (format_calls order.state))
  its_names = left_then (format_calls order.state) f.place plan next request gives f.left

  is_other : (call : Call) → request.id.call ≡ call → call ≢ CloseCall → call ≢ Open → AsksOn (Format next) order pages phase body request belief dump
  is_other call same close opening = formats_other (λ is. close (sym same ∙ is)) (λ is. opening (sym same ∙ is))

  formats_closing : (place : ℕ) → (request.id.call ∷ names) ≡ drop place (CloseCall ∷ Sync ∷ Cut ∷ []) → AsksOn (Format next) order pages phase body request belief dump
  formats_closing zero is = formats_close (first_name request.id.call CloseCall names (Sync ∷ Cut ∷ []) is)
  formats_closing (suc zero) is = is_other Sync (first_name request.id.call Sync names (Cut ∷ []) is) (λ same. cc) (λ same. cc)
  formats_closing (suc (suc zero)) is = is_other Cut (first_name request.id.call Cut names [] is) (λ same. cc) (λ same. cc)
  formats_closing (suc (suc (suc n))) is = absurd (none_named request.id.call names (is ∙ none_dropped n))

  formats_cutting : (place : ℕ) → (request.id.call ∷ names) ≡ drop place (Cut ∷ []) → AsksOn (Format next) order pages phase body request belief dump
  formats_cutting place is = grind (arith, first_name, none_named, none_dropped)

  formats_by : (state : SlotState) (place : ℕ) → (request.id.call ∷ names) ≡ drop place (map kind_of_call (format_calls state)) → AsksOn (Format next) order pages phase body request belief dump
  formats_by slot_state.Closed place is = formats_cutting place is
  formats_by slot_state.Writing place is = formats_cutting place is
  formats_by _ place is = formats_closing place is

  pub formats_on : AsksOn (Format next) order pages phase body request belief dump
  formats_on = formats_by order.state f.place its_names

-- ---- closing a body

module _ (order : ImageOrder) (pages : Pages) (phase : Phase) (body : List ℕ) (belief : Belief) (dump : Option Image) (plan next : Planned) (request : Asked)
    (gives : Gives plan next request) where
  module _ (header : Header) (tables : List Listed)
      (c : ClosesBody order (image_of header pages tables) plan phase body None belief dump) where
    abbrev i : Image
    i = image_of header pages tables

    abbrev all : Calls
    all = body_calls header (table_text tables)

    its_left : (request.id.call ∷ map kind_of_call next.calls) ≡ drop c.place (map kind_of_call all)
    its_left = left_then all c.place plan next request gives c.left

    closes_with : (place : ℕ) → (request.id.call ∷ map kind_of_call next.calls) ≡ drop place (map kind_of_call all) → (belief_now : Belief) (dump_now : Option Image)
        → (is_opening_at place (Some request) ≡ false → (belief_now ≡ Closed) × (dump_now ≡ None))
        → (is_opening_at place (Some request) ≡ true → (belief_now ≡ Opening i) × (dump_now ≡ pending_dump order.kind i))
        → IsSlotFor (Close next header tables) order pages phase body (Some request) belief_now dump_now
    closes_with place left belief_now dump_now shut opening = grind arith

    -- a call before the gate's opening
    before : (place : ℕ) → (request.id.call ∷ map kind_of_call next.calls) ≡ drop place (map kind_of_call all) → (call : Call) → request.id.call ≡ call → call ≢ CloseCall → call ≢ Open
        → is_opening_at place None ≡ false → is_opening_at place (Some request) ≡ false
        → (belief ≡ Closed) × (dump ≡ None) → AsksOn (Close next header tables) order pages phase body request belief dump
    before place left call same other_close other_open rests asks closed = grind arith

    -- the sync after it
    behind : (place : ℕ) → (request.id.call ∷ map kind_of_call next.calls) ≡ drop place (map kind_of_call all) → (call : Call) → request.id.call ≡ call → call ≢ CloseCall → call ≢ Open
        → is_opening_at place (Some request) ≡ true
        → (belief ≡ Opening i) × (dump ≡ pending_dump order.kind i) → AsksOn (Close next header tables) order pages phase body request belief dump
    behind place left call same other_close other_open asks opening = grind arith

    -- after the opening and its sync the body is that of the image
    opened_body : (calls : Calls) → map kind_of_call calls ≡ Sync ∷ [] → Leads (after phase Open true) (body_after body Open request.bytes) calls Whole (image_text i) → body ≡ image_text i
    opened_body [] names leads = absurd (let no : 0 ≡ 1 = ap length names in omega (arith, no))
    opened_body ((call, bytes) ∷ calls) names leads =
        let rest = (leads_head (after phase Open true) Whole body (image_text i) call bytes calls leads).rest in
        let named = first_name call Sync (map kind_of_call calls) [] names in
        let done = only_one calls (rest_names call Sync (map kind_of_call calls) [] names) in
        let end = subst (λ cs. Leads (after (after phase Open true) call true) (body_after body call bytes) cs Whole (image_text i)) done rest in
        ap (λ x. body_after body x bytes) (sym named) ∙ (leads_end (after (after phase Open true) call true) Whole (body_after body call bytes) (image_text i) end).1
      where
        only_one : (cs : Calls) → map kind_of_call cs ≡ [] → cs ≡ []
        only_one [] same = refl
        only_one (c ∷ cs) same = absurd (let no : suc (length (map kind_of_call cs)) ≡ 0 = ap length same in omega (arith, no))

    opens_it : (request.id.call ∷ map kind_of_call next.calls) ≡ Open ∷ Sync ∷ [] → (belief ≡ Closed) × (dump ≡ None) → AsksOn (Close next header tables) order pages phase body request belief dump
    opens_it left closed =
        let same = first_name request.id.call Open (map kind_of_call next.calls) (Sync ∷ []) left in
        let led = leads_head phase Whole body (image_text i) request.id.call request.bytes next.calls (subst (λ calls. Leads phase body calls Whole (image_text i)) gives.next c.leads) in
        inr (inr (record {
          call = same;
          image = i;
          its = refl;
          closed = closed.0;
          alone = closed.1;
          spelled = opened_body next.calls (rest_names request.id.call Open (map kind_of_call next.calls) (Sync ∷ []) left)
              (subst (λ x. Leads (after phase x true) (body_after body x request.bytes) next.calls Whole (image_text i)) same led.rest);
          slot_is = closes_with 3 left (Opening i) (pending_dump order.kind i) (λ is. absurd (false≢true (sym is))) (λ is. (refl, refl));
        }))

    closes_by : (place : ℕ) → (request.id.call ∷ map kind_of_call next.calls) ≡ drop place (map kind_of_call all)
        → (is_opening_at place None ≡ false → (belief ≡ Closed) × (dump ≡ None)) → (is_opening_at place None ≡ true → (belief ≡ Opening i) × (dump ≡ pending_dump order.kind i))
        → AsksOn (Close next header tables) order pages phase body request belief dump
    closes_by zero left shut opening =
        before 0 left (Write (table_place header)) (first_name request.id.call (Write (table_place header)) (map kind_of_call next.calls) (WriteHeader ∷ Sync ∷ Open ∷ Sync ∷ []) left)
        (λ same. cc) (λ same. cc) refl refl (shut refl)
    closes_by (suc zero) left shut opening = before 1 left WriteHeader (first_name request.id.call WriteHeader (map kind_of_call next.calls) (Sync ∷ Open ∷ Sync ∷ []) left) (λ same. cc) (λ same. cc) refl refl (shut refl)
    closes_by (suc (suc zero)) left shut opening = before 2 left Sync (first_name request.id.call Sync (map kind_of_call next.calls) (Open ∷ Sync ∷ []) left) (λ same. cc) (λ same. cc) refl refl (shut refl)
    closes_by (suc (suc (suc zero))) left shut opening = opens_it left (shut refl)
    closes_by (suc (suc (suc (suc zero)))) left shut opening = behind 4 left Sync (first_name request.id.call Sync (map kind_of_call next.calls) [] left) (λ same. cc) (λ same. cc) refl (opening refl)
    closes_by (suc (suc (suc (suc (suc n))))) left shut opening = absurd (none_named request.id.call (map kind_of_call next.calls) (left ∙ none_dropped n))

    pub closes_on : AsksOn (Close next header tables) order pages phase body request belief dump
    closes_on = closes_by c.place its_left c.shut c.opening

-- ---- any plan

pub asks_on : (stage : Stage) (order : ImageOrder) (pages : Pages) (phase : Phase) (body : List ℕ) (belief : Belief) (dump : Option Image) (plan next : Planned) (request : Asked)
    → plan_of stage ≡ Some plan → Gives plan next request → IsSlotFor stage order pages phase body None belief dump
    → (is_ready phase request.id.call ≡ true) × AsksOn (with_plan stage next) order pages phase body request belief dump
asks_on (Format own) order pages phase body belief dump plan next request was gives s =
    let mine : Gives own next request = subst (λ p. Gives p next request) (own_plan was) gives in
    (asked_ready phase Bare body [] own next request mine s.0.leads, formats_on order pages phase body belief dump own next request mine s.0 s.1)
  where
    own_plan : Some own ≡ Some plan → plan ≡ own
    own_plan e = cc
asks_on (Close own header tables) order pages phase body belief dump plan next request was gives s =
    let mine : Gives own next request = subst (λ p. Gives p next request) (own_plan was) gives in
    (asked_ready phase Whole body (image_text (image_of header pages tables)) own next request mine s.leads, closes_on order pages phase body belief dump own next request mine header tables s)
  where
    own_plan : Some own ≡ Some plan → plan ≡ own
    own_plan e = cc
asks_on _ order pages phase body belief dump plan next request was gives s = absurd (let no : None ≡ Some plan = was in cc)
