-- What is kept in the lanes: what the outcomes on a slot make of it, and what stays of that where one lane changes.
use Rattle.std.proofs.Common.{◌≡◌, ◌≢◌, ◌⊎◌, ℕ, ◌<◌, ◌==◌, Bool, true, cond, List, [], ◌∷◌, map, length, Some, None, slice_get, slice_set, zero, suc, refl, sym, ◌∙◌, ap, subst, inl, inr, arith}
use Rattle.std.proofs.lemmas.Bool.{cases_eq}
use Rattle.std.proofs.lemmas.Bool.Decides.{nat_tests}
use Rattle.std.proofs.lemmas.Option.{same_Some}
use Rattle.sd_gate.specs.declared.call.Call.{Call}
use Rattle.sd_gate.specs.declared.call.Call.TheVariants.{Write}
use Rattle.sd_gate.specs.declared.phase.Phase.{Phase}
use Rattle.sd_gate.specs.declared.phase.Phase.TheVariants as phase
use Rattle.sd_gate.specs.declared.request_id.RequestId.{RequestId}
use Rattle.sd_gate.specs.declared.worker.Worker.{Worker}
use Rattle.sd_gate.specs.Calls.{is_done}
use Rattle.sd_gate.specs.Laws.{WritesCommute}
use Rattle.sd_gate.specs.Phases.{after, body_after, filled, is_ready, may_write}
use Rattle.sd_gate.specs.Requests.{Asked, Made}
use Rattle.sd_gate.specs.Sequences.{data_place}
use Rattle.sd_crash_safety.specs.Calls.{IsFree}
use Rattle.sd_crash_safety.specs.LiveImages.{IsPageOf}
use Rattle.sd_world.specs.declared.call_state.CallState.TheVariants as its
use Rattle.sd_world.specs.declared.kept.Kept.{Kept}
use Rattle.sd_world.specs.declared.kept.Kept.TheVariants.{Nothing, Request, Outcome}
use Rattle.sd_world.specs.Consistent.{AreAskedInPages, AreInPlace, SlotNow, slot_after, slot_now, slot_with}
use Rattle.sd_world.specs.View.{IsAt, asked_id, asked_of, kept_id, made_id}
use Rattle.sd_store_laws.proofs.SlotSteps.{set_other as get_set_other}
use Rattle.sd_world.proofs.Lists.{get_map, get_set_same}

same_number : (n : ℕ) → (n == n) ≡ true
same_number n = grind (arith, nat_tests)

-- ---- what is kept in one lane

pub same_outcome : (a b : Made) → Some (Outcome a) ≡ Some (Outcome b) → a ≡ b
same_outcome a b e = cc

pub same_request : (a b : Asked) → Some (Request a) ≡ Some (Request b) → a ≡ b
same_request a b e = cc

made_of : (k : Kept) (id : RequestId) → made_id k ≡ Some id → (made : Made) × (k ≡ Outcome made) × (made.request.id ≡ id)
made_of k id is = grind arith

request_of : (k : Kept) (id : RequestId) → asked_id k ≡ Some id → (request : Asked) × (k ≡ Request request) × (request.id ≡ id)
request_of k id is = grind arith

-- the outcome at a place, and the request
pub made_there : (kept : List Kept) (worker : Worker) (place lane : ℕ) → IsAt kept its.Made worker place lane
    → (made : Made) × (slice_get kept lane ≡ Some (Outcome made)) × (made.request.id.worker ≡ worker)
made_there kept worker place lane at = grind arith

pub asked_there : (kept : List Kept) (worker : Worker) (place lane : ℕ) → IsAt kept its.Asked worker place lane
    → (request : Asked) × (slice_get kept lane ≡ Some (Request request)) × (request.id.worker ≡ worker)
asked_there kept worker place lane at = grind arith

-- the outcome at a worker's place is the worker's
pub whose : (kept : List Kept) (worker : Worker) (place lane : ℕ) (made : Made) → IsAt kept its.Made worker place lane → slice_get kept lane ≡ Some (Outcome made)
    → made.request.id.worker ≡ worker
whose kept worker place lane made at is = grind arith

-- what is asked has an id
pub asked_id_of : (k : Kept) (request : Asked) → asked_of k ≡ Some request → kept_id k ≡ Some request.id
asked_id_of k request is = grind arith

-- no outcome on this slot
pub IsNotOn : Kept → ℕ → Type 0
IsNotOn k slot = (made : Made) → k ≡ Outcome made → made.request.id.slot ≢ slot

pub nothing_on : (slot : ℕ) → IsNotOn Nothing slot
unfolding IsNotOn
nothing_on slot made is = absurd cc

pub request_on : (request : Asked) (slot : ℕ) → IsNotOn (Request request) slot
unfolding IsNotOn
request_on request slot made is = absurd cc

pub outcome_off : (made : Made) (slot : ℕ) → made.request.id.slot ≢ slot → IsNotOn (Outcome made) slot
unfolding IsNotOn
outcome_off made slot off other is = λ on. off (ap (λ (x : Made). x.request.id.slot) (same_outcome made other (ap Some is)) ∙ on)

-- ---- what one lane makes of a slot

with_off : (k : Kept) (slot : ℕ) (s : SlotNow) → IsNotOn k slot → slot_with k slot s ≡ s
unfolding IsNotOn
with_off k slot s off = grind arith

with_on : (made : Made) (slot : ℕ) (s : SlotNow) → made.request.id.slot ≡ slot → slot_with (Outcome made) slot s ≡ slot_after s made
with_on made slot s on = ap (λ n. cond (n == slot) (slot_after s made) s) on ∙ ap (λ b. cond b (slot_after s made) s) (same_number slot)

-- none is on the slot
abbrev pub NoneOn : List Kept → ℕ → Type 0
NoneOn kept slot = (lane : ℕ) (made : Made) → slice_get kept lane ≡ Some (Outcome made) → made.request.id.slot ≢ slot

pub none_now : (kept : List Kept) (slot : ℕ) (s : SlotNow) → NoneOn kept slot → slot_now kept slot s ≡ s
unfolding IsNotOn
none_now [] slot s none = refl
none_now (k ∷ kept) slot s none =
    ap (slot_now kept slot) (with_off k slot s (λ made is. none 0 made (ap Some is))) ∙ none_now kept slot s (λ lane made at. none (suc lane) made at)

-- where no request is out on a slot, no outcome is kept on it
pub free_now : (kept : List Kept) (slot : ℕ) (s : SlotNow) → IsFree (map kept_id kept) slot → slot_now kept slot s ≡ s
free_now kept slot s free = none_now kept slot s (λ lane made at. free lane made.request.id (get_map kept_id kept lane (Outcome made) at))

-- a lane changes, and is on another slot before and after
pub set_elsewhere : (kept : List Kept) (lane : ℕ) (old new : Kept) (slot : ℕ) (s : SlotNow) → slice_get kept lane ≡ Some old → IsNotOn old slot → IsNotOn new slot
    → slot_now (slice_set kept lane new) slot s ≡ slot_now kept slot s
set_elsewhere [] lane old new slot s at off on = refl
set_elsewhere (k ∷ kept) zero old new slot s at off on =
    ap (slot_now kept slot) (with_off new slot s on ∙ sym (ap (λ x. slot_with x slot s) (same_Some k old at) ∙ with_off old slot s off))
set_elsewhere (k ∷ kept) (suc lane) old new slot s at off on = set_elsewhere kept lane old new slot (slot_with k slot s) at off on

-- ---- two calls on one slot

-- both write pages, and not the same one
pub record WritePages (slot : ℕ) (a b : Made) : Type 0 where
  pub first : IsPageOf slot a.request
  pub second : IsPageOf slot b.request
  pub apart : a.request.id.call ≢ b.request.id.call

wrote : Phase → Bool → Phase
wrote p done = cond done (filled p) phase.Shut

wrote_twice : (p : Phase) (one other : Bool) → wrote (wrote p one) other ≡ wrote (wrote p other) one
unfolding wrote
wrote_twice p one other = grind arith

after_write : (slot : ℕ) (made : Made) (p : Phase) (done : Bool) → IsPageOf slot made.request → after p made.request.id.call done ≡ wrote p done
unfolding wrote
after_write slot made p done page = ap (λ c. after p c done) page.call

slot_of : Phase → List ℕ → SlotNow
slot_of p body = record { phase = p; body = body }

slot_same : (p q : Phase) (a b : List ℕ) → p ≡ q → a ≡ b → slot_of p a ≡ slot_of q b
slot_same p q a b phases bodies = ap (λ x. slot_of x a) phases ∙ ap (slot_of q) bodies

pub commute : WritesCommute → (slot : ℕ) (s : SlotNow) (a b : Made) → WritePages slot a b → slot_after (slot_after s a) b ≡ slot_after (slot_after s b) a
unfolding slot_of
commute law slot s a b pages =
    slot_same (after (after s.phase a.request.id.call (is_done a.answer)) b.request.id.call (is_done b.answer))
    (after (after s.phase b.request.id.call (is_done b.answer)) a.request.id.call (is_done a.answer))
    (body_after (body_after s.body a.request.id.call a.request.bytes) b.request.id.call b.request.bytes)
    (body_after (body_after s.body b.request.id.call b.request.bytes) a.request.id.call a.request.bytes) phases bodies
  where
    phases : after (after s.phase a.request.id.call (is_done a.answer)) b.request.id.call (is_done b.answer)
        ≡ after (after s.phase b.request.id.call (is_done b.answer)) a.request.id.call (is_done a.answer)
    phases = after_write slot b (after s.phase a.request.id.call (is_done a.answer)) (is_done b.answer) pages.second
        ∙ ap (λ p. wrote p (is_done b.answer)) (after_write slot a s.phase (is_done a.answer) pages.first)
        ∙ wrote_twice s.phase (is_done a.answer) (is_done b.answer)
        ∙ sym (after_write slot a (after s.phase b.request.id.call (is_done b.answer)) (is_done a.answer) pages.first
        ∙ ap (λ p. wrote p (is_done a.answer)) (after_write slot b s.phase (is_done b.answer) pages.second))

    i : ℕ
    i = data_place pages.first.place

    j : ℕ
    j = data_place pages.second.place

    differ : pages.first.place ≢ pages.second.place
    differ same = pages.apart (pages.first.call ∙ ap (λ n. Write (data_place n)) same ∙ sym pages.second.call)

    bodies : body_after (body_after s.body a.request.id.call a.request.bytes) b.request.id.call b.request.bytes
        ≡ body_after (body_after s.body b.request.id.call b.request.bytes) a.request.id.call a.request.bytes
    bodies = grind arith

-- the outcomes of these lanes on a slot write other pages than this one
abbrev pub WriteOthers : Made → ℕ → List Kept → Type 0
WriteOthers made slot kept = (lane : ℕ) (other : Made) → slice_get kept lane ≡ Some (Outcome other) → other.request.id.slot ≡ slot → WritePages slot made other

with_commutes : WritesCommute → (k : Kept) (slot : ℕ) (s : SlotNow) (made : Made)
    → ((other : Made) → k ≡ Outcome other → other.request.id.slot ≡ slot → WritePages slot made other)
    → slot_with k slot (slot_after s made) ≡ slot_after (slot_with k slot s) made
with_commutes law (Outcome other) slot s made others = elim (cases_eq other.request.id.slot slot) [
  | inl on ↦ with_on other slot (slot_after s made) on ∙ commute law slot s made other (others other refl on)
      ∙ sym (ap (λ t. slot_after t made) (with_on other slot s on))
  | inr off ↦ with_off (Outcome other) slot (slot_after s made) (outcome_off other slot off)
      ∙ sym (ap (λ t. slot_after t made) (with_off (Outcome other) slot s (outcome_off other slot off)))
]
with_commutes law _ slot s made others = refl

now_after : WritesCommute → (kept : List Kept) (slot : ℕ) (s : SlotNow) (made : Made) → WriteOthers made slot kept
    → slot_now kept slot (slot_after s made) ≡ slot_after (slot_now kept slot s) made
now_after law [] slot s made others = refl
now_after law (k ∷ kept) slot s made others =
    ap (slot_now kept slot) (with_commutes law k slot s made (λ other is on. others 0 other (ap Some is) on))
    ∙ now_after law kept slot (slot_with k slot s) made (λ lane other at on. others (suc lane) other at on)

-- the others' lanes, without this one
abbrev pub WriteBeside : Made → ℕ → ℕ → List Kept → Type 0
WriteBeside made lane slot kept = (other_lane : ℕ) (other : Made) → other_lane ≢ lane → slice_get kept other_lane ≡ Some (Outcome other) → other.request.id.slot ≡ slot
    → WritePages slot made other

-- a call that was asked for in a lane is made: the slot is then as that call leaves it
pub made_now : WritesCommute → (kept : List Kept) (lane slot : ℕ) (s : SlotNow) (request : Asked) (made : Made) → slice_get kept lane ≡ Some (Request request)
    → made.request.id.slot ≡ slot → WriteBeside made lane slot kept
    → slot_now (slice_set kept lane (Outcome made)) slot s ≡ slot_after (slot_now kept slot s) made
made_now law [] lane slot s request made at on beside = absurd (let no : None ≡ Some (Request request) = at in cc)
made_now law (k ∷ kept) zero slot s request made at on beside =
    ap (slot_now kept slot) (with_on made slot s on) ∙ now_after law kept slot s made (λ lane other is same. beside (suc lane) other (λ no. omega (arith, no)) is same)
    ∙ ap (λ x. slot_after (slot_now kept slot x) made) (sym (ap (λ x. slot_with x slot s) (same_Some k (Request request) at)))
made_now law (k ∷ kept) (suc lane) slot s request made at on beside =
    made_now law kept lane slot (slot_with k slot s) request made at on (λ other_lane other differs is same. beside (suc other_lane) other (λ no. differs (omega (arith, no))) is same)

-- an outcome is handed in: the slot is as before
pub handed_now : WritesCommute → (kept : List Kept) (lane slot : ℕ) (s : SlotNow) (made : Made) → slice_get kept lane ≡ Some (Outcome made)
    → made.request.id.slot ≡ slot → WriteBeside made lane slot kept
    → slot_now (slice_set kept lane Nothing) slot (slot_after s made) ≡ slot_now kept slot s
handed_now law [] lane slot s made at on beside = absurd (let no : None ≡ Some (Outcome made) = at in cc)
handed_now law (k ∷ kept) zero slot s made at on beside =
    ap (slot_now kept slot) (sym (ap (λ x. slot_with x slot s) (same_Some k (Outcome made) at) ∙ with_on made slot s on))
handed_now law (k ∷ kept) (suc lane) slot s made at on beside =
    ap (slot_now (slice_set kept lane Nothing) slot) (with_commutes law k slot s made (λ other is same. beside 0 other (λ no. omega (arith, no)) (ap Some is) same))
    ∙ handed_now law kept lane slot (slot_with k slot s) made at on (λ other_lane other differs is same. beside (suc other_lane) other (λ no. differs (omega (arith, no))) is same)

-- ---- a call that is ready stays so while pages are written

pub record IsWrite (call : Call) : Type 0 where
  pub at : ℕ
  pub is : call ≡ Write at

pub written_writes : (p : Phase) (call : Call) (done : Bool) → IsWrite call → may_write p ≡ true → may_write (after p call done) ≡ true
written_writes p call done write may = grind arith

-- the outcomes of these lanes on a slot are writes
abbrev pub AreWrites : ℕ → List Kept → Type 0
AreWrites slot kept = (lane : ℕ) (made : Made) → slice_get kept lane ≡ Some (Outcome made) → made.request.id.slot ≡ slot → IsWrite made.request.id.call

-- a property of a slot that writes keep
pub writes_keep : (P : SlotNow → Type 0) → ((s : SlotNow) (made : Made) → IsWrite made.request.id.call → P s → P (slot_after s made))
    → (kept : List Kept) (slot : ℕ) (s : SlotNow) → AreWrites slot kept → P s → P (slot_now kept slot s)
writes_keep P keeps [] slot s are holds = holds
writes_keep P keeps (k ∷ kept) slot s are holds =
    writes_keep P keeps kept slot (slot_with k slot s) (λ lane made at on. are (suc lane) made at on) (first k (λ made is on. are 0 made (ap Some is) on))
  where
    first : (one : Kept) → ((made : Made) → one ≡ Outcome made → made.request.id.slot ≡ slot → IsWrite made.request.id.call) → P (slot_with one slot s)
    first Nothing own = holds
    first (Request request) own = holds
    first (Outcome made) own = elim (cases_eq made.request.id.slot slot) [
      | inl on ↦ subst P (sym (with_on made slot s on)) (keeps s made (own made refl on) holds)
      | inr off ↦ subst P (sym (with_off (Outcome made) slot s (outcome_off made slot off))) holds
    ]

-- ---- lanes that were set

-- what is kept in a lane after one of them was set
pub record IsSet (kept : List Kept) (lane : ℕ) (new : Kept) (other : ℕ) (k : Kept) : Type 0 where
  pub either : ((other ≡ lane) × (k ≡ new)) ⊎ ((other ≢ lane) × (slice_get kept other ≡ Some k))

pub is_set : (kept : List Kept) (lane : ℕ) (old new : Kept) → slice_get kept lane ≡ Some old → (other : ℕ) (k : Kept)
    → slice_get (slice_set kept lane new) other ≡ Some k → IsSet kept lane new other k
is_set kept lane old new at other k there = grind (arith, cases_eq, same_Some, get_set_same, get_set_other)

length_set : {A : Type 0} (xs : List A) (i : ℕ) (x : A) → length (slice_set xs i x) ≡ length xs
length_set (y ∷ xs) (suc i) x = ap suc (length_set xs i x)
length_set _ _ x = refl

-- nothing is out in the lane any more
pub cleared_places : (kept : List Kept) (slots lane : ℕ) (old : Kept) → slice_get kept lane ≡ Some old → AreInPlace kept slots
    → AreInPlace (slice_set kept lane Nothing) slots
cleared_places kept slots lane old at places = record {
  count = length_set kept lane Nothing ∙ places.count;
  range = λ other k request there has. places.range other k request (still other k request there has) has;
  pages = λ other k request there has some. places.pages other k request (still other k request there has) has some;
  apart = λ one other j k a b at_one at_other has_a has_b on.
      places.apart one other j k a b (still one j a at_one has_a) (still other k b at_other has_b) has_a has_b on;
}
  where
    still : (other : ℕ) (k : Kept) (request : Asked) → slice_get (slice_set kept lane Nothing) other ≡ Some k → asked_of k ≡ Some request → slice_get kept other ≡ Some k
    still other k request there has = elim (is_set kept lane old Nothing at other k there).either [
      | inl (same, is) ↦ absurd (let nothing : None ≡ Some request = sym (ap asked_of is) ∙ has in cc)
      | inr (differs, was) ↦ was
    ]

-- this is out in the lane, on a slot on which all others are in lanes of pages as it is, and write other ones
pub filled_places : (kept : List Kept) (slots lane : ℕ) (old new : Kept) (request : Asked) → slice_get kept lane ≡ Some old → asked_of new ≡ Some request
    → request.id.slot < slots → (2 < lane → IsPageOf request.id.slot request)
    → ((other : ℕ) (k : Kept) (b : Asked) → other ≢ lane → slice_get kept other ≡ Some k → asked_of k ≡ Some b → request.id.slot ≡ b.id.slot → AreAskedInPages lane other request b)
    → AreInPlace kept slots → AreInPlace (slice_set kept lane new) slots
filled_places kept slots lane old new request at asks slot page beside places = record {
  count = length_set kept lane new ∙ places.count;
  range = λ other k r there has. elim (is_set kept lane old new at other k there).either [
    | inl (same, is) ↦ subst (λ (q : Asked). q.id.slot < slots) (sym (its_own k r is has)) slot
    | inr (differs, was) ↦ places.range other k r was has
  ];
  pages = λ other k r there has some. elim (is_set kept lane old new at other k there).either [
    | inl (same, is) ↦ subst (λ (q : Asked). IsPageOf q.id.slot q) (sym (its_own k r is has)) (page (subst (λ n. 2 < n) same some))
    | inr (differs, was) ↦ places.pages other k r was has some
  ];
  apart = λ one other j k a b at_one at_other has_a has_b on. elim (is_set kept lane old new at one j at_one).either [
    | inl (same_one, is_one) ↦ elim (is_set kept lane old new at other k at_other).either [
      | inl (same_other, is_other) ↦ inl (same_one ∙ sym same_other)
      | inr (differs, was) ↦ inr (subst (λ n. AreAskedInPages n other a b) (sym same_one) (subst (λ (q : Asked). AreAskedInPages lane other q b) (sym (its_own j a is_one has_a))
          (beside other k b differs was has_b (ap (λ (q : Asked). q.id.slot) (sym (its_own j a is_one has_a)) ∙ on))))
    ]
    | inr (differs_one, was_one) ↦ elim (is_set kept lane old new at other k at_other).either [
      | inl (same_other, is_other) ↦
          let it = beside one j a differs_one was_one has_a (ap (λ (q : Asked). q.id.slot) (sym (its_own k b is_other has_b)) ∙ sym on) in
          inr (record {
            first = it.second;
            second = subst (λ n. 2 < n) (sym same_other) it.first;
            apart = λ calls. it.apart (ap (λ (q : Asked). q.id.call) (sym (its_own k b is_other has_b)) ∙ sym calls);
          })
      | inr (differs_other, was_other) ↦ places.apart one other j k a b was_one was_other has_a has_b on
    ]
  ];
}
  where
    its_own : (k : Kept) (r : Asked) → k ≡ new → asked_of k ≡ Some r → r ≡ request
    its_own k r is has = same_Some r request (sym has ∙ ap asked_of is ∙ asks)

-- ---- what places say of outcomes on one slot

-- two on one slot write other pages
pub beside_of : (kept : List Kept) (slots lane : ℕ) (k : Kept) (made : Made) → AreInPlace kept slots → slice_get kept lane ≡ Some k → asked_of k ≡ Some made.request
    → WriteBeside made lane made.request.id.slot kept
beside_of kept slots lane k made places at asks other_lane other differs there same =
    elim (places.apart lane other_lane k (Outcome other) made.request other.request at there asks refl (sym same)) [
      | inl own ↦ absurd (differs (sym own))
      | inr pages ↦ record {
        first = places.pages lane k made.request at asks pages.first;
        second = subst (λ n. IsPageOf n other.request) same (places.pages other_lane (Outcome other) other.request there refl pages.second);
        apart = pages.apart;
      }
    ]

page_writes : (slot : ℕ) (made : Made) → IsPageOf slot made.request → IsWrite made.request.id.call
page_writes slot made page = record { at = data_place page.place; is = page.call }

-- what is out in a lane of a worker is alone on its slot
pub alone_beside : (kept : List Kept) (slots lane : ℕ) (k : Kept) (request : Asked) → AreInPlace kept slots → slice_get kept lane ≡ Some k → asked_of k ≡ Some request → lane < 3
    → (other_lane : ℕ) (other : Made) → other_lane ≢ lane → slice_get kept other_lane ≡ Some (Outcome other) → other.request.id.slot ≢ request.id.slot
alone_beside kept slots lane k request places at asks few other_lane other differs there = λ same.
    elim (places.apart lane other_lane k (Outcome other) request other.request at there asks refl (sym same)) [
      | inl own ↦ differs (sym own)
      | inr pages ↦ (let more = pages.first in omega (arith, few, more))
    ]

-- a lane of a worker, or one of pages
pub lane_cases : (lane : ℕ) → (lane < 3) ⊎ (2 < lane)
lane_cases lane = grind arith

-- the outcome in a lane of a worker is the one on its slot
pub alone_now : (kept : List Kept) (slots lane : ℕ) (made : Made) (s : SlotNow) → WritesCommute → AreInPlace kept slots → slice_get kept lane ≡ Some (Outcome made) → lane < 3
    → slot_now kept made.request.id.slot s ≡ slot_after s made
alone_now kept slots lane made s law places at few =
    sym (handed_now law kept lane made.request.id.slot s made at refl (beside_of kept slots lane (Outcome made) made places at refl))
    ∙ none_now (slice_set kept lane Nothing) made.request.id.slot (slot_after s made) none
  where
    none : (other_lane : ℕ) (other : Made) → slice_get (slice_set kept lane Nothing) other_lane ≡ Some (Outcome other) → other.request.id.slot ≢ made.request.id.slot
    none other_lane other there = elim (is_set kept lane (Outcome made) Nothing at other_lane (Outcome other) there).either [
      | inl (same, is) ↦ absurd (let no : Outcome other ≡ Nothing = is in cc)
      | inr (differs, was) ↦ alone_beside kept slots lane (Outcome made) made.request places at refl few other_lane other differs was
    ]

-- on a slot of a lane of pages all outcomes are writes
pub writes_there : (kept : List Kept) (slots lane : ℕ) (k : Kept) (request : Asked) → AreInPlace kept slots → slice_get kept lane ≡ Some k → asked_of k ≡ Some request
    → 2 < lane → AreWrites request.id.slot kept
writes_there kept slots lane k request places at asks some other_lane other there same =
    elim (places.apart lane other_lane k (Outcome other) request other.request at there asks refl (sym same)) [
      | inl own ↦ page_writes other.request.id.slot other (places.pages other_lane (Outcome other) other.request there refl (subst (λ n. 2 < n) own some))
      | inr pages ↦ page_writes other.request.id.slot other (places.pages other_lane (Outcome other) other.request there refl pages.second)
    ]

-- a request that is ready stays so after the outcomes on its slot
pub ready_now : (kept : List Kept) (slots lane : ℕ) (request : Asked) (s : SlotNow) → AreInPlace kept slots → slice_get kept lane ≡ Some (Request request)
    → is_ready s.phase request.id.call ≡ true → is_ready (slot_now kept request.id.slot s).phase request.id.call ≡ true
ready_now kept slots lane request s places at ready = elim (lane_cases lane) [
  | inl few ↦ subst (λ (t : SlotNow). is_ready t.phase request.id.call ≡ true) (sym (none_now kept request.id.slot s (none_here few))) ready
  | inr some ↦
      let page = places.pages lane (Request request) request at refl some in
      let may : may_write s.phase ≡ true = sym (ap (is_ready s.phase) page.call) ∙ ready in
      ap (is_ready (slot_now kept request.id.slot s).phase) page.call
      ∙ writes_keep (λ (t : SlotNow). may_write t.phase ≡ true) (λ t made write. written_writes t.phase made.request.id.call (is_done made.answer) write)
      kept request.id.slot s (writes_there kept slots lane (Request request) request places at refl some) may
]
  where
    none_here : lane < 3 → (other_lane : ℕ) (other : Made) → slice_get kept other_lane ≡ Some (Outcome other) → other.request.id.slot ≢ request.id.slot
    none_here few other_lane other there = elim (cases_eq other_lane lane) [
      | inl same ↦ absurd (let no : Some (Outcome other) ≡ Some (Request request) = sym there ∙ ap (slice_get kept) same ∙ at in cc)
      | inr differs ↦ alone_beside kept slots lane (Request request) request places at refl few other_lane other differs there
    ]
