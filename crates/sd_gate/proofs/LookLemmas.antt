-- An inspection finds the file that its outcomes gave.
use Rattle.std.proofs.Common.{◌≡◌, ◌≢◌, inl, inr, ℕ, ◌+◌, ◌≤◌, Bool, true, false, ◌==◌, ◌&&◌, nat_le, List, [], ◌∷◌, length, slice_index, slice_range, Some, None, Result, Ok, Err, refl, sym, ◌∙◌, ap, subst, arith, if◌then◌else◌}
use Rattle.std.proofs.lemmas.Bool.{cases_eq, cases_lt}
use Rattle.std.proofs.lemmas.Bool.Decides.{nat_tests}
use Rattle.sd_gate.proofs.BodyLemmas.{length-zeros}
use Rattle.sd_image.specs.declared.header.Header.{Header}
use Rattle.sd_image.specs.declared.reason.Reason.{Reason}
use Rattle.sd_image.specs.Image.{gate}
use Rattle.sd_image.specs.Reading.{header_in}
use Rattle.sd_gate.specs.declared.answer.Answer.{Answer}
use Rattle.sd_gate.specs.declared.answer.Answer.TheVariants.{Done, Len as LenIs}
use Rattle.sd_gate.specs.declared.call.Call.{Call}
use Rattle.sd_gate.specs.declared.call.Call.TheVariants.{Len, Read, Sync}
use Rattle.sd_gate.specs.declared.request_id.RequestId.{RequestId}
use Rattle.sd_gate.specs.Calls.{CallFinds, IsAnswerTo, buffer_back, is_done}
use Rattle.sd_gate.specs.Inspections.{nothing, Following, calls_then}
use Rattle.sd_gate.specs.Looks.{Look, AtSync, AtLength, AtFirst, AtTable, Short, Shut, Broken, Whole, front_of_file, table_of_file, IsLookAt, calls_at, calls_left_after, back_at, IsCallAt, rests, asks, LooksAt, IsLookedUpAs, IsFound, InspectionFinds}
use Rattle.sd_gate.specs.Plans.{Gives, Planned, found_after, plan_after}
use Rattle.sd_gate.specs.Requests.{Asked, Made}
use Rattle.sd_gate.specs.Sequences.{Calls, table_place}

-- a plan after an outcome of this call
abbrev after_with : Planned → Call → Answer → List ℕ → Planned
after_with plan call answer bytes =
    let next : Following = if is_done answer then calls_then plan.calls plan.awaits answer (buffer_back call bytes) else ([], nothing) in
    record { slot = plan.slot; calls = next.0; awaits = next.1; out = None; found = found_after plan.found answer (buffer_back call bytes) }

after_is : (plan : Planned) (made : Made) (call : Call) (answer : Answer) (bytes : List ℕ) → made.request.id.call ≡ call → made.answer ≡ answer
    → made.request.bytes ≡ bytes → plan_after plan made ≡ after_with plan call answer bytes
after_is plan made call answer bytes call_is answer_is bytes_is = grind arith

test_true : (n first : ℕ) → n ≡ 4096 → first ≡ gate → ((n == 4096) && (first == gate)) ≡ true
test_true n first size opens = grind (arith, nat_tests)

test_false : (n first : ℕ) → first ≢ gate → ((n == 4096) && (first == gate)) ≡ false
test_false n first other = grind (arith, nat_tests)

module _ (slot : ℕ) (file : List ℕ) (id : RequestId) where
  long_after : (bytes : List ℕ) → nat_le 4096 (length file) ≡ true → after_with (asks slot file AtLength id) Len (LenIs (length file)) bytes ≡ rests slot file AtFirst
  long_after bytes is = rw is refl

  short_after : (bytes : List ℕ) → nat_le 4096 (length file) ≡ false → after_with (asks slot file AtLength id) Len (LenIs (length file)) bytes ≡ rests slot file Short
  short_after bytes is = rw is refl

  table_after : (h : Header) → after_with (asks slot file (AtTable h) id) (Read (table_place h)) Done (table_of_file h file) ≡ rests slot file (Whole h)
  table_after h = refl

  -- the header decides
  abbrev open_test : Bool
  open_test = (length (front_of_file file) == 4096) && (slice_index (front_of_file file) 0 == gate)

  shut_after : open_test ≡ false → after_with (asks slot file AtFirst id) (Read 0) Done (front_of_file file) ≡ rests slot file Shut
  shut_after is = rw is refl

  headed_after : (h : Header) → open_test ≡ true → header_in (front_of_file file) (length file) ≡ Ok h
      → after_with (asks slot file AtFirst id) (Read 0) Done (front_of_file file) ≡ rests slot file (AtTable h)
  headed_after h is header = rw (is, header) refl

  broken_after : (why : Reason) → open_test ≡ true → header_in (front_of_file file) (length file) ≡ Err why
      → after_with (asks slot file AtFirst id) (Read 0) Done (front_of_file file) ≡ rests slot file (Broken why)
  broken_after why is header = rw (is, header) refl

  open_found : 4096 ≤ length file → slice_index (front_of_file file) 0 ≡ gate → open_test ≡ true → (r : Result Header Reason) → header_in (front_of_file file) (length file) ≡ r
      → LooksAt slot file None (after_with (asks slot file AtFirst id) (Read 0) Done (front_of_file file))
  open_found long opens is (Ok h) header = (AtTable h, record { long = long; opens = opens; header = header }, headed_after h is header)
  open_found long opens is (Err why) header = (Broken why, record { long = long; opens = opens; header = header }, broken_after why is header)

  first_found : 4096 ≤ length file → length (front_of_file file) ≡ 4096 → LooksAt slot file None (after_with (asks slot file AtFirst id) (Read 0) Done (front_of_file file))
  first_found long size = elim (cases_eq (slice_index (front_of_file file) 0) gate) [
    | inl opens ↦ open_found long opens (test_true (length (front_of_file file)) (slice_index (front_of_file file) 0) size opens) (header_in (front_of_file file) (length file)) refl
    | inr other ↦ (Shut, (long, other), shut_after (test_false (length (front_of_file file)) (slice_index (front_of_file file) 0) other))
  ]

  length_found : (bytes : List ℕ) → LooksAt slot file None (after_with (asks slot file AtLength id) Len (LenIs (length file)) bytes)
  length_found bytes = elim (cases_lt (length file) 4096) [
    | inl short ↦ (Short, short, short_after bytes (grind (arith, nat_tests)))
    | inr long ↦ (AtFirst, long, long_after bytes (grind (arith, nat_tests)))
  ]

module _ (slot : ℕ) (file : List ℕ) (made : Made) (told : IsLookedUpAs file made) where
  answers_as : (call : Call) → made.request.id.call ≡ call → IsAnswerTo call made.answer
  answers_as call is = subst (λ c. IsAnswerTo c made.answer) is told.answers

  tells_as : (call : Call) → made.request.id.call ≡ call → CallFinds call file made.answer made.request.bytes
  tells_as call is = subst (λ c. CallFinds c file made.answer made.request.bytes) is told.tells

  -- a plan that is as it would be by these
  looks_by : (plan next : Planned) → plan ≡ next → LooksAt slot file None next → LooksAt slot file None plan
  looks_by plan next is looks = (looks.0, looks.1, is ∙ looks.2)

  settled_at : (look : Look) (id : RequestId) → IsLookAt file look → IsCallAt look made.request.id.call (length made.request.bytes)
      → LooksAt slot file None (plan_after (asks slot file look id) made)
  settled_at AtSync id at call = (AtLength, tt, after_is (asks slot file AtSync id) made Sync Done made.request.bytes call (answers_as Sync call) refl)
  settled_at AtLength id at call =
      looks_by (plan_after (asks slot file AtLength id) made) (after_with (asks slot file AtLength id) Len (LenIs (length file)) made.request.bytes)
      (after_is (asks slot file AtLength id) made Len (LenIs (length file)) made.request.bytes call (tells_as Len call) refl)
      (length_found slot file id made.request.bytes)
  settled_at AtFirst id at call =
      let bytes : made.request.bytes ≡ front_of_file file = tells_as (Read 0) call.0 ∙ ap (λ n. slice_range file 0 (0 + n)) call.1 in
      looks_by (plan_after (asks slot file AtFirst id) made) (after_with (asks slot file AtFirst id) (Read 0) Done (front_of_file file))
      (after_is (asks slot file AtFirst id) made (Read 0) Done (front_of_file file) call.0 (answers_as (Read 0) call.0) bytes)
      (first_found slot file id at (sym (ap length bytes) ∙ call.1))
  settled_at (AtTable h) id at call =
      let place : ℕ = table_place h in
      let bytes : made.request.bytes ≡ table_of_file h file = tells_as (Read (table_place h)) call.0 ∙ ap (λ n. slice_range file (table_place h) (table_place h + n)) call.1 in
      (Whole h, at, after_is (asks slot file (AtTable h) id) made (Read (table_place h)) Done (table_of_file h file) call.0 (answers_as (Read (table_place h)) call.0) bytes ∙ table_after slot file id h)
  settled_at _ id at call = absurd call

settles : (slot : ℕ) (file : List ℕ) (plan : Planned) (request : Asked) (made : Made) → LooksAt slot file (Some request) plan
    → made.request.id ≡ request.id → length made.request.bytes ≡ length request.bytes → is_done made.answer ≡ true → IsLookedUpAs file made
    → LooksAt slot file None (plan_after plan made)
settles slot file plan request made looks same size done told =
    let look : Look = looks.0 in
    let call : IsCallAt look made.request.id.call (length made.request.bytes) =
    subst (λ n. IsCallAt look made.request.id.call n) (sym size) (subst (λ (i : RequestId). IsCallAt look i.call (length request.bytes)) (sym same) looks.4) in
    subst (λ p. LooksAt slot file None (plan_after p made)) (sym looks.2) (settled_at slot file made told look request.id looks.1 call)

-- the first of a list of calls, and the others
first_is : {calls others : Calls} {x y : Call × List ℕ} → (x ∷ calls) ≡ (y ∷ others) → x ≡ y
first_is is = cc

next_call : {calls others : Calls} {call next : Call} {bytes buffer : List ℕ} → ((call, bytes) ∷ calls) ≡ ((next, buffer) ∷ others) → call ≡ next
next_call is = ap (λ (x : Call × List ℕ). x.0) (first_is is)

next_bytes : {calls others : Calls} {call next : Call} {bytes buffer : List ℕ} → ((call, bytes) ∷ calls) ≡ ((next, buffer) ∷ others) → bytes ≡ buffer
next_bytes is = ap (λ (x : Call × List ℕ). x.1) (first_is is)

others_are : {calls others : Calls} {call next : Call} {bytes buffer : List ℕ} → ((call, bytes) ∷ calls) ≡ ((next, buffer) ∷ others) → calls ≡ others
others_are is = cc

no_calls : {A : Type 0} {others : Calls} {next : Call} {buffer : List ℕ} → [] ≡ ((next, buffer) ∷ others) → A
no_calls is = absurd (cc)

module _ (slot : ℕ) (file : List ℕ) (old new : Planned) (request : Asked) (gives : Gives old new request) where
  asked_at : (look : Look) → old ≡ rests slot file look → new.calls ≡ calls_left_after look → new ≡ asks slot file look request.id
  asked_at look is calls = grind arith

  calls_are : (look : Look) → old ≡ rests slot file look → calls_at look ≡ (request.id.call, request.bytes) ∷ new.calls
  calls_are look is = sym (ap (λ (p : Planned). p.calls) is) ∙ gives.next

  slot_is : (look : Look) → old ≡ rests slot file look → request.id.slot ≡ slot
  slot_is look is = gives.slot ∙ ap (λ (p : Planned). p.slot) is

  taken_at : (look : Look) → IsLookAt file look → old ≡ rests slot file look → LooksAt slot file (Some request) new
  taken_at look at is = grind (arith, others_are, next_call, next_bytes, length-zeros)

ok_same : (h other : Header) (r : Result Header Reason) → r ≡ Ok h → r ≡ Ok other → h ≡ other
ok_same h other r is also_is = cc

not_both : (h : Header) (why : Reason) (r : Result Header Reason) → r ≡ Ok h → r ≡ Err why → ⊥
not_both h why r is other = cc

found_at : (file : List ℕ) (look : Look) → IsLookAt file look → calls_at look ≡ [] → IsFound file (back_at file look)
found_at file look at none = grind arith

pub inspection_finds : InspectionFinds
inspection_finds = record {
  begins = λ slot file. (AtSync, tt, refl);
  takes = λ slot file old new request looks gives. taken_at slot file old new request gives looks.0 looks.1 looks.2;
  settles = settles;
  ends = λ slot file plan looks none.
      subst (λ (p : Planned). IsFound file p.found) (sym looks.2) (found_at file looks.0 looks.1 (sym (ap (λ (p : Planned). p.calls) looks.2) ∙ none));
}
