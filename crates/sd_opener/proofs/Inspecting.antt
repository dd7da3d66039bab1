-- How far the inspection of a slot has come, through its calls and their outcomes.
use Rattle.std.proofs.Common.{◌≡◌, ◌≢◌, ℕ, Bool, true, false, ◌==◌, ◌&&◌, if◌then◌else◌, List, [], ◌∷◌, length, map, slice_index, Result, Option, Some, None, Ok, Err, IsSome, refl, sym, ◌∙◌, ap, subst, inl, inr, arith}
use Rattle.std.proofs.lemmas.Bool.{and_from, eq-eqb}
use Rattle.std.proofs.lemmas.Option.{same_Some}
use Rattle.sd_image.specs.declared.header.Header.{Header}
use Rattle.sd_image.specs.declared.reason.Reason.{Reason}
use Rattle.sd_image.specs.Image.{gate}
use Rattle.sd_image.specs.Reading.{header_in}
use Rattle.sd_image.specs.Words.{zero_bytes}
use Rattle.sd_gate.specs.declared.answer.Answer.{Answer}
use Rattle.sd_gate.specs.declared.answer.Answer.TheVariants.{Done as DoneAnswer, Len as LenIs}
use Rattle.sd_gate.specs.declared.call.Call.{Call}
use Rattle.sd_gate.specs.declared.call.Call.TheVariants.{Len, Read, Sync}
use Rattle.sd_gate.specs.declared.settled.Settled.TheVariants.{More, Finished}
use Rattle.sd_gate.specs.Calls.{IsAnswerTo, buffer_back, is_done}
use Rattle.sd_gate.specs.Inspections.{Awaits, Following, after_first, after_length, calls_then, nothing, table_read, the_header, the_length}
use Rattle.sd_gate.specs.Plans.{Back, Planned, begun, calls_after, first_back, found_after, length_looked_up, plan_after, second_back, settled}
use Rattle.sd_gate.specs.Requests.{Made}
use Rattle.sd_gate.specs.Sequences.{Calls, first_looks, table_place}
use Rattle.sd_opener.specs.Looking.{HasCome, HasFirst, IsDoneAsAsked, IsInspecting, calls_ahead}
use Rattle.sd_opener.specs.Sees.{InspectionHasEnded}

abbrev names : Calls → List Call
names calls = map (λ call. call.0) calls

pub begins : (slot : ℕ) → IsInspecting (begun slot first_looks the_length)
begins slot = (inl refl, refl)

-- ---- an outcome

head_is : (a b : Call) (cs ds : List Call) → a ∷ cs ≡ b ∷ ds → a ≡ b
head_is a b cs ds same = cc

tail_is : (a b : Call) (cs ds : List Call) → a ∷ cs ≡ b ∷ ds → cs ≡ ds
tail_is a b cs ds same = cc

no_calls : (calls : Calls) → names calls ≡ [] → calls ≡ []
no_calls [] none = refl
no_calls (call ∷ calls) none = absurd (let no : call.0 ∷ names calls ≡ [] = none in cc)

-- what a plan has come to, and that it has ended
abbrev Comes : Following → Back → Type 0
Comes after found = after.0 ≢ [] → HasCome after.1 (names after.0) found

abbrev Ends : Following → Back → Type 0
Ends after found = after.0 ≡ [] → InspectionHasEnded found

-- the length was asked for

abbrev length_read : Bool → ℕ → Following
length_read test n = if test then ((Read 0, zero_bytes 4096) ∷ [], the_header n) else ([], nothing)

length_came : (found : Back) (answer : Answer) → found.first ≡ None → Comes (after_length answer) (found_after found answer None)
length_came found answer first some = grind arith

length_ends : (found : Back) (n : ℕ) → found.first ≡ None → Ends (after_length (LenIs n)) (found_after found (LenIs n) None)
length_ends found n first none = grind arith

-- the header was read

len_some : (before : Option ℕ) (len : ℕ) (answer : Answer) → before ≡ Some len → IsSome (length_looked_up before answer)
len_some before len answer is = grind arith

abbrev header_read : Bool → List ℕ → ℕ → Following
header_read test bytes len = if test then table_read (header_in bytes len) else ([], nothing)

header_came : (found : Back) (len : ℕ) (bytes : List ℕ) (answer : Answer) → found.len ≡ Some len → found.first ≡ None
    → Comes (after_first bytes len) (found_after found answer (Some bytes))
header_came found len bytes answer told first = by_test ((length bytes == 4096) && (slice_index bytes 0 == gate)) refl
  where
    came : (read : Result Header Reason) → length bytes ≡ 4096 → Comes (table_read read) (found_after found answer (Some bytes))
    came (Ok header) whole some = (
      (table_place header, refl),
      len_some found.len len answer told,
      record { bytes = bytes; came = ap (λ f. Some (first_back f bytes)) first; whole = whole },
    )
    came (Err reason) whole some = absurd (some refl)

    by_test : (test : Bool) → ((length bytes == 4096) && (slice_index bytes 0 == gate)) ≡ test → Comes (header_read test bytes len) (found_after found answer (Some bytes))
    by_test test is = grind arith

header_ends : (found : Back) (len : ℕ) (bytes : List ℕ) → found.len ≡ Some len → found.first ≡ None → length bytes ≡ 4096
    → Ends (after_first bytes len) (found_after found DoneAnswer (Some bytes))
header_ends found len bytes told first whole none = record {
  len = len;
  told = told;
  first = λ long. record { bytes = bytes; came = ap (λ f. Some (first_back f bytes)) first; whole = whole };
  table = λ other header came opens is.
      (let same : bytes ≡ other = same_Some bytes other (sym (ap (λ f. Some (first_back f bytes)) first) ∙ came) in
      absurd (reads header (subst (λ b. slice_index b 0 ≡ gate) (sym same) opens) (subst (λ b. header_in b len ≡ Ok header) (sym same) is)));
}
  where
    reads : (header : Header) → slice_index bytes 0 ≡ gate → header_in bytes len ≡ Ok header → ⊥
    reads header opens is =
        let test : ((length bytes == 4096) && (slice_index bytes 0 == gate)) ≡ true =
        and_from (length bytes == 4096) (slice_index bytes 0 == gate) (eq-eqb (length bytes) 4096 whole) (eq-eqb (slice_index bytes 0) gate opens) in
        let some : (Read (table_place header), zero_bytes header.table_len) ∷ [] ≡ [] =
        sym (ap (λ b. (header_read b bytes len).0) test ∙ ap (λ read. (table_read read).0) is) ∙ none in
        absurd cc

-- the table was read

table_ends : (found : Back) (bytes : List ℕ) → IsSome found.len → HasFirst found.first → InspectionHasEnded (found_after found DoneAnswer (Some bytes))
table_ends found bytes some first = by_len found.len refl some
  where
    first_is : Some (first_back found.first bytes) ≡ Some first.bytes
    first_is = ap (λ f. Some (first_back f bytes)) first.came

    by_len : (len : Option ℕ) → found.len ≡ len → IsSome len → InspectionHasEnded (found_after found DoneAnswer (Some bytes))
    by_len None is none_some = absurd (let wrong : false ≡ true = none_some in cc)
    by_len (Some len) is is_some = record {
      len = len;
      told = is;
      first = λ long. record { bytes = first.bytes; came = first_is; whole = first.whole };
      table = λ other header came opens read. subst (λ f. IsSome (second_back f found.second bytes)) (sym first.came) refl;
    }

-- ---- any outcome that is done

abbrev after_of : Calls → Awaits → Call → List ℕ → Answer → Following
after_of calls awaits call bytes answer = calls_then calls awaits answer (buffer_back call bytes)

abbrev back_of : Back → Call → List ℕ → Answer → Back
back_of found call bytes answer = found_after found answer (buffer_back call bytes)

came : (awaits : Awaits) (calls : Calls) (found : Back) (call : Call) (bytes : List ℕ) (answer : Answer) → HasCome awaits (call ∷ names calls) found
    → Comes (after_of calls awaits call bytes answer) (back_of found call bytes answer)
came the_length calls found call bytes answer is = elim is.0 [
  | inl two ↦ synced calls (tail_is call Sync (names calls) (Len ∷ []) two) (head_is call Sync (names calls) (Len ∷ []) two)
  | inr one ↦
      subst (λ k. Comes (after_of calls the_length k bytes answer) (back_of found k bytes answer)) (sym (head_is call Len (names calls) [] one))
      (subst (λ rest. Comes (after_of rest the_length Len bytes answer) (back_of found Len bytes answer)) (sym (no_calls calls (tail_is call Len (names calls) [] one)))
      (length_came found answer is.1))
]
  where
    synced : (rest : Calls) → names rest ≡ Len ∷ [] → call ≡ Sync → Comes (after_of rest the_length call bytes answer) (back_of found call bytes answer)
    synced [] length_next sync = absurd (let wrong : [] ≡ Len ∷ [] = length_next in cc)
    synced (next ∷ rest) length_next sync = λ some.
        subst (λ k. HasCome the_length (names (next ∷ rest)) (back_of found k bytes answer)) (sym sync) (inr length_next, is.1)
came (the_header len) calls found call bytes answer is =
    subst (λ k. Comes (after_of calls (the_header len) k bytes answer) (back_of found k bytes answer)) (sym (head_is call (Read 0) (names calls) [] is.0))
    (subst (λ rest. Comes (after_of rest (the_header len) (Read 0) bytes answer) (back_of found (Read 0) bytes answer)) (sym (no_calls calls (tail_is call (Read 0) (names calls) [] is.0)))
    (header_came found len bytes answer is.2 is.3))
came nothing calls found call bytes answer is =
    λ some. absurd (some (ap (λ rest. (after_of rest nothing call bytes answer).0) (no_calls calls (tail_is call (Read is.0.0) (names calls) [] is.0.1))))

ended : (awaits : Awaits) (calls : Calls) (found : Back) (call : Call) (bytes : List ℕ) (answer : Answer) → HasCome awaits (call ∷ names calls) found
    → IsAnswerTo call answer → (call ≡ Read 0 → length bytes ≡ 4096) → Ends (after_of calls awaits call bytes answer) (back_of found call bytes answer)
ended the_length calls found call bytes answer is answers header = elim is.0 [
  | inl two ↦ synced calls (tail_is call Sync (names calls) (Len ∷ []) two)
  | inr one ↦
      let told : IsAnswerTo Len answer = subst (λ k. IsAnswerTo k answer) (head_is call Len (names calls) [] one) answers in
      subst (λ k. Ends (after_of calls the_length k bytes answer) (back_of found k bytes answer)) (sym (head_is call Len (names calls) [] one))
      (subst (λ rest. Ends (after_of rest the_length Len bytes answer) (back_of found Len bytes answer)) (sym (no_calls calls (tail_is call Len (names calls) [] one)))
      (subst (λ a. Ends (after_length a) (found_after found a None)) (sym told.1) (length_ends found told.0 is.1)))
]
  where
    synced : (rest : Calls) → names rest ≡ Len ∷ [] → Ends (after_of rest the_length call bytes answer) (back_of found call bytes answer)
    synced [] length_next = absurd (let wrong : [] ≡ Len ∷ [] = length_next in cc)
    synced (next ∷ rest) length_next = λ none. absurd (let wrong : next ∷ rest ≡ [] = none in cc)
ended (the_header len) calls found call bytes answer is answers header =
    let call_is = head_is call (Read 0) (names calls) [] is.0 in
    let done : answer ≡ DoneAnswer = subst (λ k. IsAnswerTo k answer) call_is answers in
    subst (λ k. Ends (after_of calls (the_header len) k bytes answer) (back_of found k bytes answer)) (sym call_is)
    (subst (λ rest. Ends (after_of rest (the_header len) (Read 0) bytes answer) (back_of found (Read 0) bytes answer)) (sym (no_calls calls (tail_is call (Read 0) (names calls) [] is.0)))
    (subst (λ a. Ends (after_first bytes len) (found_after found a (Some bytes))) (sym done) (header_ends found len bytes is.2 is.3 (header call_is))))
ended nothing calls found call bytes answer is answers header =
    λ none.
    let call_is = head_is call (Read is.0.0) (names calls) [] is.0.1 in
    let done : answer ≡ DoneAnswer = subst (λ k. IsAnswerTo k answer) call_is answers in
    subst (λ k. InspectionHasEnded (back_of found k bytes answer)) (sym call_is)
    (subst (λ a. InspectionHasEnded (found_after found a (Some bytes))) (sym done) (table_ends found bytes is.1 is.2))

-- an inspection goes on after an outcome that is done, or has come to its end where the call was answered as it asks
module _ (plan new : Planned) (made : Made) (out : plan.out ≡ Some made.request.id) (is : IsInspecting plan) (new_is : new ≡ plan_after plan made) where
  abbrev after : Following
  after = after_of plan.calls plan.awaits made.request.id.call made.request.bytes made.answer

  come : HasCome plan.awaits (made.request.id.call ∷ names plan.calls) plan.found
  come = subst (λ o. HasCome plan.awaits (calls_ahead o plan.calls) plan.found) out is

  after_is : is_done made.answer ≡ true → calls_after plan made ≡ after
  after_is done = ap (λ b. next_of b) done
    where
      next_of : Bool → Following
      next_of b = if b then after else ([], nothing)

  was_done : (done : Bool) (calls : Calls) → settled done calls ≡ More → done ≡ true
  was_done done calls is = grind arith

  some_more : (calls : Calls) → settled true calls ≡ More → calls ≢ []
  some_more calls is none = grind arith

  none_more : (calls : Calls) → settled true calls ≡ Finished → calls ≡ []
  none_more calls is = grind arith

  pub goes : settled (is_done made.answer) (calls_after plan made).0 ≡ More → IsInspecting new
  goes more = grind arith

  pub ends : IsDoneAsAsked made → settled (is_done made.answer) (calls_after plan made).0 ≡ Finished → InspectionHasEnded new.found
  ends as_asked finished =
      let last : settled true after.0 ≡ Finished =
      ap (λ (f : Following). settled true f.0) (sym (after_is as_asked.done)) ∙ subst (λ b. settled b (calls_after plan made).0 ≡ Finished) as_asked.done finished in
      subst (λ (p : Planned). InspectionHasEnded p.found) (sym new_is)
      (ended plan.awaits plan.calls plan.found made.request.id.call made.request.bytes made.answer come as_asked.answers as_asked.header (none_more after.0 last))
