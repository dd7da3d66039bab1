-- The first call of a worker that was asked for, and how its event is answered.
use Rattle.std.proofs.Common.{◌≡◌, ◌⊎◌, ℕ, ◌+◌, ◌<◌, ◌==◌, ◌||◌, nat_lt, Bool, true, false, cond, List, [], ◌∷◌, Option, Some, None, slice_get, slice_set, zero, suc, refl, sym, ◌∙◌, ap, subst, inl, inr, arith}
use Rattle.std.specs.List.{count_by, fold, list_any}
use Rattle.std.proofs.lemmas.Bool.{false≢true}
use Rattle.std.proofs.lemmas.Bool.Decides.{nat_tests}
use Rattle.std.proofs.lemmas.Option.{same_Some}
use Rattle.sd_command.specs.declared.refusal.Refusal.TheVariants.{Idle}
use Rattle.sd_command.specs.declared.reply.Reply.{Reply}
use Rattle.sd_command.specs.declared.reply.Reply.TheVariants as reply
use Rattle.sd_disk.specs.declared.disk.Disk.{Ghosts}
use Rattle.sd_gate.specs.declared.answer.Answer.{Answer}
use Rattle.sd_gate.specs.declared.request_id.RequestId.{RequestId}
use Rattle.sd_gate.specs.declared.worker.Worker.{Worker}
use Rattle.sd_gate.specs.Calls.{AnswerHasCause}
use Rattle.sd_gate.specs.Requests.{Asked}
use Rattle.sd_crash_safety.specs.View.{CoreView, index}
use Rattle.sd_world.specs.declared.call_state.CallState.{CallState}
use Rattle.sd_world.specs.declared.call_state.CallState.TheVariants as its
use Rattle.sd_world.specs.declared.kept.Kept.{Kept}
use Rattle.sd_world.specs.declared.kept.Kept.TheVariants.{Request, Outcome}
use Rattle.sd_world.specs.Steps.{IsAnsweredByDevice, IsPerform, Performs, reply_of_answer}
use Rattle.sd_world.proofs.KeptLemmas.{asked_there, same_request}
use Rattle.sd_world.specs.View.{IsAt, WorldView, asked_count, asked_id, id_in, is_asked, is_before, is_of_worker}

-- ---- tests of lists

pub any_at : {X : Type 0} (test : X → Bool) (xs : List X) (i : ℕ) (x : X) → slice_get xs i ≡ Some x → test x ≡ true → list_any test xs ≡ true
any_at test [] i x at passes = absurd (let no : None ≡ Some x = at in cc)
any_at test (y ∷ xs) zero x at passes = ap (λ b. b || list_any test xs) (ap test (same_Some y x at) ∙ passes)
any_at test (y ∷ xs) (suc i) x at passes = later (test y) (any_at test xs i x at passes)
  where
    later : (b : Bool) → list_any test xs ≡ true → (b || list_any test xs) ≡ true
    later true is = refl
    later false is = is

any_has : {X : Type 0} (test : X → Bool) (xs : List X) → list_any test xs ≡ true → (i : ℕ) × (x : X) × (slice_get xs i ≡ Some x) × (test x ≡ true)
any_has test [] is = absurd (false≢true is)
any_has {X} test (y ∷ xs) is = by (test y) refl (λ some. any_has test xs some)
  where
    by : (b : Bool) → test y ≡ b → (list_any test xs ≡ true → (i : ℕ) × (x : X) × (slice_get xs i ≡ Some x) × (test x ≡ true))
        → (i : ℕ) × (x : X) × (slice_get (y ∷ xs) i ≡ Some x) × (test x ≡ true)
    by true own rest = (0, y, refl, own)
    by false own rest = (let it = rest (sym (ap (λ b. b || list_any test xs) own) ∙ is) in (suc it.0, it.1, it.2, it.3))

count_from : {X : Type 0} (test : X → Bool) (n : ℕ) (xs : List X)
    → (fold (λ a x. a + cond (test x) 1 0) n xs ≡ n) ⊎ ((i : ℕ) × (x : X) × (slice_get xs i ≡ Some x) × (test x ≡ true))
count_from test n [] = inl refl
count_from {X} test n (y ∷ xs) = by (test y) refl (count_from test n xs)
  where
    by : (b : Bool) → test y ≡ b → (fold (λ a x. a + cond (test x) 1 0) n xs ≡ n) ⊎ ((i : ℕ) × (x : X) × (slice_get xs i ≡ Some x) × (test x ≡ true))
        → (fold (λ a x. a + cond (test x) 1 0) n (y ∷ xs) ≡ n) ⊎ ((i : ℕ) × (x : X) × (slice_get (y ∷ xs) i ≡ Some x) × (test x ≡ true))
    by true own rest = inr (0, y, refl, own)
    by false own rest = elim rest [
      | inl none ↦ inl (ap (λ m. fold (λ a x. a + cond (test x) 1 0) m xs) (ap (λ b. n + cond b 1 0) own ∙ omega arith) ∙ none)
      | inr some ↦ inr (suc some.0, some.1, some.2, some.3)
    ]

count_has : {X : Type 0} (test : X → Bool) (xs : List X) → (count_by test xs ≡ 0) ⊎ ((i : ℕ) × (x : X) × (slice_get xs i ≡ Some x) × (test x ≡ true))
count_has test xs = count_from test 0 xs

-- one fewer passes where an element that did is replaced by one that doesn't
count_shift : {X : Type 0} (test : X → Bool) (n : ℕ) (xs : List X)
    → fold (λ a x. a + cond (test x) 1 0) (n + 1) xs ≡ fold (λ a x. a + cond (test x) 1 0) n xs + 1
count_shift test n [] = refl
count_shift test n (x ∷ xs) = ap (λ m. fold (λ a x. a + cond (test x) 1 0) m xs) (let c = cond (test x) 1 0 in let e : n + 1 + c ≡ n + c + 1 = omega arith in e)
    ∙ count_shift test (n + cond (test x) 1 0) xs

count_set : {X : Type 0} (test : X → Bool) (n : ℕ) (xs : List X) (i : ℕ) (x y : X) → slice_get xs i ≡ Some x → test x ≡ true → test y ≡ false
    → fold (λ a x. a + cond (test x) 1 0) n (slice_set xs i y) + 1 ≡ fold (λ a x. a + cond (test x) 1 0) n xs
count_set test n [] i x y at passes fails = absurd (let no : None ≡ Some x = at in cc)
count_set test n (z ∷ xs) zero x y at passes fails =
    ap (λ b. fold (λ a x. a + cond (test x) 1 0) (n + cond b 1 0) xs + 1) fails
    ∙ ap (λ m. fold (λ a x. a + cond (test x) 1 0) m xs + 1) (let e : n + 0 ≡ n = omega arith in e)
    ∙ sym (ap (λ b. fold (λ a x. a + cond (test x) 1 0) (n + cond b 1 0) xs) (ap test (same_Some z x at) ∙ passes) ∙ count_shift test n xs)
count_set test n (z ∷ xs) (suc i) x y at passes fails = count_set test (n + cond (test z) 1 0) xs i x y at passes fails

-- ---- a worker's calls

same_worker : (a b : Worker) → index a ≡ index b → a ≡ b
same_worker a b e = grind arith

pub same_number : (n : ℕ) → (n == n) ≡ true
same_number n = grind (arith, nat_tests)

same_index : (m n : ℕ) → (m == n) ≡ true → m ≡ n
same_index m n is = grind (arith, nat_tests, is)

lesser : (m n : ℕ) → nat_lt m n ≡ true → m < n
lesser m n is = grind (arith, nat_tests, is)

before_at : (worker : Worker) (ticket : ℕ) (o : Option RequestId) → is_before worker ticket o ≡ true
    → (id : RequestId) × (o ≡ Some id) × (id.worker ≡ worker) × (id.ticket < ticket)
before_at worker ticket o is = grind arith

of_at : (worker : Worker) (o : Option RequestId) → is_of_worker worker o ≡ true → (id : RequestId) × (o ≡ Some id) × (id.worker ≡ worker)
of_at worker o is = grind arith

-- where a worker has a call in this state, it has one at the first place
pub first_at : (more : ℕ) (kept : List Kept) (state : CallState) (worker : Worker) (lane : ℕ) (k : Kept) (id : RequestId) → slice_get kept lane ≡ Some k
    → id_in state k ≡ Some id → id.worker ≡ worker → id.ticket < more → (first : ℕ) × IsAt kept state worker 0 first
first_at zero kept state worker lane k id at is whose less = absurd (omega (arith, less))
first_at (suc more) kept state worker lane k id at is whose less = elim (count_has (λ one. is_before worker id.ticket (id_in state one)) kept) [
  | inl none ↦ (lane, record { there = k; is = at; id = id; id_is = is; whose = whose; after = none })
  | inr some ↦
      let it = before_at worker id.ticket (id_in state some.1) some.3 in
      let earlier = it.3 in
      first_at more kept state worker some.0 some.1 it.0 some.2 it.1 it.2 (omega (arith, earlier, less))
]

asked_first : (kept : List Kept) (worker : Worker) → is_asked kept worker ≡ true → (first : ℕ) × IsAt kept its.Asked worker 0 first
asked_first kept worker is =
    let some = any_has (λ k. is_of_worker worker (asked_id k)) kept is in
    let it = of_at worker (asked_id some.1) some.3 in
    first_at (suc it.0.ticket) kept its.Asked worker some.0 some.1 it.0 some.2 it.1 it.2 (omega arith)

asked_any : (kept : List Kept) (worker : Worker) (place lane : ℕ) → IsAt kept its.Asked worker place lane → is_asked kept worker ≡ true
asked_any kept worker place lane at = any_at (λ k. is_of_worker worker (asked_id k)) kept lane at.there at.is
    (ap (is_of_worker worker) at.id_is ∙ ap (λ w. index w == index worker) at.whose ∙ same_number (index worker))

-- ---- how a device call is answered

answered : (answer : Answer) (before now : ℕ) → AnswerHasCause before now answer → IsAnsweredByDevice before now (reply_of_answer answer)
answered answer before now cause = grind arith

module _ {D : Type 0} (g : Ghosts D) (old new : WorldView D) (worker : Worker) (answer : Reply) where
  same_world : new.core ≡ old.core → new.disk ≡ old.disk → new.kept ≡ old.kept → new ≡ old
  same_world core disk kept = ap (λ c. world_of c new.disk new.kept) core ∙ ap (λ d. world_of old.core d new.kept) disk ∙ ap (world_of old.core old.disk) kept
    where
      world_of : CoreView → D → List Kept → WorldView D
      world_of c d k = record { core = c; disk = d; kept = k }

  idle_by : is_asked old.kept worker ≡ false → new.core ≡ old.core → Performs g worker 0 old.disk old.kept answer new.disk new.kept
      → (answer ≡ reply.Refused Idle) × (new ≡ old)
  idle_by unasked core (Performs.performs it) = absurd (false≢true (sym unasked ∙ asked_any old.kept worker 0 it.lane it.at))
  idle_by unasked core (Performs.none none idle) = (idle.refused, same_world core idle.disk idle.left)

  pub idle_step : is_asked old.kept worker ≡ false → IsPerform g worker 0 old answer new → (answer ≡ reply.Refused Idle) × (new ≡ old)
  idle_step unasked it = idle_by unasked it.core it.performs

  device_by : is_asked old.kept worker ≡ true → Performs g worker 0 old.disk old.kept answer new.disk new.kept
      → IsAnsweredByDevice (g.failed old.disk) (g.failed new.disk) answer
  device_by asked (Performs.performs it) = subst (IsAnsweredByDevice (g.failed old.disk) (g.failed new.disk)) (sym it.keeps.replied)
      (answered it.keeps.made.answer (g.failed old.disk) (g.failed new.disk) it.keeps.performed.cause)
  device_by asked (Performs.none none idle) = absurd (let first = asked_first old.kept worker asked in none first.0 first.1)

  made_by : is_asked old.kept worker ≡ true → Performs g worker 0 old.disk old.kept answer new.disk new.kept → asked_count new.kept worker < asked_count old.kept worker
  made_by asked (Performs.performs it) =
      let less = count_set (λ k. is_of_worker worker (asked_id k)) 0 old.kept it.lane (Request it.request) (Outcome it.keeps.made) it.is
      (let there = asked_there old.kept worker 0 it.lane it.at in
      ap (λ (r : Asked). index r.id.worker == index worker) (same_request it.request there.0 (sym it.is ∙ there.1))
      ∙ ap (λ w. index w == index worker) there.2 ∙ same_number (index worker)) refl in
      subst (λ k. asked_count k worker < asked_count old.kept worker) (sym it.keeps.left) (omega (arith, less))
  made_by asked (Performs.none none idle) = absurd (let first = asked_first old.kept worker asked in none first.0 first.1)

  pub made_step : is_asked old.kept worker ≡ true → IsPerform g worker 0 old answer new → asked_count new.kept worker < asked_count old.kept worker
  made_step asked it = made_by asked it.performs

  pub device_step : is_asked old.kept worker ≡ true → IsPerform g worker 0 old answer new → IsAnsweredByDevice (g.failed old.disk) (g.failed new.disk) answer
  device_step asked it = device_by asked it.performs
