-- A plan that only changes its slot, from outcome to outcome.
use Rattle.std.proofs.Common.{◌≡◌, ℕ, ◌+◌, Bool, true, false, List, length, Option, Some, refl, sym, ap, subst, arith}
use Rattle.sd_image.specs.declared.header.Header.{Header}
use Rattle.sd_gate.specs.declared.settled.Settled.{Settled}
use Rattle.sd_gate.specs.declared.answer.Answer.{Answer}
use Rattle.sd_gate.specs.Calls.{is_done}
use Rattle.sd_gate.specs.Inspections.{calls_then, nothing}
use Rattle.sd_gate.specs.Plans.{Gives, Planned, begun, calls_after, is_one, plan_after, settled}
use Rattle.sd_gate.specs.PlanUse.{IsUnderWay, Settles, plan_left}
use Rattle.sd_gate.specs.Requests.{Asked, Made}
use Rattle.sd_gate.specs.Sequences.{Calls, body_calls}

then_same : (calls : Calls) (answer : Answer) (buffer : Option (List ℕ)) → calls_then calls nothing answer buffer ≡ (calls, nothing)
then_same calls answer buffer = grind arith

done_calls : (plan : Planned) (made : Made) → IsUnderWay plan → is_done made.answer ≡ true → calls_after plan made ≡ (plan.calls, nothing)
done_calls plan made under done = grind arith

pub settles : (old new : Planned) (made : Made) (result : Settled) → IsUnderWay old → old.out ≡ Some made.request.id → new ≡ plan_after old made
    → result ≡ settled (is_done made.answer) (calls_after old made).0 → Settles old made result new
settles old new made result under out is told =
    subst (λ (r : Settled). Settles old made r new) (sym told)
    (subst (λ (p : Planned). Settles old made (settled (is_done made.answer) (calls_after old made).0) p) (sym is) (by (is_done made.answer) refl))
  where
    one : is_one old.out ≡ 1
    one = ap is_one out

    by : (b : Bool) → is_done made.answer ≡ b → Settles old made (settled b (calls_after old made).0) (plan_after old made)
    by false failed = failed
    by true done = calls (calls_after old made).0 refl
      where
        same : calls_after old made ≡ (old.calls, nothing)
        same = done_calls old made under done

        calls : (cs : Calls) → (calls_after old made).0 ≡ cs → Settles old made (settled true cs) (plan_after old made)
        calls cs e = grind arith

-- ---- a plan that gives out a call

pub gives_under_way : (old new : Planned) (request : Asked) → IsUnderWay old → Gives old new request → IsUnderWay new
gives_under_way old new request under g = grind arith

pub body_under_way : (slot : ℕ) (header : Header) (table : List ℕ) → IsUnderWay (begun slot (body_calls header table) nothing)
body_under_way slot header table = grind arith

-- ---- what is left of a plan

pub one_plan : (a b : Planned) → Some a ≡ Some b → a ≡ b
one_plan a b e = cc

-- a plan that gives out a call has one event less before it
pub gives_fewer : (old new : Planned) (request : Asked) → Gives old new request → plan_left new + 1 ≡ plan_left old
gives_fewer old new request g = grind arith

-- an outcome of the request that is out leaves one event less
pub settled_fewer : (plan : Planned) (made : Made) → plan.out ≡ Some made.request.id
    → length (plan_after plan made).calls + 0 + 1 ≡ length plan.calls + is_one plan.out → plan_left (plan_after plan made) + 1 ≡ plan_left plan
settled_fewer plan made out one = (let o : is_one plan.out ≡ 1 = ap is_one out in omega arith)
