-- How many takes and settles a plan has before it.
use Rattle.std.proofs.Common.{◌≡◌, ℕ, ◌+◌, ◌<◌, ◌≤◌, Bool, true, false, if◌then◌else◌, nat_le, ◌==◌, ◌&&◌, List, [], ◌∷◌, length, slice_index, Option, Some, None, Result, Ok, Err, arith}
use Rattle.sd_image.specs.declared.header.Header.{Header}
use Rattle.sd_image.specs.declared.reason.Reason.{Reason}
use Rattle.sd_image.specs.Image.{gate}
use Rattle.sd_image.specs.Reading.{header_in}
use Rattle.sd_image.specs.Words.{zero_bytes}
use Rattle.sd_gate.specs.declared.answer.Answer.{Answer}
use Rattle.sd_gate.specs.declared.answer.Answer.TheVariants.{Len as LenIs}
use Rattle.sd_gate.specs.declared.call.Call.TheVariants.{Read}
use Rattle.sd_gate.specs.Calls.{is_done, buffer_back}
use Rattle.sd_gate.specs.Inspections.{Awaits, nothing, the_length, the_header, calls_awaited, Following, after_length, table_read, after_first, following, calls_then}
use Rattle.sd_gate.specs.Plans.{Planned, calls_after, plan_after, steps_left}
use Rattle.sd_gate.specs.Requests.{Made}
use Rattle.sd_gate.specs.Sequences.{Calls}

-- at most so many calls follow
abbrev Few : ℕ → Following → Type 0
Few n next = length next.0 + calls_awaited next.1 ≤ n

either_few : (b : Bool) (n : ℕ) (first second : Following) → Few n first → Few n second → Few n (if b then first else second)
either_few true n first second is other = is
either_few false n first second is other = other

table_few : (header : Result Header Reason) → Few 1 (table_read header)
table_few (Ok header) = omega arith
table_few (Err reason) = omega arith

first_few : (bytes : List ℕ) (len : ℕ) → Few 1 (after_first bytes len)
first_few bytes len = either_few ((length bytes == 4096) && (slice_index bytes 0 == gate)) 1 (table_read (header_in bytes len)) ([], nothing) (table_few (header_in bytes len)) (omega arith)

length_few : (answer : Answer) → Few 2 (after_length answer)
length_few (LenIs len) = either_few (nat_le 4096 len) 2 ((Read 0, zero_bytes 4096) ∷ [], the_header len) ([], nothing) (omega arith) (omega arith)
length_few _ = omega arith

following_few : (awaits : Awaits) (answer : Answer) (buffer : Option (List ℕ)) → Few (calls_awaited awaits) (following awaits answer buffer)
following_few nothing answer buffer = omega arith
following_few the_length answer buffer = length_few answer
following_few (the_header len) answer None = omega arith
following_few (the_header len) answer (Some bytes) = first_few bytes len

then_few : (calls : Calls) (awaits : Awaits) (answer : Answer) (buffer : Option (List ℕ)) → Few (length calls + calls_awaited awaits) (calls_then calls awaits answer buffer)
then_few [] awaits answer buffer = omega (arith, following_few awaits answer buffer)
then_few (call ∷ calls) awaits answer buffer = omega arith

after_few : (plan : Planned) (made : Made) → Few (length plan.calls + calls_awaited plan.awaits) (calls_after plan made)
after_few plan made =
    let buffer : Option (List ℕ) = buffer_back made.request.id.call made.request.bytes in
    either_few (is_done made.answer) (length plan.calls + calls_awaited plan.awaits) (calls_then plan.calls plan.awaits made.answer buffer) ([], nothing)
    (then_few plan.calls plan.awaits made.answer buffer) (omega arith)

-- an outcome of the request that is out leaves fewer
pub settled_fewer : (plan : Planned) (made : Made) → plan.out ≡ Some made.request.id → steps_left (plan_after plan made) < steps_left plan
settled_fewer plan made out = rw out (omega (arith, after_few plan made))
