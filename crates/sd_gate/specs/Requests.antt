-- Requests and outcomes as they are seen.
use Rattle.std.specs.Prelude.{ℕ, List}
use Rattle.sd_gate.specs.declared.answer.Answer.{Answer}
use Rattle.sd_gate.specs.declared.request_id.RequestId.{RequestId}

-- one device call that is asked for
pub record Asked : Type 0 where
  pub id : RequestId
  -- what it writes, or the buffer that it fills
  pub bytes : List ℕ

-- one device call that was made
pub record Made : Type 0 where
  -- its request, with what it wrote, or the buffer that it filled
  pub request : Asked
  pub answer : Answer
