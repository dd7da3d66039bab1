-- Requests that are out, each in a lane of its own.
use Rattle.std.specs.Prelude.{◌≡◌, ℕ, Bool, List, Option, Some, is_some, slice_get}
use Rattle.std.specs.List.{list_any}
use Rattle.sd_gate.specs.declared.request_id.RequestId.{RequestId}

-- one is out in some lane
abbrev pub is_any_out : List (Option RequestId) → Bool
is_any_out = list_any is_some

-- the request with this id is out
pub record IsInLane (outs : List (Option RequestId)) (id : RequestId) : Type 0 where
  pub lane : ℕ
  pub is : slice_get outs lane ≡ Some (Some id)
