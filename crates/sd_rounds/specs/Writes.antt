-- The writes of data pages that are out, each in a lane of its own.
use Rattle.std.specs.Prelude.{◌≡◌, ℕ, ◌<◌, Bool, List, [], ◌∷◌, length, Option, Some, None, is_some, slice_get}
use Rattle.std.specs.List.{list_all, count_by}
use Rattle.sd_gate.specs.declared.call.Call.TheVariants.{Write}
use Rattle.sd_gate.specs.declared.request_id.RequestId.{RequestId}
use Rattle.sd_gate.specs.declared.worker.Worker.TheVariants.{Dumper}
use Rattle.sd_gate.specs.Sequences.{data_place}

-- none is out
abbrev pub no_writes : List (Option RequestId)
no_writes = None ∷ None ∷ None ∷ None ∷ None ∷ None ∷ None ∷ None ∷ []

-- one is out in each lane
abbrev pub are_all_out : List (Option RequestId) → Bool
are_all_out = list_all is_some

-- how many are out
abbrev pub writes_out : List (Option RequestId) → ℕ
writes_out = count_by is_some

-- the write of one of the first data pages of a slot
pub record IsPageWrite (slot pages : ℕ) (id : RequestId) : Type 0 where
  pub worker : id.worker ≡ Dumper
  pub on : id.slot ≡ slot
  pub place : ℕ
  pub made : place < pages
  pub call : id.call ≡ Write (data_place place)

-- there are eight lanes, each with the write of one of the data pages so far, or none; no two write the same page
pub record AreWrites (slot pages : ℕ) (writes : List (Option RequestId)) : Type 0 where
  pub count : length writes ≡ 8
  pub each : (lane : ℕ) (id : RequestId) → slice_get writes lane ≡ Some (Some id) → IsPageWrite slot pages id
  pub apart : (one other : ℕ) (a b : RequestId) → slice_get writes one ≡ Some (Some a)
      → slice_get writes other ≡ Some (Some b)
      → a.call ≡ b.call → one ≡ other
