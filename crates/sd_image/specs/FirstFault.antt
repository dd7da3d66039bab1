-- The first item of a table at which a rule breaks, and the least reason that applies to it. The items are: the table's
-- head; of each space its head, its areas, its runs and its end; and the table's end.
use Rattle.std.specs.Prelude.{◌≡◌, ℕ, suc, Bool, false, not, ◌&&◌, ◌==◌, nat_lt, nat_le, List, [], ◌∷◌, length, take}
use Rattle.std.specs.Prelude.{Option, Some, None, Result, Ok, Err}
use Rattle.std.specs.List.{list_any}
use Rattle.sd_areas.specs.declared.area.Area.{Area}
use Rattle.sd_image.specs.declared.header.Header.{Header}
use Rattle.sd_image.specs.declared.header.Kind.{Kind}
use Rattle.sd_image.specs.declared.reason.Reason.{Reason}
use Rattle.sd_image.specs.declared.reason.Reason.TheVariants as reason
use Rattle.sd_image.specs.declared.run.Run.{Run}
use Rattle.sd_image.specs.declared.space_head.SpaceHead.{SpaceHead}
use Rattle.sd_image.specs.Table.{Listed}
use Rattle.sd_image.specs.Reading.{number_at, many, head_at, space_head_of, space_head_at, area_limit, area_holds}
use Rattle.sd_image.specs.Reading.{area_at, run_holds, run_at, covers, space_at, ends_rightly, table_in}
use Rattle.sd_image.specs.ReasonLaws.{reason_number, IsLeast}

-- a reason applies where the rule that has it is broken
abbrev pub applies : List (Reason × Bool) → Reason → Bool
applies rules r = list_any (λ (rule : Reason × Bool). reason_number rule.0 == reason_number r && rule.1) rules

-- The rules of an item that begins with these bytes, each with whether it is broken.

abbrev pub head_rules : List ℕ → List (Reason × Bool)
head_rules bytes =
    (reason.PastEnd, nat_lt (length bytes) 8)
    ∷ (reason.Space, not (nat_le (number_at 4 0 (take 8 bytes)) 16))
    ∷ (reason.Zero, not (number_at 4 4 (take 8 bytes) == 0))
    ∷ []

abbrev pub space_head_rules : Kind → ℕ → List ℕ → List (Reason × Bool)
space_head_rules kind before bytes =
    (reason.PastEnd, nat_lt (length bytes) 16)
    ∷ (
      reason.Space,
      not (nat_lt before (space_head_of (take 16 bytes)).space && nat_le
          (space_head_of (take 16 bytes)).space 16),
    )
    ∷ (reason.Area, not (nat_le (space_head_of (take 16 bytes)).areas (area_limit kind)))
    ∷ []

abbrev pub area_rules : Option Area → List ℕ → List (Reason × Bool)
area_rules before bytes =
    (reason.PastEnd, nat_lt (length bytes) 24)
    ∷ (reason.Area, not (area_holds before (take 24 bytes)))
    ∷ (reason.Zero, not (number_at 4 20 (take 24 bytes) == 0))
    ∷ []

abbrev pub run_rules : ℕ → Option Run → List ℕ → List (Reason × Bool)
run_rules parent before bytes =
    (reason.PastEnd, nat_lt (length bytes) 24)
    ∷ (reason.Run, not (run_holds parent before (take 24 bytes)))
    ∷ (reason.Zero, not (number_at 4 20 (take 24 bytes) == 0))
    ∷ []

-- Of n items one after the other, the next to be read begins at this place, after what came before it: all before it
-- are good.
pub data ReadsUpTo {X S : Type 0} (read : S → List ℕ → Result (X × List ℕ) Reason) (after : X → S) (next : S)
    (place : List ℕ) : ℕ → S → List ℕ → Type 0 where
  here : (n : ℕ) → ReadsUpTo read after next place (suc n) next place
  later : (n : ℕ) (state : S) (bytes : List ℕ) (x : X) (rest : List ℕ) → read state bytes ≡ Ok (x, rest)
      → ReadsUpTo read after next place n (after x) rest → ReadsUpTo read after next place (suc n) state bytes

-- where a space is at fault, after the space with the number before
pub data IsSpaceFault (h : Header) (before : ℕ) (bytes : List ℕ) (r : Reason) : Type 0 where
  space_head_breaks : IsLeast (applies (space_head_rules h.kind before bytes)) r → IsSpaceFault h before bytes r
  area_breaks : (head : SpaceHead) (rest : List ℕ) (previous : Option Area) (place : List ℕ)
      → space_head_at h.kind before bytes ≡ Ok (head, rest)
      → ReadsUpTo area_at Some previous place head.areas None rest
      → IsLeast (applies (area_rules previous place)) r → IsSpaceFault h before bytes r
  run_breaks : (head : SpaceHead) (rest : List ℕ) (areas : List Area) (behind : List ℕ) (previous : Option Run)
      (place : List ℕ)
      → space_head_at h.kind before bytes ≡ Ok (head, rest)
      → many area_at Some head.areas None rest ≡ Ok (areas, behind)
      → ReadsUpTo (run_at h.parent) Some previous place head.runs None behind
      → IsLeast (applies (run_rules h.parent previous place)) r → IsSpaceFault h before bytes r
  space_ends_wrongly : (head : SpaceHead) (rest : List ℕ) (areas : List Area) (behind : List ℕ) (runs : List Run)
      (end : List ℕ)
      → space_head_at h.kind before bytes ≡ Ok (head, rest)
      → many area_at Some head.areas None rest ≡ Ok (areas, behind)
      → many (run_at h.parent) Some head.runs None behind ≡ Ok (runs, end)
      → covers h.kind areas runs ≡ false → r ≡ reason.Coverage → IsSpaceFault h before bytes r

-- where a table is at fault
pub data IsTableFault (h : Header) (bytes : List ℕ) (r : Reason) : Type 0 where
  table_head_breaks : IsLeast (applies (head_rules bytes)) r → IsTableFault h bytes r
  space_breaks : (count : ℕ) (rest : List ℕ) (before : ℕ) (place : List ℕ)
      → head_at bytes ≡ Ok (count, rest)
      → ReadsUpTo (space_at h) (λ s. s.space) before place count 0 rest
      → IsSpaceFault h before place r → IsTableFault h bytes r
  table_ends_wrongly : (count : ℕ) (rest : List ℕ) (spaces : List Listed) (end : List ℕ)
      → head_at bytes ≡ Ok (count, rest)
      → many (space_at h) (λ s. s.space) count 0 rest ≡ Ok (spaces, end)
      → ends_rightly h spaces end ≡ false → r ≡ reason.Total → IsTableFault h bytes r

-- The reason that is found in a table is the least that applies to the first item at which a rule breaks.
abbrev pub FirstFaultIsNamed : Type 0
FirstFaultIsNamed = (h : Header) (bytes : List ℕ) (r : Reason)
    → (table_in h bytes ≡ Err r → IsTableFault h bytes r) × (IsTableFault h bytes r → table_in h bytes ≡ Err r)
