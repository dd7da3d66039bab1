-- How a checkpoint begins: when it is refused, in which slots it is made, and from which image on.
use Rattle.std.specs.Prelude.{◌≡◌, ◌⊎◌, ℕ, ◌+◌, ◌-◌, ◌<◌, ◌≤◌, ◌^◌, Bool, true, false, if◌then◌else◌, is_some, nat_le}
use Rattle.std.specs.Prelude.{nat_lt, ◌||◌, List, [], ◌∷◌, length, take, slice_get, Option, Some, None}
use Rattle.sd_chain.specs.Catalog.{IsTip, Opened, Places}
use Rattle.sd_command.specs.declared.refusal.Refusal.{Refusal}
use Rattle.sd_command.specs.declared.refusal.Refusal.TheVariants as refusal
use Rattle.sd_command.specs.declared.reply.Reply.{Reply}
use Rattle.sd_command.specs.declared.reply.Reply.TheVariants as reply
use Rattle.sd_rounds.specs.Dumper.{begun_checkpoint}
use Rattle.sd_crash_safety.specs.declared.standing.Standing.{Standing}
use Rattle.sd_crash_safety.specs.declared.standing.Standing.TheVariants as standing
use Rattle.sd_crash_safety.specs.View.{CoreView, Numbers, history_of}
use Rattle.sd_free_slots.specs.Taken.{AreFree}
use Rattle.sd_core.specs.declared.beginning.Slots.{Slots}
use Rattle.sd_core.specs.Grown.{has_grown}

-- ---- refusals, by priority

-- the first of these whose condition holds
abbrev pub first_of : List (Bool × Refusal) → Option Refusal
first_of [] = None
first_of (one ∷ rest) = if one.0 then Some one.1 else first_of rest

abbrev pub is_not_open : Standing → Bool
is_not_open standing.NotOpen = true
is_not_open standing.Open = false
is_not_open standing.Down = false

-- the store has fallen: no call is made on it any more
abbrev pub is_down : Standing → Bool
is_down standing.NotOpen = false
is_down standing.Open = false
is_down standing.Down = true

-- the greatest checkpoint number or serial that was used leaves none below 2^63
abbrev pub are_used_up : Numbers → Bool
are_used_up numbers = nat_le (2 ^ 63) numbers.checkpoint || nat_le (2 ^ 63) numbers.serial

-- how many entries are free beside those that are held
abbrev pub free_entries : CoreView → ℕ
free_entries core = core.limit - length (history_of core) - core.held

-- why a checkpoint of so many pre-dumps can't begin, before its slots are looked for
abbrev pub begin_refusal : CoreView → ℕ → Option Refusal
begin_refusal core rounds = first_of (
    (is_not_open core.standing, refusal.NotOpen)
    ∷ (is_down core.standing, refusal.StoreDown)
    ∷ (is_some core.dumper.running, refusal.Busy)
    ∷ (nat_lt 8 rounds, refusal.Einval)
    ∷ (nat_lt (free_entries core) 2, refusal.JournalFull)
    ∷ (are_used_up core.numbers, refusal.NumbersUsed)
    ∷ [])

-- ---- slots

-- the slots in which no image stands that is needed, that no job reserves and on which no request is out, rising
abbrev pub FreeSlots : CoreView → List ℕ → Type 0
FreeSlots core = AreFree core.catalog core.dumper.running core.merger core.outs (length core.phases)

-- The slots of a checkpoint are the lowest free ones, and one more is free.
pub record AreReserved (core : CoreView) (rounds : ℕ) (pre_dumps : List ℕ) (dump : ℕ) : Type 0 where
  pub slots : List ℕ
  pub free : FreeSlots core slots
  pub firsts : pre_dumps ≡ take rounds slots
  pub next : slice_get slots rounds ≡ Some dump
  pub spare : rounds + 2 ≤ length slots

-- of these free slots the first are a checkpoint's, where there are two more than its pre-dumps
pub record TakesFirst (free : List ℕ) (rounds : ℕ) (slots : Slots) : Type 0 where
  pub firsts : slots.pre_dumps.items ≡ take rounds free
  pub next : slice_get free rounds ≡ Some slots.dump
  pub spare : rounds + 2 ≤ length free

abbrev pub IsReserving : List ℕ → ℕ → Option Slots → Type 0
IsReserving free rounds None = length free < rounds + 2
IsReserving free rounds (Some slots) = TakesFirst free rounds slots

-- too few slots are free
pub record AreFew (core : CoreView) (rounds : ℕ) : Type 0 where
  pub slots : List ℕ
  pub free : FreeSlots core slots
  pub few : length slots < rounds + 2

-- ---- the parent

-- The first image names the tip, or takes every page where there is none, or none was acknowledged since the store was
-- opened or a checkpoint cancelled.
abbrev pub IsFirstParent : Places → Bool → ℕ → Type 0
IsFirstParent places false number = number ≡ 0
IsFirstParent places true number = ((number ≡ 0) × ((tip : Opened) → IsTip places tip → ⊥))
    ⊎ ((tip : Opened) × IsTip places tip × (number ≡ tip.header.stands_for))

-- ---- a checkpoint that has begun

-- its number is one above all that were used, its slots are the lowest free ones
pub record Begins (old : CoreView) (rounds n : ℕ) (new : CoreView) : Type 0 where
  pub number : n ≡ old.numbers.checkpoint + 1
  pub pre_dumps : List ℕ
  pub dump : ℕ
  pub parent : ℕ
  pub reserved : AreReserved old rounds pre_dumps dump
  pub first : IsFirstParent old.catalog old.grows parent
  -- it takes every page exactly where none was acknowledged after the latest reopening and the latest cancelling of
  -- the journal
  pub since : IsFirstParent old.catalog (has_grown old.base (history_of old)) parent
  pub running : new.dumper.running ≡ Some (begun_checkpoint n pre_dumps dump parent)
  pub stands : new.standing ≡ old.standing
  pub merger : new.merger ≡ old.merger

-- what a beginning leaves that none of these refuses
abbrev pub BeginsAs : CoreView → ℕ → Reply → CoreView → Type 0
BeginsAs old rounds (reply.Begun n) new = Begins old rounds n new
BeginsAs old rounds (reply.Refused refusal.NoSlot) new = AreFew old rounds × (new ≡ old)
BeginsAs old rounds (reply.Refused refusal.OutOfMemory) new = new ≡ old
BeginsAs old rounds _ new = ⊥
