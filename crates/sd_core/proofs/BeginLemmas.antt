-- A checkpoint begins.
use Rattle.std.proofs.Common.{◌≡◌, ℕ, ◌+◌, ◌<◌, ◌≤◌, ◌^◌, nat_lt, Bool, false, if◌then◌else◌, is_none, is_some, not, List, Option, Some, None, IfSome, arith}
use Rattle.sd_chain.specs.Catalog.{Places}
use Rattle.sd_command.specs.declared.refusal.Refusal.{Refusal}
use Rattle.sd_command.specs.declared.refusal.Refusal.TheVariants as refusal
use Rattle.sd_journal.specs.History.{Base}
use Rattle.sd_journal.specs.Marked.{Marked}
use Rattle.sd_opener.specs.Looking.{Looking}
use Rattle.sd_gate.specs.declared.phase.Phase.{Phase}
use Rattle.sd_crash_safety.specs.declared.standing.Standing.{Standing}
use Rattle.sd_crash_safety.specs.declared.standing.Standing.TheVariants as standing
use Rattle.sd_crash_safety.specs.View.{CoreView}
use Rattle.sd_core.specs.declared.numbers.Numbers.{Numbers}
use Rattle.sd_core.specs.Beginning.{are_used_up, begin_refusal, free_entries, is_down, is_not_open}
use Rattle.sd_core.specs.Sound.{AreSoundNumbers, CheckpointsAreCounted, IsOpening}

-- ---- when no refusal holds

-- the first doesn't, and none of the others
pub first_no : (holds : Bool) (why : Refusal) (rest : Option Refusal) → (if holds then Some why else rest) ≡ None → (holds ≡ false) × (rest ≡ None)
first_no holds why rest is = grind arith

pub stands_open : (stands : Standing) → is_not_open stands ≡ false → is_down stands ≡ false → stands ≡ standing.Open
stands_open stands is down = grind arith

pub none_some : {X : Type 0} (one : Option X) → is_some one ≡ false → one ≡ None
none_some one is = grind arith

pub record MayBegin (core : CoreView) (rounds : ℕ) : Type 0 where
  pub stands : core.standing ≡ standing.Open
  pub idle : core.dumper.running ≡ None
  pub few : rounds ≤ 8
  pub free : 2 ≤ free_entries core
  pub checkpoint : core.numbers.checkpoint < 2 ^ 63
  pub serial : core.numbers.serial < 2 ^ 63

pub may_begin : (core : CoreView) (rounds : ℕ) → begin_refusal core rounds ≡ None → MayBegin core rounds
may_begin core rounds is = grind arith

-- conditions that are alike give the same refusal
pub same_first : (core : CoreView) (rounds : ℕ) (not_open down busy rounds_over few used : Bool) → not_open ≡ is_not_open core.standing → down ≡ is_down core.standing
    → busy ≡ is_some core.dumper.running → rounds_over ≡ nat_lt 8 rounds → few ≡ nat_lt (free_entries core) 2 → used ≡ are_used_up core.numbers
    → (if not_open then Some refusal.NotOpen else if down then Some refusal.StoreDown else if busy then Some refusal.Busy
    else if rounds_over then Some refusal.Einval else if few then Some refusal.JournalFull else if used then Some refusal.NumbersUsed else None)
    ≡ begin_refusal core rounds
same_first core rounds not_open down busy rounds_over few used a b d e f g = grind arith

pub is_busy : {X : Type 0} (one : Option X) (idle : Bool) → idle ≡ is_none one → not idle ≡ is_some one
is_busy one idle is = grind arith

-- ---- numbers

newest_below : (newest : Option ℕ) (old new : ℕ) → old ≤ new → IfSome newest (λ n. n ≤ old) → IfSome newest (λ n. n ≤ new)
newest_below newest old new rises was = grind arith

pub begun_numbers : (base : Base) (items : Marked) (newest : Option ℕ) (old new : Numbers) → new.begun ≡ old.checkpoint + 1 → new.checkpoint ≡ old.checkpoint + 1
    → new.given ≡ old.given → new.serial ≡ old.serial → AreSoundNumbers base items None newest old → AreSoundNumbers base items None newest new
begun_numbers base items newest old new begun checkpoint given serial was =
    let before = was.checkpoints in
    let serials = was.serials in
    record {
      used = λ n above. was.used n (omega (arith, above, begun, before));
      newest_used = newest_below newest old.begun new.begun (omega (arith, begun, before)) was.newest_used;
      frozen_used = tt;
      marks = λ s above. was.marks s (omega (arith, above, given));
      checkpoints = omega (arith, begun, checkpoint);
      serials = omega (arith, given, serial, serials);
    }

pub begun_counted : (places : Places) (old new : Numbers) → new.checkpoint ≡ old.checkpoint + 1 → CheckpointsAreCounted old places → CheckpointsAreCounted new places
begun_counted places old new checkpoint was serial o at = let below = was serial o at in omega (arith, checkpoint, below)

-- an opener runs only while the store isn't open
pub none_opens : (opener : Option Looking) (stands : Standing) (phases : List Phase) → IfSome opener (IsOpening stands phases) → stands ≡ standing.Open → opener ≡ None
none_opens opener stands phases opening is = grind arith
