-- Spans of calls on a disk, and what a crash within one leaves: the steps that every layer above takes.
use Rattle.std.specs.Prelude.{◌⊎◌, ℕ, ◌≤◌, List}
use mathlib.Core.Logic.{inl, inr}
use Rattle.std.proofs.Common.{⊎_elim}
use Rattle.std.proofs.Math.Nat.{le_refl, le_trans}
use Rattle.sd_disk.specs.Crash.{Within, Elapses}
use Rattle.sd_disk.specs.declared.disk.Disk.{Ghosts}

-- A crash at any moment since old leaves contents that have P.
pub record LeavesOnly {D : Type 0} (g : Ghosts D) (old new : D) (P : List (List ℕ) → Type 0) : Type 0 where
  pub later : g.moment old ≤ g.moment new
  pub each : (c : List (List ℕ)) → g.left_since new (g.moment old) c → P c
  -- for a run that began earlier
  pub before : (t : ℕ) (c : List (List ℕ)) → t ≤ g.moment old → g.left_since new t c → g.left_since old t c ⊎ P c

module _ {D : Type 0} (g : Ghosts D) where
  -- with nothing called, a crash since now leaves what it leaves now
  pub nothing_called : (disk : D) (P outcomes : List (List ℕ) → Type 0)
      → Within (g.left_since disk (g.moment disk)) outcomes → Within outcomes P
      → LeavesOnly g disk disk P
  nothing_called disk P outcomes only_now now = record {
    later = le_refl (g.moment disk);
    each = λ c left. now c (only_now c left);
    before = λ t c since left. inl left;
  }

  -- one call more, after which a crash leaves what has P
  pub one_call : (old mid new : D) (P outcomes : List (List ℕ) → Type 0) → LeavesOnly g old mid P
      → Elapses (g.moment mid) (g.moment new) (g.left_since mid) (g.left_since new) outcomes → Within outcomes P
      → LeavesOnly g old new P
  one_call old mid new P outcomes span time after = record {
    later = le_trans span.later time.later;
    each = λ c left. ⊎_elim (span.each c) (after c) (time.nothing_else (g.moment old) c span.later left);
    before = λ t c since left. ⊎_elim (span.before t c since) (λ now. inr (after c now))
        (time.nothing_else t c (le_trans since span.later) left);
  }

  -- two spans, one after the other
  pub spans_join : (old mid new : D) (P : List (List ℕ) → Type 0) → LeavesOnly g old mid P → LeavesOnly g mid new P
      → LeavesOnly g old new P
  spans_join old mid new P first second = record {
    later = le_trans first.later second.later;
    each = λ c left. ⊎_elim (first.each c) (λ has. has) (second.before (g.moment old) c first.later left);
    before = λ t c since left. ⊎_elim (first.before t c since) (λ has. inr has)
        (second.before t c (le_trans since first.later) left);
  }

  -- what has P has Q
  pub span_widened : (old new : D) (P Q : List (List ℕ) → Type 0) → Within P Q → LeavesOnly g old new P
      → LeavesOnly g old new Q
  span_widened old new P Q weaker span = record {
    later = span.later;
    each = λ c left. weaker c (span.each c left);
    before = λ t c since left. ⊎_elim inl (λ has. inr (weaker c has)) (span.before t c since left);
  }
