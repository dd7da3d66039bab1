-- What calls that only read leave of a disk, and of what a crash may leave.
use Rattle.std.specs.Prelude.{◌≡◌, ℕ, ◌≤◌, List, refl}
use Rattle.std.proofs.Common.{⊎_elim, ◌∙◌}
use Rattle.std.proofs.Math.Nat.{le_refl, le_trans}
use Rattle.sd_disk.specs.Crash.{Within, Elapses}
use Rattle.sd_disk.specs.declared.disk.Disk.{Ghosts}

-- The contents stay, and a crash, afterwards or at any moment since, leaves nothing that it couldn't leave before.
pub record OnlyReads {D : Type 0} (g : Ghosts D) (old new : D) : Type 0 where
  pub same : g.contents new ≡ g.contents old
  pub crash : Within (g.may_leave new) (g.may_leave old)
  pub time : g.moment old ≤ g.moment new
  pub left : (t : ℕ) (c : List (List ℕ)) → t ≤ g.moment old → g.left_since new t c → g.left_since old t c
  pub honest : g.is_honest new → g.is_honest old
  pub failures : g.failed old ≤ g.failed new

module _ {D : Type 0} (g : Ghosts D) where
  -- no call is made
  pub nothing_read : (disk : D) → OnlyReads g disk disk
  nothing_read disk = record {
    same = refl;
    crash = λ c left. left;
    time = le_refl (g.moment disk);
    left = λ t c since left. left;
    honest = λ honest. honest;
    failures = le_refl (g.failed disk);
  }

  -- one call that reads
  pub one_read : (old new : D)
      → ((t : ℕ) (c : List (List ℕ)) → t ≤ g.moment old → g.may_leave old c → g.left_since old t c)
      → g.contents new ≡ g.contents old → Within (g.may_leave new) (g.may_leave old)
      → Elapses (g.moment old) (g.moment new) (g.left_since old) (g.left_since new) (g.may_leave new)
      → (g.is_honest new → g.is_honest old) → g.failed old ≤ g.failed new → OnlyReads g old new
  one_read old new counts_now same crash time honest failures = record {
    same = same;
    crash = crash;
    time = time.later;
    left = λ t c since left. ⊎_elim (λ was. was) (λ now. counts_now t c since (crash c now))
        (time.nothing_else t c since left);
    honest = honest;
    failures = failures;
  }

  -- calls that read, and then others that do
  pub reads_join : (old mid new : D) → OnlyReads g old mid → OnlyReads g mid new → OnlyReads g old new
  reads_join old mid new first second = record {
    same = second.same ∙ first.same;
    crash = λ c left. first.crash c (second.crash c left);
    time = le_trans first.time second.time;
    left = λ t c since left. first.left t c since (second.left t c (le_trans since first.time) left);
    honest = λ honest. first.honest (second.honest honest);
    failures = le_trans first.failures second.failures;
  }
