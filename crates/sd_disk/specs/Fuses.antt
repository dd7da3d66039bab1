-- Which call fails.
use Rattle.std.specs.Prelude.{ℕ, ◌-◌, if◌then◌else◌, ◌==◌, Option, Some, None}
use Rattle.sd_disk.specs.declared.fuse.Fuse.{Fuse}
use Rattle.sd_disk.specs.declared.fuse.Fuse.TheVariants.{Passes, Blown}

-- how many calls pass before the one that fails; none once it has
abbrev pub calls_before : Fuse → Option ℕ
calls_before (Passes calls) = Some calls
calls_before Blown = None

-- how many pass after one call more
abbrev pub burnt : Option ℕ → Option ℕ
burnt (Some calls) = if calls == 0 then None else Some (calls - 1)
burnt None = None

-- how many calls have failed by the fuse
abbrev pub blown : Option ℕ → ℕ
blown (Some calls) = 0
blown None = 1
