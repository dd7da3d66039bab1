-- A disk of which one call fails.
use Rattle.std.specs.Prelude.{◌≡◌, ℕ, Bool, if◌then◌else◌, Option}
use Rattle.sd_disk.specs.Fuses.{burnt, calls_before}
use Rattle.sd_disk.specs.declared.fused.Fused.{Fused}

abbrev pub fuse_of : {D : Type 0} → Fused D → Option ℕ
fuse_of fused = calls_before fused.fuse

-- the call that fails isn't made
abbrev pub is_dropping : {D : Type 0} → Fused D → Bool
is_dropping fused = fused.drops

-- how many calls were not made on the disk within
abbrev pub missed : {D : Type 0} → Fused D → ℕ
missed fused = if fused.misses then 1 else 0

-- a call burns the fuse, and changes nothing else of it
pub record Burns {D : Type 0} (old new : Fused D) : Type 0 where
  pub fuse : fuse_of new ≡ burnt (fuse_of old)
  pub kind : is_dropping new ≡ is_dropping old
