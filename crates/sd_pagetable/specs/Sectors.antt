-- The bytes of a page or of a sector that was asked for: zeros where the page has no frame.
use Rattle.std.specs.Prelude.{ℕ, List, Option, Some, None, replicate}
use Rattle.std.specs.Borrow.{Bor}
use Rattle.sd_pagetable.specs.Page.{zeros}

-- a page's
abbrev pub framed_bytes : Option (Bor (List ℕ)) → List ℕ
framed_bytes None = zeros
framed_bytes (Some bytes) = bytes.now

-- a sector's
abbrev pub sector_bytes : Option (Bor (List ℕ)) → List ℕ
sector_bytes None = replicate 512 0
sector_bytes (Some bytes) = bytes.now
