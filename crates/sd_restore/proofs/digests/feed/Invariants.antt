use Rattle.std.proofs.Common.{◌++◌, ℕ, List, take}
use Rattle.std.specs.List.{flat_map}
use Rattle.sd_image.specs.Digests.{HasFed}
use Rattle.sd_restore.proofs.digests.feed.Given as goal

-- the digester was fed the pages so far
abbrev pub invariant-loop-page : goal.invariant-loop-page
invariant-loop-page l = (fed : List ℕ) → HasFed l.fn.digester fed → HasFed l.digester (fed ++ flat_map (λ (page : List ℕ). page) (take l.page-index l.pages))
