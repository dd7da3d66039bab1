use Rattle.std.proofs.Common.{All, take}
use Rattle.sd_receive.specs.declared.mapped.MappedPage.{MappedPage}
use Rattle.sd_receive.specs.Merged.{IsElsewhere}
use Rattle.sd_receive.proofs.merging.are_elsewhere.Given as goal

-- those so far are
abbrev pub invariant-loop-page : goal.invariant-loop-page
invariant-loop-page l = All (λ (p : MappedPage). IsElsewhere l.slot l.slots p.there) (take l.page-index l.pages)
