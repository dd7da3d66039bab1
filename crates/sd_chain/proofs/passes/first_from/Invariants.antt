use Rattle.std.proofs.Common.{take, map, Contains}
use Rattle.sd_image.specs.declared.header.Header.{Header}
use Rattle.sd_image.specs.declared.table.SpaceTable.{SpaceTable}
use Rattle.sd_image.specs.Table.{IsTable, listing_of}
use Rattle.sd_chain.proofs.NextPages.{IsPassed}
use Rattle.sd_chain.proofs.passes.first_from.Given as goal

-- no space so far has a page there
abbrev pub invariant-loop-listed : goal.invariant-loop-listed
invariant-loop-listed l = (h : Header) → IsTable h (map listing_of l.fn.spaces) → (s : SpaceTable) → Contains (take l.listed-index l.fn.spaces) s → IsPassed (l.fn.space, l.fn.page) s
