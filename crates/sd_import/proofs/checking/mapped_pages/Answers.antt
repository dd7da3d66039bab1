use Rattle.std.proofs.Common.{◌∙◌, sym}
use Rattle.sd_import.proofs.CheckLemmas.{mapped_none, mapped_some}
use Rattle.sd_import.proofs.checking.mapped_pages.Goals as goal

pub returns-in-Some : goal.returns-in-Some
returns-in-Some c = mapped_some c.args.memory.now c.args.space c.in-Some.map.now c.pages_in.result c.in-Some.ensures
    (c.pages_in.ensures ∙ c.count_law.ensures c.in-Some.map.now c.areas-in-Some.result.now c.areas-in-Some.ensures.runs)

pub returns-in-None : goal.returns-in-None
returns-in-None c = mapped_none c.args.memory.now c.args.space (sym c.in-None.ensures)
