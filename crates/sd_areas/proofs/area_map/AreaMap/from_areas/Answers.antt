use Rattle.std.proofs.Common.{arith}
use Rattle.sd_areas.proofs.Calls.{within_ok, within_err}
use Rattle.sd_areas.proofs.area_map.AreaMap.from_areas.Goals as goal

pub returns-then-len-gt-AREA_LIMIT-clause-refused : goal.returns-then-len-gt-AREA_LIMIT-clause-refused
returns-then-len-gt-AREA_LIMIT-clause-refused c = within_err _ c.requires (omega (arith, c.args.areas.ok.0, c.len.ensures, c.if-len-gt-AREA_LIMIT.true))

pub returns-clause-ok : goal.returns-clause-ok
returns-clause-ok c = within_ok _ c.requires (omega (arith, c.args.areas.ok.0, c.len.ensures, c.if-len-gt-AREA_LIMIT.false))
