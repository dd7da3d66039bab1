-- Each line adds its request to those before it, or is the first that is blamed.
use Rattle.std.proofs.Common.{◌+◌, ◌∙◌, sym, subst}
use Rattle.std.proofs.lemmas.Result.{err_from_is_err_and}
use Rattle.sd_script.proofs.Parsing.{Parsed, parsed-more, blamed-by, all_requests}
use Rattle.sd_script.proofs.script.Script.parse.Goals as goal

pub returns-in_err-take_line-clause-unfit : goal.returns-in_err-take_line-clause-unfit
returns-in_err-take_line-clause-unfit c =
    let p = err_from_is_err_and c.from_residual.result c.from_residual.ensures.1 in
    rw p.1 (blamed-by c.args.script.now c.loop-line.rest.now c.in-Some.line.now _ c.loop-line.number c.loop-line.lines.items c.loop-line.invariant c.in-Some.ensures.first p.0 (rw p.2 c.in_err-take_line.ensures.unfit))

pub loop-line-preserved : goal.loop-line-preserved
loop-line-preserved c = subst (Parsed c.args.script.now c.in-Some.others.now (c.loop-line.number + 1)) (sym c.in_ok-take_line.ensures.asked)
    (parsed-more c.args.script.now c.loop-line.rest.now c.in-Some.line.now c.in-Some.others.now c.loop-line.number c.loop-line.lines.items c.loop-line.invariant c.in-Some.ensures.first c.in-Some.ensures.shorter c.in_ok-take_line.ensures.fits)

pub returns-in_err-take_line-2-clause-unfit : goal.returns-in_err-take_line-2-clause-unfit
returns-in_err-take_line-2-clause-unfit c =
    let p = err_from_is_err_and c.from_residual-in_err-take_line-2.result c.from_residual-in_err-take_line-2.ensures.1 in
    rw p.1 (blamed-by c.args.script.now c.loop-line.rest.now c.loop-line.rest.now _ c.loop-line.number c.loop-line.lines.items c.loop-line.invariant c.in_default.ensures.last p.0 (rw p.2 c.in_err-take_line-2.ensures.unfit))

pub returns-clause-requests : goal.returns-clause-requests
returns-clause-requests c = c.in_ok-take_line-2.ensures.asked ∙ all_requests c.args.script.now c.loop-line.rest.now c.loop-line.number c.loop-line.lines.items c.loop-line.invariant c.in_default.ensures.last
