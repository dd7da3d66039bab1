use Rattle.std.proofs.Common.{◌≡◌, [], inl, subst, false, true}
use Rattle.std.specs.Io.KnownBytes.{Keeps}
use Rattle.std.proofs.KnownBytes.{Appends-nil}
use Rattle.sd_exit.specs.declared.stop.Stop.TheVariants as stop
use Rattle.sd_exit.specs.Ending.{status_of}
use Rattle.sd_exit.proofs.EndingLemmas.{exits}
use Rattle.sd_exit.proofs.ending.exit_with_fault.Goals as goal

pub returns-clause-exits : goal.returns-clause-exits
returns-clause-exits g c =
    let from = g.W.Write.contents c.args.out.now.writer in
    let done = c.finish in
    let to = g.W.Write.contents done.new.self.writer in
    let kept : Keeps from to = subst (λ w. Keeps (g.W.Write.contents w) to) c.keep_fault.ensures.writer done.ensures.bytes in
    exits from from to done.new.self.refused [] (status_of (stop.Fault c.args.fault)) c.fault_status.result done.result false
    (inl (c.fault_status.ensures, Appends-nil from)) (λ f. absurd (let e : false ≡ true = f in cc)) kept done.ensures.status
