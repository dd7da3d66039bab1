use Rattle.std.proofs.Common.{ℕ, List, length, ap, sym, subst, arith}
use Rattle.sd_disk.specs.Contents.{file_at}
use Rattle.sd_disk.specs.Crash.{OnlyAt}
use Rattle.sd_receive.proofs.SettledLemmas.{all_settled}
use Rattle.sd_receive.proofs.settling.settle.Goals as goal

pub returns-clause-settled : goal.returns-clause-settled
returns-clause-settled g c =
    let was = c.loop-slot.invariant in
    let d = g.D.Disk in
    let now = c.loop-slot.disk in
    all_settled (d.contents now) (d.may_leave now) c.all_found_fit.ensures
    (λ slot within. subst (λ (file : List ℕ). OnlyAt slot file (d.may_leave now)) (ap (λ files. file_at files slot) (sym was.reads.same))
    (was.synced slot (let end = was.count in let same = ap length was.reads.same in omega (arith, end, same, within, c.loop-slot-test.false))))
