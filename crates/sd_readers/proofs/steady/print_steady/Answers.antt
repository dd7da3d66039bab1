use Rattle.std.proofs.Common.{◌≢◌, List, ℕ, Err, ap, map, refl, sym, ◌∙◌, subst}
use Rattle.std.proofs.Math.Nat.{le_refl, le_trans}
use Rattle.std.proofs.lemmas.Result.{err_from_is_err_and}
use Rattle.sd_restore.specs.declared.fault.Fault.{Fault}
use Rattle.sd_restore.specs.declared.fault.Fault.TheVariants.{EmptyChain, Device}
use Rattle.sd_exit.specs.declared.stop.Stop.TheVariants as stop
use Rattle.sd_image.specs.Shows.{Shows}
use Rattle.sd_readers.specs.Fronts.{front}
use Rattle.sd_readers.specs.Reading.{ReadsStore}
use Rattle.sd_readers.proofs.EndingLemmas.{breaks, breaks_longer, outside}
use Rattle.sd_readers.proofs.SteadyLemmas.{faulty_behind, longer_honest, no_difference}
use Rattle.sd_readers.proofs.steady.print_steady.Goals as goal

pub returns-in_err-fronts-clause-store : goal.returns-in_err-fronts-clause-store
returns-in_err-fronts-clause-store g c =
    let by = c.args.reader in
    let contents : List (List ℕ) = g.D.Disk.contents c.args.disk.now in
    let from = g.W.Write.contents c.args.out.now.writer in
    let first = c.in_ok-before.ensures.reads in
    let done = c.print_by-ended in
    let to = g.W.Write.contents done.new.out.writer in
    let now = c.in_err-fronts.ensures in
    let before = g.D.Disk.is_honest done.new.disk in
    let honest = g.D.Disk.is_honest c.fronts-2.new.disk in
    let failed = g.D.Disk.failed c.args.disk.now in
    let a = g.D.Disk.failed c.fronts.new.disk in
    let b = g.D.Disk.failed done.new.disk in
    let after = g.D.Disk.failed c.fronts-2.new.disk in
    let fault : Fault = c.in_err-fronts.field-0.0 in
    let some : fault ≢ EmptyChain = λ e. now.empty (ap (λ (f : Fault). Err f) e) in
    let broke = breaks b after fault now.unnamed some (λ e. now.device (ap (λ (f : Fault). Err f) e)) in
    let p = err_from_is_err_and c.from_residual-in_err-fronts.result c.from_residual-in_err-fronts.ensures.1 in
    rw (p.1, p.2)
    (faulty_behind by contents honest failed after done.result fault from to (sym c.writer_failed.ensures ∙ c.if-writer_failed.false) (outside b after (stop.Fault fault) broke)
    (λ h. breaks_longer failed b after after (stop.Fault fault) (le_trans first.failures done.ensures.reads.failures) (le_refl after) broke)
    (longer_honest by contents before honest failed a b after done.result from to now.reads.honest first.failures now.reads.failures
    (subst (λ files. ReadsStore by before files a b done.result from to) first.same done.ensures.store)))

pub returns-clause-store : goal.returns-clause-store
returns-clause-store g c =
    let by = c.args.reader in
    let contents : List (List ℕ) = g.D.Disk.contents c.args.disk.now in
    let from = g.W.Write.contents c.args.out.now.writer in
    let first = c.in_ok-before.ensures.reads in
    let done = c.print_by-ended in
    let to = g.W.Write.contents done.new.out.writer in
    let before = g.D.Disk.is_honest done.new.disk in
    let honest = g.D.Disk.is_honest c.fronts-2.new.disk in
    let failed = g.D.Disk.failed c.args.disk.now in
    let a = g.D.Disk.failed c.fronts.new.disk in
    let b = g.D.Disk.failed done.new.disk in
    let after = g.D.Disk.failed c.fronts-2.new.disk in
    let last = c.in_ok-fronts.ensures.reads in
    faulty_behind by contents honest failed after done.result Device from to (sym c.writer_failed.ensures ∙ c.if-writer_failed.false) refl
    (λ h. let was = last.honest h in
    no_difference (map front contents) c.in_ok-fronts.field-0.items c.in_ok-before.before.items
    (c.in_ok-fronts.ensures.exact h ∙ ap (map front) (done.ensures.reads.same ∙ first.same)) (c.in_ok-before.ensures.exact (done.ensures.reads.honest was))
    (sym c.if-eq.false ∙ c.eq.ensures))
    (longer_honest by contents before honest failed a b after done.result from to last.honest first.failures last.failures
    (subst (λ files. ReadsStore by before files a b done.result from to) first.same done.ensures.store))

pub returns-then-eq-clause-good : goal.returns-then-eq-clause-good
returns-then-eq-clause-good g c = λ honest is shown shows.
    let first = c.in_ok-before.ensures.reads in
    let last = c.in_ok-fronts.ensures.reads in
    c.print_by-ended.ensures.good (last.honest honest) is shown (subst (λ (files : List (List ℕ)). Shows files shown) (sym first.same) shows)
