use Rattle.std.proofs.Common.{List, ℕ, sym, subst}
use Rattle.sd_chain.specs.Store.{IsCatalogOf}
use Rattle.sd_receive.specs.Arriving.{IsSettled}
use Rattle.sd_receive.proofs.SettledLemmas.{settled_fewer}
use Rattle.sd_receive.proofs.receiver.Receiver.begin.Goals as goal

pub returns-clause-ready : goal.returns-clause-ready
returns-clause-ready g c = λ honest.
    let d = g.D.Disk in
    let mid = c.settle.new.disk in
    let new = c.scan.new.disk in
    let reads = c.scan.ensures.reads in
    record {
      rests = subst (λ (files : List (List ℕ)). IsSettled files (d.may_leave new)) (sym reads.same)
          (settled_fewer (d.contents mid) (d.may_leave mid) (d.may_leave new) reads.crash c.in_ok-settle.ensures.settled);
      catalog = subst (λ (files : List (List ℕ)). IsCatalogOf files c.in_ok-catalog.catalog) (sym reads.same) (c.in_ok-catalog.ensures.catalog honest);
    }
