use Rattle.std.proofs.Common.{◌≡◌, ◌+◌, ℕ, refl, ◌∙◌, subst, arith}
use Rattle.sd_receive.specs.Arrived.{HasPages}
use Rattle.sd_receive.specs.Arriving.{KeepsImages}
use Rattle.sd_receive.proofs.ArriveLemmas.{at_end, keeps_join, keeps_still}
use Rattle.sd_receive.proofs.pages.put_piece.Goals as goal

pub loop-at-init : goal.loop-at-init
loop-at-init g c =
    let d = g.D.Disk in
    let disk = c.args.disk.now in
    let none : c.args.place ≡ c.args.place + 0 = omega arith in
    record {
      count = refl;
      others = λ other apart. refl;
      honest = λ honest. honest;
      taken = λ has. subst (λ (n : ℕ). HasPages (d.contents disk) (d.may_leave disk) c.args.slot n c.args.digester.now) none has;
      keeps = λ has. keeps_still d disk (λ files left. g.met.D.Disk.only_now disk files left) (λ files may. g.met.D.Disk.same_slots disk files may) has.fills.rests;
    }

pub returns-in_err-put-clause-keeps : goal.returns-in_err-put-clause-keeps
returns-in_err-put-clause-keeps g c = λ has.
    let d = g.D.Disk in
    let old = c.args.disk.now in
    let mid = c.loop-at.disk in
    let was = c.loop-at.invariant in
    keeps_join d old mid c.put.new.disk (was.keeps has)
    (at_end d old mid (KeepsImages (d.contents old)) (g.met.D.Disk.as_read mid) (λ t files since may. g.met.D.Disk.counts_now mid t files since may) (was.keeps has))
    (c.put.ensures.keeps (was.taken has))

pub loop-at-preserved : goal.loop-at-preserved
loop-at-preserved g c =
    let d = g.D.Disk in
    let old = c.args.disk.now in
    let mid = c.loop-at.disk in
    let was = c.loop-at.invariant in
    let now = c.in_ok-put.ensures in
    let more : (c.args.place + c.loop-at.at) + 1 ≡ c.args.place + (c.loop-at.at + 1) = omega arith in
    record {
      count = now.count ∙ was.count;
      others = λ other apart. now.others other apart ∙ was.others other apart;
      honest = λ honest. was.honest (now.honest honest);
      taken = λ has. subst (λ (n : ℕ). HasPages (d.contents c.put.new.disk) (d.may_leave c.put.new.disk) c.args.slot n c.put.new.digester) more (now.taken (was.taken has));
      keeps = λ has. keeps_join d old mid c.put.new.disk (was.keeps has)
          (at_end d old mid (KeepsImages (d.contents old)) (g.met.D.Disk.as_read mid) (λ t files since may. g.met.D.Disk.counts_now mid t files since may) (was.keeps has))
          (now.keeps (was.taken has));
    }
