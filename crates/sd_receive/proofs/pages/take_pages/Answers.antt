use Rattle.std.proofs.Common.{[], ◌≡◌, ◌≤◌, ◌+◌, ◌-◌, ◌*◌, ◌/◌, ℕ, length, refl, sym, ◌∙◌, ap, subst, arith}
use Rattle.std.specs.Prelude.{min}
use Rattle.sd_receive.specs.Arrived.{HasPages}
use Rattle.sd_receive.specs.Arriving.{KeepsImages}
use Rattle.sd_receive.proofs.ArriveLemmas.{at_end, keeps_join, keeps_still}
use Rattle.sd_receive.proofs.StreamLemmas.{goes_on_more}
use Rattle.sd_receive.proofs.pages.take_pages.Goals as goal

pub loop-place-init : goal.loop-place-init
loop-place-init g c =
    let disk = c.args.disk.now in
    let len = c.in_ok-piece.ensures.len in
    let least = c.min.ensures in
    record {
      few = omega arith;
      piece = omega (arith, len, least);
      count = refl;
      others = λ other apart. refl;
      honest = λ honest. honest;
      reads = c.in_ok-piece.ensures.reads;
      taken = λ has. has;
      keeps = λ has. keeps_still g.D.Disk disk (λ files left. g.met.D.Disk.only_now disk files left) (λ files may. g.met.D.Disk.same_slots disk files may) has.fills.rests;
    }

pub returns-in_err-piece-clause-keeps : goal.returns-in_err-piece-clause-keeps
returns-in_err-piece-clause-keeps g c = λ has.
    let disk = c.args.disk.now in
    keeps_still g.D.Disk disk (λ files left. g.met.D.Disk.only_now disk files left) (λ files may. g.met.D.Disk.same_slots disk files may) has.fills.rests

pub returns-in_err-piece-2-clause-keeps : goal.returns-in_err-piece-2-clause-keeps
returns-in_err-piece-2-clause-keeps g c = λ has.
    let d = g.D.Disk in
    let old = c.args.disk.now in
    let mid = c.loop-place.disk in
    let was = c.loop-place.invariant in
    keeps_join d old mid c.put_beside.new.disk (was.keeps has)
    (at_end d old mid (KeepsImages (d.contents old)) (g.met.D.Disk.as_read mid) (λ t files since may. g.met.D.Disk.counts_now mid t files since may) (was.keeps has))
    (c.put_beside.ensures.keeps (was.taken has))

pub loop-place-preserved : goal.loop-place-preserved
loop-place-preserved g c =
    let d = g.D.Disk in
    let old = c.args.disk.now in
    let mid = c.loop-place.disk in
    let was = c.loop-place.invariant in
    let now = c.put_beside.ensures in
    let next = c.in_ok-piece-2.ensures in
    let few : c.loop-place.place ≤ c.args.pages = was.few in
    let long : length c.loop-place.piece.items ≡ min (c.args.pages - c.loop-place.place) 16 * 4096 = was.piece in
    let least = c.min-count.ensures in
    let len = next.len in
    let same : length c.deref.result.now ≡ c.len.result = ap length c.deref.ensures.value ∙ sym c.loop-place.piece.ok.0 ∙ sym c.len.ensures in
    record {
      few = omega (arith, few, long);
      piece = omega (arith, len, least);
      count = now.count ∙ was.count;
      others = λ other apart. now.others other apart ∙ was.others other apart;
      honest = λ honest. was.honest (now.honest honest);
      reads = goes_on_more g.R.Read.remaining c.args.reader.now c.loop-place.reader c.put_beside.new.reader [] [] was.reads next.reads;
      taken = λ has. subst (λ (n : ℕ). HasPages (d.contents c.put_beside.new.disk) (d.may_leave c.put_beside.new.disk) c.args.slot (c.loop-place.place + n / 4096) c.put_beside.new.digester) same (next.taken (was.taken has));
      keeps = λ has. keeps_join d old mid c.put_beside.new.disk (was.keeps has)
          (at_end d old mid (KeepsImages (d.contents old)) (g.met.D.Disk.as_read mid) (λ t files since may. g.met.D.Disk.counts_now mid t files since may) (was.keeps has))
          (now.keeps (was.taken has));
    }
