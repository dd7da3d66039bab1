use Rattle.std.proofs.Common.{[], ◌∷◌, ◌++◌, ◌≡◌, ℕ, List, ap, subst}
use Rattle.std.specs.List.{concat}
use Rattle.sd_image.specs.Digests.{HasFed}
use Rattle.sd_chain.specs.declared.found.Found.TheVariants.{Data}
use Rattle.sd_chain.specs.Store.{bytes_at}
use Rattle.sd_receive.specs.Arriving.{KeepsImages}
use Rattle.sd_receive.proofs.ArriveLemmas.{at_end, keeps_join, one_longer, pages_more}
use Rattle.sd_receive.proofs.CopyLemmas.{filled_read, reads_keep}
use Rattle.sd_receive.proofs.copying.copy_data.Goals as goal

pub returns-in_err-buffer-clause-keeps : goal.returns-in_err-buffer-clause-keeps
returns-in_err-buffer-clause-keeps g c = λ has.
    let old = c.args.disk.now in
    reads_keep g.D.Disk old c.read_page.new.disk (λ files left. g.met.D.Disk.only_now old files left) (λ files may. g.met.D.Disk.same_slots old files may) c.read_page.ensures.reads has.fills.rests

pub returns-in_err-put_page-clause-keeps : goal.returns-in_err-put_page-clause-keeps
returns-in_err-put_page-clause-keeps g c = λ has.
    let d = g.D.Disk in
    let old = c.args.disk.now in
    let mid = c.read_page.new.disk in
    let keeps = reads_keep d old mid (λ files left. g.met.D.Disk.only_now old files left) (λ files may. g.met.D.Disk.same_slots old files may) c.read_page.ensures.reads has.fills.rests in
    keeps_join d old mid c.put_page.new.disk keeps
    (at_end d old mid (KeepsImages (d.contents old)) (g.met.D.Disk.as_read mid) (λ t files since may. g.met.D.Disk.counts_now mid t files since may) keeps)
    (c.put_page.ensures.keeps has.pages has.counted (filled_read d old mid c.args.slot has.pages c.read_page.ensures.reads has.fills))

pub returns-clause-keeps : goal.returns-clause-keeps
returns-clause-keeps g c = λ has.
    let d = g.D.Disk in
    let old = c.args.disk.now in
    let mid = c.read_page.new.disk in
    let keeps = reads_keep d old mid (λ files left. g.met.D.Disk.only_now old files left) (λ files may. g.met.D.Disk.same_slots old files may) c.read_page.ensures.reads has.fills.rests in
    keeps_join d old mid c.put_page.new.disk keeps
    (at_end d old mid (KeepsImages (d.contents old)) (g.met.D.Disk.as_read mid) (λ t files since may. g.met.D.Disk.counts_now mid t files since may) keeps)
    (c.put_page.ensures.keeps has.pages has.counted (filled_read d old mid c.args.slot has.pages c.read_page.ensures.reads has.fills))

pub returns-clause-copied : goal.returns-clause-copied
returns-clause-copied g c = λ honest has.
    let d = g.D.Disk in
    let old = c.args.disk.now in
    let mid = c.read_page.new.disk in
    let page : List ℕ = c.in_ok-buffer.buffer.items in
    let is : page ≡ bytes_at (d.contents old) (Data c.args.from.0 c.args.from.1) = c.in_ok-buffer.ensures.bytes (c.put_page.ensures.honest honest) in
    let fills = c.in_ok-put_page.ensures.filled has.pages has.counted (filled_read d old mid c.args.slot has.pages c.read_page.ensures.reads has.fills) in
    record {
      has = record {
        pages = has.pages ++ page ∷ [];
        fills = fills;
        counted = one_longer has.pages page c.args.place has.counted;
        fed = subst (HasFed c.digest_page.new.digester) (pages_more has.pages page)
            (subst (λ (p : List ℕ). HasFed c.digest_page.new.digester (concat has.pages ++ p)) c.deref.ensures.value (c.digest_page.ensures (concat has.pages) has.fed));
      };
      more = ap (λ bytes. has.pages ++ bytes ∷ []) is;
    }
