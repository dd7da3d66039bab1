use Rattle.std.proofs.Common.{rules, ◌≤◌, ◌∙◌, ℕ, List, length, take, refl, sym, subst, arith}
use Rattle.std.proofs.lemmas.List.Elements.{All-contains}
use Rattle.std.proofs.lemmas.List.{take_all}
use Rattle.sd_restore.proofs.TakeLemmas.{contains_index}
use Rattle.sd_restore.specs.Placed.{PlacedPage}
use Rattle.sd_receive.specs.declared.mapped.MappedPage.{MappedPage}
use Rattle.sd_receive.specs.Arriving.{KeepsImages}
use Rattle.sd_receive.specs.Merged.{HasCopies, IsElsewhere, pages_seen}
use Rattle.sd_receive.proofs.ArriveLemmas.{at_end, keeps_join, keeps_still}
use Rattle.sd_receive.proofs.CopyLemmas.{seen_more}
use Rattle.sd_receive.proofs.copying.copy_pages.Goals as goal

pub loop-page-init : goal.loop-page-init
loop-page-init g c =
    let disk = c.args.disk.now in
    record {
      count = refl;
      others = λ other apart. refl;
      honest = λ honest. honest;
      stored = let none = c.requires.none in omega (arith, none);
      copied = λ honest from alike has. has;
      keeps = λ honest from alike has. keeps_still g.D.Disk disk (λ files left. g.met.D.Disk.only_now disk files left) (λ files may. g.met.D.Disk.same_slots disk files may) has.has.fills.rests;
    }

pub copy_page-requires-clause-elsewhere : goal.copy_page-requires-clause-elsewhere
copy_page-requires-clause-elsewhere g c =
    let pages : List MappedPage = c.args.pages.now in
    let p = c.page-item.result in
    subst (λ (n : ℕ). IsElsewhere c.args.slot n p.there) (sym c.loop-page.invariant.count)
    (All-contains (λ (p : MappedPage). IsElsewhere c.args.slot (length (g.D.Disk.contents c.args.disk.now)) p.there) pages p c.requires.elsewhere
    (contains_index pages c.loop-page.page-index p c.loop-page-test.true c.page-item.is))

pub returns-in_err-copy_page-clause-keeps : goal.returns-in_err-copy_page-clause-keeps
returns-in_err-copy_page-clause-keeps g c = λ honest from alike has.
    let d = g.D.Disk in
    let old = c.args.disk.now in
    let mid = c.loop-page.disk in
    let was = c.loop-page.invariant in
    let before = c.copy_page.ensures.honest honest in
    let keeps = was.keeps before from alike has in
    keeps_join d old mid c.copy_page.new.disk keeps
    (at_end d old mid (KeepsImages (d.contents old)) (g.met.D.Disk.as_read mid) (λ t files since may. g.met.D.Disk.counts_now mid t files since may) keeps)
    (c.copy_page.ensures.keeps (was.copied before from alike has).has)

pub loop-page-preserved : goal.loop-page-preserved
loop-page-preserved g c =
    let d = g.D.Disk in
    let old = c.args.disk.now in
    let mid = c.loop-page.disk in
    let was = c.loop-page.invariant in
    let now = c.in_ok-copy_page.ensures in
    let pages : List MappedPage = c.args.pages.now in
    record {
      count = now.count ∙ was.count;
      others = λ other apart. now.others other apart ∙ was.others other apart;
      honest = λ honest. was.honest (now.honest honest);
      stored = let before = was.stored in let one = now.stored in omega (arith, before, one);
      copied = λ honest from alike has.
          subst (λ (ps : List PlacedPage). HasCopies from (d.contents c.copy_page.new.disk) (d.may_leave c.copy_page.new.disk) c.args.slot ps c.copy_page.new.copied)
          (sym (seen_more pages c.loop-page.page-index c.page-item.result c.loop-page-test.true c.page-item.is))
          (now.copied honest from (pages_seen (take c.loop-page.page-index pages)) (λ other apart. was.others other apart ∙ alike other apart) (was.copied (now.honest honest) from alike has));
      keeps = λ honest from alike has.
          let before = now.honest honest in
          let keeps = was.keeps before from alike has in
          keeps_join d old mid c.copy_page.new.disk keeps
          (at_end d old mid (KeepsImages (d.contents old)) (g.met.D.Disk.as_read mid) (λ t files since may. g.met.D.Disk.counts_now mid t files since may) keeps)
          (now.keeps (was.copied before from alike has).has);
    }

pub returns-clause-copied : goal.returns-clause-copied
returns-clause-copied g c = λ honest from alike has.
    let d = g.D.Disk in
    let pages : List MappedPage = c.args.pages.now in
    let end : length pages ≤ c.loop-page.page-index = search rules in
    subst (λ (ps : List MappedPage). HasCopies from (d.contents c.loop-page.disk) (d.may_leave c.loop-page.disk) c.args.slot (pages_seen ps) c.loop-page.copied) (take_all c.loop-page.page-index pages end)
    (c.loop-page.invariant.copied honest from alike has)
