use Rattle.std.proofs.Common.{◌∙◌, ◌<◌, ◌+◌, ◌*◌, ℕ, List, Some, length, map, sym, subst, arith}
use Rattle.std.specs.List.{AllZip}
use Rattle.std.proofs.lemmas.List.Elements.{All-contains}
use Rattle.sd_image.specs.declared.header.Header.{Header}
use Rattle.sd_image.specs.Header.{IsHeader}
use Rattle.sd_image.specs.Shows.{Shows}
use Rattle.sd_image.specs.Table.{listing_of}
use Rattle.sd_chain.specs.Catalog.{Opened, images}
use Rattle.sd_restore.specs.Placed.{placed_memory}
use Rattle.sd_receive.specs.declared.mapped.MappedPage.{MappedPage}
use Rattle.sd_receive.specs.Merged.{HasCopies, IsCopyOf, pages_seen}
use Rattle.sd_receive.proofs.ArriveLemmas.{arrived_pages, has_arrived, keeps_still}
use Rattle.sd_receive.proofs.MergeLemmas.{falls_after, header_is, pages_after, serial_after}
use Rattle.sd_receive.proofs.merging.copy_newest.Goals as goal

pub returns-in_default-clause-keeps : goal.returns-in_default-clause-keeps
returns-in_default-clause-keeps g c = λ honest ready shut.
    let disk = c.args.disk.now in
    keeps_still g.D.Disk disk (λ files left. g.met.D.Disk.only_now disk files left) (λ files may. g.met.D.Disk.same_slots disk files may) ready.rests

pub returns-in_err-placed-clause-keeps : goal.returns-in_err-placed-clause-keeps
returns-in_err-placed-clause-keeps g c = λ honest ready shut.
    let disk = c.args.disk.now in
    keeps_still g.D.Disk disk (λ files left. g.met.D.Disk.only_now disk files left) (λ files may. g.met.D.Disk.same_slots disk files may) ready.rests

pub returns-clause-falls : goal.returns-clause-falls
returns-clause-falls g c =
    let tip = c.in-Some.tip.now in
    let fall = All-contains (λ (i : Opened). i.header.parent < i.header.stands_for) (images c.args.catalog.now) tip c.requires.images.fall c.in-Some.ensures.newest.member in
    falls_after c.header.result.now c.in_ok-header.header c.args.serial c.in_ok-copied.copied.stored c.in_ok-header.header.table_len c.in_ok-header.header.digest c.in_ok-header.ensures.fields
    (subst (λ (h : Header). h.parent < h.stands_for) (sym c.header.ensures) fall)

pub returns-clause-serial : goal.returns-clause-serial
returns-clause-serial g c =
    serial_after c.header.result.now c.in_ok-header.header c.args.serial c.in_ok-copied.copied.stored c.in_ok-header.header.table_len c.in_ok-header.header.digest c.in_ok-header.ensures.fields

pub returns-clause-copied : goal.returns-clause-copied
returns-clause-copied g c = λ honest ready shut.
    let d = g.D.Disk in
    let old = c.args.disk.now in
    let new = c.copy_memory.new.disk in
    let tip = c.in-Some.tip.now in
    let header = c.in_ok-header.header in
    let pages = c.in_ok-placed.pages.items in
    let copies = subst (λ (ps : List MappedPage). HasCopies (d.contents old) (d.contents new) (d.may_leave new) c.args.slot (pages_seen ps) c.in_ok-copied.copied) c.deref.ensures.value
    (c.in_ok-copied.ensures.copied honest ready.rests shut) in
    let was = (ready.catalog.sound tip.header.serial tip c.in-Some.ensures.own).1 in
    let its : IsHeader c.header.result.now (length was.file) = subst (λ (h : Header). IsHeader h (length was.file)) (was.header ∙ sym c.header.ensures) was.spelled.header in
    let under : c.header.result.now.serial < c.args.serial = subst (λ (h : Header). h.serial < c.args.serial) (sym c.header.ensures) (c.requires.under tip c.in-Some.ensures.newest.member) in
    let is : IsHeader header (4096 + 4096 * header.pages + header.table_len) =
    header_is c.header.result.now header c.args.serial c.in_ok-copied.copied.stored header.table_len header.digest c.in_ok-header.ensures.fields (length was.file) its under c.in_ok-header.ensures.words in
    let counted = pages_after c.header.result.now header c.args.serial c.in_ok-copied.copied.stored header.table_len header.digest c.in_ok-header.ensures.fields ∙ copies.has.counted in
    let len = 4096 + 4096 * header.pages + header.table_len in
    let good = c.in_ok-header.ensures.good copies.has.pages copies.has.fed in
    record {
      arrived = has_arrived (d.contents new) (d.may_leave new) c.args.slot len header c.in_ok-header.arrived copies.has.pages copies.has.fills counted is good;
      spaces = map listing_of c.in_ok-placed.placed.spaces.now;
      pages = pages_seen pages;
      shown = subst (λ (n : ℕ). Shows (d.contents old) (Some (n, placed_memory (d.contents old) (map listing_of c.in_ok-placed.placed.spaces.now) (pages_seen pages)))) (sym c.in_ok-memory.ensures.checkpoint)
          (c.in_ok-placed.ensures.shown (d.contents old) ready.catalog);
      numbers = sym c.in_ok-memory.ensures.numbers;
      copies = subst (λ (ds : List (List ℕ)). AllZip (IsCopyOf (d.contents old) ds c.args.slot) (pages_seen pages) (pages_seen c.in_ok-memory.memory.pages.items))
          (sym (arrived_pages (d.contents new) (d.may_leave new) c.args.slot len header c.in_ok-header.arrived copies.has.pages copies.has.fills counted is good))
          (subst (λ ps. AllZip (IsCopyOf (d.contents old) copies.has.pages c.args.slot) (pages_seen pages) (pages_seen ps.items)) (sym c.in_ok-memory.ensures.pages) copies.each);
    }

pub returns-clause-body : goal.returns-clause-body
returns-clause-body g c =
    let pages = pages_after c.header.result.now c.in_ok-header.header c.args.serial c.in_ok-copied.copied.stored c.in_ok-header.header.table_len c.in_ok-header.header.digest c.in_ok-header.ensures.fields in
    let few = c.in_ok-copied.ensures.few in
    record { few = omega (arith, pages, few); some = c.in_ok-header.ensures.some }
