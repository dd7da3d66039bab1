use Rattle.std.proofs.Common.{◌≡◌, ◌⊎◌, ◌<◌, ℕ, false, List, refl, sym, ap, subst, slice_set}
use Rattle.sd_disk.specs.Contents.{file_at}
use Rattle.sd_disk.specs.Spans.{LeavesOnly}
use Rattle.sd_image.specs.Image.{is_open}
use Rattle.sd_image.specs.Shows.{Shows}
use Rattle.sd_receive.specs.Arrived.{image_with}
use Rattle.sd_receive.specs.Arriving.{IsSettled, KeepsImages, file_of}
use Rattle.sd_receive.specs.Copies.{IsFoundAsCopied}
use Rattle.sd_receive.proofs.ArriveLemmas.{at_end}
use Rattle.sd_receive.proofs.CatalogLemmas.{catalog_kept, free_is_closed}
use Rattle.sd_receive.proofs.CopyLemmas.{copy_shows}
use Rattle.sd_receive.proofs.KeepLemmas.{shows_kept}
use Rattle.sd_receive.proofs.OpenLemmas.{Arrives, catalog_after, its_image, kept_after, opened_file, ready_after, span_same}
use Rattle.sd_receive.proofs.merging.merge_newest.Goals as goal

pub returns-in_err-merged-clause-keeps : goal.returns-in_err-merged-clause-keeps
returns-in_err-merged-clause-keeps g c = λ honest ready shown shows.
    let d = g.D.Disk in
    let old = c.args.disk.now in
    let shut : is_open (file_at (d.contents old) c.args.slot) ≡ false =
    free_is_closed (d.contents old) c.args.catalog.now c.args.slot c.sound.ensures ready.catalog c.requires.slot c.requires.free in
    shows_kept d shown old c.copy_newest.new.disk shows (c.copy_newest.ensures.keeps honest ready shut)

pub returns-in_err-bytes-clause-keeps : goal.returns-in_err-bytes-clause-keeps
returns-in_err-bytes-clause-keeps g c = λ honest ready shown shows.
    let d = g.D.Disk in
    let old = c.args.disk.now in
    let shut : is_open (file_at (d.contents old) c.args.slot) ≡ false =
    free_is_closed (d.contents old) c.args.catalog.now c.args.slot c.sound.ensures ready.catalog c.requires.slot c.requires.free in
    shows_kept d shown old c.copy_newest.new.disk shows (c.copy_newest.ensures.keeps honest ready shut)

pub returns-in_err-check_copy-clause-keeps : goal.returns-in_err-check_copy-clause-keeps
returns-in_err-check_copy-clause-keeps g c = λ honest ready shown shows.
    let d = g.D.Disk in
    let old = c.args.disk.now in
    let shut : is_open (file_at (d.contents old) c.args.slot) ≡ false =
    free_is_closed (d.contents old) c.args.catalog.now c.args.slot c.sound.ensures ready.catalog c.requires.slot c.requires.free in
    shows_kept d shown old c.copy_newest.new.disk shows (c.copy_newest.ensures.keeps honest ready shut)

pub returns-in_err-open_gate-clause-keeps : goal.returns-in_err-open_gate-clause-keeps
returns-in_err-open_gate-clause-keeps g c = λ honest ready shown shows.
    let d = g.D.Disk in
    let old = c.args.disk.now in
    let mid = c.copy_newest.new.disk in
    let new = c.open_gate.new.disk in
    let slot = c.args.slot in
    let places = c.args.catalog.now in
    let next = c.add.new.catalog in
    let shut : is_open (file_at (d.contents old) slot) ≡ false = free_is_closed (d.contents old) places slot c.sound.ensures ready.catalog c.requires.slot c.requires.free in
    let was = c.open_gate.ensures.honest honest in
    let keeps = c.copy_newest.ensures.keeps was ready shut in
    let between = at_end d old mid (KeepsImages (d.contents old)) (g.met.D.Disk.as_read mid) (λ t files since may. g.met.D.Disk.counts_now mid t files since may) keeps in
    let merged = c.in_ok-merged.merged in
    let header = merged.header in
    let arrived = merged.arrived in
    let copies = c.in_ok-merged.ensures.copied was ready shut in
    let has = copies.arrived in
    let a : Arrives (d.contents mid) (d.may_leave mid) places next slot header arrived = record {
      catalog = catalog_kept (d.contents old) (d.contents mid) places between ready.catalog;
      within = subst (λ (n : ℕ). slot < n) (sym between.count) c.requires.slot;
      has = has;
      adds = c.in_ok-bytes.ensures.adds;
      under = λ j among. subst (λ (n : ℕ). j.header.serial < n) (sym c.in_ok-merged.ensures.serial) (c.requires.under j among);
      all = λ found slots. c.has_the_images.ensures (d.contents mid) found (catalog_kept (d.contents old) (d.contents mid) places between ready.catalog) slots;
    } in
    let file = opened_file (d.contents mid) (d.may_leave mid) places next slot header arrived a in
    let after = slice_set (d.contents mid) slot file in
    let opens = subst (λ (t : List ℕ). LeavesOnly d mid new (λ files. KeepsImages (d.contents mid) files ⊎ KeepsImages (slice_set (d.contents mid) slot (file_of header has.pages t)) files))
    (ap (λ v. v.items) c.in_ok-bytes.ensures.bytes)
    (c.open_gate.ensures.opens has.pages (sym has.complete.stored) has.complete.words has.fills) in
    let at : IsFoundAsCopied after merged.memory = c.in_ok-check_copy.ensures after (catalog_after (d.contents mid) (d.may_leave mid) places next slot header arrived a) in
    let then : Shows after shown = copy_shows c.shown_once.ensures (d.contents old) (d.contents mid) (d.may_leave mid) slot merged file (image_with header has.pages arrived) shown a.within
    (its_image (d.contents mid) (d.may_leave mid) places next slot header arrived a) copies refl at shows in
    span_same d shown old mid new after shows keeps between opens then

pub returns-clause-keeps : goal.returns-clause-keeps
returns-clause-keeps g c = λ honest ready shown shows.
    let d = g.D.Disk in
    let old = c.args.disk.now in
    let mid = c.copy_newest.new.disk in
    let new = c.open_gate.new.disk in
    let slot = c.args.slot in
    let places = c.args.catalog.now in
    let next = c.add.new.catalog in
    let shut : is_open (file_at (d.contents old) slot) ≡ false = free_is_closed (d.contents old) places slot c.sound.ensures ready.catalog c.requires.slot c.requires.free in
    let was = c.open_gate.ensures.honest honest in
    let keeps = c.copy_newest.ensures.keeps was ready shut in
    let between = at_end d old mid (KeepsImages (d.contents old)) (g.met.D.Disk.as_read mid) (λ t files since may. g.met.D.Disk.counts_now mid t files since may) keeps in
    let merged = c.in_ok-merged.merged in
    let header = merged.header in
    let arrived = merged.arrived in
    let copies = c.in_ok-merged.ensures.copied was ready shut in
    let has = copies.arrived in
    let a : Arrives (d.contents mid) (d.may_leave mid) places next slot header arrived = record {
      catalog = catalog_kept (d.contents old) (d.contents mid) places between ready.catalog;
      within = subst (λ (n : ℕ). slot < n) (sym between.count) c.requires.slot;
      has = has;
      adds = c.in_ok-bytes.ensures.adds;
      under = λ j among. subst (λ (n : ℕ). j.header.serial < n) (sym c.in_ok-merged.ensures.serial) (c.requires.under j among);
      all = λ found slots. c.has_the_images.ensures (d.contents mid) found (catalog_kept (d.contents old) (d.contents mid) places between ready.catalog) slots;
    } in
    let file = opened_file (d.contents mid) (d.may_leave mid) places next slot header arrived a in
    let after = slice_set (d.contents mid) slot file in
    let opens = subst (λ (t : List ℕ). LeavesOnly d mid new (λ files. KeepsImages (d.contents mid) files ⊎ KeepsImages (slice_set (d.contents mid) slot (file_of header has.pages t)) files))
    (ap (λ v. v.items) c.in_ok-bytes.ensures.bytes)
    (c.open_gate.ensures.opens has.pages (sym has.complete.stored) has.complete.words has.fills) in
    let at : IsFoundAsCopied after merged.memory = c.in_ok-check_copy.ensures after (catalog_after (d.contents mid) (d.may_leave mid) places next slot header arrived a) in
    let then : Shows after shown = copy_shows c.shown_once.ensures (d.contents old) (d.contents mid) (d.may_leave mid) slot merged file (image_with header has.pages arrived) shown a.within
    (its_image (d.contents mid) (d.may_leave mid) places next slot header arrived a) copies refl at shows in
    span_same d shown old mid new after shows keeps between opens then

pub returns-clause-ready : goal.returns-clause-ready
returns-clause-ready g c = λ honest ready.
    let d = g.D.Disk in
    let old = c.args.disk.now in
    let mid = c.copy_newest.new.disk in
    let new = c.open_gate.new.disk in
    let slot = c.args.slot in
    let places = c.args.catalog.now in
    let next = c.add.new.catalog in
    let shut : is_open (file_at (d.contents old) slot) ≡ false = free_is_closed (d.contents old) places slot c.sound.ensures ready.catalog c.requires.slot c.requires.free in
    let was = c.open_gate.ensures.honest honest in
    let keeps = c.copy_newest.ensures.keeps was ready shut in
    let between = at_end d old mid (KeepsImages (d.contents old)) (g.met.D.Disk.as_read mid) (λ t files since may. g.met.D.Disk.counts_now mid t files since may) keeps in
    let merged = c.in_ok-merged.merged in
    let header = merged.header in
    let arrived = merged.arrived in
    let copies = c.in_ok-merged.ensures.copied was ready shut in
    let has = copies.arrived in
    let a : Arrives (d.contents mid) (d.may_leave mid) places next slot header arrived = record {
      catalog = catalog_kept (d.contents old) (d.contents mid) places between ready.catalog;
      within = subst (λ (n : ℕ). slot < n) (sym between.count) c.requires.slot;
      has = has;
      adds = c.in_ok-bytes.ensures.adds;
      under = λ j among. subst (λ (n : ℕ). j.header.serial < n) (sym c.in_ok-merged.ensures.serial) (c.requires.under j among);
      all = λ found slots. c.has_the_images.ensures (d.contents mid) found (catalog_kept (d.contents old) (d.contents mid) places between ready.catalog) slots;
    } in
    let file = opened_file (d.contents mid) (d.may_leave mid) places next slot header arrived a in
    let after = slice_set (d.contents mid) slot file in
    let opens = subst (λ (t : List ℕ). LeavesOnly d mid new (λ files. KeepsImages (d.contents mid) files ⊎ KeepsImages (slice_set (d.contents mid) slot (file_of header has.pages t)) files))
    (ap (λ v. v.items) c.in_ok-bytes.ensures.bytes)
    (c.open_gate.ensures.opens has.pages (sym has.complete.stored) has.complete.words has.fills) in
    let opened = subst (λ (t : List ℕ). IsSettled (d.contents new) (d.may_leave new) × (file_at (d.contents new) slot ≡ file_of header has.pages t))
    (ap (λ v. v.items) c.in_ok-bytes.ensures.bytes)
    (c.in_ok-open_gate.ensures.opened has.pages (sym has.complete.stored) has.complete.words has.fills) in
    let kept = kept_after (d.contents mid) (d.may_leave mid) places next slot header arrived a (d.contents new) opened.1
    (at_end d mid new (λ files. KeepsImages (d.contents mid) files ⊎ KeepsImages after files) (g.met.D.Disk.as_read new) (λ t files since may. g.met.D.Disk.counts_now new t files since may) opens) in
    ready_after (d.contents mid) (d.may_leave mid) places next slot header arrived a (d.contents new) (d.may_leave new) opened.0 kept
