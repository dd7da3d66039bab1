use Rattle.std.proofs.Common.{◌≡◌, ◌⊎◌, ◌<◌, ℕ, false, List, [], Some, inl, inr, sym, ap, subst, length, slice_set}
use Rattle.std.proofs.lemmas.Result.{IfOk-from_err}
use Rattle.sd_disk.specs.Contents.{file_at}
use Rattle.sd_image.specs.Image.{is_open}
use Rattle.sd_disk.specs.Spans.{LeavesOnly}
use Rattle.sd_receive.specs.Arrived.{GoesOn, ShowsThen, number_with}
use Rattle.sd_receive.specs.Arriving.{IsSettled, KeepsImages, file_of}
use Rattle.sd_receive.proofs.ArriveLemmas.{at_end, keeps_still}
use Rattle.sd_receive.proofs.CatalogLemmas.{catalog_kept, free_is_closed}
use Rattle.sd_receive.proofs.OpenLemmas.{Arrives, kept_after, opened_file, opens_to, ready_after, received_then, receives_nothing, shows_after, span_opens, span_same}
use Rattle.sd_receive.proofs.StreamLemmas.{goes_on_more, reads_image}
use Rattle.sd_receive.proofs.ShowLemmas.{keeps_shows}
use Rattle.sd_receive.proofs.receiver.Receiver.put_image.Goals as goal

pub returns-in_err-slot-clause-keeps : goal.returns-in_err-slot-clause-keeps
returns-in_err-slot-clause-keeps g c = λ honest ready shown shows.
    let disk = c.args.disk.now in
    receives_nothing g.D.Disk shown c.args.self.now.last disk disk c.from_residual.result c.from_residual.ensures.0 shows
    (keeps_still g.D.Disk disk (λ files left. g.met.D.Disk.only_now disk files left) (λ files may. g.met.D.Disk.same_slots disk files may) ready.rests)

pub returns-in_err-arrived-clause-keeps : goal.returns-in_err-arrived-clause-keeps
returns-in_err-arrived-clause-keeps g c = λ honest ready shown shows.
    let d = g.D.Disk in
    let old = c.args.disk.now in
    let mid = c.arrive.new.disk in
    let slot = c.in_ok-slot.slot in
    let within : slot < length (d.contents old) = subst (λ (n : ℕ). slot < n) c.slots.ensures c.in_ok-slot.ensures.slot in
    let shut : is_open (file_at (d.contents old) slot) ≡ false =
    free_is_closed (d.contents old) c.args.self.now.catalog slot c.sound.ensures ready.catalog within c.in_ok-slot.ensures.free in
    receives_nothing d shown c.args.self.now.last old mid c.from_residual-in_err-arrived.result c.from_residual-in_err-arrived.ensures.0 shows
    (c.arrive.ensures.keeps honest ready.rests shut)

pub returns-in_err-bytes-clause-keeps : goal.returns-in_err-bytes-clause-keeps
returns-in_err-bytes-clause-keeps g c = λ honest ready shown shows.
    let d = g.D.Disk in
    let old = c.args.disk.now in
    let mid = c.arrive.new.disk in
    let slot = c.in_ok-slot.slot in
    let within : slot < length (d.contents old) = subst (λ (n : ℕ). slot < n) c.slots.ensures c.in_ok-slot.ensures.slot in
    let shut : is_open (file_at (d.contents old) slot) ≡ false =
    free_is_closed (d.contents old) c.args.self.now.catalog slot c.sound.ensures ready.catalog within c.in_ok-slot.ensures.free in
    receives_nothing d shown c.prepare.new.self.last old mid c.from_residual-in_err-bytes.result c.from_residual-in_err-bytes.ensures.0 shows
    (c.arrive.ensures.keeps honest ready.rests shut)

pub returns-in_err-open_gate-clause-keeps : goal.returns-in_err-open_gate-clause-keeps
returns-in_err-open_gate-clause-keeps g c = λ honest ready shown shows.
    let d = g.D.Disk in
    let old = c.args.disk.now in
    let mid = c.arrive.new.disk in
    let slot = c.in_ok-slot.slot in
    let within : slot < length (d.contents old) = subst (λ (n : ℕ). slot < n) c.slots.ensures c.in_ok-slot.ensures.slot in
    let shut : is_open (file_at (d.contents old) slot) ≡ false =
    free_is_closed (d.contents old) c.args.self.now.catalog slot c.sound.ensures ready.catalog within c.in_ok-slot.ensures.free in
    let new = c.open_gate.new.disk in
    let was = c.open_gate.ensures.honest honest in
    let keeps = c.arrive.ensures.keeps was ready.rests shut in
    let between = at_end d old mid (KeepsImages (d.contents old)) (g.met.D.Disk.as_read mid) (λ t files since may. g.met.D.Disk.counts_now mid t files since may) keeps in
    let arrived = c.in_ok-arrived.arrived in
    let header = c.args.header in
    let has = c.in_ok-arrived.ensures.arrived was ready.rests shut c.args.len c.requires.header in
    let places = c.args.self.now.catalog in
    let next = c.prepare.new.self.catalog in
    let a : Arrives (d.contents mid) (d.may_leave mid) places next slot header arrived = record {
      catalog = catalog_kept (d.contents old) (d.contents mid) places between ready.catalog;
      within = subst (λ (n : ℕ). slot < n) (sym between.count) within;
      has = has;
      adds = c.in_ok-bytes.ensures.adds;
      under = c.in_ok-slot.ensures.under;
      all = λ found slots. c.has_the_images.ensures (d.contents mid) found (catalog_kept (d.contents old) (d.contents mid) places between ready.catalog) slots;
    } in
    let bytes : List ℕ = arrived.bytes.items in
    let after = slice_set (d.contents mid) slot (opened_file (d.contents mid) (d.may_leave mid) places next slot header arrived a) in
    let opens = subst (λ (t : List ℕ). LeavesOnly d mid new (λ files. KeepsImages (d.contents mid) files ⊎ KeepsImages (slice_set (d.contents mid) slot (file_of header has.pages t)) files))
    (ap (λ v. v.items) c.in_ok-bytes.ensures.bytes)
    (c.open_gate.ensures.opens has.pages (sym has.complete.stored) has.complete.words has.fills) in
    let last = c.prepare.new.self.last in
    let there = keeps_shows (d.contents old) (d.contents mid) shown between shows in
    let to = opens_to shown last (d.contents mid) (d.may_leave mid) places next slot header arrived a there c.in_ok-bytes.ensures.last c.in_ok-bytes.ensures.shown in (
      to.0,
      record {
        any_moment = span_opens d shown (Some (last, to.0)) old mid new after shows keeps between opens
            (elim to.1 [
              | inl pre ↦ inl pre.1
              | inr dump ↦ inr dump.1
            ]);
        at_end = IfOk-from_err c.from_residual-in_err-open_gate.result (ShowsThen d old new shown last to.0) c.from_residual-in_err-open_gate.ensures.0;
      },
    )

pub returns-clause-keeps : goal.returns-clause-keeps
returns-clause-keeps g c = λ honest ready shown shows.
    let d = g.D.Disk in
    let old = c.args.disk.now in
    let mid = c.arrive.new.disk in
    let slot = c.in_ok-slot.slot in
    let within : slot < length (d.contents old) = subst (λ (n : ℕ). slot < n) c.slots.ensures c.in_ok-slot.ensures.slot in
    let shut : is_open (file_at (d.contents old) slot) ≡ false =
    free_is_closed (d.contents old) c.args.self.now.catalog slot c.sound.ensures ready.catalog within c.in_ok-slot.ensures.free in
    let new = c.open_gate.new.disk in
    let was = c.open_gate.ensures.honest honest in
    let keeps = c.arrive.ensures.keeps was ready.rests shut in
    let between = at_end d old mid (KeepsImages (d.contents old)) (g.met.D.Disk.as_read mid) (λ t files since may. g.met.D.Disk.counts_now mid t files since may) keeps in
    let arrived = c.in_ok-arrived.arrived in
    let header = c.args.header in
    let has = c.in_ok-arrived.ensures.arrived was ready.rests shut c.args.len c.requires.header in
    let places = c.args.self.now.catalog in
    let next = c.prepare.new.self.catalog in
    let a : Arrives (d.contents mid) (d.may_leave mid) places next slot header arrived = record {
      catalog = catalog_kept (d.contents old) (d.contents mid) places between ready.catalog;
      within = subst (λ (n : ℕ). slot < n) (sym between.count) within;
      has = has;
      adds = c.in_ok-bytes.ensures.adds;
      under = c.in_ok-slot.ensures.under;
      all = λ found slots. c.has_the_images.ensures (d.contents mid) found (catalog_kept (d.contents old) (d.contents mid) places between ready.catalog) slots;
    } in
    let bytes : List ℕ = arrived.bytes.items in
    let after = slice_set (d.contents mid) slot (opened_file (d.contents mid) (d.may_leave mid) places next slot header arrived a) in
    let opens = subst (λ (t : List ℕ). LeavesOnly d mid new (λ files. KeepsImages (d.contents mid) files ⊎ KeepsImages (slice_set (d.contents mid) slot (file_of header has.pages t)) files))
    (ap (λ v. v.items) c.in_ok-bytes.ensures.bytes)
    (c.open_gate.ensures.opens has.pages (sym has.complete.stored) has.complete.words has.fills) in
    let opened = subst (λ (t : List ℕ). IsSettled (d.contents new) (d.may_leave new) × (file_at (d.contents new) slot ≡ file_of header has.pages t))
    (ap (λ v. v.items) c.in_ok-bytes.ensures.bytes)
    (c.in_ok-open_gate.ensures.opened has.pages (sym has.complete.stored) has.complete.words has.fills) in
    let kept = kept_after (d.contents mid) (d.may_leave mid) places next slot header arrived a (d.contents new) opened.1
    (at_end d mid new (λ files. KeepsImages (d.contents mid) files ⊎ KeepsImages after files) (g.met.D.Disk.as_read new) (λ t files since may. g.met.D.Disk.counts_now new t files since may) opens) in
    let last = c.prepare.new.self.last in
    let there = keeps_shows (d.contents old) (d.contents mid) shown between shows in
    let to = opens_to shown last (d.contents mid) (d.may_leave mid) places next slot header arrived a there c.in_ok-bytes.ensures.last c.in_ok-bytes.ensures.shown in (
      to.0,
      record {
        any_moment = span_opens d shown (Some (last, to.0)) old mid new after shows keeps between opens
            (elim to.1 [
              | inl pre ↦ inl pre.1
              | inr dump ↦ inr dump.1
            ]);
        at_end = received_then shown last d old new header c.received_with.result to.0 c.received_with.ensures.pre_dump c.received_with.ensures.dump c.in_ok-bytes.ensures.last
            (elim to.1 [
              | inl pre ↦ inl (pre.0, span_same d shown old mid new after shows keeps between opens pre.1)
              | inr dump ↦ inr (
                dump.0,
                shows_after (d.contents mid) (d.may_leave mid) places next slot header arrived a (d.contents new) (d.may_leave new) (Some (last, to.0)) opened.0
                    (λ files may. g.met.D.Disk.same_slots new files may) kept dump.1,
              )
            ]);
      },
    )

pub returns-clause-ready : goal.returns-clause-ready
returns-clause-ready g c = λ honest ready.
    let d = g.D.Disk in
    let old = c.args.disk.now in
    let mid = c.arrive.new.disk in
    let slot = c.in_ok-slot.slot in
    let within : slot < length (d.contents old) = subst (λ (n : ℕ). slot < n) c.slots.ensures c.in_ok-slot.ensures.slot in
    let shut : is_open (file_at (d.contents old) slot) ≡ false =
    free_is_closed (d.contents old) c.args.self.now.catalog slot c.sound.ensures ready.catalog within c.in_ok-slot.ensures.free in
    let new = c.open_gate.new.disk in
    let was = c.open_gate.ensures.honest honest in
    let keeps = c.arrive.ensures.keeps was ready.rests shut in
    let between = at_end d old mid (KeepsImages (d.contents old)) (g.met.D.Disk.as_read mid) (λ t files since may. g.met.D.Disk.counts_now mid t files since may) keeps in
    let arrived = c.in_ok-arrived.arrived in
    let header = c.args.header in
    let has = c.in_ok-arrived.ensures.arrived was ready.rests shut c.args.len c.requires.header in
    let places = c.args.self.now.catalog in
    let next = c.prepare.new.self.catalog in
    let a : Arrives (d.contents mid) (d.may_leave mid) places next slot header arrived = record {
      catalog = catalog_kept (d.contents old) (d.contents mid) places between ready.catalog;
      within = subst (λ (n : ℕ). slot < n) (sym between.count) within;
      has = has;
      adds = c.in_ok-bytes.ensures.adds;
      under = c.in_ok-slot.ensures.under;
      all = λ found slots. c.has_the_images.ensures (d.contents mid) found (catalog_kept (d.contents old) (d.contents mid) places between ready.catalog) slots;
    } in
    let bytes : List ℕ = arrived.bytes.items in
    let after = slice_set (d.contents mid) slot (opened_file (d.contents mid) (d.may_leave mid) places next slot header arrived a) in
    let opens = subst (λ (t : List ℕ). LeavesOnly d mid new (λ files. KeepsImages (d.contents mid) files ⊎ KeepsImages (slice_set (d.contents mid) slot (file_of header has.pages t)) files))
    (ap (λ v. v.items) c.in_ok-bytes.ensures.bytes)
    (c.open_gate.ensures.opens has.pages (sym has.complete.stored) has.complete.words has.fills) in
    let opened = subst (λ (t : List ℕ). IsSettled (d.contents new) (d.may_leave new) × (file_at (d.contents new) slot ≡ file_of header has.pages t))
    (ap (λ v. v.items) c.in_ok-bytes.ensures.bytes)
    (c.in_ok-open_gate.ensures.opened has.pages (sym has.complete.stored) has.complete.words has.fills) in
    let kept = kept_after (d.contents mid) (d.may_leave mid) places next slot header arrived a (d.contents new) opened.1
    (at_end d mid new (λ files. KeepsImages (d.contents mid) files ⊎ KeepsImages after files) (g.met.D.Disk.as_read new) (λ t files since may. g.met.D.Disk.counts_now new t files since may) opens) in
    ready_after (d.contents mid) (d.may_leave mid) places next slot header arrived a (d.contents new) (d.may_leave new) opened.0 kept

pub returns-clause-reads : goal.returns-clause-reads
returns-clause-reads g c =
    let from = g.R.Read.remaining in
    let header = c.args.header in
    reads_image from c.args.self.now.reader c.prepare.new.self.reader c.received_with.result c.received_with.ensures.image
    (subst (λ (numbers : List ℕ). GoesOn from c.args.self.now.reader numbers c.prepare.new.self.reader) (sym c.received_with.ensures.number)
    (goes_on_more from c.args.self.now.reader c.arrive.new.reader c.prepare.new.self.reader [] (number_with header.kind header.checkpoint)
    c.in_ok-arrived.ensures.reads c.in_ok-bytes.ensures.reads))
