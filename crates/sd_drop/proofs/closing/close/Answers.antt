use Rattle.std.proofs.Common.{ℕ, List, [], ◌∷◌, ◌∙◌, ap, length, Result, Ok, Err, refl}
use Rattle.std.specs.Prelude.{OnOk}
use Rattle.sd_disk.specs.Contents.{Cut, Torn, file_after_write, file_at}
use Rattle.sd_disk.specs.Crash.{Outcomes}
use Rattle.sd_image.specs.Shows.{Shows}
use Rattle.sd_drop.specs.Closing.{IsClosing, closed_at}
use Rattle.sd_drop.proofs.CloseLemmas.{at_written, cut_files, closing_begins, closing_cut, closing_written, counted_step, span_begins, span_more, span_same, written_byte}
use Rattle.sd_drop.proofs.closing.close.Goals as goal

always_ok : {T E P : Type 0} (r : Result T E) → P → OnOk r P
always_ok (Ok x) p = p
always_ok (Err e) p = tt

pub returns-in_err-write_at-clause-counted : goal.returns-in_err-write_at-clause-counted
returns-in_err-write_at-clause-counted g c = λ shown before.
    let d = g.D.Disk in
    let slot = c.args.slot in
    let old = c.args.disk.now in
    let P : Outcomes = λ files. Shows (closed_at files slot) shown in
    let s1 = span_more d P old old c.write_at.new.self (span_begins d P old (g.met.D.Disk.only_now old) before) c.write_at.ensures.time
    (counted_step slot (length (d.contents old)) (Torn 0 1) (d.may_leave old) (d.may_leave c.write_at.new.self) shown c.requires
    (λ files left. g.met.D.Disk.same_slots c.write_at.new.self files left ∙ c.write_at.ensures.torn.count) before c.write_at.ensures.crash) in
    s1.0

pub returns-in_err-write_at-clause-closing : goal.returns-in_err-write_at-clause-closing
returns-in_err-write_at-clause-closing g c = λ only opens.
    let d = g.D.Disk in
    let slot = c.args.slot in
    let old = c.args.disk.now in
    let contents : List (List ℕ) = d.contents old in
    let P : Outcomes = IsClosing contents slot in
    let s1 = span_more d P old old c.write_at.new.self (span_begins d P old (g.met.D.Disk.only_now old) (closing_begins contents slot (d.may_leave old) only))
    c.write_at.ensures.time (closing_written contents slot (d.may_leave old) (d.may_leave c.write_at.new.self) only opens c.write_at.ensures.crash) in
    s1.0

pub returns-in_err-sync-clause-counted : goal.returns-in_err-sync-clause-counted
returns-in_err-sync-clause-counted g c = λ shown before.
    let d = g.D.Disk in
    let slot = c.args.slot in
    let old = c.args.disk.now in
    let P : Outcomes = λ files. Shows (closed_at files slot) shown in
    let s1 = span_more d P old old c.write_at.new.self (span_begins d P old (g.met.D.Disk.only_now old) before) c.write_at.ensures.time
    (counted_step slot (length (d.contents old)) (Torn 0 1) (d.may_leave old) (d.may_leave c.write_at.new.self) shown c.requires
    (λ files left. g.met.D.Disk.same_slots c.write_at.new.self files left ∙ c.write_at.ensures.torn.count) before c.write_at.ensures.crash) in
    let s2 = span_same d P old c.write_at.new.self c.sync.new.self s1 c.sync.ensures.time c.sync.ensures.crash in
    s2.0

pub returns-in_err-sync-clause-closing : goal.returns-in_err-sync-clause-closing
returns-in_err-sync-clause-closing g c = λ only opens.
    let d = g.D.Disk in
    let slot = c.args.slot in
    let old = c.args.disk.now in
    let contents : List (List ℕ) = d.contents old in
    let P : Outcomes = IsClosing contents slot in
    let s1 = span_more d P old old c.write_at.new.self (span_begins d P old (g.met.D.Disk.only_now old) (closing_begins contents slot (d.may_leave old) only))
    c.write_at.ensures.time (closing_written contents slot (d.may_leave old) (d.may_leave c.write_at.new.self) only opens c.write_at.ensures.crash) in
    let s2 = span_same d P old c.write_at.new.self c.sync.new.self s1 c.sync.ensures.time c.sync.ensures.crash in
    s2.0

pub returns-in_err-cut-clause-counted : goal.returns-in_err-cut-clause-counted
returns-in_err-cut-clause-counted g c = λ shown before.
    let d = g.D.Disk in
    let slot = c.args.slot in
    let old = c.args.disk.now in
    let P : Outcomes = λ files. Shows (closed_at files slot) shown in
    let s1 = span_more d P old old c.write_at.new.self (span_begins d P old (g.met.D.Disk.only_now old) before) c.write_at.ensures.time
    (counted_step slot (length (d.contents old)) (Torn 0 1) (d.may_leave old) (d.may_leave c.write_at.new.self) shown c.requires
    (λ files left. g.met.D.Disk.same_slots c.write_at.new.self files left ∙ c.write_at.ensures.torn.count) before c.write_at.ensures.crash) in
    let s2 = span_same d P old c.write_at.new.self c.sync.new.self s1 c.sync.ensures.time c.sync.ensures.crash in
    let s3 = span_more d P old c.sync.new.self c.cut.new.self s2 c.cut.ensures.time
    (counted_step slot (length (d.contents old)) (Cut 1) (d.may_leave c.sync.new.self) (d.may_leave c.cut.new.self) shown c.requires
    (λ files left. g.met.D.Disk.same_slots c.cut.new.self files left ∙ c.cut.ensures.torn.count ∙ ap length c.sync.ensures.same ∙ c.write_at.ensures.torn.count) s2.1 c.cut.ensures.crash) in
    s3.0

pub returns-in_err-cut-clause-closing : goal.returns-in_err-cut-clause-closing
returns-in_err-cut-clause-closing g c = λ only opens.
    let d = g.D.Disk in
    let slot = c.args.slot in
    let old = c.args.disk.now in
    let contents : List (List ℕ) = d.contents old in
    let P : Outcomes = IsClosing contents slot in
    let s1 = span_more d P old old c.write_at.new.self (span_begins d P old (g.met.D.Disk.only_now old) (closing_begins contents slot (d.may_leave old) only))
    c.write_at.ensures.time (closing_written contents slot (d.may_leave old) (d.may_leave c.write_at.new.self) only opens c.write_at.ensures.crash) in
    let s2 = span_same d P old c.write_at.new.self c.sync.new.self s1 c.sync.ensures.time c.sync.ensures.crash in
    let file : List ℕ = file_after_write (file_at contents slot) 0 (0 ∷ []) in
    let here = at_written contents slot file (d.contents c.write_at.new.self) c.requires c.in_ok-write_at.ensures.written in
    let s3 = span_more d P old c.sync.new.self c.cut.new.self s2 c.cut.ensures.time
    (closing_cut contents slot file (d.may_leave c.sync.new.self) (d.may_leave c.cut.new.self) (λ files left. c.in_ok-sync.ensures.durable files left ∙ here)
    (written_byte (file_at contents slot)) s2.1 c.cut.ensures.crash) in
    s3.0

pub returns-clause-counted : goal.returns-clause-counted
returns-clause-counted g c = λ shown before.
    let d = g.D.Disk in
    let slot = c.args.slot in
    let old = c.args.disk.now in
    let P : Outcomes = λ files. Shows (closed_at files slot) shown in
    let s1 = span_more d P old old c.write_at.new.self (span_begins d P old (g.met.D.Disk.only_now old) before) c.write_at.ensures.time
    (counted_step slot (length (d.contents old)) (Torn 0 1) (d.may_leave old) (d.may_leave c.write_at.new.self) shown c.requires
    (λ files left. g.met.D.Disk.same_slots c.write_at.new.self files left ∙ c.write_at.ensures.torn.count) before c.write_at.ensures.crash) in
    let s2 = span_same d P old c.write_at.new.self c.sync.new.self s1 c.sync.ensures.time c.sync.ensures.crash in
    let s3 = span_more d P old c.sync.new.self c.cut.new.self s2 c.cut.ensures.time
    (counted_step slot (length (d.contents old)) (Cut 1) (d.may_leave c.sync.new.self) (d.may_leave c.cut.new.self) shown c.requires
    (λ files left. g.met.D.Disk.same_slots c.cut.new.self files left ∙ c.cut.ensures.torn.count ∙ ap length c.sync.ensures.same ∙ c.write_at.ensures.torn.count) s2.1 c.cut.ensures.crash) in
    let s4 = span_same d P old c.cut.new.self c.sync-2.new.self s3 c.sync-2.ensures.time c.sync-2.ensures.crash in
    s4.0

pub returns-clause-closing : goal.returns-clause-closing
returns-clause-closing g c = λ only opens.
    let d = g.D.Disk in
    let slot = c.args.slot in
    let old = c.args.disk.now in
    let contents : List (List ℕ) = d.contents old in
    let P : Outcomes = IsClosing contents slot in
    let s1 = span_more d P old old c.write_at.new.self (span_begins d P old (g.met.D.Disk.only_now old) (closing_begins contents slot (d.may_leave old) only))
    c.write_at.ensures.time (closing_written contents slot (d.may_leave old) (d.may_leave c.write_at.new.self) only opens c.write_at.ensures.crash) in
    let s2 = span_same d P old c.write_at.new.self c.sync.new.self s1 c.sync.ensures.time c.sync.ensures.crash in
    let file : List ℕ = file_after_write (file_at contents slot) 0 (0 ∷ []) in
    let here = at_written contents slot file (d.contents c.write_at.new.self) c.requires c.in_ok-write_at.ensures.written in
    let s3 = span_more d P old c.sync.new.self c.cut.new.self s2 c.cut.ensures.time
    (closing_cut contents slot file (d.may_leave c.sync.new.self) (d.may_leave c.cut.new.self) (λ files left. c.in_ok-sync.ensures.durable files left ∙ here)
    (written_byte (file_at contents slot)) s2.1 c.cut.ensures.crash) in
    let s4 = span_same d P old c.cut.new.self c.sync-2.new.self s3 c.sync-2.ensures.time c.sync-2.ensures.crash in
    s4.0

pub returns-clause-closed : goal.returns-clause-closed
returns-clause-closed g c =
    let d = g.D.Disk in
    let contents : List (List ℕ) = d.contents c.args.disk.now in
    let file : List ℕ = file_after_write (file_at contents c.args.slot) 0 (0 ∷ []) in
    always_ok c.sync-2.result (cut_files contents c.args.slot file (d.contents c.sync.new.self) (d.contents c.cut.new.self) (d.contents c.sync-2.new.self)
    c.requires (c.sync.ensures.same ∙ c.in_ok-write_at.ensures.written) refl c.in_ok-cut.ensures.cut c.sync-2.ensures.same)
