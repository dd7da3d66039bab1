use Rattle.std.proofs.Common.{ℕ, List, ap, sym, subst, ◌∙◌}
use Rattle.sd_disk.specs.Contents.{file_at}
use Rattle.sd_disk.specs.Reads.{OnlyReads}
use Rattle.sd_disk.specs.Spans.{LeavesOnly}
use Rattle.sd_image.specs.Image.{is_open}
use Rattle.sd_drop.specs.Closing.{IsClosing}
use Rattle.sd_drop.specs.Needed.{IsNeeded}
use Rattle.sd_drop.proofs.DropLemmas.{closed_shows, counted_span, either_shows, kept_span}
use Rattle.sd_drop.proofs.dropping.drop_image.Goals as goal

pub returns-in_err-close-clause-kept : goal.returns-in_err-close-clause-kept
returns-in_err-close-clause-kept g c = λ honest unforced shown shows before.
    let d = g.D.Disk in
    let slot = c.args.slot in
    let old = c.args.disk.now in
    let mid = c.prepare.new.disk in
    let new = c.close.new.disk in
    let reads : OnlyReads d old mid = c.in_ok-prepare.ensures.reads in
    let was = c.in_err-close.ensures.honest honest in
    kept_span d slot shown old mid new (g.met.D.Disk.only_now old) reads c.in_ok-prepare.ensures.slot shows (c.in_ok-prepare.ensures.unneeded was unforced).free before
    (c.in_err-close.ensures.closing (λ files left. c.in_ok-prepare.ensures.synced unforced files left ∙ sym reads.same)
    (ap (λ files. is_open (file_at files slot)) reads.same ∙ c.in_ok-prepare.ensures.opens was))

pub returns-in_err-close-clause-counted : goal.returns-in_err-close-clause-counted
returns-in_err-close-clause-counted g c = λ shown before.
    let d = g.D.Disk in
    let slot = c.args.slot in
    let old = c.args.disk.now in
    let mid = c.prepare.new.disk in
    let new = c.close.new.disk in
    let reads : OnlyReads d old mid = c.in_ok-prepare.ensures.reads in
    counted_span d slot shown old mid new (g.met.D.Disk.only_now old) reads before (c.in_err-close.ensures.counted shown)

pub returns-clause-kept : goal.returns-clause-kept
returns-clause-kept g c = λ honest unforced shown shows before.
    let d = g.D.Disk in
    let slot = c.args.slot in
    let old = c.args.disk.now in
    let mid = c.prepare.new.disk in
    let new = c.close.new.disk in
    let reads : OnlyReads d old mid = c.in_ok-prepare.ensures.reads in
    let was = c.in_ok-close.ensures.honest honest in
    kept_span d slot shown old mid new (g.met.D.Disk.only_now old) reads c.in_ok-prepare.ensures.slot shows (c.in_ok-prepare.ensures.unneeded was unforced).free before
    (c.in_ok-close.ensures.closing (λ files left. c.in_ok-prepare.ensures.synced unforced files left ∙ sym reads.same)
    (ap (λ files. is_open (file_at files slot)) reads.same ∙ c.in_ok-prepare.ensures.opens was))

pub returns-clause-counted : goal.returns-clause-counted
returns-clause-counted g c = λ shown before.
    let d = g.D.Disk in
    let slot = c.args.slot in
    let old = c.args.disk.now in
    let mid = c.prepare.new.disk in
    let new = c.close.new.disk in
    let reads : OnlyReads d old mid = c.in_ok-prepare.ensures.reads in
    counted_span d slot shown old mid new (g.met.D.Disk.only_now old) reads before (c.in_ok-close.ensures.counted shown)

pub returns-clause-shown : goal.returns-clause-shown
returns-clause-shown g c = λ honest unforced shown either files left.
    let d = g.D.Disk in
    let slot = c.args.slot in
    let old = c.args.disk.now in
    let mid = c.prepare.new.disk in
    let new = c.close.new.disk in
    let reads : OnlyReads d old mid = c.in_ok-prepare.ensures.reads in
    let contents : List (List ℕ) = d.contents old in
    let was = c.in_ok-close.ensures.honest honest in
    let free : IsNeeded contents slot → ⊥ = (c.in_ok-prepare.ensures.unneeded was unforced).free in
    let closing : LeavesOnly d mid new (IsClosing (d.contents mid) slot) = c.in_ok-close.ensures.closing
    (λ other there. c.in_ok-prepare.ensures.synced unforced other there ∙ sym reads.same)
    (ap (λ other. is_open (file_at other slot)) reads.same ∙ c.in_ok-prepare.ensures.opens was) in
    let is : IsClosing contents slot files = subst (λ other. IsClosing other slot files) reads.same
    (closing.each files (g.met.D.Disk.counts_now new (d.moment mid) files closing.later left)) in
    closed_shows contents files slot shown c.in_ok-prepare.ensures.slot (either_shows contents slot shown free either) is
    (ap is_open (c.in_ok-close.ensures.durable files left))

pub returns-clause-unneeded : goal.returns-clause-unneeded
returns-clause-unneeded g c = λ honest unforced. c.in_ok-prepare.ensures.unneeded (c.in_ok-close.ensures.honest honest) unforced
