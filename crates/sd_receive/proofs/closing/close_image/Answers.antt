use Rattle.sd_receive.specs.Arriving.{KeepsImages}
use Rattle.std.proofs.Common.{◌⊎◌}
use Rattle.sd_drop.specs.Closing.{closed_at}
use Rattle.sd_receive.proofs.ArriveLemmas.{at_end}
use Rattle.sd_receive.proofs.ClosedLemmas.{catalog_less, closed_ready, closing_shows, opens_at, unreached}
use Rattle.sd_receive.proofs.KeepLemmas.{shows_still}
use Rattle.sd_receive.proofs.closing.close_image.Goals as goal

pub returns-in_default-clause-keeps : goal.returns-in_default-clause-keeps
returns-in_default-clause-keeps g c = λ honest ready shown shows.
    let disk = c.args.disk.now in
    shows_still g.D.Disk shown disk (λ files left. g.met.D.Disk.only_now disk files left) (λ files may. g.met.D.Disk.same_slots disk files may) ready.rests shows

pub returns-in_err-close-clause-keeps : goal.returns-in_err-close-clause-keeps
returns-in_err-close-clause-keeps g c = λ honest ready shown shows.
    let d = g.D.Disk in
    let old = c.args.disk.now in
    let slot = c.in-Some.slot in
    let places = c.args.catalog.now in
    let at = opens_at (d.contents old) places slot c.sound.ensures ready.catalog c.in-Some.ensures.unneeded in
    let free = unreached (d.contents old) places slot shown c.sound.ensures ready.catalog (λ all opens. c.has_the_images.ensures (d.contents old) all ready.catalog opens) at.1 shows c.in-Some.ensures.unneeded.free in
    closing_shows d old c.close.new.disk slot shown shows free (c.close.ensures.leaves ready.rests at.1)

pub returns-clause-keeps : goal.returns-clause-keeps
returns-clause-keeps g c = λ honest ready shown shows.
    let d = g.D.Disk in
    let old = c.args.disk.now in
    let slot = c.in-Some.slot in
    let places = c.args.catalog.now in
    let at = opens_at (d.contents old) places slot c.sound.ensures ready.catalog c.in-Some.ensures.unneeded in
    let free = unreached (d.contents old) places slot shown c.sound.ensures ready.catalog (λ all opens. c.has_the_images.ensures (d.contents old) all ready.catalog opens) at.1 shows c.in-Some.ensures.unneeded.free in
    closing_shows d old c.close.new.disk slot shown shows free (c.close.ensures.leaves ready.rests at.1)

pub returns-clause-ready : goal.returns-clause-ready
returns-clause-ready g c = λ honest ready.
    let d = g.D.Disk in
    let old = c.args.disk.now in
    let new = c.close.new.disk in
    let slot = c.in-Some.slot in
    let places = c.args.catalog.now in
    let at = opens_at (d.contents old) places slot c.sound.ensures ready.catalog c.in-Some.ensures.unneeded in
    let closed = c.in_ok-close.ensures.closed ready.rests at.1 in
    closed_ready (d.contents old) (d.contents new) (d.may_leave new) slot at.1 closed.0 closed.1
    (at_end d old new (λ files. KeepsImages (d.contents old) files ⊎ KeepsImages (closed_at (d.contents old) slot) files) (g.met.D.Disk.as_read new) (λ t files since may. g.met.D.Disk.counts_now new t files since may)
    (c.close.ensures.leaves ready.rests at.1)) c.remove.new.catalog (catalog_less (d.contents old) places c.remove.new.catalog slot ready.catalog c.remove.ensures.removes)
