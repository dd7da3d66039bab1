use Rattle.std.proofs.Common.{rules, ◌≡◌, sym}
use Rattle.sd_areas.specs.Memory.{space_of}
use Rattle.sd_areas.specs.PlainMemory.{Page}
use Rattle.sd_fold.specs.Overlay.{pages_over}
use Rattle.sd_fold.proofs.Tables.{change_none, changed_step}
use Rattle.sd_fold.proofs.changes.protect_run.Goals as goal

pub loop-number-init : goal.loop-number-init
loop-number-init c = sym (change_none (λ (page : Page). record page { prot = c.args.prot }) (pages_over c.args.changes.now.entries (space_of c.args.pages.now.entries)) c.args.first)

pub loop-number-preserved : goal.loop-number-preserved
loop-number-preserved c =
    let is : c.unwrap-page.result ≡ c.loop-number.number = search rules in
    changed_step (λ (page : Page). record page { prot = c.args.prot }) (pages_over c.args.changes.now.entries (space_of c.args.pages.now.entries))
    (pages_over c.loop-number.changes.entries (space_of c.args.pages.now.entries)) (pages_over c.protect.new.changes.entries (space_of c.args.pages.now.entries))
    c.args.first c.loop-number.number c.loop-number.auto.number c.loop-number.invariant (rw is at c.in_ok-protect.ensures.mapped) (rw is at c.in_ok-protect.ensures.hole)
