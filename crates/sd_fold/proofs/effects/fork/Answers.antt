use Rattle.std.proofs.Common.{◌∙◌, ap}
use Rattle.std.specs.FinMap as finmap
use Rattle.sd_areas.specs.Memory.{memory_of}
use Rattle.sd_fold.specs.Overlay.{memory_over}
use Rattle.sd_fold.proofs.Tables.{on_ok}
use Rattle.sd_fold.proofs.effects.fork.Goals as goal

pub returns : goal.returns
returns c =
    let base = memory_of c.args.base.now in
    on_ok c.put_changes.result _ _ (λ put. put base ∙ ap (finmap.insert (memory_over c.args.overlay.now.entries base) c.args.child)
    (rw (c.pages_in.ensures, c.pages_in-2.ensures) at c.in_ok-copy.ensures ∙ c.changes_in.ensures base c.requires.alive)) c.put_changes.ensures
