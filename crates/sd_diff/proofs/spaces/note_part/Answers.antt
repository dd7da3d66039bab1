use Rattle.std.proofs.Common.{subst}
use Rattle.std.specs.Option.{option_map}
use Rattle.std.proofs.lemmas.Result.{on_ok_weaker}
use Rattle.sd_restore.specs.declared.placed_run.PlacedRun.{PlacedRun}
use Rattle.sd_diff.specs.Difference.{AddsProts}
use Rattle.sd_diff.proofs.PageLemmas.{prots_are}
use Rattle.sd_diff.proofs.spaces.note_part.Goals as goal

pub returns-clause-adds : goal.returns-clause-adds
returns-clause-adds g c = λ honest.
    let old = c.args.old.now.run in
    let new = c.args.new.now.run in
    let pages = c.args.pages.now in
    let areas = c.args.into.now.areas.items in
    let after = c.note_prots.new.areas.items in
    on_ok_weaker c.note_written.result
    (λ written. record {
      areas = prots_are pages old new areas after
          (subst (λ o. AddsProts pages o (option_map (λ (r : PlacedRun). r.prot) new) areas after) c.prot_in.ensures
          (subst (λ o. AddsProts pages c.prot_in.result o areas after) c.prot_in-2.ensures c.in_ok-note_prots.ensures.adds));
      written = written;
    })
    (c.note_written.ensures.adds honest)
