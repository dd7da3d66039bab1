use Rattle.std.proofs.Common.{◌≡◌, ◌-◌, rules}
use Rattle.sd_fold.proofs.OverLemmas.{unmapped}
use Rattle.sd_fold.proofs.Tables.{on_ok}
use Rattle.sd_fold.proofs.changes.unmap_run.Goals as goal

pub returns : goal.returns
returns c =
    let last : c.unwrap-last.result ≡ c.args.end - 1 = search rules in
    on_ok c.hide_all.result _ _ (λ hidden. unmapped c.args.changes.now.entries c.forget_run.new.changes.entries c.hide_all.new.changes.entries c.args.pages.now.entries c.range.result
    c.args.first c.unwrap-last.result c.args.end last c.requires.some c.forget_run.ensures (c.range.ensures.between tt) hidden) c.hide_all.ensures
