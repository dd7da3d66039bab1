use Rattle.std.proofs.Common.{rules, List, ℕ}
use Rattle.sd_restore.proofs.WantLemmas.{tip_opens}
use Rattle.sd_restore.proofs.verifying.verify.Goals as goal

pub returns-in_err-checkpoint-clause-good : goal.returns-in_err-checkpoint-clause-good
returns-in_err-checkpoint-clause-good g c = λ honest shown shows.
    let contents : List (List ℕ) = g.D.Disk.contents c.args.disk.now in
    let none = c.in_err-checkpoint.ensures.good contents shown (c.in_ok-catalog.ensures.catalog honest) shows in
    search rules

pub returns-in_err-catalog-clause-wanted : goal.returns-in_err-catalog-clause-wanted
returns-in_err-catalog-clause-wanted g c = λ honest out.
    let store = c.in_err-catalog.ensures.wanted honest (search rules) in
    (store.0, store.1.here.1.opens)

pub returns-in_err-checkpoint-clause-wanted : goal.returns-in_err-checkpoint-clause-wanted
returns-in_err-checkpoint-clause-wanted g c = λ honest out.
    let tip = c.in_err-checkpoint.ensures.wanted (search rules) in
    tip_opens (g.D.Disk.contents c.args.disk.now) c.in_ok-catalog.field-0.catalog tip.0 (c.in_ok-catalog.ensures.catalog honest) c.sound.ensures tip.1
