use Rattle.std.proofs.Common.{◌≡◌, ◌<◌, true, false, subst}
use Rattle.sd_fold.proofs.Tables.{no_entry, past_last}
use Rattle.sd_fold.proofs.changes.page_in.Goals as goal

pub returns-in_err-last : goal.returns-in_err-last
returns-in_err-last g c = rw c.from_residual.ensures (no_entry c.args.pages.now.entries c.args.number (λ more. absurd (let f : false ≡ true = c.in_err-last.ensures.variant.1 more in cc)))

pub returns-then-number : goal.returns-then-number
returns-then-number g c =
    let past : c.in_ok-last.last.now < c.args.number = subst (λ n. n < c.args.number) c.number.ensures.value c.if-number.true in
    past_last c.args.pages.now.entries c.in_ok-last.last.now c.args.number past c.in_ok-last.ensures.greatest
