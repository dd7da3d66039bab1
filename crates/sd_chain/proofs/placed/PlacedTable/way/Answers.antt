use Rattle.std.proofs.Common.{◌∙◌, refl, sym}
use Rattle.std.proofs.lemmas.Option.{none-some}
use Rattle.sd_chain.proofs.Ways.{exact_some, first_alike}
use Rattle.sd_chain.proofs.placed.PlacedTable.way.Goals as goal

pub returns-in_err-stretch : goal.returns-in_err-stretch
returns-in_err-stretch c = λ h table w. (λ e. absurd (none-some w (sym c.from_residual.ensures ∙ e)), λ has. absurd (c.in_err-stretch.ensures.none h table refl w has))

pub returns : goal.returns
returns c = λ h table w.
    let stretch = c.in_ok-stretch.stretch in
    exact_some c.one_kind.ensures c.one_place.ensures h c.args.self.now (c.args.space, c.args.page) stretch.way table
    (first_alike c.args.self.now c.args.space c.args.page stretch.way stretch.count (c.in_ok-stretch.ensures.alike h table)) w
