use Rattle.std.proofs.Common.{rules, ◌≡◌, List, ap, length}
use Rattle.sd_receive.specs.declared.mapped.MappedPage.{MappedPage}
use Rattle.sd_receive.specs.Merged.{pages_seen}
use Rattle.sd_receive.proofs.CopyLemmas.{same_lists}
use Rattle.sd_receive.proofs.mapped.are_same.Goals as goal

pub returns : goal.returns
returns c = λ yes.
    let pages : List MappedPage = c.args.pages.now in
    let others : List MappedPage = c.args.others.now in
    let long : length pages ≡ length others = search rules in
    ap pages_seen (same_lists pages others long (λ k d less. c.loop-place.invariant k d (search rules)))
