use Rattle.std.proofs.Common.{rules, ◌≡◌, ℕ, List, length}
use Rattle.sd_receive.proofs.CopyLemmas.{same_lists}
use Rattle.sd_receive.proofs.merging.are_numbers.Goals as goal

pub returns : goal.returns
returns c = λ yes.
    let spaces : List ℕ = c.args.spaces.now in
    let others : List ℕ = c.args.others.now in
    let long : length spaces ≡ length others = search rules in
    same_lists spaces others long (λ k d less. c.loop-place.invariant k d (search rules))
