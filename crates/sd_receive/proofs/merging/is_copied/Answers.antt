use Rattle.std.proofs.Common.{rules, ◌≡◌, ◌∙◌, true, map, sym}
use Rattle.sd_image.specs.declared.table.SpaceTable.{SpaceTable}
use Rattle.sd_receive.proofs.CopyLemmas.{numbers_seen}
use Rattle.sd_receive.proofs.merging.is_copied.Goals as goal

pub returns-clause-numbers : goal.returns-clause-numbers
returns-clause-numbers c = λ same.
    let yes : c.are_numbers.result ≡ true = search rules in
    let equal : map (λ (s : SpaceTable). s.space) c.args.placed.now.spaces.now ≡ c.args.memory.now.spaces.items = search rules in
    sym (numbers_seen c.args.placed.now.spaces.now) ∙ equal
