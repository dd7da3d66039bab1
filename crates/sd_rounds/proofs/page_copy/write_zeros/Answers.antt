use Rattle.std.proofs.Common.{◌≡◌, ◌++◌, take, replicate, ◌∙◌, ap}
use Rattle.std.proofs.lemmas.List.{take-replicate}
use Rattle.sd_rounds.proofs.PageCopyLemmas.{written}
use Rattle.sd_rounds.proofs.page_copy.write_zeros.Goals as goal

pub returns-clause-items : goal.returns-clause-items
returns-clause-items c =
    let zeros : take c.args.front (replicate 4096 0) ≡ replicate c.args.front 0 = take-replicate c.args.front 4096 0 c.requires.few in
    c.in_ok-add_bytes.ensures.items ∙ ap (λ bytes. c.args.buffer.now.items ++ bytes) zeros ∙ written c.args.front c.args.buffer.now.items c.requires.bare
