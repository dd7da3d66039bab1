use Rattle.std.proofs.Common.{◌∙◌}
use Rattle.sd_receive.proofs.CopyLemmas.{numbers_seen}
use Rattle.sd_receive.proofs.merging.copied_memory.Goals as goal

pub returns-clause-numbers : goal.returns-clause-numbers
returns-clause-numbers c = c.in_ok-spaces.ensures ∙ numbers_seen c.args.placed.now.spaces.now
