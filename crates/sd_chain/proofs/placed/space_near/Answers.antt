use Rattle.sd_chain.proofs.Ways.{space_found}
use Rattle.sd_chain.proofs.placed.space_near.Goals as goal

pub returns-clause-space : goal.returns-clause-space
returns-clause-space c = space_found c.args.spaces.now c.args.space c.space_index.result c.space_index.ensures
