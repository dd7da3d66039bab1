use Rattle.sd_chain.proofs.Agreement.{held_places_record_nothing}
use Rattle.sd_chain.proofs.laws.held_places_record_nothing.Goals as goal

pub returns : goal.returns
returns c = held_places_record_nothing
