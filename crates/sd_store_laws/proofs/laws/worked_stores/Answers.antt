use Rattle.sd_store_laws.proofs.Busy.{merge_beside_round_lem}
use Rattle.sd_store_laws.proofs.Worked.{chain_rows_lem, why_it_grows_lem}
use Rattle.sd_store_laws.proofs.laws.worked_stores.Goals as goal

pub returns-clause-chain : goal.returns-clause-chain
returns-clause-chain c = chain_rows_lem

pub returns-clause-busy : goal.returns-clause-busy
returns-clause-busy c = merge_beside_round_lem

pub returns-clause-grows : goal.returns-clause-grows
returns-clause-grows c = why_it_grows_lem
