use Rattle.sd_store_laws.proofs.WorkedSlots.{dump_in_doubt_lem, merge_behind_tip_lem, pre_dump_given_up_lem}
use Rattle.sd_store_laws.proofs.laws.worked_slots.Goals as goal

pub returns-clause-pre_dump : goal.returns-clause-pre_dump
returns-clause-pre_dump c = pre_dump_given_up_lem

pub returns-clause-doubt : goal.returns-clause-doubt
returns-clause-doubt c = dump_in_doubt_lem

pub returns-clause-behind : goal.returns-clause-behind
returns-clause-behind c = merge_behind_tip_lem
