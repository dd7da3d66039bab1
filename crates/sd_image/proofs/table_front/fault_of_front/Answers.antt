use Rattle.sd_image.proofs.FrontLaws.{front_decides}
use Rattle.sd_image.proofs.table_front.fault_of_front.Goals as goal

pub returns-clause-decides : goal.returns-clause-decides
returns-clause-decides c = front_decides c.args.header.now c.args.front.now
