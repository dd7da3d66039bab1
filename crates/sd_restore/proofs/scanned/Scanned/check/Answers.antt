use Rattle.sd_restore.proofs.GoodLemmas.{no_damage}
use Rattle.sd_restore.proofs.ScanLemmas.{double_is_damage, catalog_of_all, store_of_all}
use Rattle.sd_restore.proofs.scanned.Scanned.check.Goals as goal

pub returns-in-Some-clause-damaged : goal.returns-in-Some-clause-damaged
returns-in-Some-clause-damaged c = λ contents was. double_is_damage contents c.args.self.now c.in-Some.slot c.in-Some.is was

pub returns-in-Some-clause-good : goal.returns-in-Some-clause-good
returns-in-Some-clause-good c = λ contents images was store.
    no_damage c.good_store_has_no_reason.ensures c.one_image.ensures contents images c.in-Some.slot _ store (double_is_damage contents c.args.self.now c.in-Some.slot c.in-Some.is was)

pub returns-in-None-clause-catalog : goal.returns-in-None-clause-catalog
returns-in-None-clause-catalog c = λ contents was. catalog_of_all contents c.args.self.now c.in-None.is was

pub returns-in-None-clause-store : goal.returns-in-None-clause-store
returns-in-None-clause-store c = λ contents was. store_of_all contents c.args.self.now c.in-None.is was
