use Rattle.sd_store_laws.proofs.Catalogs.{serials_back, serials_on}
use Rattle.sd_store_laws.proofs.laws.catalog_reaches_so.Goals as goal

pub returns-clause-falls : goal.returns-clause-falls
returns-clause-falls c = λ contents all is slots. (c.has_the_images.ensures contents all is slots).fall

pub returns-clause-reached : goal.returns-clause-reached
returns-clause-reached c = λ contents all is slots serial reached.
    let has = c.has_the_images.ensures contents all is slots in
    (serials_on contents c.args.catalog.now all serial reached has, serials_back contents c.args.catalog.now all serial reached has)
