use Rattle.sd_restore.proofs.DigestLemmas.{image_digested}
use Rattle.sd_restore.proofs.laws.image_is_rightly_digested.Goals as goal

pub returns : goal.returns
returns c = image_digested c.good_file_has_no_reason.ensures c.good_header_has_no_reason.ensures
