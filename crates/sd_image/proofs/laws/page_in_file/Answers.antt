use Rattle.sd_image.proofs.PageBytes.{page_in_file_lem}
use Rattle.sd_image.proofs.laws.page_in_file.Goals as goal

pub returns : goal.returns
returns c = page_in_file_lem
