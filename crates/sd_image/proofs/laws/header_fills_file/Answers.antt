use Rattle.sd_image.proofs.FileLaws.{header_fills_file_lem}
use Rattle.sd_image.proofs.laws.header_fills_file.Goals as goal

pub returns : goal.returns
returns c = header_fills_file_lem
