use Rattle.sd_image.proofs.GrownRuns.{runs_have_pages_lem}
use Rattle.sd_image.proofs.runs.runs_have_pages.Goals as goal

pub returns : goal.returns
returns c = runs_have_pages_lem
