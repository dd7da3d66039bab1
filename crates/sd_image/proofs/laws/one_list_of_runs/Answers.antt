use Rattle.sd_image.proofs.OneRuns.{one_list_of_runs_lem}
use Rattle.sd_image.proofs.laws.one_list_of_runs.Goals as goal

pub returns : goal.returns
returns c = one_list_of_runs_lem
