-- Any start serves: no test's outcome rests on it.
use Rattle.std.proofs.Common.{[], replicate}
use Rattle.test_scripts.proofs.run.folder.Given as goal

abbrev pub ghost-new : goal.ghost-new
ghost-new a = record { found = replicate 64 []; left = [] }
