use Rattle.std.proofs.Common.{replicate, []}
use Rattle.test_store.proofs.devices.open.Given as goal

abbrev pub ghost-new : goal.ghost-new
ghost-new a = record { found = replicate 64 []; left = [] }
