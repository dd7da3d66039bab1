-- What is promised of the functions that are given what is found is so of all that may be found: any serves here.
use Rattle.std.proofs.Common.{[], replicate}
use Rattle.example_world.proofs.main.Given as goal

abbrev pub ghost-any : goal.ghost-any
ghost-any a = record { found = replicate 64 []; left = [] }
