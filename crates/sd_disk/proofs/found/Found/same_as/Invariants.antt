use Rattle.sd_disk.proofs.found.Found.same_as.Given as goal

abbrev pub ghost-any : goal.ghost-any
ghost-any g a = g.outside
