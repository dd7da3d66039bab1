use Rattle.sd_disk.proofs.found.Found.any.Given as goal

abbrev pub ghost-new : goal.ghost-new
ghost-new g a = g.outside
