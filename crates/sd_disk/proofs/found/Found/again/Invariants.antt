use Rattle.sd_disk.proofs.found.Found.again.Given as goal

abbrev pub ghost-same_as : goal.ghost-same_as
ghost-same_as a = a._found.now.log.log.trace.outside
