use Rattle.sd_disk.proofs.dir_disk.DirDisk.new.Given as goal

abbrev pub ghost-new : goal.ghost-new
ghost-new g a = g.outside
