use Rattle.sd_disk.proofs.folder.FolderLog.new.Given as goal

abbrev pub ghost-new : goal.ghost-new
ghost-new g a = g.outside
