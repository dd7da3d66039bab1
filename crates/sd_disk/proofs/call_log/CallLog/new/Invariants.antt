use Rattle.sd_disk.proofs.call_log.CallLog.new.Given as goal

abbrev pub ghost-new : goal.ghost-new
ghost-new g a = g.outside
