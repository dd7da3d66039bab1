use Rattle.sd_show.proofs.json.spaces_json.Given as goal

abbrev pub decreases-loop-left : goal.decreases-loop-left
decreases-loop-left l = l.left
