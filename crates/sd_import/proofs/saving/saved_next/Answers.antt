-- None is pending where a checkpoint can begin.
use Rattle.std.proofs.Common.{subst}
use Rattle.sd_core.specs.SoundView.{IsSoundView}
use Rattle.sd_import.proofs.SavedLemmas.{next_saved}
use Rattle.sd_import.proofs.saving.saved_next.Goals as goal

pub returns : goal.returns
returns g c = next_saved g.D.Disk c.args.world.now c.sound.ensures.tracked (subst IsSoundView c.core.ensures c.is_sound.ensures)
