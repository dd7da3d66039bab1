use Rattle.std.proofs.Common.{subst}
use Rattle.sd_core.specs.SoundView.{IsSoundView}
use Rattle.sd_core.proofs.CoreParts.{parts_of}
use Rattle.sd_core.proofs.NextSound.{seen_sound}
use Rattle.sd_core.proofs.state.Core.is_sound.Goals as goal

pub returns : goal.returns
returns c = subst IsSoundView c.self.view_is (record {
  room = c.self.inside.room;
  is = seen_sound (parts_of c.self.inside) c.self.invariant;
  orders = c.sound.ensures.running;
  images = c.sound.ensures.image;
  memory = c.sound-2.ensures;
  catalog = c.sound-3.ensures;
  merges = c.sound-4.ensures.running;
  copies = c.sound-4.ensures.copy;
})
