use Rattle.std.proofs.Common.{subst}
use Rattle.sd_pagetable.specs.Contents.{IsSound}
use Rattle.sd_pagetable.proofs.paging.Paging.first_in.Goals as goal

pub returns-clause-sound : goal.returns-clause-sound
returns-clause-sound c = subst IsSound c.self.view_is c.self.invariant.sound
