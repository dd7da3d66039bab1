use Rattle.sd_shared.proofs.TurnLemmas.{called_of}
use Rattle.sd_shared.proofs.shared.Shared.call_device.Goals as goal

pub returns-in-Some : goal.returns-in-Some
returns-in-Some g c = record { called = called_of _ _ _ _ c.in-Some.ensures.id c.hand_in.ensures.turn }
