use Rattle.std.proofs.Common.{Bool, ◌&&◌, not, ap}
use Rattle.sd_shared.proofs.TurnLemmas.{applied_holds}
use Rattle.sd_shared.proofs.booked.Booked.command.Goals as goal

pub returns-in-Some-clause-waits : goal.returns-in-Some-clause-waits
returns-in-Some-clause-waits c = ap (λ (holds : Bool). holds && not c.args.self.now.ended) (applied_holds _ _ _ _ _ c.apply_owned.ensures)

pub returns-in-None-clause-waits : goal.returns-in-None-clause-waits
returns-in-None-clause-waits c = ap (λ (holds : Bool). holds && not c.args.self.now.ended) (applied_holds _ _ _ _ _ c.apply.ensures)
