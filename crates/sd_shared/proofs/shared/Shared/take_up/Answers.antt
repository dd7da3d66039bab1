use Rattle.sd_shared.proofs.shared.Shared.take_up.Goals as goal

pub returns : goal.returns
returns g c = record { turn = (c.deref_mut.result.now, c.take_up-next.new.self, c.take_up-next.ensures.either) }
