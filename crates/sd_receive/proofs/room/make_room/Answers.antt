use Rattle.sd_receive.proofs.KeepLemmas.{shows_still}
use Rattle.sd_receive.proofs.room.make_room.Goals as goal

pub returns-in_err-place-clause-keeps : goal.returns-in_err-place-clause-keeps
returns-in_err-place-clause-keeps g c = λ honest ready shown shows.
    let disk = c.args.disk.now in
    shows_still g.D.Disk shown disk (λ files left. g.met.D.Disk.only_now disk files left) (λ files may. g.met.D.Disk.same_slots disk files may) ready.rests shows
