use Rattle.std.proofs.Common.{[], ◌+◌, ◌*◌, ℕ, sym, ap, subst, append-nil}
use Rattle.sd_chain.specs.declared.found.Found.{Found}
use Rattle.sd_chain.specs.declared.found.Found.TheVariants.{Data}
use Rattle.sd_chain.specs.Store.{bytes_at}
use Rattle.sd_receive.specs.Merged.{IsStoredAt}
use Rattle.sd_receive.proofs.ArriveLemmas.{keeps_still}
use Rattle.sd_receive.proofs.CopyLemmas.{stored_more}
use Rattle.sd_receive.proofs.copying.copy_bytes.Goals as goal

pub returns-in-Zero-clause-keeps : goal.returns-in-Zero-clause-keeps
returns-in-Zero-clause-keeps g c = λ has.
    let disk = c.args.disk.now in
    keeps_still g.D.Disk disk (λ files left. g.met.D.Disk.only_now disk files left) (λ files may. g.met.D.Disk.same_slots disk files may) has.fills.rests

pub returns-in-Zero-clause-copied : goal.returns-in-Zero-clause-copied
returns-in-Zero-clause-copied g c = λ honest has.
    record { has = has; later = []; more = sym (append-nil has.pages); lies = ap (bytes_at (g.D.Disk.contents c.args.disk.now)) c.in-Zero.is }

pub returns-in_ok-copy_data-in-Data-clause-copied : goal.returns-in_ok-copy_data-in-Data-clause-copied
returns-in_ok-copy_data-in-Data-clause-copied g c = λ honest has.
    let d = g.D.Disk in
    let new = c.copy_data.new.disk in
    let count : ℕ = c.args.copied.now.stored in
    subst (λ (there : Found). IsStoredAt (bytes_at (d.contents c.args.disk.now) there) has.pages (d.contents new) (d.may_leave new) c.args.slot (count + 1) c.copy_data.new.digester (Data c.args.slot (4096 + 4096 * count)))
    (sym c.in-Data.is)
    (stored_more (bytes_at (d.contents c.args.disk.now) (Data c.in-Data.from c.in-Data.offset)) has.pages (d.contents new) (d.may_leave new) c.args.slot count c.copy_data.new.digester has.counted
    (c.in_ok-copy_data-in-Data.ensures.copied honest has))
