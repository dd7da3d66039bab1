use Rattle.std.proofs.Common.{◌≡◌, ◌∙◌, ◌+◌, ◌*◌, List, ℕ, Some, sym, refl}
use Rattle.std.specs.Prelude.{slice_range}
use Rattle.sd_disk.specs.Contents.{file_at}
use Rattle.sd_image.specs.Fronts.{front_fault}
use Rattle.sd_image.specs.Reading.{table_in}
use Rattle.sd_restore.proofs.FileLemmas.{front_is_faulty}
use Rattle.sd_restore.proofs.fronts.look_at_front.Goals as goal

pub returns-in-Some-clause-faulty : goal.returns-in-Some-clause-faulty
returns-in-Some-clause-faulty g c = λ honest has.
    let file : List ℕ = file_at (g.D.Disk.contents c.args.disk.now) c.args.slot in
    let bytes : c.in_ok-front.front.items ≡ slice_range file (4096 + 4096 * c.args.header.now.pages) (4096 + 4096 * c.args.header.now.pages + c.args.len) = c.in_ok-front.ensures.bytes honest in
    let fault : front_fault (table_in c.args.header.now c.deref.result.now) ≡ Some c.in-Some.reason = sym c.in_ok-reason.ensures.exact ∙ c.in-Some.is in (
      refl,
      front_is_faulty c.good_header_has_no_reason.ensures file c.args.header.now c.deref.result.now c.args.len c.in-Some.reason has c.requires.short
          (c.deref.ensures.value ∙ bytes) c.in_ok-reason.ensures.decides fault,
    )
