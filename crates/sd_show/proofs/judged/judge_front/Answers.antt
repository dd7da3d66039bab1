use Rattle.std.proofs.Common.{◌≡◌, ◌∙◌, Some, sym, refl}
use Rattle.sd_disk.specs.Contents.{file_at}
use Rattle.sd_image.specs.Fronts.{front_fault}
use Rattle.sd_image.specs.Reading.{table_in}
use Rattle.sd_show.proofs.TableLemmas.{front_judged}
use Rattle.sd_show.proofs.judged.judge_front.Goals as goal

pub returns-in-Some-clause-judged : goal.returns-in-Some-clause-judged
returns-in-Some-clause-judged g c = λ honest short.
    let file = file_at (g.D.Disk.contents c.args.disk.now) c.args.slot in
    let fault : front_fault (table_in c.args.header.now c.deref.result.now) ≡ Some c.in-Some.reason = sym c.in_ok-reason.ensures.exact ∙ c.in-Some.is in
    front_judged file c.deref.result.now c.args.header.now c.args.at c.args.count c.in-Some.reason _ (sym c.deref.ensures.value) refl
    (c.deref.ensures.value ∙ c.in_ok-bytes.ensures.bytes honest) short c.requires.long c.in_ok-reason.ensures.decides fault
