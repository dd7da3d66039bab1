use Rattle.std.proofs.Common.{rules, ◌≡◌, ◌∙◌, sym, ◌*◌}
use Rattle.sd_pagetable.specs.Contents.{page_at}
use Rattle.sd_import.proofs.CheckLemmas.{same_sector}
use Rattle.sd_import.proofs.checking.has_sector.Goals as goal

pub returns-then-is_there : goal.returns-then-is_there
returns-then-is_there c = λ is.
    let read = c.read_sector-is_there.ensures in
    let same : c.read_sector-is_there.new.bytes ≡ c.args.bytes.now = search rules in
    same_sector (page_at c.args.memory.now c.args.space c.args.page) (512 * c.args.sector) c.read_sector-is_there.new.bytes c.args.bytes.now
    (sym read.mapped ∙ c.if-is_there.true) read.bytes same
