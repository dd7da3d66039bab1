use Rattle.sd_elf.proofs.ReadLemmas.{page_read}
use Rattle.sd_elf.proofs.core_file.read_page.Goals as goal

pub returns : goal.returns
returns g c =
    page_read (g.F.CoreFile.bytes c.args.file.now) c.read_at.result c.read_at.new.buffer c.args.page.now c.fill.new.self c.args.segment.now c.args.behind c.min-in_file.result c.saturating_add.result
    c.if-segment-behind.false (c.fill.ensures.after (λ y e. e)) c.min-in_file.ensures c.saturating_add.ensures c.read_at.auto.buffer c.read_at.ensures
