use Rattle.std.proofs.Common.{◌∙◌}
use Rattle.sd_merge.proofs.PageLemmas.{page_filled}
use Rattle.sd_merge.proofs.copier.make_whole.Goals as goal

pub returns-clause-same : goal.returns-clause-same
returns-clause-same c =
    page_filled c.args.buffer.now.items c.extend_from_slice.new.self.items c.clear.new.self.items c.in_ok-extend_from_slice.ensures.items c.clear.ensures.items
    (λ e. c.if-len-eq-PAGE_SIZE.false (c.len.ensures ∙ c.args.buffer.now.ok.0 ∙ e))
