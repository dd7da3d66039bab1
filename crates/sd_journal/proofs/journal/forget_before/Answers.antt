use Rattle.std.proofs.Common.{rules}
use Rattle.std.proofs.lemmas.Fn.{filter_same}
use Rattle.sd_journal.specs.Kept.{is_after_entries}
use Rattle.sd_journal.proofs.journal.forget_before.Goals as goal

pub returns : goal.returns
returns c = filter_same _ (is_after_entries c.args.number) _ (λ placed b after call. search rules) _ _ c.retain.ensures.filtered
