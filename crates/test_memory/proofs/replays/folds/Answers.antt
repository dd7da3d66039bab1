use Rattle.std.proofs.Common.{sym}
use Rattle.sd_journal.specs.Worked.{empty_base}
use Rattle.test_memory.proofs.replays.folds.Goals as goal

pub fold-requires : goal.fold-requires
fold-requires c = record { legal = (empty_base, sym c.requires.base, c.requires.legal) }
