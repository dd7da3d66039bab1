use Rattle.std.proofs.Common.{sym}
use Rattle.sd_journal.specs.History.{Base}
use Rattle.sd_audit.specs.ShowsOne.{base_from_snapshot}
use Rattle.sd_audit.proofs.EntryLemmas.{legal_before}
use Rattle.sd_audit.proofs.freezes.memory_at_freeze.Goals as goal

pub replay-requires : goal.replay-requires
replay-requires c =
    let start : Base = base_from_snapshot c.args.number c.args.base.now in
    record { legal = (start, sym c.in_ok-start.ensures, legal_before start c.args.entries.now c.in-Some.place c.requires) }
