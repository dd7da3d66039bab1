use Rattle.std.proofs.Common.{◌≡◌, get_or, reverse, take, subst}
use Rattle.sd_areas.specs.Memory.{memory_of}
use Rattle.sd_fold.specs.Overlay.{memory_over}
use Rattle.sd_journal.specs.declared.entry.Entry.{Entry}
use Rattle.sd_journal.specs.declared.entry.Entry.TheVariants.{Applied}
use Rattle.sd_fold.proofs.LegalLemmas.{legal_at, legal_command}
use Rattle.sd_fold.proofs.effects.changes_by.Goals as goal

pub apply-requires : goal.apply-requires
apply-requires c =
    let entry : Entry = Applied c.in-Applied.seat c.in-Applied.command c.in-Applied.reply in
    let at : entry ≡ get_or c.args.entries.now c.loop-entry.entry-index entry =
    subst (λ (e : Entry). e ≡ get_or c.args.entries.now c.loop-entry.entry-index e) c.in-Applied.is c.entry-item.is in
    let start = c.requires.legal.0 in
    legal_command start (reverse (take c.loop-entry.entry-index c.args.entries.now)) (memory_over c.loop-entry.overlay.entries (memory_of c.args.base.now)) c.in-Applied.seat c.in-Applied.command c.in-Applied.reply
    (c.loop-entry.invariant start c.requires.legal.1)
    (legal_at start c.args.entries.now c.loop-entry.entry-index entry c.loop-entry-test.true at c.requires.legal.2)
