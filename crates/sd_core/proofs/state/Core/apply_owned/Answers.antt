use Rattle.std.proofs.Common.{◌≡◌, ◌+◌, is_some, ◌∷◌, length, IfSome, sym, refl, ◌∙◌, ap, subst, arith, rules}
use Rattle.sd_journal.specs.History.{Base}
use Rattle.sd_journal.specs.declared.entry.Entry.TheVariants.{Applied}
use Rattle.sd_journal.specs.Marked.{Told, entries_of}
use Rattle.sd_core.proofs.FlagLemmas.{same_flags}
use Rattle.sd_core.specs.Grown.{has_grown, has_visited_all}
use Rattle.sd_core.specs.Answering.{IsAnswered}
use Rattle.sd_core.specs.Next.{applies, out_of_memory}
use Rattle.sd_core.proofs.CoreParts.{parts_of}
use Rattle.sd_core.proofs.NextOrders.{applied_seen, command_seen, same_seen, told_as}
use Rattle.sd_core.specs.LittleWork.{HasLittle}
use Rattle.sd_core.specs.Sound.{AreSoundNumbers, CheckpointRuns, IsJournal}
use Rattle.sd_core.specs.Starts.{base_of}
use Rattle.sd_core.specs.Visited.{HasVisitedAll}
use Rattle.sd_core.proofs.ApplyLemmas.{bytes_pass}
use Rattle.sd_core.proofs.JournalLemmas.{applied_journal, same_journal}
use Rattle.sd_core.proofs.LittleLemmas.{applied_little, still_while_frozen}
use Rattle.sd_core.proofs.SettledLemmas.{swept_answered}
use Rattle.sd_core.proofs.WorkLemmas.{applied_numbers, applied_work}
use Rattle.std.specs.Prelude.{Err}
use Rattle.sd_command.specs.declared.refusal.Refusal.TheVariants.{OutOfMemory}
use Rattle.sd_core.proofs.state.Core.apply_owned.Goals as goal

pub invariant_of-self-in_default-try_clone : goal.invariant_of-self-in_default-try_clone
invariant_of-self-in_default-try_clone c =
    let base : Base = base_of c.self.inside.base in
    let bytes = c.in_default-try_clone.ensures.bytes refl in
    let same = bytes_pass c.is_some.result c.args.command c.in-Ok-answer.reply bytes.0 c.self.inside.memory c.answer.new.memory bytes.1 c.in-Ok-answer.ensures.answered in
    let before = c.reserve.ensures.grown.items in
    record {
      journal_is = subst (λ m. IsJournal base c.reserve.new.self m c.self.inside.pending c.self.inside.last) (sym same)
          (same_journal base c.self.inside.journal c.reserve.new.self c.self.inside.memory c.self.inside.pending c.self.inside.last c.reserve.ensures.grown.first before c.reserve.ensures.grown.limit c.self.invariant.journal_is);
      held = c.reserve.ensures.grown.held ∙ c.self.invariant.held;
      outs_are = c.self.invariant.outs_are;
      opening = c.self.invariant.opening;
      numbers_are = subst (λ all. AreSoundNumbers base all c.self.inside.pending c.self.inside.last c.self.inside.numbers) (sym before) c.self.invariant.numbers_are;
      counted = c.self.invariant.counted;
      rests = c.self.invariant.rests;
      work = subst (λ all. IfSome c.self.inside.dumper.running (CheckpointRuns base all c.self.inside.pending c.self.inside.standing c.self.inside.phases.items c.self.inside.catalog c.self.inside.merger c.self.inside.opener c.self.inside.numbers)) (sym before) c.self.invariant.work;
      little = subst (λ m. IfSome c.self.inside.dumper.running (HasLittle base c.reserve.new.self.items m)) (sym same)
          (subst (λ all. IfSome c.self.inside.dumper.running (HasLittle base all c.self.inside.memory)) (sym before) c.self.invariant.little);
      visited_is = subst (λ m. HasVisitedAll c.self.inside.swept c.self.inside.pending m) (sym same) c.self.invariant.visited_is;
      flags_are = same_flags base c.self.inside.journal.items c.reserve.new.self.items c.self.inside.swept c.self.inside.grows c.self.inside.committing before c.self.invariant.flags_are;
      gated = c.self.invariant.gated;
      merging = c.self.invariant.merging;
    }

pub returns-in_default-try_clone : goal.returns-in_default-try_clone
returns-in_default-try_clone c =
    let bytes = c.in_default-try_clone.ensures.bytes refl in
    let same = bytes_pass c.is_some.result c.args.command c.in-Ok-answer.reply bytes.0 c.self.inside.memory c.answer.new.memory bytes.1 c.in-Ok-answer.ensures.answered in
    c.command_law.ensures c.args.seat c.args.command (Err OutOfMemory) c.args.self.now _ c.is_sound.ensures (command_seen _ _ _ _ _ _ c.self.view_is (out_of_memory (search rules) refl
    (same_seen (parts_of c.self.inside) c.reserve.new.self c.answer.new.memory c.reserve.ensures.grown.items c.reserve.ensures.grown.held c.reserve.ensures.grown.limit same)))

pub invariant_of-self-2 : goal.invariant_of-self-2
invariant_of-self-2 c =
    let base : Base = base_of c.self.inside.base in
    let answered = subst (λ frozen. IsAnswered frozen c.args.command c.in-Ok-answer.reply c.self.inside.memory c.answer.new.memory) c.is_some.ensures c.in-Ok-answer.ensures.answered in
    let before = same_journal base c.self.inside.journal c.reserve.new.self c.self.inside.memory c.self.inside.pending c.self.inside.last c.reserve.ensures.grown.first c.reserve.ensures.grown.items c.reserve.ensures.grown.limit c.self.invariant.journal_is in
    let items = c.append.ensures.items ∙ ap (λ all. Told (Applied c.args.seat c.args.command c.in-Ok-answer.reply) ∷ all) c.reserve.ensures.grown.items in
    record {
      journal_is = applied_journal c.tracked_laws.ensures base c.reserve.new.self c.append.new.self c.self.inside.memory c.answer.new.memory c.self.inside.pending c.self.inside.last
          c.args.seat c.args.command c.in-Ok-answer.reply c.append.ensures.items c.append.ensures.numbers.first c.append.ensures.numbers.limit c.sound.ensures before answered;
      held = c.append.ensures.held ∙ c.reserve.ensures.grown.held ∙ c.self.invariant.held;
      outs_are = c.self.invariant.outs_are;
      opening = c.self.invariant.opening;
      numbers_are = subst (λ all. AreSoundNumbers base all c.self.inside.pending c.self.inside.last c.self.inside.numbers) (sym items)
          (applied_numbers base c.self.inside.journal.items c.self.inside.pending c.self.inside.last c.self.inside.numbers c.args.seat c.args.command c.in-Ok-answer.reply c.self.invariant.numbers_are);
      counted = c.self.invariant.counted;
      rests = c.self.invariant.rests;
      work = subst (λ all. IfSome c.self.inside.dumper.running (CheckpointRuns base all c.self.inside.pending c.self.inside.standing c.self.inside.phases.items c.self.inside.catalog c.self.inside.merger c.self.inside.opener c.self.inside.numbers)) (sym items)
          (applied_work base c.self.inside.journal.items c.self.inside.pending c.self.inside.standing c.self.inside.phases.items c.self.inside.catalog c.self.inside.merger c.self.inside.opener c.self.inside.numbers
          c.self.inside.dumper.running c.args.seat c.args.command c.in-Ok-answer.reply c.self.invariant.work);
      little = subst (λ all. IfSome c.self.inside.dumper.running (HasLittle base all c.answer.new.memory)) (sym items)
          (applied_little base c.self.inside.journal.items c.self.inside.memory c.answer.new.memory c.self.inside.dumper.running c.args.seat c.args.command c.in-Ok-answer.reply
          (still_while_frozen _ c.answer.new.memory c.args.command c.in-Ok-answer.reply c.self.invariant answered) c.self.invariant.little);
      flags_are = record { grown = c.self.invariant.flags_are.grown ∙ ap (λ all. has_grown base (entries_of all)) (sym items); visited_by = c.self.invariant.flags_are.visited_by ∙ ap has_visited_all (sym items); sure = c.self.invariant.flags_are.sure };
      gated = c.self.invariant.gated;
      visited_is = swept_answered c.self.inside.swept c.self.inside.pending c.args.command c.in-Ok-answer.reply c.self.inside.memory c.answer.new.memory answered c.self.invariant.visited_is;
      merging = c.self.invariant.merging;
    }

pub returns : goal.returns
returns c =
    let grown = c.reserve.ensures.grown in
    let count = ap (λ items. length (entries_of items)) grown.items in
    let number = c.next_number-number.ensures in
    let folded = grown.first ∙ c.self.invariant.journal_is.first in
    let answered = subst (λ frozen. IsAnswered frozen c.args.command c.in-Ok-answer.reply c.self.inside.memory c.answer.new.memory) c.is_some.ensures c.in-Ok-answer.ensures.answered in
    let same : c.next_number-number.result ≡ (base_of c.self.inside.base).folded + length (entries_of c.self.inside.journal.items) = omega (arith, count, number, folded) in
    c.command_law.ensures c.args.seat c.args.command _ c.args.self.now _ c.is_sound.ensures (command_seen _ _ _ _ _ _ c.self.view_is (applies c.in-Ok-answer.reply (told_as _ _ _ _ same c.in-Ok-try_clone.ensures.copy) (record {
      room = search rules;
      memory = c.answer.new.memory;
      answered = subst (λ f. IsAnswered (is_some f) c.args.command c.in-Ok-answer.reply c.self.inside.memory c.answer.new.memory) c.self.invariant.journal_is.frozen_for answered;
      new_is = applied_seen (parts_of c.self.inside) c.append.new.self c.answer.new.memory (Applied c.args.seat c.args.command c.in-Ok-answer.reply)
          (c.append.ensures.items ∙ ap (λ all. Told (Applied c.args.seat c.args.command c.in-Ok-answer.reply) ∷ all) grown.items)
          (c.append.ensures.held ∙ grown.held) (c.append.ensures.numbers.limit ∙ grown.limit);
    })))
