use Rattle.std.proofs.Common.{◌≡◌, false, None, Some, ◌∙◌, ap, sym, refl, subst}
use Rattle.sd_areas.specs.Memory.{memory_of}
use Rattle.sd_journal.specs.declared.origin.Origin.TheVariants as origins
use Rattle.sd_journal.specs.Allowed.{IsLastPair}
use Rattle.sd_journal.specs.Marked.{entries_of}
use Rattle.sd_crash_safety.specs.declared.standing.Standing.TheVariants.{NotOpen, Open}
use Rattle.sd_rounds.specs.Dumper.{Dumping}
use Rattle.sd_core.proofs.FlagLemmas.{set_flags}
use Rattle.sd_core.specs.Grown.{has_grown, has_visited_all}
use Rattle.sd_core.specs.Sound.{held_for}
use Rattle.sd_crash_safety.specs.OpenerSteps.{nobody}
use Rattle.sd_core.specs.Starts.{nothing_asked, shown_base}
use Rattle.sd_core.proofs.CoreLemmas.{none_out}
use Rattle.sd_core.proofs.MergeLemmas.{no_merge}
use Rattle.sd_chain.specs.Catalog.{place_of}
use Rattle.sd_core.proofs.SettledLemmas.{not_swept}
use Rattle.sd_core.proofs.StartLemmas.{begun_from, start_journal, start_numbers, base_is_last, none_of}
use Rattle.sd_core.specs.declared.numbers.Numbers.{Numbers}
use Rattle.sd_core.proofs.WorkLemmas.{none_works}
use Rattle.sd_core.proofs.state.Core.new.Goals as goal

pub invariant_of-result : goal.invariant_of-result
invariant_of-result c =
    let idle = ap (λ (d : Dumping). d.running) c.new-3.ensures in
    record {
      journal_is = start_journal _ c.new.result c.args.start.memory c.args.start.number refl c.requires.begins c.requires.same refl refl c.new.ensures.items c.new.ensures.first c.new.ensures.limit;
      held = c.new.ensures.held ∙ ap (λ r. held_for None r None) (sym idle);
      outs_are = none_out NotOpen nobody c.args.start.phases.items c.new-3.result.running c.new-4.result None idle c.new-4.ensures refl refl;
      opening = tt;
      numbers_are = start_numbers _ c.new.result.items c.args.start.number c.start.result refl c.new.ensures.items (begun_from c.args.start.number c.start.result c.start.ensures) (ap (λ (n : Numbers). n.checkpoint) c.start.ensures ∙ sym (ap (λ (n : Numbers). n.begun) c.start.ensures)) (ap (λ (n : Numbers). n.serial) c.start.ensures) (ap (λ (n : Numbers). n.given) c.start.ensures);
      counted = λ serial o at. absurd (let no : None ≡ Some (Some o) = ap (λ all. place_of all serial) (sym c.new-2.ensures) ∙ at in cc);
      rests = λ none stands. refl;
      work = none_works _ c.new-3.result.running idle;
      little = none_works _ c.new-3.result.running idle;
      merging = no_merge _ c.new-4.result c.new-4.ensures;
      visited_is = not_swept false None c.args.start.memory refl;
      flags_are = set_flags _ c.new.result.items false false false (ap (λ all. has_grown (record { number = c.args.start.number; memory = memory_of c.args.start.base; origin = origins.Opened; folded = 0 }) (entries_of all)) (sym c.new.ensures.items)) refl (ap has_visited_all (sym c.new.ensures.items));
      gated = none_works _ c.new-3.result.running idle;
    }

pub returns-clause-believes : goal.returns-clause-believes
returns-clause-believes c files found shows =
    let number = c.args.start.number in
    let base = memory_of c.args.start.base in
    c.found_law.ensures _ nothing_asked files (shown_base number base) found refl none_of refl (λ is. absurd (let no : NotOpen ≡ Open = is in cc)) shows
    (subst (λ items. IsLastPair (record { number = number; memory = base; origin = origins.Opened; folded = 0 }) (entries_of items) (shown_base number base))
    (sym c.new.ensures.items) (base_is_last number base))
