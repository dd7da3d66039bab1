use Rattle.std.proofs.Common.{◌≡◌, map, drop, length, sym, ◌∙◌, ap, subst, slice_get}
use Rattle.sd_areas.specs.Memory.{memory_of}
use Rattle.sd_gate.specs.Laws.{found_phase}
use Rattle.sd_image.specs.Shows.{Shows}
use Rattle.sd_journal.specs.History.{Base}
use Rattle.sd_rounds.specs.Dumper.{Dumping}
use Rattle.sd_core.specs.Flags.{numbers_from}
use Rattle.sd_core.specs.Starts.{shown_base}
use Rattle.sd_world.specs.Acked.{IsWorldThere}
use Rattle.sd_world.specs.Opens.{AreSynced}
use Rattle.sd_world.specs.View.{nothing_kept}
use Rattle.sd_world.proofs.AckedLemmas.{none_there}
use Rattle.sd_world.proofs.OpenLemmas.{all_synced, nobody_places, nothing_made}
use Rattle.sd_world.proofs.TicketLemmas.{none_has}
use Rattle.sd_world.proofs.world.World.open.Goals as goal

pub invariant_of-result : goal.invariant_of-result
invariant_of-result g c =
    let D = g.D.Disk in
    let disk = c.start_of.new.disk in
    let start = c.in-Ok.start in
    let starts = c.new-core.ensures.starts in
    let read = c.in-Ok.ensures in
    let same : D.contents disk ≡ D.contents c.args.disk = read.reads.same in
    subst (λ kept. IsWorldThere D (record { core = c.new-core.result; disk = disk; kept = kept })) (sym c.new-kept.ensures) (record {
      is = record {
        count = ap length same ∙ sym read.count ∙ ap length (sym starts.phases);
        outs = starts.outs;
        places = nobody_places (length (D.contents disk));
        consistent = λ honest.
            let phases : start.phases.items ≡ map found_phase (D.contents disk) = read.phases honest ∙ ap (map found_phase) (sym same) in
            let fits = c.all_found_fit.ensures (subst (λ files. AreSynced (length files) files (D.may_leave disk)) (sym same) read.synced) in
            record {
              bodies = map (drop 1) (D.contents disk);
              believes = c.new-core.ensures.believes (D.contents disk) phases
                  (subst (λ files. Shows files (shown_base start.number (memory_of start.base))) (sym same) (read.shows honest));
              stands = λ slot phase is. fits.each slot phase (ap (λ all. slice_get all slot) (sym phases ∙ sym starts.phases) ∙ is);
              told = λ worker made at. absurd (nothing_made worker made at);
            };
      };
      pre_dumps = λ honest. none_there D (record { core = c.new-core.result; disk = disk; kept = nothing_kept }) (ap (λ (d : Dumping). d.running) starts.dumper);
    })

pub returns-in-Ok-clause-everywhere : goal.returns-in-Ok-clause-everywhere
returns-in-Ok-clause-everywhere g c = λ honest contents may.
    let D = g.D.Disk in
    let disk = c.start_of.new.disk in
    let start = c.in-Ok.start in
    let read = c.in-Ok.ensures in
    let same : contents ≡ D.contents c.args.disk =
    all_synced (D.contents c.args.disk) contents (D.may_leave disk) read.synced
    (g.met.D.Disk.same_slots disk contents may ∙ ap length read.reads.same) may in
    subst (λ (base : Base). Shows contents (shown_base base.number base.memory)) (sym c.new-core.ensures.starts.base)
    (subst (λ files. Shows files (shown_base start.number (memory_of start.base))) (sym same) (read.shows honest))

pub returns-in-Ok-clause-idle : goal.returns-in-Ok-clause-idle
returns-in-Ok-clause-idle g c = ap (λ (d : Dumping). d.running) c.new-core.ensures.starts.dumper

pub returns-in-Ok-clause-numbers : goal.returns-in-Ok-clause-numbers
returns-in-Ok-clause-numbers g c =
    let starts = c.new-core.ensures.starts in
    starts.flags.numbers_are ∙ ap numbers_from (sym (ap (λ (base : Base). base.number) starts.base))

pub returns-in-Ok-clause-tickets : goal.returns-in-Ok-clause-tickets
returns-in-Ok-clause-tickets g c = none_has c.new-core.result c.new-core.ensures.starts.outs
