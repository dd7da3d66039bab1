use Rattle.std.proofs.Common.{◌≡◌, ℕ, Option, Some, None, IfSome, IsSome, slice_get, ◌∷◌, refl, sym, ◌∙◌, ap, subst, inl, inr, arith}
use Rattle.sd_gate.specs.declared.worker.Worker.TheVariants as its
use Rattle.sd_journal.specs.History.{Base}
use Rattle.sd_journal.specs.declared.mark.Mark.TheVariants.{Visit}
use Rattle.sd_journal.specs.Marked.{Noted, entries_of}
use Rattle.sd_rounds.specs.declared.image_step.ImageStep.TheVariants.{Visited, Copied}
use Rattle.sd_merge.specs.Merger as merger
use Rattle.sd_rounds.specs.declared.image_order.ImageOrder.{ImageOrder}
use Rattle.sd_rounds.specs.Dumper.{is_last}
use Rattle.sd_rounds.specs.PlanSteps.{image_step}
use Rattle.sd_rounds.specs.Making.{Making}
use Rattle.sd_core.specs.Grown.{IsGatedStage, has_grown, has_visited_all}
use Rattle.sd_core.specs.Dumping.{StepsOn}
use Rattle.sd_core.specs.Images.{begun_as}
use Rattle.sd_core.specs.LittleWork.{TakesLittle}
use Rattle.sd_core.specs.Sound.{AreSoundNumbers, IsImageInMaking, IsJournal}
use Rattle.sd_core.specs.Starts.{base_of}
use Rattle.sd_core.proofs.ImageLemmas.{image_visited, image_copied}
use Rattle.sd_core.proofs.LaneLemmas.{outs_kept}
use Rattle.sd_core.proofs.LittleLemmas.{little_of, step_little, visit_more}
use Rattle.sd_core.proofs.MarkLemmas.{sound_image, visit_journal}
use Rattle.sd_core.proofs.PassLemmas.{serial_on, step_passed}
use Rattle.sd_core.proofs.PreDumpLemmas.{same_stay}
use Rattle.sd_core.proofs.WorkLemmas.{asked_on, core_working, grown_core, image_of_work, its_serial, numbers_noted, out_at_work, own_slot, same_numbers, same_places, sound_writes, turned}
use Rattle.sd_core.proofs.SettledLemmas.{clean_cleared, swept_same}
use Rattle.sd_core.specs.contracts.state.Core.{the_view}
use Rattle.sd_core.proofs.CoreParts.{parts_of}
use Rattle.sd_core.proofs.NextSteps.{may_step, pass_seen, stepped_seen, visited_seen}
use Rattle.sd_core.proofs.state.Core.pass_image.Goals as goal

pub invariant_of-self-in-Copied : goal.invariant_of-self-in-Copied
invariant_of-self-in-Copied c =
    let base : Base = base_of c.self.inside.base in
    let w = subst (λ step. StepsOn c.self.inside.numbers.ticket c.self.inside.dumper c.self.inside.memory (image_step step) c.pass_on.new.dumper c.pass_on.new.memory) c.in-Copied.is ((step_passed c.self.inside.dumper c.self.inside.memory c.pass_on.new.dumper c.pass_on.new.memory c.in-Ok-pass_on.found c.in-Some.step c.in-Some.is c.in-Ok-pass_on.ensures.found).steps c.self.inside.numbers.ticket) in
    let core = grown_core _ c.reserve_mark.new.self c.self.invariant c.in-Ok.ensures.grown in
    let rests = ap (λ v. slice_get v.outs 0) c.self.view_is ∙ c.requires.rests in
    let out = out_at_work _ w.running None core w.was rests in
    let image = image_of_work _ w.running w.image core w.was w.making in
    let t = image_copied _ _ _ w.image w.next c.self.inside.memory _ image w.steps.0 in
    core_working _ _ w.is (turned w.running w.image w.next core (record {
      was = w.was;
      making = w.making;
      is = w.is;
      serial = ap (λ (o : ImageOrder). o.serial) t.order;
      places_stay = same_places w.running c.self.inside.catalog;
      count = refl;
      same = same_numbers _;
      entries = refl;
      held = refl;
      journal_is = subst (λ m. IsJournal base c.reserve_mark.new.self m c.self.inside.pending c.self.inside.last) (sym w.steps.1) core.journal_is;
      numbers_are = core.numbers_are;
      flags_are = core.flags_are;
      gated = subst (IsGatedStage (is_last w.running) c.self.inside.swept) (sym (ap (λ (m : Making). m.stage) w.steps.0.passes.1 ∙ w.steps.0.passes.0)) tt;
      visited_is = swept_same c.self.inside.swept c.self.inside.swept c.self.inside.pending c.self.inside.pending c.self.inside.memory c.pass_on.new.memory refl refl w.steps.1 core.visited_is;
      counted = core.counted;
      outs_are = outs_kept w.running w.image w.next (merger.out_of_merge c.self.inside.merger) c.self.inside.outs out.1 w.making (ap (λ (m : Making). m.writes) w.steps.0.passes.1) t.out_is;
      whose = subst (λ o. IfSome o (λ i. i.worker ≡ its.Dumper)) (sym t.out_is) tt;
      writes = sound_writes w.running w.next (ap (λ (o : ImageOrder). o.slot) t.order ∙ own_slot c.self.inside.dumper.since_freeze _ w.running w.image c.sound.ensures.running w.was w.making) (sound_image _ (record w.running { image = Some w.next }) w.next c.sound-2.ensures.image w.is refl);
      stay = same_stay (begun_as w.running) c.self.inside.catalog w.running.opened;
      asked = asked_on w.running w.image w.next _ t.out_is t.slot (own_slot c.self.inside.dumper.since_freeze _ w.running w.image c.sound.ensures.running w.was w.making);
      image_is = t.image_is;
      still = t.still;
      little = step_little c.journal_laws.ensures.little base c.reserve_mark.new.self.items c.reserve_mark.new.self.items c.self.inside.memory c.pass_on.new.memory w.running.number c.self.inside.numbers.ticket w.image w.next (Copied c.in-Copied.field-0) w.steps
          (sound_image _ w.running w.image c.sound.ensures.image w.was w.making).rising t.still refl refl (little_of base c.reserve_mark.new.self.items c.self.inside.memory c.self.inside.dumper.running w.running w.image core.little w.was w.making);
    }))

pub invariant_of-self-in-Visited : goal.invariant_of-self-in-Visited
invariant_of-self-in-Visited c =
    let base : Base = base_of c.self.inside.base in
    let w = subst (λ step. StepsOn c.self.inside.numbers.ticket c.self.inside.dumper c.self.inside.memory (image_step step) c.pass_on.new.dumper c.pass_on.new.memory) c.in-Visited.is ((step_passed c.self.inside.dumper c.self.inside.memory c.pass_on.new.dumper c.pass_on.new.memory c.in-Ok-pass_on.found c.in-Some.step c.in-Some.is c.in-Ok-pass_on.ensures.found).steps c.self.inside.numbers.ticket) in
    let core = grown_core _ c.reserve_mark.new.self c.self.invariant c.in-Ok.ensures.grown in
    let rests = ap (λ v. slice_get v.outs 0) c.self.view_is ∙ c.requires.rests in
    let out = out_at_work _ w.running None core w.was rests in
    let image = image_of_work _ w.running w.image core w.was w.making in
    let t = image_visited _ _ _ w.image w.next c.self.inside.memory _ _ image w.steps in
    let given = image.given in
    let own_serial = its_serial _ w.running w.next c.serial.result _ w.is c.serial.ensures c.in-Some-serial.is ∙ ap (λ (o : ImageOrder). o.serial) t.order in
    let items = c.note.ensures.items ∙ ap (λ s. Noted (Visit s c.in-Visited.visit.space c.in-Visited.visit.page) ∷ c.reserve_mark.new.self.items) own_serial in
    core_working _ _ w.is (turned w.running w.image w.next core (record {
      was = w.was;
      making = w.making;
      is = w.is;
      serial = ap (λ (o : ImageOrder). o.serial) t.order;
      places_stay = same_places w.running c.self.inside.catalog;
      count = refl;
      same = same_numbers _;
      entries = ap entries_of items;
      held = c.note.ensures.held;
      journal_is = visit_journal c.journal_laws.ensures.tracked _ w.running w.image w.next _ _ c.note.new.self core w.was w.making w.steps items c.note.ensures.numbers.first c.note.ensures.numbers.limit;
      numbers_are = subst (λ all. AreSoundNumbers base all c.self.inside.pending c.self.inside.last c.self.inside.numbers) (sym items)
          (numbers_noted base c.reserve_mark.new.self.items c.self.inside.pending c.self.inside.last c.self.inside.numbers (Visit w.image.order.serial c.in-Visited.visit.space c.in-Visited.visit.page) (omega (arith, given)) core.numbers_are);
      flags_are = record { grown = core.flags_are.grown ∙ ap (λ all. has_grown base (entries_of all)) (sym items); visited_by = core.flags_are.visited_by ∙ ap has_visited_all (sym items); sure = core.flags_are.sure };
      gated = subst (IsGatedStage (is_last w.running) c.self.inside.swept) (sym (ap (λ (m : Making). m.stage) w.steps.passes.1 ∙ w.steps.passes.0)) tt;
      visited_is = λ is. ((core.visited_is is).0, clean_cleared c.clear_law.ensures c.self.inside.memory c.pass_on.new.memory c.in-Visited.visit.space c.in-Visited.visit.page w.steps.tests.cleared (core.visited_is is).1);
      counted = core.counted;
      outs_are = outs_kept w.running w.image w.next (merger.out_of_merge c.self.inside.merger) c.self.inside.outs out.1 w.making (ap (λ (m : Making). m.writes) w.steps.passes.1) t.out_is;
      whose = subst (λ o. IfSome o (λ i. i.worker ≡ its.Dumper)) (sym t.out_is) tt;
      writes = sound_writes w.running w.next (ap (λ (o : ImageOrder). o.slot) t.order ∙ own_slot c.self.inside.dumper.since_freeze _ w.running w.image c.sound.ensures.running w.was w.making) (sound_image _ (record w.running { image = Some w.next }) w.next c.sound-2.ensures.image w.is refl);
      stay = same_stay (begun_as w.running) c.self.inside.catalog w.running.opened;
      asked = asked_on w.running w.image w.next _ t.out_is t.slot (own_slot c.self.inside.dumper.since_freeze _ w.running w.image c.sound.ensures.running w.was w.making);
      image_is = subst (λ all. IsImageInMaking all c.self.inside.catalog c.self.inside.numbers w.next) (sym items) t.image_is;
      still = t.still;
      little = subst (λ all. TakesLittle base all c.pass_on.new.memory w.running.number w.next) (sym items)
          (step_little c.journal_laws.ensures.little base c.reserve_mark.new.self.items (Noted (Visit w.image.order.serial c.in-Visited.visit.space c.in-Visited.visit.page) ∷ c.reserve_mark.new.self.items) c.self.inside.memory c.pass_on.new.memory w.running.number c.self.inside.numbers.ticket w.image w.next (Visited c.in-Visited.visit) w.steps
          (sound_image _ w.running w.image c.sound.ensures.image w.was w.making).rising t.still (visit_more c.journal_laws.ensures.due base c.reserve_mark.new.self.items c.self.inside.memory c.pass_on.new.memory w.image w.next c.in-Visited.visit w.image.order.serial core.journal_is.tracked w.steps) refl (little_of base c.reserve_mark.new.self.items c.self.inside.memory c.self.inside.dumper.running w.running w.image core.little w.was w.making));
    }))

-- ---- the step

pub returns-in-Copied-clause-steps : goal.returns-in-Copied-clause-steps
returns-in-Copied-clause-steps c =
    let w = subst (λ step. StepsOn c.self.inside.numbers.ticket c.self.inside.dumper c.self.inside.memory (image_step step) c.pass_on.new.dumper c.pass_on.new.memory) c.in-Copied.is ((step_passed c.self.inside.dumper c.self.inside.memory c.pass_on.new.dumper c.pass_on.new.memory c.in-Ok-pass_on.found c.in-Some.step c.in-Some.is c.in-Ok-pass_on.ensures.found).steps c.self.inside.numbers.ticket) in
    let p = step_passed c.self.inside.dumper c.self.inside.memory c.pass_on.new.dumper c.pass_on.new.memory c.in-Ok-pass_on.found c.in-Some.step c.in-Some.is c.in-Ok-pass_on.ensures.found in
    let may = may_step (the_view c.self.inside) (ap (λ v. slice_get v.outs 0) c.self.view_is ∙ c.requires.rests) p.runs p.goes in
    let grown = c.in-Ok.ensures.grown in
    λ _. pass_seen _ _ _ c.self.view_is (inr (record {
      copied = c.in-Copied.field-0;
      it = record { may = may; running = w.running; was = w.was; image = w.image; making = w.making; next = w.next; steps = (w.steps.0, refl) };
      new_is = stepped_seen (parts_of c.self.inside) c.reserve_mark.new.self c.pass_on.new.memory c.self.inside.outs c.self.inside.outs c.pass_on.new.dumper c.self.inside.dumper.since_freeze
          (Some (record w.running { image = Some w.next })) c.self.inside.committing c.self.inside.committing c.self.inside.journal.items c.self.inside.journal.held c.self.inside.pending c.self.inside.swept
          grown.items grown.held grown.limit w.steps.1 refl w.is w.counted refl;
    }))

pub returns-in-Visited-clause-steps : goal.returns-in-Visited-clause-steps
returns-in-Visited-clause-steps c =
    let w = subst (λ step. StepsOn c.self.inside.numbers.ticket c.self.inside.dumper c.self.inside.memory (image_step step) c.pass_on.new.dumper c.pass_on.new.memory) c.in-Visited.is ((step_passed c.self.inside.dumper c.self.inside.memory c.pass_on.new.dumper c.pass_on.new.memory c.in-Ok-pass_on.found c.in-Some.step c.in-Some.is c.in-Ok-pass_on.ensures.found).steps c.self.inside.numbers.ticket) in
    let p = step_passed c.self.inside.dumper c.self.inside.memory c.pass_on.new.dumper c.pass_on.new.memory c.in-Ok-pass_on.found c.in-Some.step c.in-Some.is c.in-Ok-pass_on.ensures.found in
    let may = may_step (the_view c.self.inside) (ap (λ v. slice_get v.outs 0) c.self.view_is ∙ c.requires.rests) p.runs p.goes in
    let grown = c.in-Ok.ensures.grown in
    let own = its_serial _ w.running w.next c.serial.result _ w.is c.serial.ensures c.in-Some-serial.is ∙ ap (λ (m : Making). m.order.serial) w.steps.passes.1 in
    λ _. pass_seen _ _ _ c.self.view_is (inl (record {
      visit = c.in-Visited.visit;
      memory = c.pass_on.new.memory;
      it = record { may = may; running = w.running; was = w.was; image = w.image; making = w.making; next = w.next; steps = w.steps };
      new_is = visited_seen (parts_of c.self.inside) c.note.new.self c.pass_on.new.memory c.pass_on.new.dumper c.self.inside.dumper.since_freeze (Some (record w.running { image = Some w.next }))
          (Noted (Visit w.image.order.serial c.in-Visited.visit.space c.in-Visited.visit.page) ∷ c.self.inside.journal.items)
          (c.note.ensures.items ∙ ap (λ s. Noted (Visit s c.in-Visited.visit.space c.in-Visited.visit.page) ∷ c.reserve_mark.new.self.items) own
          ∙ ap (λ all. Noted (Visit w.image.order.serial c.in-Visited.visit.space c.in-Visited.visit.page) ∷ all) grown.items)
          (c.note.ensures.held ∙ grown.held) (c.note.ensures.numbers.limit ∙ grown.limit) w.is w.counted;
    }))

-- an image that made a step has its serial
pub unreachable-requires : goal.unreachable-requires
unreachable-requires c =
    let p = step_passed c.self.inside.dumper c.self.inside.memory c.pass_on.new.dumper c.pass_on.new.memory c.in-Ok-pass_on.found c.in-Some.step c.in-Some.is c.in-Ok-pass_on.ensures.found in
    absurd (none_some c.serial.result c.in_default-serial.is (subst IsSome (sym c.serial.ensures) (serial_on (p.steps 0))))
  where
    none_some : (one : Option ℕ) → one ≡ None → IsSome one → ⊥
    none_some one none some = grind arith
