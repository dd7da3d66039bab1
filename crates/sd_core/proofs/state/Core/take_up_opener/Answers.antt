use Rattle.std.proofs.Common.{◌≡◌, None, Some, IfSome, refl, sym, ◌∙◌, ap, subst, arith, slice_set}
use Rattle.sd_gate.specs.declared.worker.Worker.TheVariants as its
use Rattle.sd_journal.specs.History.{Base}
use Rattle.sd_crash_safety.specs.OpenerSteps.{opener_alone}
use Rattle.sd_opener.specs.Looking.{out_of_look}
use Rattle.sd_core.specs.contracts.state.Core.{the_view}
use Rattle.sd_core.specs.Opening.{WorksOpener}
use Rattle.sd_core.specs.Sound.{IsOpening, held_for, out_of_opener}
use Rattle.sd_core.specs.Starts.{base_of}
use Rattle.sd_core.proofs.CoreLemmas.{held_opening, nobody_is, one_out, set_alone}
use Rattle.sd_core.proofs.MergeLemmas.{no_merge, none_merges}
use Rattle.sd_core.proofs.WorkLemmas.{SameNumbers, counted_same, none_closed, none_works, numbers_same, ticked}
use Rattle.sd_core.specs.Next.{asks, damaged, decodes, reads_all, NextOnceRead}
use Rattle.sd_core.specs.Refusals.{work_refusal}
use Rattle.sd_core.proofs.CoreParts.{parts_of}
use Rattle.sd_core.proofs.CoreLemmas.{held_let_go}
use Rattle.sd_core.proofs.NextOpener.{let_go_seen, look_asked, opener_seen}
use Rattle.sd_core.proofs.state.Core.take_up_opener.Goals as goal

pub invariant_of-self-in-Call : goal.invariant_of-self-in-Call
invariant_of-self-in-Call c =
    let base : Base = base_of c.self.inside.base in
    let w = subst (λ step. WorksOpener c.self.inside.opener c.self.inside.numbers.ticket step c.step_opener.new.opener) c.in-Call.is c.in-Ok.ensures.works in
    let inside = c.self.invariant in
    let opening = subst (λ x. IfSome x (IsOpening c.self.inside.standing c.self.inside.phases.items)) w.was inside.opening in
    let none = none_closed _ inside opening.closed in
    let nobody_out = nobody_is _ w.opener inside w.was (ap out_of_opener w.was ∙ w.rests) in
    let numbers : SameNumbers c.self.inside.numbers c.tick.new.self = record { begun = (ticked _ _ c.tick.ensures).begun; given = (ticked _ _ c.tick.ensures).given; checkpoint = (ticked _ _ c.tick.ensures).checkpoint; serial = (ticked _ _ c.tick.ensures).serial } in
    let slots = opening.slots in
    let slot = w.moves.slot in
    let within = w.moves.within in
    record {
      journal_is = inside.journal_is;
      held = inside.held ∙ ap (held_for c.self.inside.pending c.self.inside.dumper.running) w.was ∙ held_opening c.self.inside.pending c.self.inside.dumper.running w.opener none
          ∙ sym (held_opening c.self.inside.pending c.self.inside.dumper.running w.next none) ∙ ap (held_for c.self.inside.pending c.self.inside.dumper.running) (sym w.is);
      outs_are = one_out c.self.inside.standing c.put_out.new.outs c.self.inside.phases.items c.self.inside.dumper.running c.self.inside.merger c.step_opener.new.opener w.next c.in-Call.request.id opening.closed w.is (ap out_of_opener w.is ∙ ap out_of_look w.moves.is ∙ w.moves.gives.out)
          (c.put_out.ensures ∙ set_alone c.self.inside.outs c.id.result nobody_out ∙ ap opener_alone c.id.ensures) (omega (arith, slot, within, slots)) w.moves.worker;
      opening = subst (λ x. IfSome x (IsOpening c.self.inside.standing c.self.inside.phases.items)) (sym w.is) (record { closed = opening.closed; slots = w.slots ∙ opening.slots });
      numbers_are = numbers_same base c.self.inside.journal.items c.self.inside.pending c.self.inside.last c.self.inside.numbers c.tick.new.self numbers inside.numbers_are;
      counted = counted_same c.self.inside.catalog c.self.inside.numbers c.tick.new.self numbers inside.counted;
      rests = inside.rests;
      work = none_works _ c.self.inside.dumper.running none;
      little = none_works _ c.self.inside.dumper.running none;
      merging = no_merge _ c.self.inside.merger (none_merges _ inside opening.closed);
      visited_is = inside.visited_is;
      flags_are = inside.flags_are;
      gated = none_works _ c.self.inside.dumper.running none;
    }

-- ---- the step

pub returns-in-Call : goal.returns-in-Call
returns-in-Call c =
    let w = subst (λ step. WorksOpener c.self.inside.opener c.self.inside.numbers.ticket step c.step_opener.new.opener) c.in-Call.is c.in-Ok.ensures.works in
    opener_seen _ _ _ _ c.self.view_is (asks c.in-Call.request refl (record {
      it = record { may = subst (λ v. work_refusal v its.Opener ≡ None) (sym c.self.view_is) c.requires; after = c.step_opener.new.opener; works = w };
      new_is = look_asked (parts_of c.self.inside) c.put_out.new.outs (slice_set c.self.inside.outs 2 (Some c.in-Call.request.id)) c.step_opener.new.opener c.tick.new.self
          (c.put_out.ensures ∙ ap (λ id. slice_set c.self.inside.outs 2 (Some id)) c.id.ensures)
          (record { begun = (ticked _ _ c.tick.ensures).begun; given = (ticked _ _ c.tick.ensures).given; checkpoint = (ticked _ _ c.tick.ensures).checkpoint; serial = (ticked _ _ c.tick.ensures).serial }) (ticked _ _ c.tick.ensures).ticket;
    }))

pub returns-in-Decoded : goal.returns-in-Decoded
returns-in-Decoded c =
    let w = subst (λ step. WorksOpener c.self.inside.opener c.self.inside.numbers.ticket step c.step_opener.new.opener) c.in-Decoded.is c.in-Ok.ensures.works in
    opener_seen _ _ _ _ c.self.view_is (decodes refl (record {
      it = record { may = subst (λ v. work_refusal v its.Opener ≡ None) (sym c.self.view_is) c.requires; after = c.step_opener.new.opener; works = w };
      new_is = refl;
    }))

pub returns-in-Damaged : goal.returns-in-Damaged
returns-in-Damaged c =
    let w = subst (λ step. WorksOpener c.self.inside.opener c.self.inside.numbers.ticket step c.step_opener.new.opener) c.in-Damaged.is c.in-Ok.ensures.works in
    let closed = (subst (λ x. IfSome x (IsOpening c.self.inside.standing c.self.inside.phases.items)) w.was c.self.invariant.opening).closed in
    let gone = c.let_go.ensures.journal in
    opener_seen _ _ _ _ c.self.view_is (damaged c.in-Damaged.slot c.in-Damaged.reason refl (record {
      it = record { may = subst (λ v. work_refusal v its.Opener ≡ None) (sym c.self.view_is) c.requires; after = c.step_opener.new.opener; works = w };
      new_is = let_go_seen (parts_of c.self.inside) c.self.invariant c.let_go.new.journal c.let_go.new.opener gone.items gone.limit
          (held_let_go c.self.inside.pending c.self.inside.dumper.running w.opener c.self.inside.journal c.let_go.new.journal (none_closed _ c.self.invariant closed)
          (c.self.invariant.held ∙ ap (held_for c.self.inside.pending c.self.inside.dumper.running) w.was) gone)
          c.let_go.ensures.opener;
    }))

pub returns-in-AllRead : goal.returns-in-AllRead
returns-in-AllRead c =
    let w = subst (λ step. WorksOpener c.self.inside.opener c.self.inside.numbers.ticket step c.step_opener.new.opener) c.in-AllRead.is c.in-Ok.ensures.works in
    let same : c.step_opener.new.opener ≡ c.self.inside.opener = w.is ∙ ap Some w.moves.0 ∙ sym w.was in
    opener_seen _ _ _ _ c.self.view_is (reads_all c.finish_opening.result refl
    (record { may = subst (λ v. work_refusal v its.Opener ≡ None) (sym c.self.view_is) c.requires; after = c.step_opener.new.opener; works = w })
    (subst (λ o. NextOnceRead (the_view (record c.self.inside { opener = o })) c.finish_opening.result c.finish_opening.new.self) same c.finish_opening.ensures))
