use Rattle.std.proofs.Common.{◌≡◌, length, Some, None, slice_set, refl, sym, ◌∙◌, ap, subst}
use Rattle.sd_gate.specs.declared.request_id.RequestId.{RequestId}
use Rattle.sd_gate.specs.declared.worker.Worker.TheVariants as its
use Rattle.sd_merge.specs.declared.merge_step.MergeStep.{MergeStep}
use Rattle.sd_merge.specs.declared.merge_step.MergeStep.TheVariants.{ReadCall}
use Rattle.sd_core.specs.contracts.state.Core.{the_view}
use Rattle.sd_core.specs.Merging.{IsStepOf, MayRead}
use Rattle.sd_core.proofs.CoreParts.{parts_of}
use Rattle.sd_core.proofs.MergerCalls.{StepsMerge, asked_core, call_asks, read_asks}
use Rattle.sd_core.proofs.WorkLemmas.{SameNumbers, ticked}
use Rattle.sd_core.specs.Next.{reads, takes_zeros}
use Rattle.sd_core.specs.Refusals.{work_refusal}
use Rattle.sd_core.proofs.NextMerger.{asks_merge, calls_merge, merger_seen}
use Rattle.sd_core.proofs.state.Core.go_on_merging.Goals.{In-Ok}
use Rattle.sd_core.proofs.state.Core.go_on_merging.Goals as goal

-- ---- what is known at each goal

stepped : (c : In-Ok) (made : MergeStep) → c.in-Ok.step ≡ made → StepsMerge (parts_of c.self.inside) c.args.self.now made c.step_merger.new.merger
stepped c made is = record {
  laws = c.merger_steps.ensures;
  sound = c.self.invariant;
  seen_is = c.self.view_is;
  rests = c.requires.rests;
  running = c.sound.ensures.running;
  copied = c.sound.ensures.copy;
  makes = c.sound-2.ensures.running;
  on = subst (λ k. IsStepOf c.self.inside.numbers.ticket c.self.inside.catalog c.self.inside.merger k c.step_merger.new.merger) is c.in-Ok.ensures.steps;
}

-- ---- a call

pub invariant_of-self-in-Call : goal.invariant_of-self-in-Call
invariant_of-self-in-Call c =
    let s = stepped (goal.at.invariant_of-self-in-Call c).In-Ok c.in-Ok.step refl in
    let same : SameNumbers c.self.inside.numbers c.tick-in-Call.new.self = record { begun = (ticked _ _ c.tick-in-Call.ensures).begun; given = (ticked _ _ c.tick-in-Call.ensures).given; checkpoint = (ticked _ _ c.tick-in-Call.ensures).checkpoint; serial = (ticked _ _ c.tick-in-Call.ensures).serial } in
    asked_core s c.put_out-in-Call.new.outs c.tick-in-Call.new.self c.in-Call.request same
    (c.put_out-in-Call.ensures ∙ ap (λ id. slice_set c.self.inside.outs 1 (Some id)) c.id-in-Call.ensures) (call_asks s c.tick-in-Call.new.self c.in-Call.request same c.in-Call.is)

-- ---- a page of zeros

-- ---- a read

-- one that isn't refused is in a slot that may be read
may_read : (c : goal.After-put_out) → MayRead c.self.inside.dumper.running (length c.self.inside.phases.items) c.in-ReadCall.request.id.slot
may_read c = subst (λ n. MayRead c.self.inside.dumper.running n c.in-ReadCall.request.id.slot) (c.len.ensures ∙ c.self.inside.phases.ok.0)
    (subst (λ (i : RequestId). MayRead c.self.inside.dumper.running c.len.result i.slot) c.id.ensures (c.may_read.ensures.0 c.if-not-may_read.false))

pub invariant_of-self-in-ReadCall-1 : goal.invariant_of-self-in-ReadCall-1
invariant_of-self-in-ReadCall-1 c =
    let s = stepped (goal.at.invariant_of-self-in-ReadCall-1 c).In-Ok (ReadCall c.in-ReadCall.request) c.in-ReadCall.is in
    let same : SameNumbers c.self.inside.numbers c.tick.new.self = record { begun = (ticked _ _ c.tick.ensures).begun; given = (ticked _ _ c.tick.ensures).given; checkpoint = (ticked _ _ c.tick.ensures).checkpoint; serial = (ticked _ _ c.tick.ensures).serial } in
    asked_core s c.put_out.new.outs c.tick.new.self c.in-ReadCall.request same
    (c.put_out.ensures ∙ ap (λ id. slice_set c.self.inside.outs 1 (Some id)) c.id-in-ReadCall.ensures) (read_asks s c.tick.new.self same (may_read c))

-- ---- the step

may_go : (c : goal.In-Ok) → work_refusal (the_view c.self.inside) its.Merger ≡ None
may_go c = subst (λ v. work_refusal v its.Merger ≡ None) (sym c.self.view_is) c.requires.may

pub returns-in-Call : goal.returns-in-Call
returns-in-Call c = merger_seen _ _ _ _ c.self.view_is
    (calls_merge (parts_of c.self.inside) c.in-Ok.step c.step_merger.new.merger c.in-Ok.ensures.steps (may_go (goal.at.returns-in-Call c).In-Ok) c.in-Call.request c.put_out-in-Call.new.outs
    c.tick-in-Call.new.self c.in-Call.is (c.put_out-in-Call.ensures ∙ ap (λ id. slice_set c.self.inside.outs 1 (Some id)) c.id-in-Call.ensures)
    (record { begun = (ticked _ _ c.tick-in-Call.ensures).begun; given = (ticked _ _ c.tick-in-Call.ensures).given; checkpoint = (ticked _ _ c.tick-in-Call.ensures).checkpoint; serial = (ticked _ _ c.tick-in-Call.ensures).serial }) (ticked _ _ c.tick-in-Call.ensures).ticket)

pub returns-in-Zero : goal.returns-in-Zero
returns-in-Zero c =
    let s = subst (λ k. IsStepOf c.self.inside.numbers.ticket c.self.inside.catalog c.self.inside.merger k c.step_merger.new.merger) c.in-Zero.is c.in-Ok.ensures.steps in
    merger_seen _ _ _ _ c.self.view_is (takes_zeros refl (record {
      it = record { may = may_go (goal.at.returns-in-Zero c).In-Ok; merge = s.merge; was = s.was; next = s.doing; steps = s.steps };
      new_is = ap (λ m. record (the_view c.self.inside) { merger = m }) s.is;
    }))

pub returns-else-not-may_read : goal.returns-else-not-may_read
returns-else-not-may_read c =
    let s = subst (λ k. IsStepOf c.self.inside.numbers.ticket c.self.inside.catalog c.self.inside.merger k c.step_merger.new.merger) c.in-ReadCall.is c.in-Ok.ensures.steps in
    merger_seen _ _ _ _ c.self.view_is (reads c.in-ReadCall.request refl
    (asks_merge (parts_of c.self.inside) (ReadCall c.in-ReadCall.request) c.step_merger.new.merger s (may_go (goal.at.returns-else-not-may_read c).In-Ok) c.in-ReadCall.request c.put_out.new.outs c.tick.new.self
    (c.put_out.ensures ∙ ap (λ id. slice_set c.self.inside.outs 1 (Some id)) c.id-in-ReadCall.ensures)
    (record { begun = (ticked _ _ c.tick.ensures).begun; given = (ticked _ _ c.tick.ensures).given; checkpoint = (ticked _ _ c.tick.ensures).checkpoint; serial = (ticked _ _ c.tick.ensures).serial }) (ticked _ _ c.tick.ensures).ticket)
    (may_read c))
