use Rattle.std.proofs.Common.{◌≡◌, ℕ, ◌<◌, List, [], ◌∷◌, sym, ◌∙◌, ap, subst, refl}
use Rattle.sd_disk.specs.Spans.{LeavesOnly}
use Rattle.sd_gate.specs.Calls.{is_done}
use Rattle.sd_receive.specs.PlanRuns.{IsLeftBeside}
use Rattle.sd_gate.proofs.CallLemmas.{makes_as_many}
use Rattle.sd_receive.proofs.RunLemmas.{GoesOn, calls_left, ends, goes_on_first, goes_on_more, span_after}
use Rattle.sd_receive.proofs.plans.run.Goals as goal

pub loop-plan-init : goal.loop-plan-init
loop-plan-init g c = record {
  slot = refl;
  under_way = c.requires.under_way;
  begins = c.requires.begins;
  inside = c.requires.slot;
  runs = λ phases bodies image phase last final is takes fits. goes_on_first g.D.Disk phases bodies c.args.plan.slot image phase last final c.args.disk.now c.args.plan.calls
      (λ files left. g.met.D.Disk.only_now c.args.disk.now files left) (λ files may. g.met.D.Disk.same_slots c.args.disk.now files may) is takes fits;
  others = λ other apart. refl;
  count = refl;
  honest = λ honest. honest;
  stays = refl;
}

pub loop-plan-preserved : goal.loop-plan-preserved
loop-plan-preserved g c =
    let was = c.loop-plan.invariant in
    let asked = c.ask-request.ensures.gives in
    let made = c.perform-outcome.ensures in
    let settled = c.in-More.ensures in
    let id = c.ask-request.result.id in
    let bytes : List ℕ = c.ask-request.result.bytes in
    let slot_is : id.slot ≡ c.args.plan.slot = asked.slot ∙ was.slot in
    let calls_are : c.settle.new.plan.calls ≡ c.ask-request.new.plan.calls =
    calls_left c.ask-request.new.plan c.settle.new.plan c.perform-outcome.result (asked.same_awaits ∙ was.under_way.known) settled.0 settled.1 in
    record {
      slot = ap (λ (p : _). p.slot) settled.1 ∙ asked.same_slot ∙ was.slot;
      under_way = settled.3;
      begins = ap (λ (p : _). p.out) settled.1;
      inside = subst (λ count. c.args.plan.slot < count) (sym (makes_as_many id.call bytes id.slot (g.D.Disk.contents c.loop-plan.disk) (g.D.Disk.contents c.perform-outcome.new.disk) made.torn)) was.inside;
      runs = λ phases bodies image phase last final is takes fits.
          let has : GoesOn g.D.Disk phases bodies id.slot image last final c.args.disk.now c.loop-plan.disk ((id.call, bytes) ∷ c.ask-request.new.plan.calls) =
          subst (λ s. GoesOn g.D.Disk phases bodies s image last final c.args.disk.now c.loop-plan.disk ((id.call, bytes) ∷ c.ask-request.new.plan.calls)) (sym slot_is)
          (subst (GoesOn g.D.Disk phases bodies c.args.plan.slot image last final c.args.disk.now c.loop-plan.disk) asked.next
          (was.runs phases bodies image phase last final is takes fits)) in
          subst (GoesOn g.D.Disk phases bodies c.args.plan.slot image last final c.args.disk.now c.perform-outcome.new.disk) (sym calls_are)
          (subst (λ s. GoesOn g.D.Disk phases bodies s image last final c.args.disk.now c.perform-outcome.new.disk c.ask-request.new.plan.calls) slot_is
          (goes_on_more g.D.Disk phases bodies image last final c.args.disk.now c.loop-plan.disk c.perform-outcome.new.disk id bytes c.ask-request.new.plan.calls
          (is_done c.perform-outcome.result.answer) has settled.0 made.every_slot
          (span_after g.D.Disk phases bodies image last final c.args.disk.now c.loop-plan.disk c.perform-outcome.new.disk id bytes c.ask-request.new.plan.calls
          (is_done c.perform-outcome.result.answer) has made.every_moment)));
      others = λ other apart. made.others other (λ same. apart (same ∙ slot_is)) ∙ was.others other apart;
      count = makes_as_many id.call bytes id.slot (g.D.Disk.contents c.loop-plan.disk) (g.D.Disk.contents c.perform-outcome.new.disk) made.torn ∙ was.count;
      honest = λ honest. was.honest (made.one_call.honest honest);
      stays = made.cause.done settled.0 ∙ was.stays;
    }

pub returns-in-Finished-clause-runs : goal.returns-in-Finished-clause-runs
returns-in-Finished-clause-runs g c = λ phases bodies image phase last final is takes fits.
    let was = c.loop-plan.invariant in
    let asked = c.ask-request.ensures.gives in
    let made = c.perform-outcome.ensures in
    let settled = c.in-Finished.ensures in
    let id = c.ask-request.result.id in
    let bytes : List ℕ = c.ask-request.result.bytes in
    let slot_is : id.slot ≡ c.args.plan.slot = asked.slot ∙ was.slot in
    let calls_are : c.settle.new.plan.calls ≡ c.ask-request.new.plan.calls =
    calls_left c.ask-request.new.plan c.settle.new.plan c.perform-outcome.result (asked.same_awaits ∙ was.under_way.known) settled.0 settled.1 in
    let none : c.ask-request.new.plan.calls ≡ [] = sym calls_are ∙ settled.2 in
    let has : GoesOn g.D.Disk phases bodies id.slot image last final c.args.disk.now c.loop-plan.disk ((id.call, bytes) ∷ c.ask-request.new.plan.calls) =
    subst (λ s. GoesOn g.D.Disk phases bodies s image last final c.args.disk.now c.loop-plan.disk ((id.call, bytes) ∷ c.ask-request.new.plan.calls)) (sym slot_is)
    (subst (GoesOn g.D.Disk phases bodies c.args.plan.slot image last final c.args.disk.now c.loop-plan.disk) asked.next
    (was.runs phases bodies image phase last final is takes fits)) in
    let spans = span_after g.D.Disk phases bodies image last final c.args.disk.now c.loop-plan.disk c.perform-outcome.new.disk id bytes c.ask-request.new.plan.calls
    (is_done c.perform-outcome.result.answer) has made.every_moment in
    let more : GoesOn g.D.Disk phases bodies c.args.plan.slot image last final c.args.disk.now c.perform-outcome.new.disk [] =
    subst (λ s. GoesOn g.D.Disk phases bodies s image last final c.args.disk.now c.perform-outcome.new.disk []) slot_is
    (subst (GoesOn g.D.Disk phases bodies id.slot image last final c.args.disk.now c.perform-outcome.new.disk) none
    (goes_on_more g.D.Disk phases bodies image last final c.args.disk.now c.loop-plan.disk c.perform-outcome.new.disk id bytes c.ask-request.new.plan.calls
    (is_done c.perform-outcome.result.answer) has settled.0 made.every_slot spans)) in
    record {
      any_moment = more.span;
      at_end = ends g.D.Disk phases bodies c.args.plan.slot image last final c.args.disk.now c.perform-outcome.new.disk more;
    }

pub returns-in-Failed-clause-runs : goal.returns-in-Failed-clause-runs
returns-in-Failed-clause-runs g c = λ phases bodies image phase last final is takes fits.
    let was = c.loop-plan.invariant in
    let asked = c.ask-request.ensures.gives in
    let made = c.perform-outcome.ensures in
    let id = c.ask-request.result.id in
    let bytes : List ℕ = c.ask-request.result.bytes in
    let slot_is : id.slot ≡ c.args.plan.slot = asked.slot ∙ was.slot in
    let has : GoesOn g.D.Disk phases bodies id.slot image last final c.args.disk.now c.loop-plan.disk ((id.call, bytes) ∷ c.ask-request.new.plan.calls) =
    subst (λ s. GoesOn g.D.Disk phases bodies s image last final c.args.disk.now c.loop-plan.disk ((id.call, bytes) ∷ c.ask-request.new.plan.calls)) (sym slot_is)
    (subst (GoesOn g.D.Disk phases bodies c.args.plan.slot image last final c.args.disk.now c.loop-plan.disk) asked.next
    (was.runs phases bodies image phase last final is takes fits)) in
    record {
      any_moment = subst (λ s. LeavesOnly g.D.Disk c.args.disk.now c.perform-outcome.new.disk (IsLeftBeside phases bodies s image)) slot_is
          (span_after g.D.Disk phases bodies image last final c.args.disk.now c.loop-plan.disk c.perform-outcome.new.disk id bytes c.ask-request.new.plan.calls
          (is_done c.perform-outcome.result.answer) has made.every_moment);
      at_end = tt;
    }
