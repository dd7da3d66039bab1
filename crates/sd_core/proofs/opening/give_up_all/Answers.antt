use Rattle.std.proofs.Common.{◌≡◌, ◌+◌, length, suc, slice_set, slice_index_or, sym, ◌∙◌, ap, arith}
use Rattle.sd_gate.specs.declared.phase.Phase.TheVariants.{Raw}
use Rattle.sd_gate.specs.Phases.{given_up}
use Rattle.sd_core.proofs.GiveUp.{given_all, given_more, given_of, take_all}
use Rattle.sd_core.proofs.opening.give_up_all.Goals as goal

pub loop-phase-init : goal.loop-phase-init
loop-phase-init c = c.deref_mut-phase-items.ensures.value

pub loop-phase-preserved : goal.loop-phase-preserved
loop-phase-preserved c =
    let old = c.args.phases.now.items in
    let same : length c.deref_mut-phase-items.result.now ≡ length old = ap length c.deref_mut-phase-items.ensures.value in
    let within = c.loop-phase-test.true in
    let at = c.loop-phase.phase-index in
    let more : at + 1 ≡ suc at = omega arith in
    ap (λ p. slice_set c.loop-phase.phase-items at p) c.given_up.ensures
    ∙ ap (λ items. slice_set items at (given_up (slice_index_or items at Raw))) c.loop-phase.invariant
    ∙ given_more at old Raw (omega (arith, within, same)) ∙ ap (λ n. given_of n old) (sym more)

pub returns : goal.returns
returns c =
    let old = c.args.phases.now.items in
    let same : length c.deref_mut-phase-items.result.now ≡ length old = ap length c.deref_mut-phase-items.ensures.value in
    let count : length c.loop-phase.phase-items ≡ length c.deref_mut-phase-items.result.now = c.loop-phase.auto.phase-items in
    let all = c.loop-phase-test.false in
    take_all c.args.phases.now.len c.loop-phase.phase-items old (c.args.phases.now.ok.0 ∙ sym same ∙ sym count) (sym same ∙ sym count)
    ∙ c.loop-phase.invariant ∙ given_all c.loop-phase.phase-index old (omega (arith, all, same))
