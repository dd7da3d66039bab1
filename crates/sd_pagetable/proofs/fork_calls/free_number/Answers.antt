use Rattle.std.proofs.Common.{◌≡◌, false, sym, ap, ◌∙◌, arith}
use Rattle.sd_pagetable.specs.Nested.{is_alive}
use Rattle.sd_pagetable.proofs.ForkCalls.{has_sixteen, is_free, one_alive_more}
use Rattle.sd_pagetable.proofs.fork_calls.free_number.Goals as goal

pub loop-number-init : goal.loop-number-init
loop-number-init c = record { alive = λ q from below. absurd (omega (arith, from, below)) }

pub returns-then-not-is_alive : goal.returns-then-not-is_alive
returns-then-not-is_alive c =
    let is : c.new-space.result ≡ c.loop-number.number = c.new-space.ensures in
    let free : is_alive c.args.paging.now.spaces c.loop-number.number ≡ false = ap (is_alive c.args.paging.now.spaces) (sym is) ∙ sym c.is_alive.ensures ∙ c.if-not-is_alive.true in
    is_free c.args.paging.now c.loop-number.number c.new-space.result is c.requires c.loop-number.auto.number c.loop-number-test.true free c.loop-number.invariant.alive

pub loop-number-preserved : goal.loop-number-preserved
loop-number-preserved c = grind (arith, one_alive_more)

pub returns : goal.returns
returns c = has_sixteen c.args.paging.now c.loop-number.number c.loop-number-test.false c.loop-number.invariant.alive
