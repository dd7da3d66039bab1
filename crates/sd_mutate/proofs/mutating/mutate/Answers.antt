use Rattle.std.proofs.Common.{◌≡◌, ◌∙◌, ℕ, IfOk, ap, length, subst}
use Rattle.std.proofs.lemmas.List.FromFn.{length-map-range_with_len}
use Rattle.sd_shared.specs.declared.seat.Seat.{Seat}
use Rattle.sd_mutate.specs.declared.tally.Tally.{Tally}
use Rattle.sd_mutate.proofs.mutating.mutate.Goals as goal

-- there are as many seats as threads were asked for
pub returns-in-Ok-clause-threads : goal.returns-in-Ok-clause-threads
returns-in-Ok-clause-threads g c =
    let seat : ℕ → Seat = λ n. record { number = n; turns = 0 } in
    let count = ap length c.in-Ok.ensures.seats ∙ length-map-range_with_len seat 0 c.args.threads in
    subst (λ n. IfOk c.mutate_shared.result.1 (λ (tally : Tally). tally.threads ≡ n)) count c.mutate_shared.ensures.threads
