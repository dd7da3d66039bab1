use Rattle.std.proofs.Common.{◌≡◌, ◌++◌, ◌∷◌, [], ℕ, List, ◌+◌, ◌∙◌, ap, sym, arith}
use Rattle.std.proofs.lemmas.List.FromFn.{map-range_with_len_more}
use Rattle.sd_shared.specs.Told.{seats_from_0}
use Rattle.sd_shared.specs.declared.seat.Seat.{Seat}
use Rattle.sd_shared.proofs.shared.seats_of.Goals as goal

pub loop-number-init : goal.loop-number-init
loop-number-init c = record { within = omega arith; so_far = c.in_ok-seats.ensures.items }

pub loop-number-preserved : goal.loop-number-preserved
loop-number-preserved c =
    let n = c.loop-number.number in
    let test = c.loop-number-test.true in
    let seat : ℕ → Seat = λ n. record { number = n; turns = 0 } in
    let more : 0 + n ≡ n = omega arith in
    record {
      within = omega (arith, test);
      so_far = c.in_ok-push.ensures.items
          ∙ ap (λ (done : List Seat). done ++ seat n ∷ []) c.loop-number.invariant.so_far
          ∙ sym (map-range_with_len_more seat 0 n n more);
    }

pub returns : goal.returns
returns c =
    let within = c.loop-number.invariant.within in
    let test = c.loop-number-test.false in
    let same : c.loop-number.number ≡ c.args.count = omega (arith, within, test) in
    c.loop-number.invariant.so_far ∙ ap seats_from_0 same
