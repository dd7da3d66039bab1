use Rattle.std.proofs.Common.{◌≡◌, ◌+◌, ◌++◌, ◌∷◌, [], suc, take, false, sym, ◌∙◌, ap, arith}
use Rattle.sd_free_slots.specs.Marks.{free_from}
use Rattle.sd_free_slots.proofs.FreeLemmas.{free_more, free_same}
use Rattle.sd_free_slots.proofs.marks.free_slots.Goals.{then-not-taken+in_ok-push, else-not-taken}
use Rattle.sd_free_slots.proofs.marks.free_slots.Goals as goal

pub loop-slot-preserved : goal.loop-slot-preserved
loop-slot-preserved c =
    let within = c.loop-slot-test.true in
    let marks = c.args.marks.now in
    let at = c.loop-slot.slot in
    let more : at + 1 ≡ suc at = omega arith in
    let here : at ≡ 0 + at = omega arith in
    elim c.if-not-taken.branch [
      | then-not-taken+in_ok-push w ↦ ap (λ v. v.items) w.slots-is ∙ w.in_ok-push.ensures.items ∙ ap (λ all. all ++ at ∷ []) c.loop-slot.invariant
          ∙ ap (λ n. free_from 0 (take at marks) ++ n ∷ []) here ∙ sym (free_more 0 marks at false within w.if-not-taken.true) ∙ ap (λ n. free_from 0 (take n marks)) (sym more)
      | else-not-taken w ↦ ap (λ v. v.items) w.slots-is ∙ c.loop-slot.invariant ∙ sym (free_same 0 marks at false within w.if-not-taken.false)
          ∙ ap (λ n. free_from 0 (take n marks)) (sym more)
    ]
