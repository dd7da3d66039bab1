use Rattle.std.proofs.Common.{◌≡◌, ℕ, Option, Some, None, slice_get, List, sym, ◌∙◌, ap, arith}
use Rattle.std.specs.Option.{option_map}
use Rattle.std.proofs.lemmas.Option.{same_Some, slice_get-get_or}
use Rattle.sd_gate.specs.declared.request_id.RequestId.{RequestId}
use Rattle.sd_free_slots.specs.Taken.{IsOutAt, slot_of_id}
use Rattle.sd_free_slots.proofs.MarkLemmas.{among_all, among_more, takes_as}
use Rattle.sd_free_slots.proofs.taken.take_outs.Goals as goal

pub loop-out-preserved : goal.loop-out-preserved
loop-out-preserved c =
    among_more (option_map slot_of_id) c.args.outs.now c.loop-out.out-index _ _ _ c.loop-out.marks.items _ (omega arith)
    (slice_get-get_or c.args.outs.now c.loop-out.out-index _ c.loop-out-test.true) c.loop-out.invariant
    (takes_as _ _ c.loop-out.marks.items c.take_some.new.marks.items (λ slot is. sym c.slot_of.ensures ∙ is) (λ slot is. c.slot_of.ensures ∙ is) c.take_some.ensures)

out_at : (outs : List (Option RequestId)) (place : ℕ) (one : Option RequestId) (slot : ℕ) → slice_get outs place ≡ Some one → option_map slot_of_id one ≡ Some slot → IsOutAt outs slot
out_at outs place None slot there has = absurd (let no : None ≡ Some slot = has in cc)
out_at outs place (Some id) slot there has = record { worker = place; id = id; out = there; at = same_Some id.slot slot has }

pub returns : goal.returns
returns c = among_all (option_map slot_of_id) (IsOutAt c.args.outs.now) c.args.outs.now c.loop-out.out-index c.args.marks.now.items c.loop-out.marks.items c.loop-out-test.false
    (λ slot h. out_at c.args.outs.now h.place h.one slot h.there h.has)
    (λ slot o. record { place = o.worker; one = Some o.id; there = o.out; has = ap Some o.at })
    c.loop-out.invariant
