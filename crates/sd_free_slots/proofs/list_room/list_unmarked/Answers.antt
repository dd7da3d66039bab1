use Rattle.std.proofs.Common.{◌≡◌, ◌+◌, ◌++◌, ◌<◌, ◌≤◌, suc, ℕ, false, None, length, slice_index_or, take, vec_capacity, vec_len, sym, ◌∙◌, ap, subst, arith}
use Rattle.std.proofs.lemmas.List.{length-take-le}
use Rattle.sd_free_slots.specs.Lists.{listed_at, listed_from}
use Rattle.sd_free_slots.proofs.ListLemmas.{listed_more, listed_within}
use Rattle.sd_free_slots.proofs.list_room.list_unmarked.Goals as goal

pub list_slot-requires : goal.list_slot-requires
list_slot-requires c =
    let at : ℕ = c.loop-slot.slot in
    let within : at < length c.args.marks.now = c.loop-slot-test.true in
    let room : length c.args.marks.now ≤ vec_capacity c.args.list.now = c.requires.room in
    let more : vec_capacity c.args.list.now ≤ vec_capacity c.loop-slot.list = c.loop-slot.invariant.1 in
    let size : length c.loop-slot.list.items ≡ length (listed_from 0 (take at c.args.marks.now) (take at c.args.serials.now)) = ap length c.loop-slot.invariant.0 in
    let few = listed_within 0 (take at c.args.marks.now) (take at c.args.serials.now) in
    let cut = length-take-le at c.args.marks.now c.loop-slot.auto.slot-end in
    let long : vec_len c.loop-slot.list ≡ length c.loop-slot.list.items = c.loop-slot.list.ok.0 in
    omega (arith, within, room, more, size, few, cut, long)

pub loop-slot-preserved : goal.loop-slot-preserved
loop-slot-preserved c =
    let at : ℕ = c.loop-slot.slot in
    let more : vec_capacity c.args.list.now ≤ vec_capacity c.loop-slot.list = c.loop-slot.invariant.1 in
    let room : vec_capacity c.loop-slot.list ≤ vec_capacity c.list_slot.new.list = c.list_slot.ensures.room in
    let here : at ≡ 0 + at = omega arith in (
      c.list_slot.ensures.items ∙ ap (λ all. all ++ listed_at at (slice_index_or c.args.marks.now at false) (slice_index_or c.args.serials.now at None)) c.loop-slot.invariant.0
          ∙ ap (λ n. listed_from 0 (take at c.args.marks.now) (take at c.args.serials.now) ++ listed_at n (slice_index_or c.args.marks.now at false) (slice_index_or c.args.serials.now at None)) here
          ∙ sym (listed_more 0 c.args.marks.now c.args.serials.now at false None c.loop-slot-test.true (subst (λ n. at < n) (sym c.requires.each) c.loop-slot-test.true))
          ∙ ap (λ n. listed_from 0 (take n c.args.marks.now) (take n c.args.serials.now)) (let next : suc at ≡ at + 1 = omega arith in next),
      omega (arith, more, room),
    )
