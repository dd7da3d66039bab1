use Rattle.std.proofs.Common.{Some}
use Rattle.sd_merge.specs.declared.retired.Retired.{Retired}
use Rattle.sd_free_slots.specs.Marks.{TakesSlots}
use Rattle.sd_free_slots.proofs.MarkLemmas.{IsAmong}
use Rattle.sd_free_slots.proofs.taken.take_listed.Given as goal

abbrev pub invariant-loop-one : goal.invariant-loop-one
invariant-loop-one l = TakesSlots (IsAmong (λ (one : Retired). Some one.slot) l.fn.list l.one-index) l.fn.marks.items l.marks.items
