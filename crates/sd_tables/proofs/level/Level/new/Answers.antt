use Rattle.std.proofs.Common.{◌≡◌, None, get_or, ◌∙◌, inl, inr, ap, rules, arith}
use Rattle.std.specs.Option.{option_and_then}
use Rattle.std.proofs.lemmas.Bool.{cases_lt}
use Rattle.std.proofs.lemmas.Option.{slice_get_past}
use Rattle.sd_tables.proofs.LevelLemmas.{slot_got}
use Rattle.sd_tables.proofs.level.Level.new.Goals as goal

pub returns-clause-tables : goal.returns-clause-tables
returns-clause-tables g c = λ place. elim (cases_lt place 512) [
  | inl l ↦
      let h = c.from_fn.ensures.items.at place None l in
      let k = h.2.met in
      let e : get_or c.from_fn.result place None ≡ None = search (rules, k) in
      slot_got c.from_fn.result place None (let n = c.from_fn.ensures.items.long in omega arith) ∙ e
  | inr m ↦ ap (option_and_then (λ table. table)) (slice_get_past c.from_fn.result place (let n = c.from_fn.ensures.items.long in omega arith))
]
