use Rattle.std.proofs.Common.{◌≡◌, true, false, ◌+◌, Some, length, sym, ◌∙◌, ap, inl, inr, arith}
use Rattle.std.proofs.lemmas.Bool.{cases_lt}
use Rattle.std.proofs.lemmas.List.{get_or_past}
use Rattle.std.proofs.lemmas.Option.{slice_get-get_or}
use Rattle.sd_rounds.specs.Dumper.{IsReserved, running_of}
use Rattle.sd_rounds.proofs.checkpoint.Checkpoint.fills.Goals as goal

-- the place after all pre-dumps is the dump's
pub returns-then-slot-self : goal.returns-then-slot-self
returns-then-slot-self c =
    let running = running_of c.args.self.now in
    let place = running.opened + length running.pre_dumps in
    ((λ yes. record { place = place; from = omega arith; is = c.if-slot-self.true ∙ sym (get_or_past running.pre_dumps place running.dump (omega arith)) }), (λ reserved. search))

pub returns : goal.returns
returns c = ((λ yes. absurd (let no : false ≡ true = yes in cc)), (λ reserved. absurd (elsewhere reserved)))
  where
    elsewhere : IsReserved (running_of c.args.self.now) c.args.slot → ⊥
    elsewhere r = elim (cases_lt r.place (length c.args.self.now.pre_dumps.items)) [
      | inl within ↦ c.loop-place.invariant r.place r.from (let whole = c.loop-place-test.false in let same = ap length c.deref-own-items.ensures.value in omega (arith, whole, same, within))
          (slice_get-get_or c.args.self.now.pre_dumps.items r.place c.args.self.now.dump within ∙ ap Some (sym r.is))
      | inr behind ↦ c.if-slot-self.false (r.is ∙ get_or_past c.args.self.now.pre_dumps.items r.place c.args.self.now.dump behind)
    ]
