use Rattle.std.proofs.Common.{◌≡◌, ◌∙◌, ◌+◌, ◌<◌, ◌++◌, ◌∷◌, [], if◌then◌else◌, length, Some, None, ◌⊎◌, IsSome, MatchOption, refl, sym, ap, subst, arith}
use Rattle.std.specs.Result.{is_ok}
use Rattle.sd_disk.specs.Contents.{file_at}
use Rattle.sd_gate.specs.declared.phase.Phase.TheVariants.{Whole}
use Rattle.sd_gate.specs.Inspections.{the_length}
use Rattle.sd_gate.specs.declared.worker.Worker.TheVariants.{Opener}
use Rattle.sd_gate.specs.Plans.{Gives, begun}
use Rattle.sd_gate.specs.Sequences.{first_looks}
use Rattle.sd_restore.specs.Reading.{IsReading}
use Rattle.sd_restore.specs.Scanned.{IsScanned}
use Rattle.sd_opener.specs.declared.stage.Stage.TheVariants.{Asking}
use Rattle.sd_opener.specs.Sees.{Sees, SeesSlot}
use Rattle.sd_opener.proofs.Ends.{broken_is_faulty, whole_phase}
use Rattle.sd_opener.specs.Left.{LowersLooking, slot_left}
use Rattle.sd_opener.specs.Looking.{Looking}
use Rattle.sd_opener.proofs.Lowers.{slot_lowers}
use Rattle.sd_opener.proofs.Steps.{back_count, faulty_is_no_store, passes}
use Rattle.sd_opener.proofs.opener.Opener.work.Goals as goal

pub returns-in-Broken-clause-sees : goal.returns-in-Broken-clause-sees
returns-in-Broken-clause-sees c files sees =
    let was = subst (Sees files None) (sym c.self.view_is) sees in
    let n = length c.self.inside.told.items in
    let at = subst (SeesSlot n (file_at files n) None) c.in-Broken.is was.slot in
    faulty_is_no_store c.good_store_has_no_reason.ensures files n c.in-Broken.reason (broken_is_faulty (file_at files n) c.in-Broken.reason at.1)

pub returns-in_ok-take_in-in-Ok-clause-sees : goal.returns-in_ok-take_in-in-Ok-clause-sees
returns-in_ok-take_in-in-Ok-clause-sees c files sees =
    let was = subst (Sees files None) (sym c.self.view_is) sees in
    let n = length c.self.inside.told.items in
    let at = subst (SeesSlot n (file_at files n) None) c.in-Read.is was.slot in
    let long : c.len-slot.result ≡ n = c.len-slot.ensures ∙ c.self.inside.told.ok.0 in
    let within : n < length files =
    (let count = was.count in let few = c.self.invariant.within in let other = c.if-slot-self.false in omega (arith, count, few, other, long)) in
    passes c.inspection_finds.ensures files None _ _ Whole was (record {
      within = within;
      phase_is = sym (whole_phase (file_at files n) at.1.opens);
      same_slots = refl;
      told_more = c.push.ensures.items ∙ ap (λ r. if is_ok r then c.self.inside.told.items ++ Whole ∷ [] else c.self.inside.told.items) c.unwrap.ensures;
      next_stage = c.put_stage.ensures ∙ c.first_stage.ensures ∙ ap (λ k. Asking (begun (k + 1) first_looks the_length)) long;
      scanned_more = λ right. subst (λ k. IsScanned files (k + 1) c.take_in.new.self) long
          (c.in_ok-take_in-in-Ok.ensures.scanned files (subst (λ k. k < length files) (sym long) within) (subst (λ k. IsReading (file_at files k) (Some c.in-Ok.decoded)) (sym long)
          (c.in-Ok.ensures.decoded (file_at files n) at.1 (c.deref.ensures.value ∙ at.2) (right n c.in-Read.header at.1)))
          (subst (λ k. IsScanned files k c.self.inside.scanned) (sym long) (was.scanned right)));
    })

pub returns-in-Some-clause-sees : goal.returns-in-Some-clause-sees
returns-in-Some-clause-sees c files sees =
    let was = subst (Sees files None) (sym c.self.view_is) sees in
    let n = length c.self.inside.told.items in
    let at = subst (SeesSlot n (file_at files n) None) c.in-Asking.is was.slot in
    let given = subst (λ taken. MatchOption taken ((c.take.new.self ≡ c.in-Asking.plan) × (IsSome c.in-Asking.plan.out ⊎ (c.in-Asking.plan.calls ≡ []))) (λ request. Gives c.in-Asking.plan c.take.new.self request × (request.id.worker ≡ Opener) × (request.id.ticket ≡ c.args.ticket))) c.in-Some.is c.in_ok-request-in-Asking.ensures.given in
    record {
      count = was.count;
      told = was.told;
      scanned = was.scanned;
      slot = c.inspection_finds.ensures.takes n (file_at files n) c.in-Asking.plan c.take.new.self c.in-Some.request at given.0;
    }

pub returns-in_ok-take_in-in-Ok-clause-lowers : goal.returns-in_ok-take_in-in-Ok-clause-lowers
returns-in_ok-take_in-in-Ok-clause-lowers c =
    let long : c.len-slot.result ≡ length c.self.inside.told.items = c.len-slot.ensures ∙ c.self.inside.told.ok.0 in
    let within : length c.self.inside.told.items < c.self.inside.slots = (let few = c.self.invariant.within in let other = c.if-slot-self.false in omega (arith, few, other, long)) in
    let more = ap length c.push.ensures.items ∙ ap (λ r. length (if is_ok r then c.self.inside.told.items ++ Whole ∷ [] else c.self.inside.told.items)) c.unwrap.ensures
    ∙ back_count c.self.inside.told.items Whole in
    let next : Looking = record { slots = c.self.inside.slots; told = c.push.new.self.items; stage = c.put_stage.new.stage; scanned = c.take_in.new.self } in
    subst (λ v. LowersLooking v next) c.self.view_is
    (slot_lowers c.self.inside.slots (length c.self.inside.told.items) (length c.push.new.self.items) c.self.inside.stage c.put_stage.new.stage within
    (omega (arith, more)) (ap slot_left (c.put_stage.ensures ∙ c.first_stage.ensures)))
