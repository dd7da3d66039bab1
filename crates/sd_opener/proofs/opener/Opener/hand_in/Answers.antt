use Rattle.std.proofs.Common.{rules, ◌≡◌, ◌∙◌, ◌+◌, ◌<◌, false, ◌++◌, ◌∷◌, [], if◌then◌else◌, length, Some, None, refl, sym, ap, subst, true, arith}
use Rattle.std.specs.Option.{is_some}
use Rattle.std.specs.Result.{is_ok}
use Rattle.sd_disk.specs.Contents.{file_at}
use Rattle.sd_gate.specs.Looks.{IsFound}
use Rattle.sd_gate.specs.Inspections.{the_length}
use Rattle.sd_gate.specs.Plans.{Planned, begun}
use Rattle.sd_gate.specs.Sequences.{first_looks}
use Rattle.sd_image.specs.Image.{is_open}
use Rattle.sd_restore.specs.Scanned.{IsScanned}
use Rattle.sd_opener.specs.declared.stage.Stage.TheVariants.{Asking}
use Rattle.sd_opener.specs.Looking.{IsStageOf, Looking, out_of_look}
use Rattle.sd_opener.specs.Sees.{InspectionEndsAs, InspectionHasEnded, IsLookOf, Sees, SeesSlot}
use Rattle.sd_opener.specs.Left.{LowersLooking, slot_left}
use Rattle.sd_opener.proofs.Inspecting.{begins, ends, goes}
use Rattle.sd_opener.proofs.Lowers.{open_left, slot_lowers, stage_lowers, within_slots}
use Rattle.sd_opener.proofs.Steps.{back_count, cant_fail, finds_file, looks_on, open_out, open_stage, passes, within_files}
use Rattle.sd_opener.proofs.opener.Opener.hand_in.Goals as goal

pub returns-in-None-clause-sees : goal.returns-in-None-clause-sees
returns-in-None-clause-sees c files request told sees =
    let was = subst (Sees files (Some request)) (sym c.self.view_is) sees in
    let is = subst (λ (v : Looking). IsLookOf (file_at files (length v.told)) request c.args.outcome) (sym c.self.view_is) told in
    let found = finds_file c.inspection_finds.ensures files request _ c.in-Asking.plan c.settle.new.self c.args.outcome c.settle.result c.in-Asking.is c.settle.ensures.settled was is c.in-Finished.is in
    let plan_is : c.settle.new.self ≡ c.in-Some.ensures.found.0 = (let same : Asking c.settle.new.self ≡ Asking c.in-Some.ensures.found.0 = c.in-Some.ensures.found.1 in cc) in
    let back = c.in-Some.ensures.found.2 ∙ ap (λ p. p.found) (sym plan_is) in
    absurd (c.in-None.ensures.sees (file_at files (length c.self.inside.told.items)) (subst (IsFound (file_at files (length c.self.inside.told.items))) (sym back) found))

pub returns-in-More-clause-sees : goal.returns-in-More-clause-sees
returns-in-More-clause-sees c files request told sees =
    let was = subst (Sees files (Some request)) (sym c.self.view_is) sees in
    let is = subst (λ (v : Looking). IsLookOf (file_at files (length v.told)) request c.args.outcome) (sym c.self.view_is) told in (
      refl,
      record {
        count = was.count;
        told = was.told;
        scanned = was.scanned;
        slot = looks_on c.inspection_finds.ensures files request _ c.in-Asking.plan c.settle.new.self c.args.outcome c.settle.result c.in-Asking.is c.settle.ensures.settled was is;
      },
    )

pub returns-in-Failed-clause-sees : goal.returns-in-Failed-clause-sees
returns-in-Failed-clause-sees c files request told sees =
    let was = subst (Sees files (Some request)) (sym c.self.view_is) sees in
    let is = subst (λ (v : Looking). IsLookOf (file_at files (length v.told)) request c.args.outcome) (sym c.self.view_is) told in
    absurd (cant_fail c.inspection_finds.ensures files request _ c.in-Asking.plan c.settle.new.self c.args.outcome c.settle.result c.in-Asking.is c.settle.ensures.settled was is c.in-Failed.is)

pub invariant_of-self-in-Some-Open : goal.invariant_of-self-in-Some-Open
invariant_of-self-in-Some-Open c =
    let put = c.put_stage-in-Some-Open.ensures in
    let is_open = c.in-Some-Open.ensures.open c.in-Some-Open.stage c.in-Some-Open.field-0-is in
    record {
      within = c.self.invariant.within;
      last = λ same id out. (let none : None ≡ Some id = sym (ap out_of_look put ∙ open_out c.in-Some-Open.stage is_open) ∙ out in cc);
      room = c.self.invariant.room;
      own = subst (IsStageOf (length c.self.inside.told.items)) (sym put) (open_stage c.in-Some-Open.stage (length c.self.inside.told.items) is_open);
      few = c.self.invariant.few;
    }

pub returns-in-Some-Open-clause-free : goal.returns-in-Some-Open-clause-free
returns-in-Some-Open-clause-free c was =
    ap out_of_look c.put_stage-in-Some-Open.ensures ∙ open_out c.in-Some-Open.stage (c.in-Some-Open.ensures.open c.in-Some-Open.stage c.in-Some-Open.field-0-is)

pub returns-in-Some-Open-clause-sees : goal.returns-in-Some-Open-clause-sees
returns-in-Some-Open-clause-sees c files request told sees =
    let was = subst (Sees files (Some request)) (sym c.self.view_is) sees in
    let is = subst (λ (v : Looking). IsLookOf (file_at files (length v.told)) request c.args.outcome) (sym c.self.view_is) told in
    let n = length c.self.inside.told.items in
    let found = finds_file c.inspection_finds.ensures files request _ c.in-Asking.plan c.settle.new.self c.args.outcome c.settle.result c.in-Asking.is c.settle.ensures.settled was is c.in-Finished.is in
    let plan_is : c.settle.new.self ≡ c.in-Some.ensures.found.0 = (let same : Asking c.settle.new.self ≡ Asking c.in-Some.ensures.found.0 = c.in-Some.ensures.found.1 in cc) in
    let back = c.in-Some.ensures.found.2 ∙ ap (λ p. p.found) (sym plan_is) in
    let end = subst (InspectionEndsAs (file_at files n)) c.in-Some-Open.field-0-is (c.in-Some-Open.ensures.sees (file_at files n) (subst (IsFound (file_at files n)) (sym back) found)) in (
      refl,
      record {
        count = was.count;
        told = was.told;
        scanned = was.scanned;
        slot = subst (SeesSlot n (file_at files n) None) (sym c.put_stage-in-Some-Open.ensures) (end.1 n);
      },
    )

pub returns-in-Some-Closed-clause-sees : goal.returns-in-Some-Closed-clause-sees
returns-in-Some-Closed-clause-sees c files request told sees =
    let was = subst (Sees files (Some request)) (sym c.self.view_is) sees in
    let is = subst (λ (v : Looking). IsLookOf (file_at files (length v.told)) request c.args.outcome) (sym c.self.view_is) told in
    let n = length c.self.inside.told.items in
    let found = finds_file c.inspection_finds.ensures files request _ c.in-Asking.plan c.settle.new.self c.args.outcome c.settle.result c.in-Asking.is c.settle.ensures.settled was is c.in-Finished.is in
    let plan_is : c.settle.new.self ≡ c.in-Some.ensures.found.0 = (let same : Asking c.settle.new.self ≡ Asking c.in-Some.ensures.found.0 = c.in-Some.ensures.found.1 in cc) in
    let back = c.in-Some.ensures.found.2 ∙ ap (λ p. p.found) (sym plan_is) in
    let end = subst (InspectionEndsAs (file_at files n)) c.in-Some-Closed.field-0-is (c.in-Some-Closed.ensures.sees (file_at files n) (subst (IsFound (file_at files n)) (sym back) found)) in
    let long : c.len-slot.result ≡ n = c.len-slot.ensures ∙ c.self.inside.told.ok.0 in
    let within = within_files c.inspection_finds.ensures files request _ c.in-Asking.plan c.settle.new.self c.args.outcome c.settle.result c.in-Asking.is c.settle.ensures.settled was is
    was.count c.self.invariant.within
    (λ last out. c.self.invariant.last last c.args.outcome.request.id (ap out_of_look c.in-Asking.is ∙ out)) in (
      refl,
      passes c.inspection_finds.ensures files (Some request) _ _ c.in-Some-Closed.phase was (record {
        within = within;
        phase_is = end.1;
        same_slots = refl;
        told_more = c.push.ensures.items ∙ ap (λ r. if is_ok r then c.self.inside.told.items ++ c.in-Some-Closed.phase ∷ [] else c.self.inside.told.items) c.unwrap.ensures;
        next_stage = c.put_stage-in-Some-Closed.ensures ∙ c.first_stage-in-Some-Closed.ensures ∙ ap (λ k. Asking (begun (k + 1) first_looks the_length)) long;
        scanned_more = λ right. subst (λ k. IsScanned files (k + 1) c.self.inside.scanned) long
            (c.skip.ensures files (subst (λ k. k < length files) (sym long) within) (subst (λ k. is_open (file_at files k) ≡ false) (sym long) end.0)
            (subst (λ k. IsScanned files k c.self.inside.scanned) (sym long) (was.scanned right)));
      }),
    )

pub returns-in-Some-Open-clause-lowers : goal.returns-in-Some-Open-clause-lowers
returns-in-Some-Open-clause-lowers c out goes =
    let own : out_of_look c.self.inside.stage ≡ Some c.args.outcome.request.id = ap (λ (v : Looking). out_of_look v.stage) c.self.view_is ∙ out in
    let fewer = c.settle.ensures.fewer (ap out_of_look (sym c.in-Asking.is) ∙ own) in
    let before = ap slot_left c.in-Asking.is in
    let one = ap slot_left c.put_stage-in-Some-Open.ensures ∙ open_left c.in-Some-Open.stage (c.in-Some-Open.ensures.open c.in-Some-Open.stage c.in-Some-Open.field-0-is) in
    let within = within_slots _ _ c.args.outcome.request.id c.self.invariant own in
    let next : Looking = record { slots = c.self.inside.slots; told = c.self.inside.told.items; stage = c.put_stage-in-Some-Open.new.stage; scanned = c.self.inside.scanned } in
    subst (λ v. LowersLooking v next) c.self.view_is
    (stage_lowers c.self.inside.slots (length c.self.inside.told.items) c.self.inside.stage c.put_stage-in-Some-Open.new.stage within (omega (arith, fewer, before, one)))

pub returns-in-Some-Closed-clause-lowers : goal.returns-in-Some-Closed-clause-lowers
returns-in-Some-Closed-clause-lowers c out goes =
    let own : out_of_look c.self.inside.stage ≡ Some c.args.outcome.request.id = ap (λ (v : Looking). out_of_look v.stage) c.self.view_is ∙ out in
    let within = within_slots _ _ c.args.outcome.request.id c.self.invariant own in
    let more = ap length c.push.ensures.items ∙ ap (λ r. length (if is_ok r then c.self.inside.told.items ++ c.in-Some-Closed.phase ∷ [] else c.self.inside.told.items)) c.unwrap.ensures
    ∙ back_count c.self.inside.told.items c.in-Some-Closed.phase in
    let next : Looking = record { slots = c.self.inside.slots; told = c.push.new.self.items; stage = c.put_stage-in-Some-Closed.new.stage; scanned = c.self.inside.scanned } in
    subst (λ v. LowersLooking v next) c.self.view_is
    (slot_lowers c.self.inside.slots (length c.self.inside.told.items) (length c.push.new.self.items) c.self.inside.stage c.put_stage-in-Some-Closed.new.stage within
    (omega (arith, more)) (ap slot_left (c.put_stage-in-Some-Closed.ensures ∙ c.first_stage-in-Some-Closed.ensures)))

pub invariant_of-self-in-More : goal.invariant_of-self-in-More
invariant_of-self-in-More c =
    let out = c.is_out.ensures.0 c.if-not-is_out.false ∙ ap Some c.id.ensures in
    let went = c.settle.ensures.settled out in
    let was = subst (IsStageOf (length c.self.inside.told.items)) c.in-Asking.is c.self.invariant.own in
    record {
      within = c.self.invariant.within;
      last = λ same id is_out. (let none : None ≡ Some id = sym (ap (λ (p : Planned). p.out) went.0) ∙ is_out in cc);
      room = c.self.invariant.room;
      own = (
        ap (λ (p : Planned). p.slot) went.0 ∙ was.0,
        goes c.in-Asking.plan c.settle.new.self c.args.outcome out was.1 went.0 (sym went.1 ∙ c.in-More.is),
      );
      few = c.self.invariant.few;
    }

pub returns-in-None-clause-strange : goal.returns-in-None-clause-strange
returns-in-None-clause-strange c strange =
    let out = c.is_out.ensures.0 c.if-not-is_out.false ∙ ap Some c.id.ensures in
    absurd (strange (ap (λ (v : Looking). out_of_look v.stage) (sym c.self.view_is) ∙ ap out_of_look c.in-Asking.is ∙ out))

pub returns-in-None-clause-goes_on : goal.returns-in-None-clause-goes_on
returns-in-None-clause-goes_on c own as_asked =
    let out = c.is_out.ensures.0 c.if-not-is_out.false ∙ ap Some c.id.ensures in
    let went = c.settle.ensures.settled out in
    let was = subst (IsStageOf (length c.self.inside.told.items)) c.in-Asking.is c.self.invariant.own in
    let plan_is : c.settle.new.self ≡ c.in-Some.ensures.found.0 = (let same : Asking c.settle.new.self ≡ Asking c.in-Some.ensures.found.0 = c.in-Some.ensures.found.1 in cc) in
    let back = c.in-Some.ensures.found.2 ∙ ap (λ (p : Planned). p.found) (sym plan_is) in
    let ended = ends c.in-Asking.plan c.settle.new.self c.args.outcome out was.1 went.0 as_asked (sym went.1 ∙ c.in-Finished.is) in
    absurd (let no : false ≡ true = ap is_some (sym c.in-None.is) ∙ c.slot_end.ensures.ended (subst InspectionHasEnded (sym back) ended) in cc)

pub invariant_of-self-in-Some-Closed : goal.invariant_of-self-in-Some-Closed
invariant_of-self-in-Some-Closed c =
    let out = c.is_out.ensures.0 c.if-not-is_out.false ∙ ap Some c.id.ensures in
    let within = within_slots _ _ c.args.outcome.request.id c.self.invariant (ap out_of_look c.in-Asking.is ∙ out) in
    let more = ap length c.push.ensures.items ∙ ap (λ r. length (if is_ok r then c.self.inside.told.items ++ c.in-Some-Closed.phase ∷ [] else c.self.inside.told.items)) c.unwrap.ensures
    ∙ back_count c.self.inside.told.items c.in-Some-Closed.phase in
    let stage_is = c.put_stage-in-Some-Closed.ensures ∙ c.first_stage-in-Some-Closed.ensures in
    let few = c.self.invariant.few in
    let at : c.len-slot.result + 1 ≡ length c.push.new.self.items = (let long = c.len-slot.ensures ∙ c.self.inside.told.ok.0 in omega (arith, more, long)) in
    record {
      within = omega (arith, within, more);
      last = λ same id is_out. (let none : None ≡ Some id = sym (ap out_of_look stage_is) ∙ is_out in cc);
      room = search rules;
      own = subst (IsStageOf (length c.push.new.self.items)) (sym stage_is) (at, begins (c.len-slot.result + 1));
      few = omega (arith, few, more);
    }
