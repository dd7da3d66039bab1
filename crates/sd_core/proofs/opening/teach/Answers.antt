use Rattle.std.proofs.Common.{◌≡◌, true, Some, refl, sym, ◌∙◌, subst, inl, inr}
use Rattle.std.proofs.lemmas.Bool.{cases_Bool}
use Rattle.sd_opener.specs.declared.opener_progress.OpenerProgress.TheVariants.{Failed, More}
use Rattle.sd_gate.specs.Calls.{is_done}
use Rattle.sd_core.specs.Opening.{TeachesOpener}
use Rattle.sd_core.proofs.opening.teach.Goals as goal

pub returns-in-More : goal.returns-in-More
returns-in-More c = subst (λ o. TeachesOpener o c.args.outcome true (Some c.hand_in.new.self)) (sym c.in-Some.is) (
  c.hand_in.new.self,
  refl,
  record {
    done = λ out. elim (cases_Bool (is_done c.args.outcome.answer)) [
      | inl was ↦ was
      | inr other ↦ absurd (let same : More ≡ Failed = sym c.in-More.is ∙ c.hand_in.ensures.failed out other in cc)
    ];
    moves = c.hand_in.ensures.moves;
    slots = c.hand_in.ensures.slots;
    free = c.hand_in.ensures.free;
    lowers = λ out. c.hand_in.ensures.lowers out c.in-More.is;
    sees = λ files told sees. (c.hand_in.ensures.sees files c.args.outcome.request told sees).1;
  },
)
