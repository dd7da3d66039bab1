use Rattle.std.proofs.Common.{sym, ◌∙◌, ap, subst, slice_set}
use Rattle.sd_world.specs.declared.kept.Kept.TheVariants.{Nothing, Outcome}
use Rattle.sd_world.specs.Steps.{KeepsOutcome, reply_of_answer}
use Rattle.sd_gate.proofs.CallLemmas.{makes_as_many as makes_count}
use Rattle.sd_world.proofs.KeptLemmas.{same_request}
use Rattle.sd_world.proofs.Lists.{set_twice}
use Rattle.sd_world.proofs.stepping.perform_in.Goals as goal

pub returns-in-Request : goal.returns-in-Request
returns-in-Request g c = λ asked is.
    let D = g.D.Disk in
    let request = c.in-Request.request in
    let made = c.perform-outcome.result in
    let did = c.perform-outcome.ensures in
    subst (λ r. KeepsOutcome D c.args.lane r c.args.disk.now c.args.kept.now c.reply_of.result c.perform-outcome.new.disk c.put.new.self)
    (same_request request asked (sym c.in-Request.ensures.taken ∙ is))
    (record {
      made = made;
      performed = record {
        made_of = record {
          id = did.id;
          bytes = did.bytes;
          looks = did.looks;
          count = makes_count request.id.call request.bytes request.id.slot (D.contents c.args.disk.now)
              (D.contents c.perform-outcome.new.disk) did.torn;
        };
        count = makes_count request.id.call request.bytes request.id.slot (D.contents c.args.disk.now)
            (D.contents c.perform-outcome.new.disk) did.torn;
        answers = did.answer;
        tells = did.tells;
        others = did.others;
        fits = did.fits;
        elsewhere = did.elsewhere;
        one_call = did.one_call;
        cause = did.cause;
      };
      left = c.put.ensures ∙ ap (λ k. slice_set k c.args.lane (Outcome made)) c.in-Request.ensures.left
          ∙ set_twice c.args.kept.now c.args.lane (Outcome made) Nothing;
      replied = c.reply_of.ensures ∙ ap reply_of_answer c.answer-answer.ensures;
    })
