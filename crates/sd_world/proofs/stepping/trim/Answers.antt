use Rattle.std.proofs.Common.{length, MatchResult, ap, refl, sym, ◌≡◌, ◌∙◌, subst}
use Rattle.sd_command.specs.declared.reply.Reply.TheVariants.{Refused, Trimmed}
use Rattle.sd_world.proofs.TrimLemmas.{trims_journal}
use Rattle.sd_world.proofs.stepping.trim.Goals as goal

pub returns-in-Ok-clause-trims : goal.returns-in-Ok-clause-trims
returns-in-Ok-clause-trims c = trims_journal c.args.core.now c.trim.result c.trim.new.self (Trimmed c.len.result)
    (subst (λ r. MatchResult r (λ folded. Trimmed c.len.result ≡ Trimmed (length folded.entries.items)) (λ refusal. Trimmed c.len.result ≡ Refused refusal)) (sym c.in-Ok.is)
    (ap Trimmed (c.len.ensures ∙ c.in-Ok.folded.entries.ok.0))) c.trim.ensures.idle c.trim.ensures.trims

pub returns-in-Err-clause-trims : goal.returns-in-Err-clause-trims
returns-in-Err-clause-trims c = trims_journal c.args.core.now c.trim.result c.trim.new.self (Refused c.in-Err.why)
    (subst (λ r. MatchResult r (λ folded. Refused c.in-Err.why ≡ Trimmed (length folded.entries.items)) (λ refusal. Refused c.in-Err.why ≡ Refused refusal)) (sym c.in-Err.is) refl)
    c.trim.ensures.idle c.trim.ensures.trims
