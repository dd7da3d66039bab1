use Rattle.std.proofs.Common.{◌∙◌, ap}
use Rattle.sha2.specs.Sha256.{sha256}
use Rattle.sd_readers.specs.Texts.{memory_text}
use Rattle.sd_send.proofs.GroupLemmas.{appended}
use Rattle.sd_send.proofs.base.memory_digest.Goals as goal

pub returns-in-Ok-clause-digest : goal.returns-in-Ok-clause-digest
returns-in-Ok-clause-digest g c = λ honest.
    let found = c.in-Ok.ensures.text honest in
    let writer = ap (λ w. w.items) c.new-out.ensures.writer ∙ c.new.ensures.items in
    let text = appended c.new-out.result.writer.items c.print_at.new.out.writer.items (memory_text (c.args.number, found.memory)) writer found.printed in
    (found.memory, found.shows, c.digest_of.ensures ∙ ap sha256 (c.deref.ensures.value ∙ ap (λ w. w.items) c.into_writer.ensures ∙ text))
