use Rattle.std.proofs.Common.{Some, Option, sym, ◌∙◌, ap, subst}
use Rattle.std.proofs.lemmas.Result.{IfOk-weaker}
use Rattle.sd_chain.specs.declared.found.Found.{Found}
use Rattle.sd_chain.specs.declared.found.Found.TheVariants as found
use Rattle.sd_chain.specs.Passes.{IsAfterPlace}
use Rattle.sd_chain.specs.Ways.{LiesBySerial}
use Rattle.sd_writing.specs.Entries.{Place}
use Rattle.sd_merge.specs.Copying.{Copying, cursor}
use Rattle.sd_merge.proofs.PassLemmas.{lost_ahead, lost_behind, lost_chain, never_beyond, never_there, placed, read_step, zero_step}
use Rattle.sd_merge.proofs.copier.Copier.take.Goals as goal
use Rattle.sd_merge.proofs.copier.Copier.take.Goals.{then-self-eq0-via-then-self-eq0, then-self-eq0-via-else-self-eq0+then-not-is_after_entries}

pub returns-then-self-eq0-clause-lost : goal.returns-then-self-eq0-clause-lost
returns-then-self-eq0-clause-lost c = λ _.
    elim c.then-self-eq0.branch [
      | then-self-eq0-via-then-self-eq0 w ↦ lost_ahead c.args.catalog.now c.args.self.now (c.args.space, c.args.page) c.requires.stage c.requires.free c.requires.next
          (ap (λ (m : Copying). m.ahead) (sym c.self.view_is) ∙ w.if-self-eq0.true)
      | then-self-eq0-via-else-self-eq0+then-not-is_after_entries w ↦ lost_behind c.args.catalog.now c.args.self.now (c.args.space, c.args.page) w.is_after_entries.result c.requires.stage c.requires.free c.requires.next
          (λ behind. w.is_after_entries.ensures.1 (subst (λ (o : Option Place). IsAfterPlace o (c.args.space, c.args.page)) (sym (c.last-last.ensures ∙ ap (λ (m : Copying). cursor m) c.self.view_is)) behind))
          w.if-not-is_after_entries.true
    ]

pub returns-in-Some-Zero-clause-steps : goal.returns-in-Some-Zero-clause-steps
returns-in-Some-Zero-clause-steps c =
    IfOk-weaker c.take_zero.result _ _
    (λ step is. zero_step c.args.ticket c.args.catalog.now c.args.self.now c.take_zero.new.self step (c.args.space, c.args.page)
    (λ are. record {
      next = c.requires.next are;
      lies = subst (λ (m : Copying). LiesBySerial c.args.catalog.now m.order.source.serial (c.args.space, c.args.page) found.Zero) c.self.view_is
          ((c.resolve.ensures.exact are found.Zero).0 (c.in-Some-Zero.is ∙ ap (λ (f : Found). Some f) c.in-Some-Zero.field-0-is));
    }) is)
    c.take_zero.ensures.zero

pub returns-in-Some-Data-clause-steps : goal.returns-in-Some-Data-clause-steps
returns-in-Some-Data-clause-steps c =
    IfOk-weaker c.read_page.result _ _
    (λ step is. read_step c.args.ticket c.args.catalog.now c.args.self.now c.read_page.new.self step (c.args.space, c.args.page) c.in-Some-Data.slot c.place_at.result
    (λ are. placed c.few_pages.ensures c.args.catalog.now c.sound.ensures c.args.self.now (c.args.space, c.args.page) c.in-Some-Data.slot c.in-Some-Data.offset c.place_at.result
    c.place_at.ensures (c.requires.next are) are
    (subst (λ (m : Copying). LiesBySerial c.args.catalog.now m.order.source.serial (c.args.space, c.args.page) (found.Data c.in-Some-Data.slot c.in-Some-Data.offset)) c.self.view_is
    ((c.resolve.ensures.exact are (found.Data c.in-Some-Data.slot c.in-Some-Data.offset)).0 (c.in-Some-Data.is ∙ ap (λ (f : Found). Some f) c.in-Some-Data.field-0-is)))) is)
    c.read_page.ensures.read

pub returns-in-Some-Data-clause-lost : goal.returns-in-Some-Data-clause-lost
returns-in-Some-Data-clause-lost c = λ e.
    never_beyond c.few_pages.ensures c.args.catalog.now c.sound.ensures c.args.self.now (c.args.space, c.args.page) c.in-Some-Data.slot c.in-Some-Data.offset c.place_at.result
    c.requires.stage c.requires.free c.place_at.ensures
    (λ are. subst (λ (m : Copying). LiesBySerial c.args.catalog.now m.order.source.serial (c.args.space, c.args.page) (found.Data c.in-Some-Data.slot c.in-Some-Data.offset)) c.self.view_is
    ((c.resolve.ensures.exact are (found.Data c.in-Some-Data.slot c.in-Some-Data.offset)).0 (c.in-Some-Data.is ∙ ap (λ (f : Found). Some f) c.in-Some-Data.field-0-is)))
    (c.read_page.ensures.beyond e)

pub returns-in-None-clause-lost : goal.returns-in-None-clause-lost
returns-in-None-clause-lost c = λ _.
    lost_chain c.args.catalog.now c.args.self.now (c.args.space, c.args.page) c.requires.stage c.requires.free c.requires.next
    (λ are there lies. never_there _ there c.in-None.is ((c.resolve.ensures.exact are there).1
    (subst (λ (m : Copying). LiesBySerial c.args.catalog.now m.order.source.serial (c.args.space, c.args.page) there) (sym c.self.view_is) lies)))
