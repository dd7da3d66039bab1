use Rattle.std.proofs.Common.{List, arith, map, sym, ◌∙◌, ap, subst}
use Rattle.sd_image.specs.Table.{Listed, listing_of}
use Rattle.sd_chain.specs.Catalog.{place_of}
use Rattle.sd_gate.proofs.UseLemmas.{body_under_way, gives_under_way}
use Rattle.sd_writing.specs.declared.ending.ImageNumbers.{ImageNumbers}
use Rattle.sd_writing.specs.Endings.{EndsFile}
use Rattle.sd_writing.specs.Entries.{data_pages}
use Rattle.sd_merge.specs.declared.stage.Stage.TheVariants.{Close}
use Rattle.sd_merge.specs.Copying.{Copying, copy_numbers}
use Rattle.sd_merge.specs.Gathered.{IsTableOf}
use Rattle.sd_merge.proofs.PlanLemmas.{free_in_pass, written}
use Rattle.sd_merge.proofs.copier.Copier.close.Goals as goal

pub ask-request-requires-clause-under_way : goal.ask-request-requires-clause-under_way
ask-request-requires-clause-under_way c = grind (arith, body_under_way)

pub invariant_of-self : goal.invariant_of-self
invariant_of-self c = grind (arith, free_in_pass, gives_under_way, body_under_way)

pub returns-clause-table : goal.returns-clause-table
returns-clause-table c =
    let tables : List Listed = map listing_of c.in_ok-table.table.spaces.items in (
      written c.args.catalog.now c.args.self.now _ c.ask-request.result c.in-Some.source.now tables c.in_ok-plan.field-0 c.ask-request.new.plan
          c.requires.stage c.requires.free
          (ap (λ (m : Copying). place_of c.args.catalog.now m.order.source.serial) (sym c.self.view_is) ∙ c.in-Some.ensures.0)
          (subst (λ (m : Copying). EndsFile m.order.slot (copy_numbers m.order) (data_pages m.entries) m.digester tables c.in_ok-plan.field-0) c.self.view_is
          (subst (λ n. EndsFile c.self.inside.order.slot (copy_numbers c.self.inside.order) n c.self.inside.digester tables c.in_ok-plan.field-0) c.self.invariant.counted
          (subst (λ (k : ImageNumbers). EndsFile c.self.inside.order.slot k c.self.inside.stored c.self.inside.digester tables c.in_ok-plan.field-0) c.numbers-numbers.ensures
          c.in_ok-plan.ensures.ends)))
          (subst (λ (m : Copying). IsTableOf c.in-Some.source.now.spaces m.entries tables) c.self.view_is
          (subst (λ (l : List Listed). IsTableOf l c.self.inside.copies tables) c.table.ensures c.in_ok-table.ensures))
          c.ask-request.ensures.gives
          (ap (λ (m : Copying). record m { stage = Close c.ask-request.new.plan c.in_ok-plan.field-0.header c.in_ok-plan.field-0.table }) c.self.view_is),
      c.ask-request.ensures.asked,
    )
