use Rattle.sd_crash_safety.proofs.AsksLaw.{asks_lem}
use Rattle.sd_crash_safety.proofs.BeginsImage.{begins_image_lem}
use Rattle.sd_crash_safety.proofs.Works.{freezes_lem, works_lem}
use Rattle.sd_crash_safety.proofs.WritesLaw.{writes_page_lem, writes_table_lem}
use Rattle.sd_crash_safety.proofs.laws.dumper_steps.Goals as goal

pub returns : goal.returns
returns c = record {
  begins_image = begins_image_lem c.making_law.ensures c.plans_lead.ensures;
  asks = λ old new running image next number request asked bodies files s b.
      asks_lem c.quiet_steps.ensures c.gate_steps.ensures c.made_law.ensures c.catalog_follows.ensures c.dump_shows.ensures old new running image next number request asked bodies files s b;
  writes_page = writes_page_lem c.quiet_steps.ensures c.writes_commute.ensures c.bodies_fill.ensures c.catalog_follows.ensures c.making_law.ensures;
  writes_table = writes_table_lem c.quiet_steps.ensures c.plans_lead.ensures c.catalog_follows.ensures c.making_law.ensures c.file_law.ensures;
  freezes = freezes_lem c.quiet_steps.ensures c.making_law.ensures;
  works = works_lem c.making_law.ensures;
}
