use Rattle.sd_crash_safety.proofs.BeginsMerge.{begins_merged_lem}
use Rattle.sd_crash_safety.proofs.MergerAsks.{merger_asks_lem}
use Rattle.sd_crash_safety.proofs.MergerFinds.{finds_lem}
use Rattle.sd_crash_safety.proofs.MergerPass.{reads_lem, spares_lem, takes_zeros_lem, writes_page_lem, writes_table_lem}
use Rattle.sd_crash_safety.proofs.MergerRetire.{merger_retires_lem}
use Rattle.sd_crash_safety.proofs.MergerSource.{KnowsCatalog}
use Rattle.sd_crash_safety.proofs.laws.merger_steps.Goals as goal

pub returns : goal.returns
returns c =
    let places = c.args.catalog.now in
    let knows : KnowsCatalog places = record {
      sound = c.sound.ensures;
      tells = c.live_catalog_agrees.ensures;
      agrees = c.agrees.ensures;
      page = c.page_in_file.ensures;
    } in
    record {
      begins_image = begins_merged_lem c.merge_law.ensures c.making_law.ensures c.plans_lead.ensures;
      finds = finds_lem c.merge_law.ensures places knows;
      asks = λ old new merge copy next ticket request asked bodies files its s b.
          merger_asks_lem c.quiet_steps.ensures c.gate_steps.ensures c.merged_file_law.ensures c.merged_repeats.ensures c.catalog_follows.ensures c.making_law.ensures
          old new merge copy next ticket request asked bodies files s b;
      reads = reads_lem c.quiet_steps.ensures c.merge_law.ensures c.merged_file_law.ensures c.source_reaches_needed.ensures c.catalog_follows.ensures c.making_law.ensures
          c.plans_lead.ensures c.bodies_fill.ensures places knows;
      spares = spares_lem c.quiet_steps.ensures c.merge_law.ensures c.merged_file_law.ensures c.source_reaches_needed.ensures c.catalog_follows.ensures c.making_law.ensures
          c.plans_lead.ensures c.bodies_fill.ensures places knows;
      writes_page = writes_page_lem c.quiet_steps.ensures c.merge_law.ensures c.merged_file_law.ensures c.source_reaches_needed.ensures c.catalog_follows.ensures c.making_law.ensures
          c.plans_lead.ensures c.bodies_fill.ensures places knows;
      writes_table = writes_table_lem c.quiet_steps.ensures c.merge_law.ensures c.merged_file_law.ensures c.source_reaches_needed.ensures c.catalog_follows.ensures c.making_law.ensures
          c.plans_lead.ensures c.bodies_fill.ensures places knows;
      takes_zeros = takes_zeros_lem c.quiet_steps.ensures c.merge_law.ensures c.merged_file_law.ensures c.source_reaches_needed.ensures c.catalog_follows.ensures c.making_law.ensures
          c.plans_lead.ensures c.bodies_fill.ensures places knows;
      retires = λ old new merge r next ticket request asked bodies files s b.
          merger_retires_lem c.quiet_steps.ensures c.gate_steps.ensures c.catalog_follows.ensures c.making_law.ensures old new merge r next ticket request asked bodies files s b;
    }
