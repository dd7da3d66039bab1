use Rattle.std.proofs.Common.{rules, ◌≡◌, ◌*◌, ◌+◌, ◌<◌, Some, arith, inr, slice_index, slice_range, subst, sym, ◌∙◌}
use Rattle.sd_pagetable.specs.Contents.{page_at}
use Rattle.sd_import.proofs.CheckLemmas.{sectors_more, same_page}
use Rattle.sd_import.proofs.checking.has_bytes.Goals as goal

pub loop-sector-preserved : goal.loop-sector-preserved
loop-sector-preserved c =
    let told = c.has_sector.ensures c.if-not-has_sector.false in
    record {
      there = inr (told.0, told.1);
      same = λ found there k below.
          let it = same_page (page_at c.args.memory.now c.args.space c.args.page) told.0 found told.1 there in
          sectors_more found.bytes c.args.bytes.now (512 * c.loop-sector.sector)
          (subst (λ page. slice_range page.bytes (512 * c.loop-sector.sector) (512 * c.loop-sector.sector + 512) ≡ slice_range c.args.bytes.now (512 * c.loop-sector.sector) (512 * c.loop-sector.sector + 512)) it (told.2 ∙ search rules))
          (c.loop-sector.invariant.same found there) k (omega arith);
    }
