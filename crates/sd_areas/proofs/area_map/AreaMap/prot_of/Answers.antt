use Rattle.std.proofs.Common.{ap, sym, ◌∙◌}
use Rattle.std.specs.FinMap as finmap
use Rattle.sd_areas.specs.Areas.{prot_in}
use Rattle.sd_areas.proofs.PagesOf.{get-pages_of}
use Rattle.sd_areas.proofs.area_map.AreaMap.prot_of.Goals as goal

pub returns : goal.returns
returns c = c.find_prot.ensures ∙ ap (λ l. prot_in l c.args.page) c.deref.ensures.value ∙ sym (get-pages_of _ c.args.page) ∙ ap (λ m. finmap.get m c.args.page) c.self.view_is
