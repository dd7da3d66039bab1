-- The images are those of the catalog.
use Rattle.std.proofs.Common.{◌∙◌, List, map, ap, sym}
use mathlib.Core.List.{map-map}
use Rattle.std.specs.Borrow.{Bor}
use Rattle.std.proofs.lemmas.Result.{IfOk-weaker}
use Rattle.serde_json.specs.Data.{Data}
use Rattle.sd_chain.specs.Catalog.{Opened}
use Rattle.sd_json.specs.Documents.{entry, shown_with}
use Rattle.sd_json.proofs.images.catalog_json.Goals as goal

pub returns : goal.returns
returns c = IfOk-weaker c.listed_json.result _ _
    (λ document shown. (
      c.tip_serial-tip.result,
      c.tip_serial-tip.ensures,
      shown ∙ ap (λ (all : List Data). shown_with all c.tip_serial-tip.result)
          (sym (map-map entry (λ (i : Bor Opened). i.now) c.deref.result.now)
          ∙ ap (λ (list : List (Bor Opened)). map entry (map (λ i. i.now) list)) c.deref.ensures.value ∙ ap (map entry) c.in_ok-list.ensures),
    ))
    c.listed_json.ensures
