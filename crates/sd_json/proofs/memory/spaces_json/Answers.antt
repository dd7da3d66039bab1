-- Each space is shown as its listing.
use Rattle.std.proofs.Common.{◌∙◌, List, ap, sym}
use mathlib.Core.List.{map-map}
use Rattle.std.proofs.lemmas.Result.{IfOk-weaker}
use Rattle.serde_json.specs.Data.{Data, array}
use Rattle.serde_json.specs.View.{items_of}
use Rattle.sd_image.specs.Table.{listing_of}
use Rattle.sd_json.specs.Documents.{space_fields}
use Rattle.sd_json.proofs.memory.spaces_json.Goals as goal

pub returns : goal.returns
returns c = IfOk-weaker c.each_space.result _ _
    (λ document shown. shown ∙ ap (λ (all : List Data). array (items_of all)) (sym (map-map (space_fields c.args.runs.now) listing_of c.args.spaces.now)))
    c.each_space.ensures
