use Rattle.std.proofs.Common.{◌≡◌, ◌∙◌, ℕ, List, map, ap, sym, subst}
use Rattle.sd_image.specs.declared.table.SpaceTable.{SpaceTable}
use Rattle.sd_image.specs.Table.{IsTable, Listed, listing_of}
use Rattle.sd_chain.specs.Passes.{IsFirstPageFrom, IsNextOrNone}
use Rattle.sd_chain.proofs.NextPages.{next_of}
use Rattle.sd_chain.proofs.image.OpenImage.next_page.Goals as goal

pub returns : goal.returns
returns c = λ table.
    let items : List SpaceTable = c.deref.result.now in
    let are : map listing_of items ≡ c.args.self.now.spaces = ap (map listing_of) c.deref.ensures.value ∙ c.table.ensures ∙ ap (λ (o : _). o.spaces) c.self.view_is in
    let first = c.first_from.ensures c.args.self.now.header (subst (IsTable c.args.self.now.header) (sym are) table) in
    subst (λ (spaces : List Listed). IsNextOrNone spaces c.args.after c.first_from.result) are
    (next_of items c.args.after c.first_from.result (subst (λ (place : ℕ × ℕ). IsFirstPageFrom items (place.0, place.1) c.first_from.result) c.place_after-space.ensures first))
