use Rattle.std.proofs.Common.{rules, sym, subst, ◌≡◌, ◌∙◌, ap}
use Rattle.indexmap.proofs.CallerLemmas.{filter-RetainsPairs}
use Rattle.sd_chain.specs.Catalog.{Places, AreInOrder, place_of, is_elsewhere, without_slot}
use Rattle.sd_chain.proofs.Places.{order_without_slot, removed}
use Rattle.sd_chain.proofs.catalog.Catalog.remove.Goals as goal

pub invariant_of-self : goal.invariant_of-self
invariant_of-self c =
    let is = filter-RetainsPairs _ (λ e. is_elsewhere c.args.slot e.1) _ (λ k v b w g call. search rules) _ _ c.retain.ensures.filtered in
    subst AreInOrder (sym is) (order_without_slot _ c.args.slot c.self.invariant)

pub returns : goal.returns
returns c =
    let is = filter-RetainsPairs _ (λ e. is_elsewhere c.args.slot e.1) _ (λ k v b w g call. search rules) _ _ c.retain.ensures.filtered in
    λ serial. subst (λ (es : Places). place_of es serial ≡ without_slot c.args.slot (place_of c.args.self.now serial)) (sym is)
    (removed _ c.args.slot c.self.invariant serial ∙ ap (λ (es : Places). without_slot c.args.slot (place_of es serial)) c.self.view_is)
