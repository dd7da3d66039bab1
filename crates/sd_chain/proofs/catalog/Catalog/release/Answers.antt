use Rattle.std.proofs.Common.{rules, sym, subst, filter, not, nat_eq, None}
use Rattle.indexmap.proofs.CallerLemmas.{filter-RetainsPairs}
use Rattle.sd_chain.specs.Catalog.{Places, AreInOrder, Changes}
use Rattle.sd_chain.proofs.Places.{order_without_key, without_key}
use Rattle.sd_chain.proofs.catalog.Catalog.release.Goals as goal

pub invariant_of-self : goal.invariant_of-self
invariant_of-self c =
    let is = filter-RetainsPairs _ (λ e. not (nat_eq e.0 c.args.serial)) _ (λ k v b w g call. search rules) _ _ c.retain.ensures.filtered in
    subst AreInOrder (sym is) (order_without_key _ c.args.serial c.self.invariant)

pub returns-then-is_held-clause-released : goal.returns-then-is_held-clause-released
returns-then-is_held-clause-released c = λ held.
    let is = filter-RetainsPairs _ (λ e. not (nat_eq e.0 c.args.serial)) _ (λ k v b w g call. search rules) _ _ c.retain.ensures.filtered in
    subst (λ (es : Places). Changes c.args.self.now es c.args.serial None) (sym is)
    (subst (λ (es : Places). Changes es (filter (λ e. not (nat_eq e.0 c.args.serial)) c.self.inside.places.entries) c.args.serial None) c.self.view_is
    (without_key c.self.inside.places.entries c.args.serial))
