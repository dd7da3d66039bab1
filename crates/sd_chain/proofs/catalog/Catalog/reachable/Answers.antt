use Rattle.std.proofs.Common.{◌≡◌, ◌∙◌, ◌++◌, ◌∷◌, [], List, ℕ, ◌<◌, sym, subst, ap}
use Rattle.std.proofs.lemmas.List.Elements.{All-contains}
use Rattle.sd_image.specs.declared.header.Header.{Header}
use Rattle.sd_chain.specs.Catalog.{AreInOrder, Opened, images}
use Rattle.sd_chain.proofs.Walks.{IsWalk, IsWayTo, IsNext, walk_begins, walk_goes_on, chain_once, walk_ends, way_begins, way_goes_on}
use Rattle.sd_chain.proofs.catalog.Catalog.reachable.Goals as goal

pub loop-next-init : goal.loop-next-init
loop-next-init c = λ fall. (
  subst (λ (list : List ℕ). IsWalk c.args.self.now c.args.serial list c.image-next.result) (sym c.new-reached.ensures.items)
      (walk_begins c.args.self.now c.args.serial c.image-next.result (subst AreInOrder c.self.view_is c.self.invariant) c.image-next.ensures),
  subst (λ (list : List ℕ). IsWayTo c.args.self.now c.args.serial list c.image-next.result) (sym c.new-reached.ensures.items)
      (way_begins c.args.self.now c.args.serial c.image-next.result c.image-next.ensures),
)

pub loop-next-preserved : goal.loop-next-preserved
loop-next-preserved c = λ fall.
    let list : List ℕ = c.loop-next.reached.items in
    let was = c.loop-next.invariant fall in
    let walk = subst (IsWalk c.args.self.now c.args.serial list) c.in-Some.is was.0 in
    let to = subst (IsWayTo c.args.self.now c.args.serial list) c.in-Some.is was.1 in
    let is : IsNext c.args.self.now c.in-Some.image.now c.parent-next.result = record { named = c.parent-next.ensures.named; all = c.parent-next.ensures.all } in
    let falls = All-contains (λ (i : Opened). i.header.parent < i.header.stands_for) (images c.args.self.now) c.in-Some.image.now fall walk.member in
    let more : c.push.new.self.items ≡ list ++ c.in-Some.image.now.header.serial ∷ [] =
    c.in_ok-push.ensures.items ∙ ap (λ (h : Header). list ++ h.serial ∷ []) c.header.ensures in (
      subst (λ (xs : List ℕ). IsWalk c.args.self.now c.args.serial xs c.parent-next.result) (sym more)
          (walk_goes_on c.args.self.now c.args.serial list c.in-Some.image c.parent-next.result (subst AreInOrder c.self.view_is c.self.invariant) fall walk is),
      subst (λ (xs : List ℕ). IsWayTo c.args.self.now c.args.serial xs c.parent-next.result) (sym more)
          (way_goes_on c.args.self.now c.args.serial list c.in-Some.image c.parent-next.result falls to is),
    )

pub returns-clause-reached : goal.returns-clause-reached
returns-clause-reached c = λ fall reached.
    walk_ends c.args.self.now c.args.serial c.loop-next.reached.items
    (subst (IsWalk c.args.self.now c.args.serial c.loop-next.reached.items) c.in_default.is (c.loop-next.invariant fall).0) reached

pub returns-clause-chain : goal.returns-clause-chain
returns-clause-chain c = λ fall.
    subst (IsWayTo c.args.self.now c.args.serial c.loop-next.reached.items) c.in_default.is (c.loop-next.invariant fall).1

pub returns-clause-once : goal.returns-clause-once
returns-clause-once c = λ fall.
    chain_once c.args.self.now c.args.serial c.loop-next.reached.items (subst AreInOrder c.self.view_is c.self.invariant) fall
    (subst (IsWayTo c.args.self.now c.args.serial c.loop-next.reached.items) c.in_default.is (c.loop-next.invariant fall).1)
