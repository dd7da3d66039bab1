use Rattle.std.proofs.Common.{◌≡◌, ◌<◌, ◌∙◌, ◌++◌, ◌∷◌, [], List, None, Bor, sym, subst, ap}
use Rattle.std.proofs.lemmas.List.{map-append}
use Rattle.std.proofs.lemmas.Result.{IfOk-weaker}
use Rattle.std.proofs.lemmas.List.Elements.{All-contains}
use Rattle.sd_chain.specs.Catalog.{Opened, images}
use Rattle.sd_chain.specs.Chains.{IsChainOf}
use Rattle.sd_chain.proofs.Chains.{IsChainTo, opened_in, chain_begins, chain_ends, chain_goes_on}
use Rattle.sd_chain.proofs.Walks.{IsNext}
use Rattle.sd_chain.proofs.catalog.Catalog.chain.Goals as goal

pub loop-at-init : goal.loop-at-init
loop-at-init c = λ fall.
    subst (λ (list : List (Bor Opened)). IsChainTo c.args.self.now c.args.serial (opened_in list) c.image-at.result) (sym c.new-images.ensures.items)
    (chain_begins c.args.self.now c.args.serial c.image-at.result c.image-at.ensures)

pub loop-at-preserved : goal.loop-at-preserved
loop-at-preserved c = λ fall.
    let list : List (Bor Opened) = c.loop-at.images.items in
    let was = subst (IsChainTo c.args.self.now c.args.serial (opened_in list)) c.in-Some.is (c.loop-at.invariant fall) in
    let is : IsNext c.args.self.now c.in-Some.image.now c.parent-at.result = record { named = c.parent-at.ensures.named; all = c.parent-at.ensures.all } in
    let falls = All-contains (λ (i : Opened). i.header.parent < i.header.stands_for) (images c.args.self.now) c.in-Some.image.now fall was.member in
    let more : opened_in c.push.new.self.items ≡ opened_in list ++ c.in-Some.image.now ∷ [] =
    ap opened_in c.in_ok-push.ensures.items ∙ map-append (λ (i : Bor Opened). i.now) list (c.in-Some.image ∷ []) in
    subst (λ (xs : List Opened). IsChainTo c.args.self.now c.args.serial xs c.parent-at.result) (sym more)
    (chain_goes_on c.args.self.now c.args.serial (opened_in list) c.in-Some.image c.parent-at.result falls (c.sound.ensures.named_once c.in-Some.image.now.header.parent) was is)

pub returns : goal.returns
returns c = λ fall.
    let ended : IsChainTo c.args.self.now c.args.serial (opened_in c.loop-at.images.items) None = subst (IsChainTo c.args.self.now c.args.serial (opened_in c.loop-at.images.items)) c.in_default.is (c.loop-at.invariant fall) in
    let is : IsChainOf c.args.self.now c.args.serial (opened_in c.loop-at.images.items) = chain_ends c.args.self.now c.args.serial (opened_in c.loop-at.images.items) ended in
    IfOk-weaker c.new.result _ _ (λ chain same. subst (IsChainOf c.args.self.now c.args.serial) (sym same) is) c.new.ensures
