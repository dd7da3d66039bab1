use Rattle.std.proofs.Common.{ℕ, List, sym, subst}
use Rattle.sd_chain.specs.Catalog.{images}
use Rattle.sd_chain.proofs.CheckpointLemmas.{IsListing, listing_begins, listing_ends, listing_more}
use Rattle.sd_chain.proofs.checkpoints.checkpoints_of.Goals as goal

pub loop-next-init : goal.loop-next-init
loop-next-init c =
    subst (λ (numbers : List ℕ). IsListing (images c.args.places.now.entries) numbers c.next_of-next.result) (sym c.new-numbers.ensures.items)
    (listing_begins (images c.args.places.now.entries) c.next_of-next.result c.next_of-next.ensures)

pub loop-next-preserved : goal.loop-next-preserved
loop-next-preserved c =
    subst (λ (numbers : List ℕ). IsListing (images c.args.places.now.entries) numbers c.next_of-next-in-Some.result) (sym c.in_ok-push.ensures.items)
    (listing_more (images c.args.places.now.entries) c.loop-next.numbers.items c.in-Some.number c.next_of-next-in-Some.result
    (subst (IsListing (images c.args.places.now.entries) c.loop-next.numbers.items) c.in-Some.is c.loop-next.invariant) c.next_of-next-in-Some.ensures)

pub returns : goal.returns
returns c =
    listing_ends (images c.args.places.now.entries) c.loop-next.numbers.items
    (subst (IsListing (images c.args.places.now.entries) c.loop-next.numbers.items) c.in_default.is c.loop-next.invariant)
