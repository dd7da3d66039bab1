use Rattle.std.proofs.Common.{Some, None, sym, ap, ◌∙◌}
use Rattle.std.specs.Option.{option_map}
use Rattle.sd_pagetable.specs.Nested.{inside}
use Rattle.sd_pagetable.specs.Ranges.{bare_page}
use Rattle.sd_pagetable.proofs.ForkLemmas.{shares_none, shares_next, shares_all, first_shared, less_remains, parent_page, child_page, page_of_first}
use Rattle.sd_pagetable.proofs.ranges.share_pages.Goals as goal

pub loop-found-init : goal.loop-found-init
loop-found-init c = record { done = shares_none c.args.paging.now c.args.parent c.args.child c.requires.apart c.requires.parent c.requires.child c.requires.copied }

pub inherit-requires-clause-copied : goal.inherit-requires-clause-copied
inherit-requires-clause-copied c =
    let first = first_shared c.args.paging.now c.loop-found.paging c.args.parent c.args.child c.loop-found.start (Some c.in-Some.found.0) c.requires.apart c.loop-found.invariant.done c.in-Some.ensures.first in
    let x = page_of_first (inside c.args.paging.now.spaces c.args.parent) c.loop-found.start c.in-Some.found.0 first in
    child_page c.args.paging.now c.loop-found.paging c.args.parent c.args.child c.in-Some.found.0 c.loop-found.start x.0 c.loop-found.invariant.done first.1 x.1
    ∙ sym (ap (option_map bare_page) (parent_page c.args.paging.now c.loop-found.paging c.args.parent c.args.child c.in-Some.found.0 c.loop-found.start x.0 c.requires.apart c.loop-found.invariant.done first.1 x.1))

pub loop-found-smaller : goal.loop-found-smaller
loop-found-smaller c =
    let first = first_shared c.args.paging.now c.loop-found.paging c.args.parent c.args.child c.loop-found.start (Some c.in-Some.found.0) c.requires.apart c.loop-found.invariant.done c.in-Some.ensures.first in
    less_remains (inside c.args.paging.now.spaces c.args.parent) c.loop-found.start c.in-Some.found.0 first

pub loop-found-preserved : goal.loop-found-preserved
loop-found-preserved c =
    let first = first_shared c.args.paging.now c.loop-found.paging c.args.parent c.args.child c.loop-found.start (Some c.in-Some.found.0) c.requires.apart c.loop-found.invariant.done c.in-Some.ensures.first in
    record { done = shares_next c.args.paging.now c.loop-found.paging c.inherit.new.self c.args.parent c.args.child c.in-Some.found.0 c.loop-found.start c.requires.apart c.loop-found.invariant.done first c.inherit.ensures }

pub returns : goal.returns
returns c = shares_all c.args.paging.now c.loop-found.paging c.args.parent c.args.child c.loop-found.start c.loop-found.invariant.done
    (first_shared c.args.paging.now c.loop-found.paging c.args.parent c.args.child c.loop-found.start None c.requires.apart c.loop-found.invariant.done c.in_default.ensures.first)
