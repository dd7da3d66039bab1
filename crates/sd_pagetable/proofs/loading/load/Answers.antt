use Rattle.sd_areas.specs.Memory.{memory_of}
use Rattle.sd_pagetable.proofs.LoadingLemmas.{loading_none, loading_fresh, loading_least, loading_greatest, loading_few, loading_room, loading_next, loading_all, added_alive, added_bare, added_begun}
use Rattle.sd_pagetable.proofs.loading.load.Goals as goal

pub loop-space-init : goal.loop-space-init
loop-space-init c = loading_none c.args.paging.now c.args.snapshot.now _ c.into_iter-space-iterator.ensures.into_iter_gives.0 c.into_iter-space-iterator.ensures.into_iter_gives.5 c.requires.bare

pub add_space-requires-clause-fresh : goal.add_space-requires-clause-fresh
add_space-requires-clause-fresh c = loading_fresh c.args.paging.now.pool (memory_of c.args.snapshot.now) c.loop-space.paging c.loop-space.space-iterator _ c.in-Some.space.now c.in-Some.pages.now c.loop-space.invariant c.in-Some.ensures.steps c.requires.due

pub add_space-requires-clause-least : goal.add_space-requires-clause-least
add_space-requires-clause-least c = loading_least c.args.paging.now.pool (memory_of c.args.snapshot.now) c.loop-space.paging c.loop-space.space-iterator _ c.in-Some.space.now c.in-Some.pages.now c.loop-space.invariant c.in-Some.ensures.steps c.requires.due

pub add_space-requires-clause-greatest : goal.add_space-requires-clause-greatest
add_space-requires-clause-greatest c = loading_greatest c.args.paging.now.pool (memory_of c.args.snapshot.now) c.loop-space.paging c.loop-space.space-iterator _ c.in-Some.space.now c.in-Some.pages.now c.loop-space.invariant c.in-Some.ensures.steps c.requires.due

pub load_space-requires-clause-alive : goal.load_space-requires-clause-alive
load_space-requires-clause-alive c = (let dead = loading_fresh c.args.paging.now.pool (memory_of c.args.snapshot.now) c.loop-space.paging c.loop-space.space-iterator _ c.in-Some.space.now c.in-Some.pages.now c.loop-space.invariant c.in-Some.ensures.steps c.requires.due in
    added_alive c.loop-space.paging c.add_space.new.self c.in-Some.space.now dead c.in_ok-add_space.ensures.ok)

pub load_space-requires-clause-bare : goal.load_space-requires-clause-bare
load_space-requires-clause-bare c = (let dead = loading_fresh c.args.paging.now.pool (memory_of c.args.snapshot.now) c.loop-space.paging c.loop-space.space-iterator _ c.in-Some.space.now c.in-Some.pages.now c.loop-space.invariant c.in-Some.ensures.steps c.requires.due in
    added_bare c.loop-space.paging c.add_space.new.self c.in-Some.space.now dead c.in_ok-add_space.ensures.ok)

pub load_space-requires-clause-begun : goal.load_space-requires-clause-begun
load_space-requires-clause-begun c = (let dead = loading_fresh c.args.paging.now.pool (memory_of c.args.snapshot.now) c.loop-space.paging c.loop-space.space-iterator _ c.in-Some.space.now c.in-Some.pages.now c.loop-space.invariant c.in-Some.ensures.steps c.requires.due in
    added_begun c.loop-space.paging c.add_space.new.self c.in-Some.space.now dead c.in_ok-add_space.ensures.ok c.loop-space.invariant.begun)

pub load_space-requires-clause-few : goal.load_space-requires-clause-few
load_space-requires-clause-few c = loading_few c.args.paging.now.pool (memory_of c.args.snapshot.now) c.loop-space.paging c.loop-space.space-iterator _ c.in-Some.space.now c.in-Some.pages.now c.loop-space.invariant c.in-Some.ensures.steps c.requires.due c.add_space.new.self c.in_ok-add_space.ensures.ok

pub load_space-requires-clause-room : goal.load_space-requires-clause-room
load_space-requires-clause-room c = loading_room c.args.paging.now.pool (memory_of c.args.snapshot.now) c.loop-space.paging c.loop-space.space-iterator _ c.in-Some.space.now c.in-Some.pages.now c.loop-space.invariant c.in-Some.ensures.steps c.requires.due c.add_space.new.self c.in_ok-add_space.ensures.ok

pub loop-space-preserved : goal.loop-space-preserved
loop-space-preserved c = loading_next c.args.paging.now.pool (memory_of c.args.snapshot.now) c.loop-space.paging c.loop-space.space-iterator _ c.in-Some.space.now c.in-Some.pages.now c.loop-space.invariant c.in-Some.ensures.steps c.requires.due c.add_space.new.self c.in_ok-add_space.ensures.ok
    c.load_space.new.paging c.in_ok-load_space.ensures.begun c.in_ok-load_space.ensures.pool c.in_ok-load_space.ensures.memory

pub returns : goal.returns
returns c = loading_all c.args.paging.now.pool (memory_of c.args.snapshot.now) c.loop-space.paging c.loop-space.space-iterator c.loop-space.invariant c.in-None.ensures.steps.0
