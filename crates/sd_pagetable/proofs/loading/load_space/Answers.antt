use Rattle.std.proofs.Common.{◌≡◌, ℕ, ◌∙◌, ap}
use Rattle.std.specs.FinMap as finmap
use Rattle.sd_pagetable.specs.Nested.{map_values, inside}
use Rattle.sd_pagetable.specs.Page.{plain_page}
use Rattle.sd_pagetable.specs.Contents.{Contents, plain_of}
use Rattle.sd_pagetable.proofs.TableLemmas.{map_values-empty}
use Rattle.sd_pagetable.proofs.PlainRanges.{plain_inside}
use Rattle.sd_pagetable.proofs.SnapshotLemmas.{filling_none, filling_hole, filling_few, filling_room, filling_next, filling_all}
use Rattle.sd_pagetable.proofs.loading.load_space.Goals as goal

-- a space without pages is seen as one
bare : (m : Contents) (space : ℕ) → inside m.spaces space ≡ finmap.empty → inside (plain_of m) space ≡ finmap.empty
bare m space h = plain_inside m space ∙ ap (map_values plain_page) h ∙ map_values-empty plain_page

pub loop-page-init : goal.loop-page-init
loop-page-init c = filling_none c.args.paging.now c.args.space c.args.pages.now.entries _ c.into_iter-page-iterator.ensures.into_iter_gives.0 c.into_iter-page-iterator.ensures.into_iter_gives.5 c.requires.begun c.requires.alive c.requires.bare

pub load-requires-clause-hole : goal.load-requires-clause-hole
load-requires-clause-hole c = filling_hole c.args.paging.now c.loop-page.paging c.args.space c.args.pages.now.entries c.loop-page.page-iterator _ c.in-Some.page.now c.in-Some.found.now c.loop-page.invariant c.in-Some.ensures.steps

pub load-requires-clause-few : goal.load-requires-clause-few
load-requires-clause-few c = filling_few c.args.paging.now c.loop-page.paging c.args.space c.args.pages.now.entries c.loop-page.page-iterator _ c.in-Some.page.now c.in-Some.found.now c.loop-page.invariant c.in-Some.ensures.steps (bare c.args.paging.now c.args.space c.requires.bare) c.requires.few

pub load-requires-clause-room : goal.load-requires-clause-room
load-requires-clause-room c = filling_room c.args.paging.now c.loop-page.paging c.args.space c.args.pages.now.entries c.loop-page.page-iterator _ c.in-Some.page.now c.in-Some.found.now c.loop-page.invariant c.in-Some.ensures.steps (bare c.args.paging.now c.args.space c.requires.bare) c.requires.room

pub loop-page-preserved : goal.loop-page-preserved
loop-page-preserved c = filling_next c.args.paging.now c.loop-page.paging c.args.space c.args.pages.now.entries c.loop-page.page-iterator _ c.in-Some.page.now c.in-Some.found.now c.loop-page.invariant c.in-Some.ensures.steps c.load.new.self c.in_ok-load.ensures

pub returns-clause-memory : goal.returns-clause-memory
returns-clause-memory c = filling_all c.args.paging.now c.loop-page.paging c.args.space c.args.pages.now.entries c.loop-page.page-iterator c.loop-page.invariant c.in-None.ensures.steps.0
