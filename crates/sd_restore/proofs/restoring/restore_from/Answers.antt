use Rattle.std.proofs.Common.{◌≡◌, ◌+◌, ◌≤◌, ℕ, List, None, Some, ap, sym, subst, arith}
use Rattle.sd_areas.specs.Memory.{memory_of}
use Rattle.sd_areas.specs.declared.snapshot.Snapshot.{Snapshot}
use Rattle.sd_image.specs.Shows.{Shows}
use Rattle.sd_chain.specs.Store.{FindsTip}
use Rattle.sd_restore.specs.At.{StandsFor}
use Rattle.sd_restore.specs.Faulty.{IsBrokenChain}
use Rattle.sd_restore.specs.Mapped.{mapped_pages}
use Rattle.sd_restore.specs.Placed.{MeetsBreak}
use Rattle.sd_restore.proofs.AtLemmas.{broken_tip, err_more, ok_both}
use Rattle.sd_restore.proofs.CallLemmas.{tip_within}
use Rattle.sd_restore.proofs.ShowLemmas.{no_break, none_is_no_moment, shows_none, tip_shows}
use Rattle.sd_restore.proofs.restoring.restore_from.Goals as goal

pub returns-in_default-clause-saved : goal.returns-in_default-clause-saved
returns-in_default-clause-saved g c = λ moment catalog shows _.
    let contents : List (List ℕ) = g.D.Disk.contents c.args.disk.now in
    let finds : FindsTip contents None = subst (FindsTip contents) c.in_default.is (c.tip.ensures.store contents catalog) in
    none_is_no_moment moment (c.shown_once.ensures contents None (Some moment) (shows_none contents finds) shows)

pub returns-clause-shown : goal.returns-clause-shown
returns-clause-shown g c = λ honest catalog.
    let contents : List (List ℕ) = g.D.Disk.contents c.args.disk.now in
    let tip = c.in-Some.tip.now in
    let finds : FindsTip contents (Some c.in-Some.tip) = subst (FindsTip contents) c.in-Some.is (c.tip.ensures.store contents catalog) in
    ok_both (λ snapshot. snapshot.checkpoint ≡ tip.header.checkpoint) (λ snapshot. StandsFor contents tip (memory_of snapshot))
    (λ snapshot. Shows contents (Some (snapshot.checkpoint, memory_of snapshot))) c.restore_image.result
    (λ snapshot number stands. subst (λ n. Shows contents (Some (n, memory_of snapshot))) (sym number) (tip_shows contents c.in-Some.tip (memory_of snapshot) finds stands))
    c.restore_image.ensures.checkpoint (c.restore_image.ensures.memory honest catalog)

pub returns-clause-broken : goal.returns-clause-broken
returns-clause-broken g c = λ catalog.
    let contents : List (List ℕ) = g.D.Disk.contents c.args.disk.now in
    let tip = c.in-Some.tip.now in
    let finds : FindsTip contents (Some c.in-Some.tip) = subst (FindsTip contents) c.in-Some.is (c.tip.ensures.store contents catalog) in
    err_more (MeetsBreak c.args.catalog.now tip.header.serial (mapped_pages tip.spaces)) (IsBrokenChain contents) c.restore_image.result
    (λ slot reason met. broken_tip contents c.args.catalog.now c.in-Some.tip slot reason c.sound.ensures catalog finds c.in-Some.ensures.newest met)
    c.restore_image.ensures.broken

pub returns-clause-good : goal.returns-clause-good
returns-clause-good g c = λ shown catalog shows.
    let contents : List (List ℕ) = g.D.Disk.contents c.args.disk.now in
    let tip = c.in-Some.tip.now in
    let finds : FindsTip contents (Some c.in-Some.tip) = subst (FindsTip contents) c.in-Some.is (c.tip.ensures.store contents catalog) in
    err_more (MeetsBreak c.args.catalog.now tip.header.serial (mapped_pages tip.spaces)) (λ slot reason. ⊥) c.restore_image.result
    (λ slot reason met. no_break c.one_store.ensures c.tip_once.ensures contents c.args.catalog.now c.in-Some.tip slot reason shown catalog finds met shows)
    c.restore_image.ensures.broken

pub returns-clause-calls : goal.returns-clause-calls
returns-clause-calls g c = λ count catalog within.
    let contents : List (List ℕ) = g.D.Disk.contents c.args.disk.now in
    let finds : FindsTip contents (Some c.in-Some.tip) = subst (FindsTip contents) c.in-Some.is (c.tip.ensures.store contents catalog) in
    let few = tip_within contents c.in-Some.tip count finds within in
    let made = c.restore_image.ensures.calls in
    omega (arith, few, made)

pub returns-clause-wanted : goal.returns-clause-wanted
returns-clause-wanted g c = λ _. (c.in-Some.tip.now, c.in-Some.ensures.newest)
