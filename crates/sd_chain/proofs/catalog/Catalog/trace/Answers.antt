use Rattle.std.proofs.Common.{rules, ◌≡◌, Some, subst}
use Rattle.sd_chain.specs.declared.trace.Trace.TheVariants as trace
use Rattle.sd_chain.specs.Catalog.{AreInOrder, place_of}
use Rattle.sd_chain.specs.Ways.{found_in}
use Rattle.sd_chain.proofs.Traces.{traced_none, traced_some, resolved_by}
use Rattle.sd_chain.proofs.Walks.{member_of}
use Rattle.sd_chain.proofs.Stores.{held_by, inside_by, are_images}
use Rattle.sd_chain.proofs.catalog.Catalog.trace.Goals as goal

pub returns-in_default-clause-held : goal.returns-in_default-clause-held
returns-in_default-clause-held c = λ contents all catalog slots.
    let traced = traced_none c.args.self.now c.args.serial (c.args.space, c.args.page) (λ i there. search rules) in
    held_by c.page_in_file.ensures contents all c.args.self.now c.args.serial (c.args.space, c.args.page) (found_in trace.Absent)
    (record { one = c.one_image.ensures; order = subst AreInOrder c.self.view_is c.self.invariant; catalog = catalog; slots = slots })
    (resolved_by c.args.self.now c.args.serial (c.args.space, c.args.page) trace.Absent traced.found)

pub returns-in-None-clause-held : goal.returns-in-None-clause-held
returns-in-None-clause-held c = λ contents all catalog slots.
    let traced = traced_none c.args.self.now c.args.serial (c.args.space, c.args.page) (λ i there. search rules) in
    held_by c.page_in_file.ensures contents all c.args.self.now c.args.serial (c.args.space, c.args.page) (found_in trace.Absent)
    (record { one = c.one_image.ensures; order = subst AreInOrder c.self.view_is c.self.invariant; catalog = catalog; slots = slots })
    (resolved_by c.args.self.now c.args.serial (c.args.space, c.args.page) trace.Absent traced.found)

pub returns-in-Some-place-clause-found : goal.returns-in-Some-place-clause-found
returns-in-Some-place-clause-found c = λ good.
    let there : place_of c.args.self.now c.args.serial ≡ Some (Some c.in-Some-place.image) = search rules in
    (traced_some c.args.self.now c.args.serial (c.args.space, c.args.page) c.in-Some-place.image c.follow.result there
    (c.follow.ensures good (member_of c.args.self.now c.args.serial c.in-Some-place.image there))).found

pub returns-in-Some-place-clause-broken : goal.returns-in-Some-place-clause-broken
returns-in-Some-place-clause-broken c = λ good.
    let there : place_of c.args.self.now c.args.serial ≡ Some (Some c.in-Some-place.image) = search rules in
    (traced_some c.args.self.now c.args.serial (c.args.space, c.args.page) c.in-Some-place.image c.follow.result there
    (c.follow.ensures good (member_of c.args.self.now c.args.serial c.in-Some-place.image there))).broken

pub returns-in-Some-place-clause-absent : goal.returns-in-Some-place-clause-absent
returns-in-Some-place-clause-absent c = λ good.
    let there : place_of c.args.self.now c.args.serial ≡ Some (Some c.in-Some-place.image) = search rules in
    (traced_some c.args.self.now c.args.serial (c.args.space, c.args.page) c.in-Some-place.image c.follow.result there
    (c.follow.ensures good (member_of c.args.self.now c.args.serial c.in-Some-place.image there))).absent

pub returns-in-Some-place-clause-held : goal.returns-in-Some-place-clause-held
returns-in-Some-place-clause-held c = λ contents all catalog slots.
    let there : place_of c.args.self.now c.args.serial ≡ Some (Some c.in-Some-place.image) = search rules in
    let order = subst AreInOrder c.self.view_is c.self.invariant in
    let good = are_images contents c.args.self.now order catalog in
    let traced = traced_some c.args.self.now c.args.serial (c.args.space, c.args.page) c.in-Some-place.image c.follow.result there
    (c.follow.ensures good (member_of c.args.self.now c.args.serial c.in-Some-place.image there)) in
    held_by c.page_in_file.ensures contents all c.args.self.now c.args.serial (c.args.space, c.args.page) (found_in c.follow.result)
    (record { one = c.one_image.ensures; order = order; catalog = catalog; slots = slots })
    (resolved_by c.args.self.now c.args.serial (c.args.space, c.args.page) c.follow.result traced.found)

pub returns-in-Some-place-clause-inside : goal.returns-in-Some-place-clause-inside
returns-in-Some-place-clause-inside c = λ contents catalog.
    let there : place_of c.args.self.now c.args.serial ≡ Some (Some c.in-Some-place.image) = search rules in
    let order = subst AreInOrder c.self.view_is c.self.invariant in
    let good = are_images contents c.args.self.now order catalog in
    let traced = traced_some c.args.self.now c.args.serial (c.args.space, c.args.page) c.in-Some-place.image c.follow.result there
    (c.follow.ensures good (member_of c.args.self.now c.args.serial c.in-Some-place.image there)) in
    inside_by c.page_in_file.ensures contents c.args.self.now c.args.serial (c.args.space, c.args.page) (found_in c.follow.result) order catalog
    (resolved_by c.args.self.now c.args.serial (c.args.space, c.args.page) c.follow.result traced.found)
