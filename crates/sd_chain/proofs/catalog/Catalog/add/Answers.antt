use Rattle.std.proofs.Common.{rules, Some, subst}
use Rattle.sd_chain.specs.Catalog.{AreInOrder, Changes}
use Rattle.sd_chain.proofs.Members.{no_others}
use Rattle.sd_chain.proofs.Places.{own_kept}
use Rattle.sd_chain.proofs.catalog.Catalog.add.Goals as goal

pub invariant_of-self : goal.invariant_of-self
invariant_of-self c = record {
  distinct = c.put_image.ensures.distinct c.self.invariant.distinct;
  sorted = c.put_image.ensures.sorted c.self.invariant.sorted;
  own = own_kept c.put_image.result
      (Changes c.self.inside.places.entries c.put_image.new.places.entries c.args.header.serial (Some (Some c.new-image.result)))
      c.self.inside.places.entries c.put_image.new.places.entries c.args.header.serial c.new-image.result c.self.invariant
      (λ changes. changes) c.put_image.ensures.changed c.put_image.ensures.err (search rules);
}

pub returns-clause-no_others : goal.returns-clause-no_others
returns-clause-no_others c =
    let was : AreInOrder c.args.self.now = subst AreInOrder c.self.view_is c.self.invariant in
    let is : AreInOrder c.put_image.new.places.entries = search rules in
    let changes : Changes c.args.self.now c.put_image.new.places.entries c.args.header.serial (Some (Some (record { slot = c.args.slot; header = c.args.header; spaces = c.args.table }))) = search rules in
    no_others c.args.self.now c.put_image.new.places.entries _ was is changes
