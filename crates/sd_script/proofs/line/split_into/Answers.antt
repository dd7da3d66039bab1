-- Each space ends a field.
use Rattle.std.proofs.Common.{◌≡◌, ◌∙◌, take, rules, refl, subst, arith}
use Rattle.std.proofs.lemmas.List.{length-set}
use Rattle.sd_script.proofs.Fields.{Splits, splits-less, splits-put, splits-last, splits-many}
use Rattle.sd_script.proofs.line.split_into.Goals as goal

pub loop-field-smaller : goal.loop-field-smaller
loop-field-smaller c =
    let first = c.in-Some.ensures.first in
    splits-less c.loop-field.rest.now c.in-Some.others.now first.2 first.1

pub returns-then-count-eq-MOST_FIELDS-clause-more : goal.returns-then-count-eq-MOST_FIELDS-clause-more
returns-then-count-eq-MOST_FIELDS-clause-more c =
    let line = c.args.line.now in
    let rest = c.loop-field.rest.now in
    let first = c.in-Some.ensures.first in
    let long = c.loop-field.invariant.2 in
    let four : c.loop-field.count ≡ 4 = (let last = c.if-count-eq-MOST_FIELDS.true in omega arith) in
    splits-many line rest c.loop-field.fields (omega arith)
    (subst (λ n. Splits line (take n c.loop-field.fields) rest) four c.loop-field.invariant.3) first.2

pub loop-field-preserved : goal.loop-field-preserved
loop-field-preserved c =
    let first = c.in-Some.ensures.first in
    let small = c.loop-field.invariant.1 in
    let long = c.loop-field.invariant.2 in
    let before = c.if-count-eq-MOST_FIELDS.false in (
      search rules,
      omega arith,
      length-set c.loop-field.fields c.loop-field.count c.in-Some.field ∙ long,
      splits-put c.args.line.now c.loop-field.rest.now c.loop-field.fields c.loop-field.count c.in-Some.field c.in-Some.others.now (omega arith) c.loop-field.invariant.3 first.2 first.0 first.1,
    )

pub returns-clause-split : goal.returns-clause-split
returns-clause-split c =
    let none = c.in_default.ensures.last in
    let small = c.loop-field.invariant.1 in
    let long = c.loop-field.invariant.2 in
    splits-last c.args.line.now c.loop-field.rest.now c.loop-field.fields c.loop-field.count c.loop-field.rest (omega arith) c.loop-field.invariant.3 none refl

pub returns-then-count-eq-MOST_FIELDS-clause-kept : goal.returns-then-count-eq-MOST_FIELDS-clause-kept
returns-then-count-eq-MOST_FIELDS-clause-kept c = c.loop-field.invariant.2

pub returns-clause-kept : goal.returns-clause-kept
returns-clause-kept c = length-set c.loop-field.fields c.loop-field.count c.loop-field.rest ∙ c.loop-field.invariant.2
