use Rattle.std.proofs.Common.{◌≡◌, ◌+◌, List, Some, refl, sym, ◌∙◌, subst, arith}
use Rattle.std.proofs.lemmas.List.{length-set}
use Rattle.std.specs.List.{slice_get}
use Rattle.std.specs.Prelude.{IfSome}
use Rattle.sd_chain.specs.declared.found.Found.TheVariants as found
use Rattle.sd_chain.specs.declared.trace.Trace.TheVariants as trace
use Rattle.sd_chain.specs.declared.way.Way.{Way}
use Rattle.sd_chain.specs.declared.way.Way.TheVariants as way
use Rattle.sd_chain.specs.Catalog.{Opened}
use Rattle.sd_chain.specs.Chains.{AreAlike, AreBelowLimit, IsTraced, trace_on}
use Rattle.sd_chain.proofs.Chains.{IsFollowed, data_below, follow_begins, follow_finds_data, follow_finds_zeros, follow_goes_on, follow_stops, image_at, no_image_at, opened_in, table_here}
use Rattle.sd_chain.proofs.chain.trace_pages.Goals as goal

pub loop-k-init : goal.loop-k-init
loop-k-init c = record {
  some = c.requires.some;
  within = omega arith;
  spots = c.requires.spots;
  missing = refl;
  followed = λ places serial good is. follow_begins places serial (opened_in c.args.images.now) c.args.space c.args.page c.args.count is;
}

pub returns-in_default-clause-traced : goal.returns-in_default-clause-traced
returns-in_default-clause-traced c = λ places serial good is j less.
    let i = c.index-images-k.result in
    let chain : List Opened = opened_in c.args.images.now in
    let was = c.loop-k.invariant.followed places serial good is in
    let got : slice_get chain c.loop-k.k ≡ Some i.now = image_at c.args.images.now c.loop-k.k i c.loop-k-test.true c.index-images-k.is in
    let table = table_here places serial chain c.args.space c.args.page c.loop-k.k c.loop-k.count c.loop-k.trace i.now c.loop-k.invariant.some good was got in
    follow_stops places serial chain c.args.space c.args.page c.loop-k.k c.loop-k.count c.loop-k.trace i.now j c.loop-k.invariant.some was got
    (c.in_default.ensures.none table refl) less

pub returns-in_default-clause-below : goal.returns-in_default-clause-below
returns-in_default-clause-below c = λ places serial good is. subst (λ o. IfSome o (λ there. AreBelowLimit there 1)) (sym c.loop-k.invariant.missing) tt

pub returns-in-Data-clause-some : goal.returns-in-Data-clause-some
returns-in-Data-clause-some c = omega (arith, c.min-count.ensures, c.loop-k.invariant.some, c.in-Some.ensures.some)

pub returns-in-Data-clause-traced : goal.returns-in-Data-clause-traced
returns-in-Data-clause-traced c = λ places serial good is j less.
    let i = c.index-images-k.result in
    let chain : List Opened = opened_in c.args.images.now in
    let was = c.loop-k.invariant.followed places serial good is in
    let got : slice_get chain c.loop-k.k ≡ Some i.now = image_at c.args.images.now c.loop-k.k i c.loop-k-test.true c.index-images-k.is in
    let table = table_here places serial chain c.args.space c.args.page c.loop-k.k c.loop-k.count c.loop-k.trace i.now c.loop-k.invariant.some good was got in
    let alike : AreAlike i.now.spaces (c.args.space, c.args.page) (way.Data c.in-Data.place) c.in-Some.stretch.count =
    subst (λ (w : Way). AreAlike i.now.spaces (c.args.space, c.args.page) w c.in-Some.stretch.count) c.in-Data.is (c.in-Some.ensures.alike table) in
    subst (λ slot. IsTraced places serial (c.args.space, c.args.page + j) (trace_on (trace.Found (found.Data slot c.offset_of-offset.result)) j)) (sym c.slot-slot.ensures)
    (follow_finds_data c.few_pages.ensures c.one_kind.ensures c.one_place.ensures places serial chain c.args.space c.args.page c.loop-k.k c.loop-k.count c.loop-k.trace i.now c.in-Data.place c.offset_of-offset.result
    c.in-Some.stretch.count c.min-count.result j c.loop-k.invariant.some good was got alike (omega (arith, c.min-count.ensures)) c.offset_of-offset.ensures less)

pub returns-in-Data-clause-below : goal.returns-in-Data-clause-below
returns-in-Data-clause-below c = λ places serial good is.
    let i = c.index-images-k.result in
    let chain : List Opened = opened_in c.args.images.now in
    let was = c.loop-k.invariant.followed places serial good is in
    let got : slice_get chain c.loop-k.k ≡ Some i.now = image_at c.args.images.now c.loop-k.k i c.loop-k-test.true c.index-images-k.is in
    let table = table_here places serial chain c.args.space c.args.page c.loop-k.k c.loop-k.count c.loop-k.trace i.now c.loop-k.invariant.some good was got in
    let alike : AreAlike i.now.spaces (c.args.space, c.args.page) (way.Data c.in-Data.place) c.in-Some.stretch.count =
    subst (λ (w : Way). AreAlike i.now.spaces (c.args.space, c.args.page) w c.in-Some.stretch.count) c.in-Data.is (c.in-Some.ensures.alike table) in
    data_below c.few_pages.ensures places serial chain c.args.space c.args.page c.loop-k.k c.loop-k.count c.loop-k.trace i.now c.in-Data.place c.offset_of-offset.result
    c.in-Some.stretch.count c.min-count.result c.loop-k.invariant.some good was got alike (omega (arith, c.min-count.ensures)) c.offset_of-offset.ensures

pub returns-in-Zero-clause-some : goal.returns-in-Zero-clause-some
returns-in-Zero-clause-some c = omega (arith, c.min-count.ensures, c.loop-k.invariant.some, c.in-Some.ensures.some)

pub returns-in-Zero-clause-traced : goal.returns-in-Zero-clause-traced
returns-in-Zero-clause-traced c = λ places serial good is j less.
    let i = c.index-images-k.result in
    let chain : List Opened = opened_in c.args.images.now in
    let was = c.loop-k.invariant.followed places serial good is in
    let got : slice_get chain c.loop-k.k ≡ Some i.now = image_at c.args.images.now c.loop-k.k i c.loop-k-test.true c.index-images-k.is in
    let table = table_here places serial chain c.args.space c.args.page c.loop-k.k c.loop-k.count c.loop-k.trace i.now c.loop-k.invariant.some good was got in
    let alike : AreAlike i.now.spaces (c.args.space, c.args.page) way.Zero c.in-Some.stretch.count =
    subst (λ (w : Way). AreAlike i.now.spaces (c.args.space, c.args.page) w c.in-Some.stretch.count) c.in-Zero.is (c.in-Some.ensures.alike table) in
    follow_finds_zeros c.one_kind.ensures c.one_place.ensures places serial chain c.args.space c.args.page c.loop-k.k c.loop-k.count c.loop-k.trace i.now
    c.in-Some.stretch.count c.min-count.result j c.loop-k.invariant.some good was got alike (omega (arith, c.min-count.ensures)) less

pub loop-k-preserved : goal.loop-k-preserved
loop-k-preserved c = record {
  some = omega (arith, c.min-count.ensures, c.loop-k.invariant.some, c.in-Some.ensures.some);
  within = omega (arith, c.min-count.ensures, c.loop-k.invariant.within);
  spots = length-set c.loop-k.spots c.loop-k.k c.in-Some.stretch.spot ∙ c.loop-k.invariant.spots;
  missing = refl;
  followed = λ places serial good is.
      let i = c.index-images-k.result in
      let chain : List Opened = opened_in c.args.images.now in
      let was = c.loop-k.invariant.followed places serial good is in
      let got : slice_get chain c.loop-k.k ≡ Some i.now = image_at c.args.images.now c.loop-k.k i c.loop-k-test.true c.index-images-k.is in
      let table = table_here places serial chain c.args.space c.args.page c.loop-k.k c.loop-k.count c.loop-k.trace i.now c.loop-k.invariant.some good was got in
      let alike : AreAlike i.now.spaces (c.args.space, c.args.page) way.Parent c.in-Some.stretch.count =
      subst (λ (w : Way). AreAlike i.now.spaces (c.args.space, c.args.page) w c.in-Some.stretch.count) c.in-Parent.is (c.in-Some.ensures.alike table) in
      subst (λ slot. IsFollowed places serial chain c.args.space c.args.page (c.loop-k.k + 1) c.min-count.result (trace.Broken slot)) (sym c.slot.ensures)
      (follow_goes_on c.one_kind.ensures c.one_place.ensures places serial chain c.args.space c.args.page c.loop-k.k c.loop-k.count c.loop-k.trace i.now
      c.in-Some.stretch.count c.min-count.result c.loop-k.invariant.some good is was got alike (omega (arith, c.min-count.ensures)));
}

pub returns-clause-traced : goal.returns-clause-traced
returns-clause-traced c = λ places serial good is j less.
    (c.loop-k.invariant.followed places serial good is).done (no_image_at c.args.images.now c.loop-k.k c.loop-k-test.false) j less

pub returns-clause-below : goal.returns-clause-below
returns-clause-below c = λ places serial good is. subst (λ o. IfSome o (λ there. AreBelowLimit there c.loop-k.count)) (sym c.loop-k.invariant.missing) tt
