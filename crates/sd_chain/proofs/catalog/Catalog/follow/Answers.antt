use Rattle.std.proofs.Common.{◌≡◌, ◌∙◌, ◌+◌, ◌-◌, ◌*◌, ◌^◌, min, Some, None, ap, sym, subst, refl}
use Rattle.std.proofs.lemmas.List.Elements.{All-contains}
use Rattle.sd_image.specs.Table.{IsTable}
use Rattle.sd_chain.specs.declared.found.Found.TheVariants as found
use Rattle.sd_chain.specs.declared.trace.Trace.TheVariants as trace
use Rattle.sd_chain.specs.declared.way.Way.TheVariants as way
use Rattle.sd_chain.specs.Catalog.{Opened, images}
use Rattle.sd_chain.specs.Ways.{IsTraceOf}
use Rattle.sd_chain.proofs.Ways.{IsExact}
use Rattle.sd_chain.proofs.Traces.{IsWalked, ends_unlisted, ends_with_data, ends_with_zero, ends_without_parent, walk_goes_on}
use Rattle.sd_chain.proofs.catalog.Catalog.follow.Goals as goal

pub returns-in_default : goal.returns-in_default
returns-in_default c = λ good member.
    let walk = c.loop-way.invariant good member in
    let table = All-contains (λ (i : Opened). IsTable i.header i.spaces) (images c.args.self.now) c.loop-way.image.now good.tables walk.member in
    let exact : IsExact c.loop-way.image.now.spaces (c.args.space, c.args.page) None = subst (IsExact c.loop-way.image.now.spaces (c.args.space, c.args.page)) c.in_default.is (c.way.ensures table) in
    ends_unlisted c.args.self.now (c.args.space, c.args.page) c.args.image.now c.loop-way.image.now c.loop-way.unlisted walk exact

pub returns-in-Data : goal.returns-in-Data
returns-in-Data c = λ good member.
    let walk = c.loop-way.invariant good member in
    let table = All-contains (λ (i : Opened). IsTable i.header i.spaces) (images c.args.self.now) c.loop-way.image.now good.tables walk.member in
    let is : c.way.result ≡ Some (way.Data c.in-Data.place) = c.in-Some.is ∙ ap Some c.in-Data.is in
    let exact : IsExact c.loop-way.image.now.spaces (c.args.space, c.args.page) (Some (way.Data c.in-Data.place)) = subst (IsExact c.loop-way.image.now.spaces (c.args.space, c.args.page)) is (c.way.ensures table) in
    let offset : c.saturating_add-offset.result ≡ min (min (c.in-Data.place * 4096) (2 ^ 64 - 1) + 4096) (2 ^ 64 - 1) =
    c.saturating_add-offset.ensures ∙ ap (λ n. min (n + 4096) (2 ^ 64 - 1)) c.saturating_mul.ensures in
    let slot : c.slot.result ≡ c.loop-way.image.now.slot = c.slot.ensures in
    subst (λ n. IsTraceOf c.args.self.now (c.args.space, c.args.page) c.args.image.now (trace.Found (found.Data n c.saturating_add-offset.result))) (sym slot)
    (ends_with_data c.few_pages.ensures c.args.self.now (c.args.space, c.args.page) c.args.image.now c.loop-way.image.now c.loop-way.unlisted c.in-Data.place c.saturating_add-offset.result table walk exact offset)

pub returns-in-Zero : goal.returns-in-Zero
returns-in-Zero c = λ good member.
    let walk = c.loop-way.invariant good member in
    let table = All-contains (λ (i : Opened). IsTable i.header i.spaces) (images c.args.self.now) c.loop-way.image.now good.tables walk.member in
    let is : c.way.result ≡ Some way.Zero = c.in-Some.is ∙ ap Some c.in-Zero.is in
    let exact : IsExact c.loop-way.image.now.spaces (c.args.space, c.args.page) (Some way.Zero) = subst (IsExact c.loop-way.image.now.spaces (c.args.space, c.args.page)) is (c.way.ensures table) in
    ends_with_zero c.args.self.now (c.args.space, c.args.page) c.args.image.now c.loop-way.image.now c.loop-way.unlisted walk exact

pub returns-in_default-parent : goal.returns-in_default-parent
returns-in_default-parent c = λ good member.
    let walk = c.loop-way.invariant good member in
    let table = All-contains (λ (i : Opened). IsTable i.header i.spaces) (images c.args.self.now) c.loop-way.image.now good.tables walk.member in
    let is : c.way.result ≡ Some way.Parent = c.in-Some.is ∙ ap Some c.in-Parent.is in
    let exact : IsExact c.loop-way.image.now.spaces (c.args.space, c.args.page) (Some way.Parent) = subst (IsExact c.loop-way.image.now.spaces (c.args.space, c.args.page)) is (c.way.ensures table) in
    let slot : c.slot-in-loop-way.result ≡ c.loop-way.image.now.slot = c.slot-in-loop-way.ensures in
    subst (λ n. IsTraceOf c.args.self.now (c.args.space, c.args.page) c.args.image.now (trace.Broken n)) (sym slot)
    (ends_without_parent c.args.self.now (c.args.space, c.args.page) c.args.image.now c.loop-way.image.now c.loop-way.unlisted good walk exact (λ falls. c.in_default-parent.ensures.all falls refl))

pub loop-way-preserved : goal.loop-way-preserved
loop-way-preserved c = λ good member.
    let walk = c.loop-way.invariant good member in
    let table = All-contains (λ (i : Opened). IsTable i.header i.spaces) (images c.args.self.now) c.loop-way.image.now good.tables walk.member in
    let is : c.way.result ≡ Some way.Parent = c.in-Some.is ∙ ap Some c.in-Parent.is in
    let exact : IsExact c.loop-way.image.now.spaces (c.args.space, c.args.page) (Some way.Parent) = subst (IsExact c.loop-way.image.now.spaces (c.args.space, c.args.page)) is (c.way.ensures table) in
    let slot : c.slot-in-loop-way.result ≡ c.loop-way.image.now.slot = c.slot-in-loop-way.ensures in
    subst (λ n. IsWalked c.args.self.now (c.args.space, c.args.page) c.args.image.now c.in-Some-parent.parent.now (trace.Broken n)) (sym slot)
    (walk_goes_on c.args.self.now (c.args.space, c.args.page) c.args.image.now c.loop-way.image.now c.in-Some-parent.parent.now c.loop-way.unlisted (c.sound.ensures.named_once c.loop-way.image.now.header.parent) walk exact c.in-Some-parent.ensures.named)
