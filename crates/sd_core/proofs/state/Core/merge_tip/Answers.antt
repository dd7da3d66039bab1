use Rattle.std.proofs.Common.{◌≡◌, Some, None, slice_get, refl, sym, ◌∙◌, ap, subst, inl}
use Rattle.std.proofs.lemmas.Option.{slice_get-get_or}
use Rattle.sd_chain.specs.Catalog.{IsTip}
use Rattle.sd_merge.specs.Merger.{begun_merge}
use Rattle.sd_rounds.specs.Dumper.{HasSlot}
use Rattle.sd_crash_safety.specs.View.{CoreView}
use Rattle.sd_core.specs.contracts.state.Core.{the_view}
use Rattle.sd_core.specs.Beginning.{FreeSlots}
use Rattle.sd_core.specs.Merging.{has_tip, merge_refusal}
use Rattle.sd_core.specs.Next.{begins}
use Rattle.sd_core.proofs.NextOrders.{merge_seen}
use Rattle.sd_merge.specs.Sources.{source_from}
use Rattle.sd_core.proofs.BeginLemmas.{none_opens}
use Rattle.sd_core.proofs.MergeBegin.{MayMerge, may_merge, merge_begun}
use Rattle.sd_core.proofs.SlotLemmas.{IsFreeAt, free_unreserved, free_within}
use Rattle.sd_core.proofs.TipLemmas.{never_some, tip_not_none}
use Rattle.sd_core.proofs.state.Core.merge_tip.Goals as goal

pub unreachable-requires : goal.unreachable-requires
unreachable-requires c =
    let may = may_merge c.args.self.now c.requires in
    let none = never_some c.tip.result c.in_default-tip.not-Some in
    tip_not_none c.self.inside.catalog (ap (λ (v : CoreView). has_tip v.catalog) c.self.view_is ∙ may.tip) c.tip.result c.tip.ensures.newest none

pub invariant_of-self : goal.invariant_of-self
invariant_of-self c =
    let view = the_view c.self.inside in
    let may = subst MayMerge (sym c.self.view_is) (may_merge c.args.self.now c.requires) in
    let inside = c.self.invariant in
    let closed = none_opens c.self.inside.opener c.self.inside.standing c.self.inside.phases.items inside.opening may.stands in
    let item = c.in-Some.ensures.item in
    let at : slice_get c.in-Ok.slots.items 0 ≡ Some c.in-Some.slot.now =
    ap (λ all. slice_get all 0) (sym c.deref.ensures.value) ∙ slice_get-get_or c.deref.result.now 0 c.in-Some.slot.now item.3.0 ∙ ap Some (sym item.1) in
    let f : IsFreeAt c.in-Ok.slots.items c.in-Some.slot.now = record { place = 0; at = at } in
    let free = subst (λ v. FreeSlots v c.in-Ok.slots.items) (sym c.self.view_is) c.in-Ok.ensures in
    let spared = (λ (has : HasSlot c.self.inside.dumper.running c.in-Some.slot.now). free_unreserved c.free_law.ensures view c.in-Ok.slots.items c.in-Some.slot.now free f (inl has)) in
    let tip = c.in-Some-tip.tip.now in
    let newest : IsTip c.self.inside.catalog tip = c.in-Some-tip.ensures.newest in
    merge_begun _ tip c.in-Some.slot.now c.in-Ok-for_slots.room c.in-Ok-serials_in.before.items c.begin_merge.new.merger inside
    (c.begin_merge.ensures ∙ ap (λ s. Some (begun_merge s c.in-Some.slot.now c.in-Ok-serials_in.before.items)) c.of-source.ensures) may.stands closed may.idle may.serial
    (free_within c.free_law.ensures view c.in-Ok.slots.items c.in-Some.slot.now free f) spared (c.sound.ensures.own tip newest.member) (c.in-Ok-for_slots.ensures ∙ c.len.ensures ∙ c.self.inside.phases.ok.0)

pub returns : goal.returns
returns c =
    let item = c.in-Some.ensures.item in
    let at : slice_get c.in-Ok.slots.items 0 ≡ Some c.in-Some.slot.now =
    ap (λ all. slice_get all 0) (sym c.deref.ensures.value) ∙ slice_get-get_or c.deref.result.now 0 c.in-Some.slot.now item.3.0 ∙ ap Some (sym item.1) in
    merge_seen _ _ _ _ c.self.view_is (begins refl (record {
      may = subst (λ v. merge_refusal v ≡ None) (sym c.self.view_is) c.requires;
      tip = c.in-Some-tip.tip.now;
      is_tip = c.in-Some-tip.ensures.newest;
      slots = c.in-Ok.slots.items;
      free = subst (λ v. FreeSlots v c.in-Ok.slots.items) (sym c.self.view_is) c.in-Ok.ensures;
      slot = c.in-Some.slot.now;
      lowest = at;
      new_is = ap (λ m. record (the_view c.self.inside) { merger = m })
          (c.begin_merge.ensures ∙ ap (λ s. Some (begun_merge s c.in-Some.slot.now c.in-Ok-serials_in.before.items)) c.of-source.ensures
          ∙ ap (λ b. Some (begun_merge (source_from c.in-Some-tip.tip.now) c.in-Some.slot.now b)) c.in-Ok-serials_in.ensures);
    }))
