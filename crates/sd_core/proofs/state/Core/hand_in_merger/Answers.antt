use Rattle.std.proofs.Common.{◌≡◌, Some, refl, ◌∙◌, ap, subst, rules, inl, inr}
use Rattle.sd_gate.specs.declared.request_id.RequestId.{RequestId}
use Rattle.sd_merge.specs.declared.merge_progress.MergeProgress.TheVariants.{Failed}
use Rattle.sd_merge.specs.Merger.{Hands, IsHanded}
use Rattle.sd_merge.specs.Merger as merger
use Rattle.sd_crash_safety.specs.DumperOutcomes.{LeavesCatalog}
use Rattle.sd_core.specs.Merging.{FixesList}
use Rattle.sd_core.specs.Sound.{held_for}
use Rattle.sd_core.proofs.CoreParts.{parts_of}
use Rattle.sd_core.proofs.FallenLemmas.{fallen_core, let_go_all}
use Rattle.sd_core.proofs.MergerHands.{EndsMerge, GoesOnMerge, HandsMerge, ends_core, ends_list, goes_on_core, handed_on, work}
use Rattle.sd_core.proofs.OpenedLemmas.{OpensMerge, core_opened}
use Rattle.sd_core.proofs.NextMerger.{down_next, ended_next, more_next, opened_next}
use Rattle.sd_core.proofs.state.Core.hand_in_merger.Goals.{After-hand_in-progress, In-Failed, in-None, in-Some}
use Rattle.sd_core.proofs.state.Core.hand_in_merger.Goals as goal

-- ---- what is known at each kind of goal

hands : (c : After-hand_in-progress) (merge : merger.Running) → c.self.inside.merger ≡ Some merge
    → HandsMerge (parts_of c.self.inside) c.args.self.now c.args.outcome c.follow_outcome-closed.new.phases.items c.follow_outcome-closed.new.outs c.follow_outcome-closed.result.closed merge
hands c merge was = record {
  sound = c.self.invariant;
  seen_is = c.self.view_is;
  out = c.requires.out;
  was = was;
  running = c.merging_laws.ensures.running;
  copied = c.merging_laws.ensures.copy;
  makes = c.merging_laws.ensures.makes;
  follows = c.follow_outcome-closed.ensures.follows;
  outs_are = c.follow_outcome-closed.ensures.outs;
}

failed : (c : In-Failed) → IsHanded c.self.inside.merger c.args.outcome Failed c.hand_in-progress.new.self
failed c = subst (λ p. Hands c.self.inside.merger c.args.outcome p c.hand_in-progress.new.self) c.in-Failed.is c.hand_in-progress.ensures

more : (c : goal.After-leave_catalog) → GoesOnMerge (parts_of c.self.inside) c.args.self.now c.args.outcome c.follow_outcome-closed.new.phases.items c.follow_outcome-closed.new.outs
    c.leave_catalog.new.catalog c.hand_in-progress.result c.hand_in-progress.new.self
more c =
    let h = handed_on c.self.inside.merger c.args.outcome c.hand_in-progress.result c.hand_in-progress.new.self c.in-More.is c.hand_in-progress.ensures in
    record {
      leaves = record {
        closed = c.follow_outcome-closed.result.closed;
        merge = h.merge;
        hands = hands (goal.at.returns-in-More c).After-hand_in-progress h.merge h.was;
        leaves = subst (λ (i : RequestId). LeavesCatalog c.follow_outcome-closed.result.closed i.slot c.self.inside.catalog c.leave_catalog.new.catalog) c.follow_outcome-closed.ensures.id c.leave_catalog.ensures;
      };
      more = c.in-More.is;
      doing = h.doing;
      goes = h.hands;
      is = h.is;
    }

merged : (c : goal.After-leave_catalog-in-Merged) → EndsMerge (parts_of c.self.inside) c.args.self.now c.args.outcome c.follow_outcome-closed.new.phases.items c.follow_outcome-closed.new.outs
    c.leave_catalog-in-Merged.new.catalog c.in-Merged.serial c.hand_in-progress.new.self
merged c =
    let h = subst (λ p. Hands c.self.inside.merger c.args.outcome p c.hand_in-progress.new.self) c.in-Merged.is c.hand_in-progress.ensures in
    record {
      leaves = record {
        closed = c.follow_outcome-closed.result.closed;
        merge = h.running;
        hands = hands (goal.at.returns-in-Merged c).After-hand_in-progress h.running h.was;
        leaves = subst (λ (i : RequestId). LeavesCatalog c.follow_outcome-closed.result.closed i.slot c.self.inside.catalog c.leave_catalog-in-Merged.new.catalog) c.follow_outcome-closed.ensures.id
            c.leave_catalog-in-Merged.ensures;
      };
      ends = ends_list h.running c.args.outcome c.in-Merged.serial h.next.doing h.hands.hands;
      is = h.is;
    }

opened : (c : goal.Joined-fix_list) → OpensMerge (parts_of c.self.inside) c.args.self.now c.args.outcome c.follow_outcome-closed.new.phases.items c.follow_outcome-closed.new.outs
    c.enter_catalog.new.catalog c.take_room-room.new.room c.in-Opened.image c.fix_list.result c.fix_list.new.merger
opened c =
    let h = subst (λ p. Hands c.self.inside.merger c.args.outcome p c.hand_in-progress.new.self) c.in-Opened.is c.hand_in-progress.ensures in
    record {
      closed = c.follow_outcome-closed.result.closed;
      merge = h.running;
      hands = hands (goal.at.returns-after-fix_list c).After-hand_in-progress h.running h.was;
      doing = h.next.doing;
      goes = h.hands.hands;
      before = c.hand_in-progress.new.self;
      before_is = h.is ∙ ap Some h.hands.is;
      in_order = c.sound.ensures;
      changes = c.enter_catalog.ensures;
      fixes = subst (λ n. FixesList c.enter_catalog.new.catalog c.self.inside.dumper.running c.follow_outcome-closed.new.outs n c.hand_in-progress.new.self c.fix_list.result c.fix_list.new.merger)
          c.take_room-room.ensures c.fix_list.ensures;
    }

-- ---- the core

pub invariant_of-self : goal.invariant_of-self
invariant_of-self c =
    let h = failed (goal.at.invariant_of-self c).In-Failed in
    let closed = (work (hands (goal.at.invariant_of-self c).After-hand_in-progress h.running h.was)).closed in
    let ends = c.end_checkpoint.ensures.journal in
    fallen_core _ c.end_checkpoint.new.journal _ _ _ _ _ _ 1 c.self.invariant closed ends.items ends.first ends.limit
    (let_go_all c.self.inside.pending c.self.inside.dumper.running c.self.inside.journal _ (c.self.invariant.held ∙ ap (held_for c.self.inside.pending c.self.inside.dumper.running) closed) ends)
    refl c.follow_outcome-closed.ensures.follows.count c.follow_outcome-closed.ensures.outs (ap (λ d. d.running) c.end_checkpoint.ensures.dumper) h.is

pub invariant_of-self-in-More : goal.invariant_of-self-in-More
invariant_of-self-in-More c = goes_on_core (more c)

pub invariant_of-self-in-Merged : goal.invariant_of-self-in-Merged
invariant_of-self-in-Merged c = ends_core (merged c)

pub invariant_of-self-in-Opened : goal.invariant_of-self-in-Opened
invariant_of-self-in-Opened c = core_opened (opened c)

-- ---- the step

pub returns-in-Failed : goal.returns-in-Failed
returns-in-Failed c =
    let h = failed (goal.at.returns-in-Failed c).In-Failed in
    let known = hands (goal.at.returns-in-Failed c).After-hand_in-progress h.running h.was in
    let ends = c.end_checkpoint.ensures.journal in
    down_next known c.end_checkpoint.new.journal c.end_checkpoint.new.dumper c.hand_in-progress.new.self (search rules) ends.items ends.limit
    (let_go_all c.self.inside.pending c.self.inside.dumper.running c.self.inside.journal _ (c.self.invariant.held ∙ ap (held_for c.self.inside.pending c.self.inside.dumper.running) (work known).closed) ends)
    c.end_checkpoint.ensures.dumper h.is

pub returns-in-More : goal.returns-in-More
returns-in-More c = more_next (more c)

pub returns-in-Merged : goal.returns-in-Merged
returns-in-Merged c = ended_next (merged c)

pub returns-after-fix_list : goal.returns-after-fix_list
returns-after-fix_list c = opened_next (opened c) c.match-fix_list.result (elim c.match-fix_list.branch [
  | in-None w ↦ inl (w.in-None.is, w.result-is)
  | in-Some w ↦ inr (w.in-Some.serial, w.in-Some.is, w.result-is)
])
