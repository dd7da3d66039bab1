use Rattle.std.proofs.Common.{◌≡◌, Some, slice_get, false, true, refl, ◌∙◌, ap, subst}
use Rattle.sd_gate.specs.declared.request_id.RequestId.{RequestId}
use Rattle.sd_gate.specs.declared.worker.Worker.TheVariants.{Dumper}
use Rattle.sd_rounds.specs.declared.progress.Progress.TheVariants.{Failed}
use Rattle.sd_rounds.specs.Dumper.{Hands, IsHanded, Running}
use Rattle.sd_rounds.specs.Making.{Making}
use Rattle.sd_crash_safety.specs.DumperOutcomes.{LeavesCatalog}
use Rattle.sd_crash_safety.specs.View.{CoreView}
use Rattle.sd_core.specs.Refusals.{is_idle}
use Rattle.sd_core.specs.Sound.{held_for}
use Rattle.sd_core.proofs.CoreParts.{parts_of}
use Rattle.sd_core.proofs.FallenLemmas.{fallen_core, let_go_two}
use Rattle.sd_core.proofs.HandsDump.{GoesOn, HandsDump, OpensDump, dump_core, goes_on_core, pre_dump_core, work}
use Rattle.sd_core.proofs.LaneLemmas.{out_there}
use Rattle.sd_core.proofs.NextHands.{down_next, dump_free, dump_next, goes_on_next, pre_dump_next}
use Rattle.sd_core.proofs.state.Core.hand_in_dumper.Goals.{After-hand_in, In-Failed}
use Rattle.sd_core.proofs.state.Core.hand_in_dumper.Goals as goal

-- ---- what is known at each kind of goal

abbrev hands : (c : After-hand_in) (running : Running) (image : Making) → c.self.inside.dumper.running ≡ Some running → running.image ≡ Some image
    → HandsDump (parts_of c.self.inside) c.args.self.now c.args.lane c.args.outcome c.follow_outcome-closed.new.phases.items c.follow_outcome-closed.new.outs c.follow_outcome-closed.result.closed running image
hands c running image was making = record {
  sound = c.self.invariant;
  seen_is = c.self.view_is;
  out = c.requires.out;
  whose = c.requires.dumper;
  was = was;
  making = making;
  orders = c.sound.ensures.running;
  images = c.sound.ensures.image;
  follows = c.follow_outcome-closed.ensures.follows;
  outs_are = c.follow_outcome-closed.ensures.outs;
}

abbrev failed : (c : In-Failed) → IsHanded c.self.inside.dumper c.args.outcome Failed c.hand_in.new.self
failed c = subst (λ p. Hands c.self.inside.dumper c.args.outcome p c.hand_in.new.self) c.in-Failed.is c.hand_in.ensures.hands

abbrev more : (c : goal.After-leave_catalog)
    → GoesOn (parts_of c.self.inside) c.args.self.now c.args.lane c.args.outcome c.follow_outcome-closed.new.phases.items c.follow_outcome-closed.new.outs c.leave_catalog.new.catalog c.hand_in.new.self
more c =
    let h = subst (λ p. Hands c.self.inside.dumper c.args.outcome p c.hand_in.new.self) c.in-More.is c.hand_in.ensures.hands in
    record {
      closed = c.follow_outcome-closed.result.closed;
      running = h.running;
      image = h.hands.image;
      next = h.hands.next;
      hands = hands (goal.at.returns-in-More c).After-hand_in h.running h.hands.image h.was h.hands.was;
      goes = h.hands.hands;
      is = ap (λ d. d.running) h.is ∙ ap Some h.hands.is;
      images = c.sound-in-More.ensures.image;
      leaves = subst (λ (i : RequestId). LeavesCatalog c.follow_outcome-closed.result.closed i.slot c.self.inside.catalog c.leave_catalog.new.catalog) c.follow_outcome-closed.ensures.id c.leave_catalog.ensures;
    }

abbrev pre_dump : (c : goal.After-enter_catalog)
    → OpensDump (parts_of c.self.inside) c.args.self.now c.args.lane c.args.outcome c.follow_outcome-closed.new.phases.items c.follow_outcome-closed.new.outs c.enter_catalog.new.catalog c.hand_in.new.self c.in-PreDump.image false
pre_dump c =
    let h = subst (λ p. Hands c.self.inside.dumper c.args.outcome p c.hand_in.new.self) c.in-PreDump.is c.hand_in.ensures.hands in
    record {
      closed = c.follow_outcome-closed.result.closed;
      running = h.running;
      image = h.hands.0.image;
      hands = hands (goal.at.returns-in-PreDump c).After-hand_in h.running h.hands.0.image h.was h.hands.0.was;
      opens = h.hands.0.hands;
      last_is = h.hands.1;
      is = ap (λ d. d.running) h.is ∙ ap Some h.hands.2;
      changes = c.enter_catalog.ensures;
    }

abbrev dump : (c : goal.After-self-in-Dump-5-1)
    → OpensDump (parts_of c.self.inside) c.args.self.now c.args.lane c.args.outcome c.follow_outcome-closed.new.phases.items c.follow_outcome-closed.new.outs c.enter_catalog-in-Dump.new.catalog c.hand_in.new.self c.in-Dump.image true
dump c =
    let h = subst (λ p. Hands c.self.inside.dumper c.args.outcome p c.hand_in.new.self) c.in-Dump.is c.hand_in.ensures.hands in
    record {
      closed = c.follow_outcome-closed.result.closed;
      running = h.running;
      image = h.hands.0.image;
      hands = hands (goal.at.returns-in-Dump c).After-hand_in h.running h.hands.0.image h.was h.hands.0.was;
      opens = h.hands.0.hands;
      last_is = h.hands.1;
      is = ap (λ d. d.running) h.is;
      changes = c.enter_catalog-in-Dump.ensures;
    }

-- ---- the core

pub invariant_of-self : goal.invariant_of-self
invariant_of-self c =
    let h = failed (goal.at.invariant_of-self c).In-Failed in
    let closed = (work (hands (goal.at.invariant_of-self c).After-hand_in h.running h.hands.image h.was h.hands.was)).closed in
    fallen_core _ c.release_unfrozen.new.journal _ _ _ _ _ _ c.args.lane c.self.invariant closed c.release_unfrozen.ensures.items c.release_unfrozen.ensures.first c.release_unfrozen.ensures.limit
    (let_go_two c.self.inside.pending _ h.running c.self.inside.journal _ h.was (c.self.invariant.held ∙ ap (held_for c.self.inside.pending c.self.inside.dumper.running) closed) c.release_unfrozen.ensures)
    refl c.follow_outcome-closed.ensures.follows.count c.follow_outcome-closed.ensures.outs (ap (λ d. d.running) h.is) c.cancel.ensures

pub invariant_of-self-in-More : goal.invariant_of-self-in-More
invariant_of-self-in-More c = goes_on_core (more c) c.journal_laws.ensures.little

pub invariant_of-self-in-PreDump : goal.invariant_of-self-in-PreDump
invariant_of-self-in-PreDump c = pre_dump_core (pre_dump c)

pub invariant_of-self-in-Dump : goal.invariant_of-self-in-Dump
invariant_of-self-in-Dump c = dump_core (dump c) c.journal_laws.ensures.tracked c.plain_law.ensures c.append_held.new.self c.append_held.ensures.items c.append_held.ensures.numbers.first
    c.append_held.ensures.numbers.limit c.append_held.ensures.held c.sound-in-Dump.ensures

-- ---- the step

pub returns-in-Failed : goal.returns-in-Failed
returns-in-Failed c =
    let h = failed (goal.at.returns-in-Failed c).In-Failed in
    let known = hands (goal.at.returns-in-Failed c).After-hand_in h.running h.hands.image h.was h.hands.was in
    down_next known c.release_unfrozen.new.journal c.hand_in.new.self c.cancel.new.self h.hands.hands.failed c.release_unfrozen.ensures.items c.release_unfrozen.ensures.limit
    (let_go_two c.self.inside.pending _ h.running c.self.inside.journal _ h.was (c.self.invariant.held ∙ ap (held_for c.self.inside.pending c.self.inside.dumper.running) (work known).closed) c.release_unfrozen.ensures)
    (ap (λ d. d.running) h.is) (ap (λ d. d.since_freeze) h.is) c.cancel.ensures

pub returns-in-More : goal.returns-in-More
returns-in-More c =
    let h = subst (λ p. Hands c.self.inside.dumper c.args.outcome p c.hand_in.new.self) c.in-More.is c.hand_in.ensures.hands in
    goes_on_next (more c) (ap (λ d. d.since_freeze) h.is)

pub returns-in-PreDump : goal.returns-in-PreDump
returns-in-PreDump c =
    let h = subst (λ p. Hands c.self.inside.dumper c.args.outcome p c.hand_in.new.self) c.in-PreDump.is c.hand_in.ensures.hands in
    pre_dump_next (pre_dump c) (ap (λ d. d.since_freeze) h.is)

pub returns-in-Dump : goal.returns-in-Dump
returns-in-Dump c =
    let h = subst (λ p. Hands c.self.inside.dumper c.args.outcome p c.hand_in.new.self) c.in-Dump.is c.hand_in.ensures.hands in
    dump_next (dump c) (ap (λ d. d.since_freeze) h.is) c.append_held.new.self c.append_held.ensures.items c.append_held.ensures.numbers.limit
    (dump_free (dump c) c.append_held.new.self c.append_held.ensures.held)

pub unreachable-requires : goal.unreachable-requires
unreachable-requires c =
    let h = subst (λ p. Hands c.self.inside.dumper c.args.outcome p c.hand_in.new.self) c.in-Strange.is c.hand_in.ensures.hands in
    h.other (out_there _ c.args.lane c.args.outcome.request.id c.self.invariant (ap (λ (v : CoreView). is_idle v Dumper) c.self.view_is ∙ c.requires.runs) c.requires.dumper
    (ap (λ (v : CoreView). slice_get v.outs c.args.lane) c.self.view_is ∙ c.requires.out))
