use Rattle.std.proofs.Common.{◌≡◌, false, None, IfSome, refl, sym, ◌∙◌, ap, subst, arith}
use Rattle.sd_journal.specs.History.{Base}
use Rattle.sd_journal.specs.Kept.{JournalView}
use Rattle.sd_rounds.specs.Dumper.{Dumping, serial_of_running}
use Rattle.sd_journal.specs.Marked.{entries_of}
use Rattle.sd_core.proofs.FlagLemmas.{set_flags}
use Rattle.sd_core.specs.Grown.{IsGated, has_grown, has_visited_all}
use Rattle.sd_core.specs.Dumping.{ReleasesPlace}
use Rattle.sd_core.specs.LittleWork.{HasLittle}
use Rattle.sd_core.specs.Sound.{AreSoundNumbers, CheckpointRuns, held_for}
use Rattle.sd_core.specs.Starts.{base_of}
use Rattle.sd_core.proofs.CancelLemmas.{cancelled_journal, cancelled_numbers, counted_released, may_cancel, merges_on, rests_cancelled}
use Rattle.sd_core.proofs.JournalLemmas.{same_journal}
use Rattle.sd_core.specs.Next.{cancels}
use Rattle.sd_core.specs.Refusals.{cancel_refusal}
use Rattle.sd_core.proofs.CoreParts.{parts_of}
use Rattle.sd_core.proofs.NextOrders.{cancel_seen, cancelled_seen, under_way}
use Rattle.sd_core.proofs.RefusalLemmas.{MayCancel, may_cancel_now}
use Rattle.sd_core.proofs.SettledLemmas.{not_swept}
use Rattle.sd_core.proofs.state.Core.cancel_it.Goals as goal

pub invariant_of-self : goal.invariant_of-self
invariant_of-self c =
    let base : Base = base_of c.self.inside.base in
    let may = subst MayCancel (sym c.self.view_is) (may_cancel_now c.args.self.now c.requires) in
    let gone = ap (λ (d : Dumping). d.running) c.cancel.ensures in
    let released = subst (λ own. ReleasesPlace own c.self.inside.catalog c.release_place.new.catalog) c.serial.ensures c.release_place.ensures in
    let journal = cancelled_journal c.tracked_laws.ensures _ c.append_held.new.self c.self.invariant (may_cancel _ c.self.invariant (λ idle none. may.some idle (sym c.self.invariant.journal_is.frozen_for ∙ none)))
    c.append_held.ensures.items c.append_held.ensures.numbers.first c.append_held.ensures.numbers.limit in
    let held = c.held-held.ensures in
    let less = ap (λ (k : JournalView). k.held) c.release.ensures in
    let free : c.release.new.self.held ≡ 0 = omega (arith, held, less) in
    let items = ap (λ (k : JournalView). k.items) c.release.ensures in
    record {
      journal_is = same_journal base c.append_held.new.self c.release.new.self c.self.inside.memory None c.self.inside.last (ap (λ (k : JournalView). k.first) c.release.ensures) items
          (ap (λ (k : JournalView). k.limit) c.release.ensures) journal;
      held = free ∙ ap (λ r. held_for None r None) (sym gone) ∙ ap (held_for None c.cancel.new.self.running) (sym may.closed);
      outs_are = rests_cancelled _ c.cancel.new.self.running c.self.invariant may.closed may.rests may.pages gone;
      opening = c.self.invariant.opening;
      numbers_are = subst (λ all. AreSoundNumbers base all None c.self.inside.last c.self.inside.numbers) (sym (items ∙ c.append_held.ensures.items))
          (cancelled_numbers base c.self.inside.journal.items c.self.inside.pending c.self.inside.last c.self.inside.numbers c.self.invariant.numbers_are);
      counted = counted_released c.self.inside.numbers c.self.inside.catalog c.release_place.new.catalog (serial_of_running c.self.inside.dumper.running) released c.self.invariant.counted;
      rests = λ none stands. refl;
      work = subst (λ r. IfSome r (CheckpointRuns base c.release.new.self.items None c.self.inside.standing c.self.inside.phases.items c.release_place.new.catalog c.self.inside.merger c.self.inside.opener c.self.inside.numbers)) (sym gone) tt;
      little = subst (λ r. IfSome r (HasLittle base c.release.new.self.items c.self.inside.memory)) (sym gone) tt;
      visited_is = not_swept false None c.self.inside.memory refl;
      flags_are = set_flags base c.release.new.self.items false false c.self.inside.committing (ap (λ all. has_grown base (entries_of all)) (sym (items ∙ c.append_held.ensures.items))) may.sure (ap has_visited_all (sym (items ∙ c.append_held.ensures.items)));
      gated = subst (λ r. IfSome r (IsGated false)) (sym gone) tt;
      merging = merges_on _ c.release_place.new.catalog c.cancel.new.self c.self.invariant gone released;
    }

pub returns : goal.returns
returns c =
    let may = subst MayCancel (sym c.self.view_is) (may_cancel_now c.args.self.now c.requires) in
    let released = subst (λ own. ReleasesPlace own c.self.inside.catalog c.release_place.new.catalog) c.serial.ensures c.release_place.ensures in
    let held = c.held-held.ensures in
    let less = ap (λ (k : JournalView). k.held) c.release.ensures in
    let free : c.release.new.self.held ≡ 0 = omega (arith, held, less) in
    let items = ap (λ (k : JournalView). k.items) c.release.ensures in
    cancel_seen _ _ _ _ c.self.view_is (cancels c.self.inside.numbers.begun refl (record {
      may = subst (λ v. cancel_refusal v ≡ None) (sym c.self.view_is) c.requires;
      under_way = under_way (parts_of c.self.inside) c.self.invariant may.some;
      places = c.release_place.new.catalog;
      released = released;
      new_is = cancelled_seen (parts_of c.self.inside) c.release.new.self c.release_place.new.catalog c.cancel.new.self c.self.inside.numbers.begun (items ∙ c.append_held.ensures.items)
          (ap (λ (k : JournalView). k.limit) c.release.ensures ∙ c.append_held.ensures.numbers.limit) free c.cancel.ensures may.sure;
    }))
