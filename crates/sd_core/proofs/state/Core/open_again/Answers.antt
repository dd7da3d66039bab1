use Rattle.std.proofs.Common.{◌≡◌, length, IfSome, Some, None, refl, sym, ◌∙◌, ap, subst}
use Rattle.sd_journal.specs.History.{Base}
use Rattle.sd_core.proofs.FlagLemmas.{same_flags}
use Rattle.sd_core.specs.Next.{reopens}
use Rattle.sd_core.specs.Opening.{HoldsForOpening, IsFreshOpener}
use Rattle.sd_core.specs.Refusals.{reopen_refusal}
use Rattle.sd_core.proofs.CoreParts.{parts_of}
use Rattle.sd_core.proofs.NextOrders.{one_held, reopen_seen, reopened_seen}
use Rattle.sd_core.specs.Sound.{AreSoundNumbers, IsOpening, held_for, out_of_opener}
use Rattle.sd_core.specs.Starts.{base_of}
use Rattle.sd_core.proofs.CoreLemmas.{none_out}
use Rattle.sd_core.proofs.JournalLemmas.{same_journal}
use Rattle.sd_core.proofs.MergeLemmas.{no_merge, none_merges}
use Rattle.sd_core.proofs.OpeningLemmas.{given_count, held_opened}
use Rattle.sd_core.proofs.RefusalLemmas.{MayReopen, may_reopen, nobody_rests}
use Rattle.sd_core.proofs.WorkLemmas.{none_closed, none_works}
use Rattle.sd_core.proofs.state.Core.open_again.Goals as goal

pub invariant_of-self-2 : goal.invariant_of-self-2
invariant_of-self-2 c =
    let base : Base = base_of c.self.inside.base in
    let may = subst MayReopen (sym c.self.view_is) (may_reopen c.args.self.now c.requires) in
    let inside = c.self.invariant in
    let nobody_out = nobody_rests _ inside may.rest in
    let none = none_closed _ inside may.closed in
    let opener = c.in-Ok.opener in
    let fresh = c.in-Ok.ensures.opener in
    let held = subst (λ r. HoldsForOpening c.self.inside.pending c.self.inside.journal r c.fresh_opener.new.journal) c.in-Ok.is c.fresh_opener.ensures.holds in
    let is = c.put_opener.ensures in
    record {
      journal_is = same_journal base c.self.inside.journal c.fresh_opener.new.journal c.self.inside.memory c.self.inside.pending c.self.inside.last held.first held.items held.limit inside.journal_is;
      held = held_opened c.self.inside.pending c.self.inside.dumper.running c.self.inside.opener opener c.self.inside.journal.held c.fresh_opener.new.journal.held held.held inside.held none may.none
          ∙ ap (held_for c.self.inside.pending c.self.inside.dumper.running) (sym is);
      outs_are = none_out c.self.inside.standing c.self.inside.outs c.give_up_all.new.phases.items c.self.inside.dumper.running c.self.inside.merger c.put_opener.new.opener none
          (none_merges _ inside may.closed) (ap out_of_opener is ∙ ap (λ s. out_of_opener (Some (record opener { stage = s }))) fresh.stage) nobody_out;
      opening = subst (λ x. IfSome x (IsOpening c.self.inside.standing c.give_up_all.new.phases.items)) (sym is) (record {
        closed = may.closed;
        slots = fresh.count ∙ c.len.ensures ∙ c.self.inside.phases.ok.0 ∙ sym (given_count c.self.inside.phases.items) ∙ sym (ap length c.give_up_all.ensures);
      });
      numbers_are = subst (λ all. AreSoundNumbers base all c.self.inside.pending c.self.inside.last c.self.inside.numbers) (sym held.items) inside.numbers_are;
      counted = inside.counted;
      rests = inside.rests;
      work = none_works _ c.self.inside.dumper.running none;
      little = none_works _ c.self.inside.dumper.running none;
      merging = no_merge _ c.self.inside.merger (none_merges _ inside may.closed);
      visited_is = inside.visited_is;
      flags_are = same_flags base c.self.inside.journal.items c.fresh_opener.new.journal.items c.self.inside.swept c.self.inside.grows c.self.inside.committing held.items inside.flags_are;
      gated = none_works _ c.self.inside.dumper.running none;
    }

pub returns : goal.returns
returns c =
    let may = subst MayReopen (sym c.self.view_is) (may_reopen c.args.self.now c.requires) in
    let held = subst (λ r. HoldsForOpening c.self.inside.pending c.self.inside.journal r c.fresh_opener.new.journal) c.in-Ok.is c.fresh_opener.ensures.holds in
    let none = none_closed _ c.self.invariant may.closed in
    reopen_seen _ _ _ _ c.self.view_is (reopens refl (record {
      may = subst (λ v. reopen_refusal v ≡ None) (sym c.self.view_is) c.requires;
      opener = c.in-Ok.opener;
      fresh = subst (λ n. IsFreshOpener n c.in-Ok.opener) (c.len.ensures ∙ c.self.inside.phases.ok.0) c.in-Ok.ensures.opener;
      new_is = reopened_seen (parts_of c.self.inside) c.fresh_opener.new.journal c.give_up_all.new.phases.items c.put_opener.new.opener c.in-Ok.opener held.items held.limit
          (held_opened c.self.inside.pending c.self.inside.dumper.running c.self.inside.opener c.in-Ok.opener c.self.inside.journal.held c.fresh_opener.new.journal.held held.held c.self.invariant.held none may.none
          ∙ ap (λ r. held_for c.self.inside.pending r (Some c.in-Ok.opener)) none ∙ one_held c.self.inside.pending c.in-Ok.opener)
          c.give_up_all.ensures c.put_opener.ensures;
    }))
