use Rattle.std.proofs.Common.{◌≡◌, ◌≢◌, Some, None, IfSome, slice_get, refl, sym, ◌∙◌, ap, subst}
use Rattle.sd_journal.specs.History.{Base}
use Rattle.sd_crash_safety.specs.View.{CoreView}
use Rattle.sd_core.proofs.FlagLemmas.{same_flags}
use Rattle.sd_core.specs.Sound.{AreSoundNumbers, IsOpening, held_for, out_of_opener}
use Rattle.sd_crash_safety.specs.declared.standing.Standing.TheVariants.{Open}
use Rattle.sd_crash_safety.specs.OpenerSteps.{nobody, opener_alone}
use Rattle.sd_core.specs.Starts.{base_of}
use Rattle.sd_core.proofs.CoreParts.{parts_of}
use Rattle.sd_core.proofs.CoreLemmas.{alone_is, closed_by, held_let_go, held_opening, none_out, not_taught, set_nobody, taught_opener}
use Rattle.sd_core.proofs.FallenLemmas.{runs_by}
use Rattle.sd_core.proofs.JournalLemmas.{same_journal}
use Rattle.sd_core.proofs.MergeLemmas.{no_merge, none_merges}
use Rattle.sd_core.proofs.WorkLemmas.{none_closed, none_works}
use Rattle.sd_core.specs.Next.{fails, learns}
use Rattle.sd_core.proofs.NextOpener.{failed_seen, learnt_seen, taught_seen}
use Rattle.sd_core.proofs.state.Core.hand_in_opener.Goals.{After-follow_outcome}
use Rattle.sd_core.proofs.state.Core.hand_in_opener.Goals as goal

-- ---- what is known at each goal

alone : (c : After-follow_outcome) → (out_of_opener c.self.inside.opener ≡ Some c.args.outcome.request.id) × (c.self.inside.outs ≡ opener_alone c.args.outcome.request.id)
alone c = alone_is (parts_of c.self.inside) c.args.outcome.request.id c.self.invariant (ap (λ (v : CoreView). slice_get v.outs 2) c.self.view_is ∙ c.requires.out)

closed : (c : After-follow_outcome) → c.self.inside.standing ≢ Open
closed c = closed_by c.self.inside.opener c.args.outcome.request.id c.self.inside.standing c.self.inside.phases.items c.self.invariant.opening (alone c).0

idle : (c : After-follow_outcome) → c.self.inside.dumper.running ≡ None
idle c = none_closed (parts_of c.self.inside) c.self.invariant (closed c)

unmerged : (c : After-follow_outcome) → c.self.inside.merger ≡ None
unmerged c = none_merges (parts_of c.self.inside) c.self.invariant (closed c)

none_now : (c : After-follow_outcome) → c.follow_outcome.new.outs ≡ nobody
none_now c = c.follow_outcome.ensures.outs ∙ set_nobody c.self.inside.outs c.args.outcome.request.id (alone c).1

-- ---- the opener goes on

pub invariant_of-self : goal.invariant_of-self
invariant_of-self c =
    let k = (goal.at.invariant_of-self c).After-follow_outcome in
    let none = idle k in
    let t = taught_opener c.self.inside.opener c.args.outcome c.teach.new.opener c.if-teach.ensures in
    let before = subst (λ x. IfSome x (IsOpening c.self.inside.standing c.self.inside.phases.items)) t.was c.self.invariant.opening in
    let rests : out_of_opener c.teach.new.opener ≡ None = ap out_of_opener t.is ∙ t.goes_on.free (ap out_of_opener (sym t.was) ∙ (alone k).0) in
    record {
      journal_is = c.self.invariant.journal_is;
      held = c.self.invariant.held ∙ ap (held_for c.self.inside.pending c.self.inside.dumper.running) t.was
          ∙ held_opening c.self.inside.pending c.self.inside.dumper.running t.opener none ∙ sym (held_opening c.self.inside.pending c.self.inside.dumper.running t.next none)
          ∙ ap (held_for c.self.inside.pending c.self.inside.dumper.running) (sym t.is);
      outs_are = none_out c.self.inside.standing c.follow_outcome.new.outs c.follow_outcome.new.phases.items c.self.inside.dumper.running c.self.inside.merger c.teach.new.opener none
          (unmerged k) rests (none_now k);
      opening = subst (λ x. IfSome x (IsOpening c.self.inside.standing c.follow_outcome.new.phases.items)) (sym t.is)
          (record { closed = before.closed; slots = t.goes_on.slots ∙ before.slots ∙ sym c.follow_outcome.ensures.follows.count });
      numbers_are = c.self.invariant.numbers_are;
      counted = c.self.invariant.counted;
      rests = c.self.invariant.rests;
      work = none_works _ c.self.inside.dumper.running none;
      little = none_works _ c.self.inside.dumper.running none;
      merging = no_merge _ c.self.inside.merger (unmerged k);
      flags_are = c.self.invariant.flags_are;
      gated = none_works _ c.self.inside.dumper.running none;
      visited_is = c.self.invariant.visited_is;
    }

-- ---- it has ended

pub invariant_of-self-2 : goal.invariant_of-self-2
invariant_of-self-2 c =
    let k = (goal.at.invariant_of-self-2 c).After-follow_outcome in
    let none = idle k in
    let looking = runs_by c.self.inside.opener c.args.outcome.request.id (alone k).0 in
    let ended = c.let_go.ensures.opener in
    let gone = c.let_go.ensures.journal in
    let base : Base = base_of c.self.inside.base in
    record {
      journal_is = same_journal base c.self.inside.journal c.let_go.new.journal c.self.inside.memory c.self.inside.pending c.self.inside.last gone.first gone.items gone.limit c.self.invariant.journal_is;
      held = held_let_go c.self.inside.pending c.self.inside.dumper.running looking.0 c.self.inside.journal c.let_go.new.journal none
          (c.self.invariant.held ∙ ap (held_for c.self.inside.pending c.self.inside.dumper.running) looking.1) gone ∙ ap (held_for c.self.inside.pending c.self.inside.dumper.running) (sym ended);
      outs_are = none_out c.self.inside.standing c.follow_outcome.new.outs c.follow_outcome.new.phases.items c.self.inside.dumper.running c.self.inside.merger c.let_go.new.opener none
          (unmerged k) (ap out_of_opener ended) (none_now k);
      opening = subst (λ x. IfSome x (IsOpening c.self.inside.standing c.follow_outcome.new.phases.items)) (sym ended) tt;
      numbers_are = subst (λ all. AreSoundNumbers base all c.self.inside.pending c.self.inside.last c.self.inside.numbers) (sym gone.items) c.self.invariant.numbers_are;
      counted = c.self.invariant.counted;
      rests = c.self.invariant.rests;
      work = none_works _ c.self.inside.dumper.running none;
      little = none_works _ c.self.inside.dumper.running none;
      merging = no_merge _ c.self.inside.merger (unmerged k);
      flags_are = same_flags base c.self.inside.journal.items c.let_go.new.journal.items c.self.inside.swept c.self.inside.grows c.self.inside.committing gone.items c.self.invariant.flags_are;
      gated = none_works _ c.self.inside.dumper.running none;
      visited_is = c.self.invariant.visited_is;
    }

-- ---- the step

pub returns-then-teach : goal.returns-then-teach
returns-then-teach c =
    let f = c.follow_outcome.ensures.follows in
    learnt_seen _ _ _ _ _ c.self.view_is (learns refl (record {
      it = record { out = ap (λ (v : CoreView). slice_get v.outs 2) c.self.view_is ∙ c.requires.out; whose = c.requires.opener; phase = f.phase; phase_is = f.is };
      after = c.teach.new.opener;
      teaches = c.if-teach.ensures;
      new_is = taught_seen (parts_of c.self.inside) c.follow_outcome.new.phases.items _ c.follow_outcome.new.outs _ c.teach.new.opener f.phases c.follow_outcome.ensures.outs;
    }))

pub returns : goal.returns
returns c =
    let k = (goal.at.returns c).After-follow_outcome in
    let f = c.follow_outcome.ensures.follows in
    let looking = runs_by c.self.inside.opener c.args.outcome.request.id (alone k).0 in
    let gone = c.let_go.ensures.journal in
    learnt_seen _ _ _ _ _ c.self.view_is (fails refl (record {
      it = record { out = ap (λ (v : CoreView). slice_get v.outs 2) c.self.view_is ∙ c.requires.out; whose = c.requires.opener; phase = f.phase; phase_is = f.is };
      fails = λ as_asked. not_taught c.self.inside.opener c.args.outcome c.teach.new.opener c.if-teach.ensures (alone k).0 as_asked;
      new_is = failed_seen (parts_of c.self.inside) c.self.invariant c.let_go.new.journal c.follow_outcome.new.phases.items _ c.follow_outcome.new.outs _ c.let_go.new.opener gone.items gone.limit
          (held_let_go c.self.inside.pending c.self.inside.dumper.running looking.0 c.self.inside.journal c.let_go.new.journal (idle k)
          (c.self.invariant.held ∙ ap (held_for c.self.inside.pending c.self.inside.dumper.running) looking.1) gone)
          f.phases c.follow_outcome.ensures.outs c.let_go.ensures.opener;
    }))
