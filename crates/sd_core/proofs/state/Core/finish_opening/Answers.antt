use Rattle.std.proofs.Common.{◌≡◌, false, if◌then◌else◌, Some, None, IfSome, refl, sym, ◌∙◌, ap, subst, arith, rules}
use Rattle.std.proofs.lemmas.Option.{same_Some}
use Rattle.sd_journal.specs.History.{Base, pending}
use Rattle.sd_opener.specs.Looking.{Looking, out_of_look}
use Rattle.sd_crash_safety.specs.declared.standing.Standing.TheVariants.{Open}
use Rattle.sd_crash_safety.specs.View.{CoreView}
use Rattle.sd_journal.specs.Marked.{entries_of}
use Rattle.sd_core.proofs.FlagLemmas.{set_flags}
use Rattle.sd_core.specs.Grown.{has_grown, has_visited_all}
use Rattle.sd_core.specs.Opening.{IsExpected}
use Rattle.sd_core.specs.Sound.{AreSoundNumbers, IsOpening, held_for, out_of_opener}
use Rattle.sd_core.specs.Starts.{base_of}
use Rattle.sd_core.proofs.CoreLemmas.{held_idle, held_opening, nobody_is, none_out}
use Rattle.sd_core.proofs.JournalLemmas.{expected_may, found_used, reopened_journal, reopened_numbers}
use Rattle.sd_core.proofs.MergeLemmas.{no_merge, none_merges}
use Rattle.sd_core.proofs.WorkLemmas.{none_closed, none_works}
use Rattle.sd_core.proofs.FoundNumbers.{above_found, above_own}
use Rattle.sd_core.proofs.SettledLemmas.{not_swept}
use Rattle.sd_core.specs.declared.numbers.Numbers.{Numbers}
use Rattle.sd_core.specs.contracts.state.Core.{the_view}
use Rattle.sd_core.specs.Next.{opens, strange}
use Rattle.sd_core.specs.Opening.{OpensAnew, SawDamage, SawStrange}
use Rattle.sd_core.proofs.CoreParts.{parts_of}
use Rattle.sd_core.proofs.CoreLemmas.{held_let_go}
use Rattle.sd_core.proofs.NextOpener.{awaited_is, let_go_seen, opened_seen, read_seen}
use Rattle.sd_core.proofs.state.Core.finish_opening.Goals as goal

pub invariant_of-self-2 : goal.invariant_of-self-2
invariant_of-self-2 c =
    let base : Base = base_of c.self.inside.base in
    let o = c.in-Some.opener in
    let is : c.self.inside.opener ≡ Some o = sym c.take_opener.ensures.taken ∙ c.in-Some.is in
    let same : c.requires.looking ≡ o = same_Some c.requires.looking o (sym c.requires.is ∙ sym (ap (λ (v : CoreView). v.opener) c.self.view_is) ∙ is) in
    let rests : out_of_opener c.self.inside.opener ≡ None = ap out_of_opener is ∙ subst (λ (l : Looking). out_of_look l.stage ≡ None) same c.requires.rests in
    let opening = subst (λ x. IfSome x (IsOpening c.self.inside.standing c.self.inside.phases.items)) is c.self.invariant.opening in
    let none = none_closed _ c.self.invariant opening.closed in
    let expected = expected_may c.self.inside.pending c.self.inside.last c.in-Some-read_by.found c.self.inside.swept
    (subst (λ p. IsExpected c.self.inside.last p c.in-Some-read_by.found) c.visited_checkpoint.ensures c.in-Some-read_by.ensures.opens.expected) in
    let used = found_used c.self.inside.pending c.self.inside.last c.in-Some-read_by.found c.self.inside.numbers.begun expected c.self.invariant.numbers_are.newest_used c.self.invariant.numbers_are.frozen_used in
    let held : c.self.inside.journal.held ≡ 1 = c.self.invariant.held ∙ ap (held_for c.self.inside.pending c.self.inside.dumper.running) is ∙ held_opening c.self.inside.pending c.self.inside.dumper.running o none in
    let less = c.append_held.ensures.held in
    let zero_is : c.append_held.new.self.held ≡ 0 = omega (arith, held, less) in
    record {
      journal_is = (reopened_journal c.tracked_laws.ensures c.plain_law.ensures base c.self.inside.journal c.append_held.new.self c.self.inside.memory c.self.inside.pending c.self.inside.last c.in-Some-read_by.found c.self.inside.swept
          c.append_held.ensures.items c.append_held.ensures.numbers.first c.append_held.ensures.numbers.limit expected c.sound.ensures c.self.invariant.visited_is c.self.invariant.journal_is).0;
      visited_is = not_swept false None c.self.inside.memory refl;
      flags_are = set_flags base c.append_held.new.self.items false false false (ap (λ all. has_grown base (entries_of all)) (sym c.append_held.ensures.items)) refl (ap has_visited_all (sym c.append_held.ensures.items));
      gated = none_works _ c.self.inside.dumper.running none;
      held = zero_is ∙ sym (held_idle c.self.inside.dumper.running none) ∙ ap (held_for None c.self.inside.dumper.running) (sym c.take_opener.ensures.left);
      outs_are = none_out Open c.self.inside.outs c.in-Some-read_by.opened.phases.items c.self.inside.dumper.running c.self.inside.merger c.take_opener.new.opener none
          (none_merges _ c.self.invariant opening.closed) (ap out_of_opener c.take_opener.ensures.left)
          (nobody_is _ o c.self.invariant is rests);
      opening = subst (λ x. IfSome x (IsOpening Open c.in-Some-read_by.opened.phases.items)) (sym c.take_opener.ensures.left) tt;
      numbers_are = subst (λ all. AreSoundNumbers base all None c.in-Some-read_by.found c.found.new.self) (sym c.append_held.ensures.items)
          (reopened_numbers base c.self.inside.journal.items c.self.inside.pending c.self.inside.last c.in-Some-read_by.found c.self.inside.numbers c.found.new.self
          (ap (λ (n : Numbers). n.begun) c.found.ensures.others) (ap (λ (n : Numbers). n.given) c.found.ensures.others) (above_own c.found.ensures.checkpoint) (above_own c.found.ensures.serial) used c.self.invariant.numbers_are);
      counted = λ serial i at. above_found c.sound-2.ensures c.found.ensures.checkpoint serial i at;
      rests = λ idle stands. refl;
      work = none_works _ c.self.inside.dumper.running none;
      little = none_works _ c.self.inside.dumper.running none;
      merging = no_merge _ c.self.inside.merger (none_merges _ c.self.invariant opening.closed);
    }

-- ---- the step

pub returns-in_default-read_by : goal.returns-in_default-read_by
returns-in_default-read_by c =
    let o = c.in-Some.opener in
    let is : c.self.inside.opener ≡ Some o = sym c.take_opener.ensures.taken ∙ c.in-Some.is in
    let opening = subst (λ x. IfSome x (IsOpening c.self.inside.standing c.self.inside.phases.items)) is c.self.invariant.opening in
    let awaited = awaited_is (parts_of c.self.inside) c.self.invariant c.visited_checkpoint.result c.visited_checkpoint.ensures in
    let newest = c.self.invariant.journal_is.newest_is in
    let gone = c.release_for_opening.ensures in
    read_seen _ _ _ _ c.self.view_is (strange refl (record {
      looking = o;
      is = is;
      strange = subst (λ l. SawStrange o l (if has_visited_all c.self.inside.journal.items then pending (entries_of c.self.inside.journal.items) else None)) newest
          (subst (λ p. SawStrange o c.self.inside.last p) awaited (c.in_default-read_by.ensures.strange refl));
      damage = subst (λ l. SawDamage o l (if has_visited_all c.self.inside.journal.items then pending (entries_of c.self.inside.journal.items) else None)) newest
          (subst (λ p. SawDamage o c.self.inside.last p) awaited (c.in_default-read_by.ensures.damaged refl));
      new_is = let_go_seen (parts_of c.self.inside) c.self.invariant c.release_for_opening.new.journal c.take_opener.new.opener gone.items gone.limit
          (held_let_go c.self.inside.pending c.self.inside.dumper.running o c.self.inside.journal c.release_for_opening.new.journal (none_closed _ c.self.invariant opening.closed)
          (c.self.invariant.held ∙ ap (held_for c.self.inside.pending c.self.inside.dumper.running) is) gone)
          c.take_opener.ensures.left;
    }))

pub returns : goal.returns
returns c =
    let o = c.in-Some.opener in
    let is : c.self.inside.opener ≡ Some o = sym c.take_opener.ensures.taken ∙ c.in-Some.is in
    let opening = subst (λ x. IfSome x (IsOpening c.self.inside.standing c.self.inside.phases.items)) is c.self.invariant.opening in
    let none = none_closed _ c.self.invariant opening.closed in
    let awaited = awaited_is (parts_of c.self.inside) c.self.invariant c.visited_checkpoint.result c.visited_checkpoint.ensures in
    let newest = c.self.invariant.journal_is.newest_is in
    let held : c.self.inside.journal.held ≡ 1 = c.self.invariant.held ∙ ap (held_for c.self.inside.pending c.self.inside.dumper.running) is ∙ held_opening c.self.inside.pending c.self.inside.dumper.running o none in
    let less = c.append_held.ensures.held in
    let zero_is : c.append_held.new.self.held ≡ 0 = omega (arith, held, less) in
    read_seen _ _ _ _ c.self.view_is (opens c.in-Some-read_by.found refl (record {
      looking = o;
      is = is;
      read = c.in-Some-read_by.opened;
      reads = subst (λ l. OpensAnew o l (if has_visited_all c.self.inside.journal.items then pending (entries_of c.self.inside.journal.items) else None) c.in-Some-read_by.opened c.in-Some-read_by.found) newest
          (subst (λ p. OpensAnew o c.self.inside.last p c.in-Some-read_by.opened c.in-Some-read_by.found) awaited c.in-Some-read_by.ensures.opens);
      numbers = (the_view (record c.self.inside { numbers = c.found.new.self })).numbers;
      finds = search rules;
      new_is = opened_seen (parts_of c.self.inside) c.append_held.new.self c.in-Some-read_by.opened.phases.items c.in-Some-read_by.opened.catalog c.take_opener.new.opener c.found.new.self c.in-Some-read_by.found
          c.in-Some-read_by.found c.append_held.ensures.items c.append_held.ensures.numbers.limit zero_is c.take_opener.ensures.left;
    }))
