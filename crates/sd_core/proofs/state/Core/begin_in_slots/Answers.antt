use Rattle.std.proofs.Common.{◌≡◌, ◌∷◌, length, Some, None, refl, sym, ◌∙◌, ap, subst, inl, inr, arith}
use Rattle.std.proofs.lemmas.List.{length-take-le}
use Rattle.sd_journal.specs.History.{Base}
use Rattle.sd_journal.specs.Legal.{IsAbove}
use Rattle.sd_journal.specs.Marked.{entries_of}
use Rattle.sd_merge.specs.Merger as merger
use Rattle.sd_rounds.specs.Dumper.{begun_checkpoint, out_of_running, slot_of, writes_of_running}
use Rattle.sd_core.proofs.FlagLemmas.{same_flags}
use Rattle.sd_core.specs.Beginning.{AreReserved, begin_refusal}
use Rattle.sd_core.specs.Next.{begins}
use Rattle.sd_core.proofs.CoreParts.{parts_of}
use Rattle.sd_core.proofs.NextOrders.{begin_seen, begun_seen}
use Rattle.sd_core.specs.declared.numbers.Numbers.{Numbers}
use Rattle.sd_core.specs.Sound.{AreOuts, AreSoundNumbers, held_for}
use Rattle.sd_core.specs.Starts.{base_of}
use Rattle.sd_core.proofs.BeginLemmas.{MayBegin, begun_counted, begun_numbers, may_begin, none_opens}
use Rattle.sd_core.proofs.BegunLemmas.{begun_beside, few_due}
use Rattle.sd_core.proofs.JournalLemmas.{same_journal}
use Rattle.sd_core.proofs.OutsLemmas.{dumper_outs, no_write, open_outs}
use Rattle.sd_rounds.specs.Writes.{no_writes}
use Rattle.sd_core.proofs.SlotLemmas.{filled_free, free_within, slots_apart}
use Rattle.sd_core.proofs.WorkLemmas.{core_working, merger_out}
use Rattle.sd_core.specs.contracts.state.Core.{the_view}
use Rattle.sd_core.proofs.state.Core.begin_in_slots.Goals as goal

pub invariant_of-self-2 : goal.invariant_of-self-2
invariant_of-self-2 c =
    let base : Base = base_of c.self.inside.base in
    let may = subst (λ v. MayBegin v c.args.rounds) (sym c.self.view_is) (may_begin c.args.self.now c.args.rounds c.requires) in
    let inside = c.self.invariant in
    let closed = none_opens c.self.inside.opener c.self.inside.standing c.self.inside.phases.items inside.opening may.stands in
    let none = inside.rests may.idle may.stands in
    let slots = c.in-Some.slots in
    let view = the_view c.self.inside in
    let r = subst (λ v. AreReserved v c.args.rounds slots.pre_dumps.items slots.dump) (sym c.self.view_is)
    (record { slots = c.in-Ok.free.items; free = c.in-Ok.ensures; firsts = c.in-Some.ensures.firsts; next = c.in-Some.ensures.next; spare = c.in-Some.ensures.spare }) in
    let grown = c.in-Ok-hold.ensures.ok in
    let begun = ap (λ (n : Numbers). n.begun) c.begin-number.ensures.numbers in
    let checkpoint = ap (λ (n : Numbers). n.checkpoint) c.begin-number.ensures.numbers in
    let given = ap (λ (n : Numbers). n.given) c.begin-number.ensures.numbers in
    let serial = ap (λ (n : Numbers). n.serial) c.begin-number.ensures.numbers in
    let outs : c.self.inside.outs ≡ None ∷ merger.out_of_merge c.self.inside.merger ∷ None ∷ no_writes =
    inside.outs_are.jobs may.stands ∙ ap (λ r. out_of_running r ∷ merger.out_of_merge c.self.inside.merger ∷ None ∷ writes_of_running r) may.idle in
    let held = grown.held in
    let before = inside.held ∙ ap (λ f. held_for f c.self.inside.dumper.running c.self.inside.opener) none ∙ ap (λ r. held_for None r c.self.inside.opener) may.idle
    ∙ ap (held_for None None) closed in
    let two : c.hold.new.self.held ≡ 2 = omega (arith, held, before) in
    let few = may.few in
    let used = may.serial in
    let one = few_due c.self.inside.merger in
    let spare = r.spare in
    let short = ap length r.firsts ∙ length-take-le c.args.rounds r.slots (omega (arith, spare)) in
    let number = c.begin-number.ensures.number in
    let below = inside.numbers_are.checkpoints in
    let running = begun_checkpoint c.begin-number.result slots.pre_dumps.items slots.dump c.first_parent-parent.result in
    core_working _ _ c.begin_checkpoint.ensures.running (record {
      journal_is = same_journal base c.self.inside.journal c.hold.new.self c.self.inside.memory c.self.inside.pending c.self.inside.last grown.first grown.items grown.limit inside.journal_is;
      held = two ∙ ap (λ f. held_for f (Some running) None) (sym none);
      outs_are = subst (λ st. AreOuts st c.self.inside.outs c.self.inside.phases.items (Some running) c.self.inside.merger None) (sym may.stands)
          (open_outs c.self.inside.outs c.self.inside.phases.items (Some running) c.self.inside.merger outs
          (dumper_outs c.self.inside.phases.items running (free_within c.free_law.ensures view r.slots (slot_of running) r.free
          (filled_free view c.args.rounds c.begin-number.result slots.pre_dumps.items slots.dump c.first_parent-parent.result (slot_of running) r (record { place = 0; from = omega arith; is = refl }))) tt tt tt)
          (λ id is. merger_out _ id inside may.stands is)
          (λ id other is at same. elim is [ inl own ↦ (let no : None ≡ Some id = own in cc) | inr page ↦ no_write page.0 id page.1 ]));
      numbers_are = subst (λ all. AreSoundNumbers base all c.self.inside.pending c.self.inside.last c.begin-number.new.self) (sym grown.items)
          (subst (λ f. AreSoundNumbers base c.self.inside.journal.items f c.self.inside.last c.begin-number.new.self) (sym none)
          (begun_numbers base c.self.inside.journal.items c.self.inside.last c.self.inside.numbers c.begin-number.new.self begun checkpoint given serial
          (subst (λ f. AreSoundNumbers base c.self.inside.journal.items f c.self.inside.last c.self.inside.numbers) none inside.numbers_are)));
      visited_is = inside.visited_is;
      flags_are = same_flags base c.self.inside.journal.items c.hold.new.self.items c.self.inside.swept c.self.inside.grows c.self.inside.committing grown.items inside.flags_are;
      gated = tt;
      counted = begun_counted c.self.inside.catalog c.self.inside.numbers c.begin-number.new.self checkpoint inside.counted;
      work = record {
        stands = may.stands;
        closed = closed;
        pends = none;
        above = λ is. subst (λ all. IsAbove base (entries_of all) c.begin-number.result) (sym grown.items) (inside.numbers_are.used c.begin-number.result (omega (arith, number, below)));
        some = omega (arith, number);
        number = number ∙ sym begun;
        few = omega (arith, short, few);
        serials = omega (arith, serial, used, one);
        within = λ slot reserved. free_within c.free_law.ensures view r.slots slot r.free (filled_free view c.args.rounds c.begin-number.result slots.pre_dumps.items slots.dump c.first_parent-parent.result slot r reserved);
        apart = λ one other below within. slots_apart c.free_law.ensures view c.args.rounds slots.pre_dumps.items slots.dump one other r below within;
        pre_dumps = refl;
        asked = tt;
        whose = tt;
        writes = tt;
        image = tt;
      };
      little = tt;
      merging = begun_beside c.free_law.ensures view c.self.inside.numbers c.begin-number.new.self c.self.inside.room c.args.rounds c.begin-number.result slots.pre_dumps.items slots.dump c.first_parent-parent.result r
          outs serial given (omega (arith, checkpoint)) inside.merging;
    })

pub returns : goal.returns
returns c =
    let may = subst (λ v. MayBegin v c.args.rounds) (sym c.self.view_is) (may_begin c.args.self.now c.args.rounds c.requires) in
    let inside = c.self.invariant in
    let closed = none_opens c.self.inside.opener c.self.inside.standing c.self.inside.phases.items inside.opening may.stands in
    let none = inside.rests may.idle may.stands in
    let slots = c.in-Some.slots in
    let view = the_view c.self.inside in
    let r = subst (λ v. AreReserved v c.args.rounds slots.pre_dumps.items slots.dump) (sym c.self.view_is)
    (record { slots = c.in-Ok.free.items; free = c.in-Ok.ensures; firsts = c.in-Some.ensures.firsts; next = c.in-Some.ensures.next; spare = c.in-Some.ensures.spare }) in
    let grown = c.in-Ok-hold.ensures.ok in
    let held = grown.held in
    let before = inside.held ∙ ap (λ f. held_for f c.self.inside.dumper.running c.self.inside.opener) none ∙ ap (λ r. held_for None r c.self.inside.opener) may.idle
    ∙ ap (held_for None None) closed in
    let two : c.hold.new.self.held ≡ 2 = omega (arith, held, before) in
    let number = c.begin-number.ensures.number in
    begin_seen _ _ _ _ _ c.self.view_is (begins c.begin-number.result refl (record {
      may = subst (λ v. begin_refusal v c.args.rounds ≡ None) (sym c.self.view_is) c.requires;
      number = number;
      pre_dumps = slots.pre_dumps.items;
      dump = slots.dump;
      reserved = r;
      parent = c.first_parent-parent.result;
      first = c.first_parent-parent.ensures;
      new_is = begun_seen (parts_of c.self.inside) c.hold.new.self _ c.begin-number.new.self c.begin-number.result _ grown.items grown.limit two
          c.begin_checkpoint.ensures.running c.begin_checkpoint.ensures.counted
          (c.begin-number.ensures.numbers ∙ ap (λ k. record c.self.inside.numbers { checkpoint = k; begun = k }) (sym number));
    }))
