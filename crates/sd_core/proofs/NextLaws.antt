-- The marks that the dumper's steps add.
use Rattle.std.proofs.Common.{◌+◌, Some, refl, sym, ◌∙◌, ap, subst, inl, arith}
use Rattle.sd_command.specs.declared.refusal.Refusal.TheVariants.{OutOfMemory}
use Rattle.sd_command.specs.declared.reply.Reply.TheVariants as reply
use Rattle.sd_gate.specs.declared.worker.Worker.TheVariants.{Dumper}
use Rattle.sd_gate.specs.Requests.{Asked}
use Rattle.sd_crash_safety.specs.View.{CoreView}
use Rattle.sd_core.specs.declared.taken.Taken.{Taken}
use Rattle.sd_core.specs.declared.taken.Taken.TheVariants as taken
use Rattle.sd_core.specs.Next.{AsksNext, AsksPageWrite, AsksTableWrite, BeginsImage, CopiesSector, Freezes, NextByDumper, VisitsPage, asks, asks_page, asks_table, begins_image, copies, freezes, out_of_memory, refused, visits}
use Rattle.sd_rounds.specs.Dumper.{next_slot, serial_of_running, slot_before, slot_of}
use Rattle.sd_rounds.specs.Making.{Making, is_passing}
use Rattle.sd_core.specs.Noted.{NotesBy, ends_pass, is_at_pass, is_passing_image, marks_of}
use Rattle.sd_core.proofs.OthersLemmas.{notes_start, notes_table as table_noted, passed}

notes_begins : (old new : CoreView) (request : Asked) → BeginsImage old request new → NotesBy Dumper old (taken.Call request) new
notes_begins old new request b =
    notes_start old new (next_slot old.dumper.running) (slot_of b.running) (ends_pass old new) (ap next_slot b.was ∙ ap (slot_before b.running) b.none) (record {
      serial = old.numbers.serial + 1;
      own = ap (λ (v : CoreView). serial_of_running v.dumper.running) b.new_is ∙ ap (λ (m : Making). Some m.order.serial) b.steps.0.is;
      noted = ap (λ (v : CoreView). marks_of v.items) b.new_is;
    })

notes_asks : (old new : CoreView) (request : Asked) → AsksNext old request new → NotesBy Dumper old (taken.Call request) new
notes_asks old new request b = grind arith

notes_page : (old new : CoreView) (request : Asked) → AsksPageWrite old request new → NotesBy Dumper old (taken.Call request) new
notes_page old new request b = grind arith

notes_table : (old new : CoreView) (request : Asked) → AsksTableWrite old request new → NotesBy Dumper old (taken.Call request) new
notes_table old new request b =
    table_noted old new (next_slot old.dumper.running) (ends_pass old new) (ap next_slot b.it.was ∙ ap (slot_before b.it.running) b.it.making)
    (passed (is_at_pass old.dumper.running) (is_at_pass new.dumper.running) (ap is_at_pass b.it.was ∙ ap is_passing_image b.it.making ∙ ap is_passing b.it.steps.0.stage)
    (ap (λ (v : CoreView). is_at_pass v.dumper.running) b.new_is ∙ ap (λ (m : Making). is_passing m.stage) b.it.steps.0.is)) (record {
      serial = b.it.image.order.serial;
      own = ap (λ (v : CoreView). serial_of_running v.dumper.running) b.new_is ∙ ap (λ (m : Making). Some m.order.serial) b.it.steps.0.is;
      noted = ap (λ (v : CoreView). marks_of v.items) b.new_is;
    })

notes_visits : (old new : CoreView) → VisitsPage old new → NotesBy Dumper old (taken.Step reply.Worked) new
notes_visits old new b = grind arith

notes_copies : (old new : CoreView) → CopiesSector old new → NotesBy Dumper old (taken.Step reply.Worked) new
notes_copies old new b = grind arith

notes_freezes : (old new : CoreView) → Freezes old new → NotesBy Dumper old (taken.Step reply.Worked) new
notes_freezes old new b = grind arith

pub notes_all : (made : Taken) (old new : CoreView) → NextByDumper old made new → NotesBy Dumper old made new
notes_all made old new (begins_image request is b) = subst (λ m. NotesBy Dumper old m new) (sym is) (notes_begins old new request b)
notes_all made old new (asks request is b) = subst (λ m. NotesBy Dumper old m new) (sym is) (notes_asks old new request b)
notes_all made old new (freezes is b) = subst (λ m. NotesBy Dumper old m new) (sym is) (notes_freezes old new b)
notes_all made old new (visits is b) = subst (λ m. NotesBy Dumper old m new) (sym is) (notes_visits old new b)
notes_all made old new (copies is b) = subst (λ m. NotesBy Dumper old m new) (sym is) (notes_copies old new b)
notes_all made old new (asks_page request is b) = subst (λ m. NotesBy Dumper old m new) (sym is) (notes_page old new request b)
notes_all made old new (asks_table request is b) = subst (λ m. NotesBy Dumper old m new) (sym is) (notes_table old new request b)
notes_all made old new (refused why may is same) = subst (λ m. NotesBy Dumper old m new) (sym is) (subst (λ v. NotesBy Dumper old (taken.Step (reply.Refused why)) v) (sym same) (inl refl))
notes_all made old new (out_of_memory may is same) = subst (λ m. NotesBy Dumper old m new) (sym is) (subst (λ v. NotesBy Dumper old (taken.Step (reply.Refused OutOfMemory)) v) (sym same) (inl refl))
