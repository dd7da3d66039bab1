use Rattle.std.proofs.Common.{rules, ◌≡◌, ℕ, List, Some, sym, subst}
use Rattle.sd_areas.specs.Memory.{memory_of}
use Rattle.sd_world.specs.Opens.{IsFaultOf}
use Rattle.sd_areas.specs.PlainMemory.{PlainMemory}
use Rattle.sd_image.specs.Shows.{Shows}
use Rattle.sd_pagetable.specs.Tracking.{IsBeginning}
use Rattle.sd_core.specs.Starts.{shown_base}
use Rattle.sd_world.specs.declared.open_fault.OpenFault.TheVariants.{NoFrame}
use Rattle.sd_world.proofs.LimitLemmas.{no_frame}
use Rattle.sd_world.proofs.OpenLemmas.{fault_of_want}
use Rattle.sd_world.proofs.opening.start_of.Goals as goal
use Rattle.sd_world.proofs.opening.start_of.Goals.{in-Some+in_ok-memory-in-Some, in-None+in_ok-memory-in-None}

pub returns-in_err-memory-in-Some-clause-fault : goal.returns-in_err-memory-in-Some-clause-fault
returns-in_err-memory-in-Some-clause-fault g c = λ honest.
    let contents = g.D.Disk.contents c.args.disk.now in
    let before = g.D.Disk.failed c.args.disk.now in
    let now = g.D.Disk.failed c.phases_in.new.disk in
    let it : IsFaultOf contents before now c.in_err-memory-in-Some.field-0.0 =
    fault_of_want contents before now c.args.frames (memory_of c.in_ok-number.base) c.in_err-memory-in-Some.field-0.0 c.in_err-memory-in-Some.ensures.fault in
    search rules

pub returns-in_err-memory-in-Some-clause-no_frame : goal.returns-in_err-memory-in-Some-clause-no_frame
returns-in_err-memory-in-Some-clause-no_frame g c = λ honest refused.
    let contents : List (List ℕ) = g.D.Disk.contents c.args.disk.now in
    let memory : PlainMemory = memory_of c.in_ok-number.base in
    let fault = c.in_err-memory-in-Some.field-0.0 in
    let same : fault ≡ NoFrame = search rules in
    let shows : Shows contents (Some (c.in-Some.field-0, memory)) =
    subst (λ n. Shows contents (shown_base n memory)) c.in-Some.is
    (subst (λ files. Shows files (shown_base c.in_ok-number.number memory)) c.in_ok-sync_all.ensures.reads.same
    (c.in_ok-number.ensures.shows (c.in_ok-phases.ensures.reads.honest honest))) in
    no_frame c.shown_is_within_limits.ensures contents c.args.frames c.in-Some.field-0 memory fault same c.in_err-memory-in-Some.ensures.fault shows

pub returns-clause-begins : goal.returns-clause-begins
returns-clause-begins g c = elim c.match-number.branch [
  | in-Some+in_ok-memory-in-Some w ↦ subst IsBeginning (sym w.memory-is) w.in_ok-memory-in-Some.ensures.begins
  | in-None+in_ok-memory-in-None w ↦ subst IsBeginning (sym w.memory-is) w.in_ok-memory-in-None.ensures.begins
]
