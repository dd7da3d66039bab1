use Rattle.std.proofs.Common.{◌≡◌, ◌∙◌, Ok, ap, subst}
use Rattle.sd_crash_safety.specs.View.{CoreView}
use Rattle.sd_pagetable.specs.Contents.{plain_of}
use Rattle.sd_pagetable.specs.Nested.{inside}
use Rattle.sd_disk.specs.declared.disk.Disk.{Ghosts}
use Rattle.sd_import.specs.Changes.{MayGoOn}
use Rattle.sd_import.specs.Imported.{HasCore}
use Rattle.sd_world.specs.Goes.{GoesOn}
use Rattle.sd_world.specs.View.{WorldView}
use Rattle.sd_world.proofs.GoesOnLemmas.{goes_nowhere}
use Rattle.sd_import.proofs.ChangeLemmas.{changes_further, goes_at_least, may_further}
use Rattle.sd_import.proofs.importing.import_core.Goals as goal

pub returns-then-branch-clause-memory : goal.returns-then-branch-clause-memory
returns-then-branch-clause-memory g c =
    let bytes = g.F.CoreFile.bytes c.args.file.now in
    let last = c.take_core.new.world in
    let memory : c.memory-2.result.now ≡ last.core.memory = c.memory-2.ensures.same ∙ ap (λ (core : CoreView). core.memory) c.core-2.ensures in
    let found = c.in_ok-has_core.ensures (ap Ok c.if-branch.true) in
    subst (λ segments. HasCore bytes segments (inside (plain_of last.core.memory) c.args.space)) c.deref.ensures.value
    (subst (λ m. HasCore bytes c.deref.result.now (inside (plain_of m) c.args.space)) memory found)

pub returns-then-branch-clause-changes : goal.returns-then-branch-clause-changes
returns-then-branch-clause-changes g c = changes_further g.D.Disk c.args.space c.args.world.now c.make_missing.new.world c.take_core.new.world
    c.in_ok-make_missing.ensures.changes c.in_ok-take_core.ensures.changes

module _ {D : Type 0} (g : Ghosts D) where
  -- after the space is there, its core is taken
  both : (old mid new : WorldView D) → GoesOn g old old → MayGoOn g old mid → MayGoOn g mid new → GoesOn g old new
  both old mid new here first second = goes_at_least g old new here (may_further g old mid new first second)

pub returns-in_err-make_missing-clause-goes_on : goal.returns-in_err-make_missing-clause-goes_on
returns-in_err-make_missing-clause-goes_on g c = goes_at_least g.D.Disk c.args.world.now c.make_missing.new.world
    (goes_nowhere g.D.Disk c.args.world.now (g.met.D.Disk.only_now c.args.world.now.disk) c.sound.ensures.allowed) c.make_missing.ensures.goes_on

pub returns-in_err-before-clause-goes_on : goal.returns-in_err-before-clause-goes_on
returns-in_err-before-clause-goes_on g c = goes_at_least g.D.Disk c.args.world.now c.make_missing.new.world
    (goes_nowhere g.D.Disk c.args.world.now (g.met.D.Disk.only_now c.args.world.now.disk) c.sound.ensures.allowed) c.make_missing.ensures.goes_on

pub returns-in_err-take_core-clause-goes_on : goal.returns-in_err-take_core-clause-goes_on
returns-in_err-take_core-clause-goes_on g c = both g.D.Disk c.args.world.now c.make_missing.new.world c.take_core.new.world
    (goes_nowhere g.D.Disk c.args.world.now (g.met.D.Disk.only_now c.args.world.now.disk) c.sound.ensures.allowed)
    c.make_missing.ensures.goes_on c.take_core.ensures.goes_on

pub returns-in_err-has_core-clause-goes_on : goal.returns-in_err-has_core-clause-goes_on
returns-in_err-has_core-clause-goes_on g c = both g.D.Disk c.args.world.now c.make_missing.new.world c.take_core.new.world
    (goes_nowhere g.D.Disk c.args.world.now (g.met.D.Disk.only_now c.args.world.now.disk) c.sound.ensures.allowed)
    c.make_missing.ensures.goes_on c.take_core.ensures.goes_on

pub returns-then-branch-clause-goes_on : goal.returns-then-branch-clause-goes_on
returns-then-branch-clause-goes_on g c = both g.D.Disk c.args.world.now c.make_missing.new.world c.take_core.new.world
    (goes_nowhere g.D.Disk c.args.world.now (g.met.D.Disk.only_now c.args.world.now.disk) c.sound.ensures.allowed)
    c.make_missing.ensures.goes_on c.take_core.ensures.goes_on

pub returns-clause-goes_on : goal.returns-clause-goes_on
returns-clause-goes_on g c = both g.D.Disk c.args.world.now c.make_missing.new.world c.take_core.new.world
    (goes_nowhere g.D.Disk c.args.world.now (g.met.D.Disk.only_now c.args.world.now.disk) c.sound.ensures.allowed)
    c.make_missing.ensures.goes_on c.take_core.ensures.goes_on
