use Rattle.std.proofs.Common.{true, false, sym, ap, subst, ◌∙◌}
use Rattle.sd_pagetable.specs.Contents.{plain_of}
use Rattle.sd_pagetable.specs.RefusalOrder.{answer}
use Rattle.sd_pagetable.specs.Kept.{HasAreas}
use Rattle.sd_pagetable.proofs.ForkCalls.{exit_dead, exit_alive, is_one, is_not_one, plain_ended, areas_ended}
use Rattle.sd_pagetable.proofs.fork_calls.exit.Goals as goal

pub returns-then-not-is_alive-clause-due : goal.returns-then-not-is_alive-clause-due
returns-then-not-is_alive-clause-due c = sym (ap (λ due. answer due tt) (exit_dead c.args.paging.now c.args.space (sym c.if-not-is_alive.ensures)))

pub returns-then-space_count-eq1-clause-due : goal.returns-then-space_count-eq1-clause-due
returns-then-space_count-eq1-clause-due c = sym (ap (λ due. answer due tt) (exit_alive c.args.paging.now c.args.space true (sym c.if-not-is_alive.ensures) (is_one _ (sym c.space_count.ensures ∙ c.if-space_count-eq1.true))))

pub returns-clause-kept : goal.returns-clause-kept
returns-clause-kept c = subst (HasAreas c.drop_areas.new.areas) (sym c.end_space.ensures)
    (areas_ended c.args.areas.now c.drop_areas.new.areas c.args.paging.now c.args.space c.requires.kept c.drop_areas.ensures)

pub returns-clause-due : goal.returns-clause-due
returns-clause-due c = sym (ap (λ due. answer due tt) (exit_alive c.args.paging.now c.args.space false (sym c.if-not-is_alive.ensures) (is_not_one _ (λ one. c.if-space_count-eq1.false (c.space_count.ensures ∙ one)))))

pub returns-clause-memory : goal.returns-clause-memory
returns-clause-memory c = ap plain_of c.end_space.ensures ∙ plain_ended c.args.paging.now c.args.space
