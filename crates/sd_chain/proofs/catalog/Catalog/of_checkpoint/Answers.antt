use Rattle.std.proofs.Common.{subst}
use Rattle.sd_chain.specs.Catalog.{AreInOrder, Places, images}
use Rattle.sd_chain.specs.Checkpoints.{IsCheckpointChoice}
use Rattle.sd_chain.proofs.CheckpointLemmas.{checkpoint_place, finds_checkpoint}
use Rattle.sd_chain.proofs.catalog.Catalog.of_checkpoint.Goals as goal

pub returns-clause-store : goal.returns-clause-store
returns-clause-store c = λ contents catalog.
    finds_checkpoint c.one_image.ensures contents c.args.self.now c.args.number c.of_checkpoint.result (subst AreInOrder c.self.view_is c.self.invariant) catalog
    (subst (λ (es : Places). IsCheckpointChoice c.args.number (images es) c.of_checkpoint.result) c.self.view_is c.of_checkpoint.ensures)

pub returns-clause-own : goal.returns-clause-own
returns-clause-own c =
    checkpoint_place c.args.self.now c.args.number c.of_checkpoint.result (subst AreInOrder c.self.view_is c.self.invariant)
    (subst (λ (es : Places). IsCheckpointChoice c.args.number (images es) c.of_checkpoint.result) c.self.view_is c.of_checkpoint.ensures)
