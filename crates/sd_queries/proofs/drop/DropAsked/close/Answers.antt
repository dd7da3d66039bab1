-- What came of closing a slot of what was found, whatever is seen of it.
use Rattle.std.proofs.Common.{◌≢◌, ◌∙◌, subst}
use Rattle.std.proofs.lemmas.Result.{IfErr-weaker}
use Rattle.sd_disk.specs.contracts.dir_disk.DirDiskDisk.TheImpl as dir
use Rattle.sd_disk.specs.Reads.{OnlyReads}
use Rattle.sd_drop.specs.declared.drop_error.DropError.TheVariants.{Device}
use Rattle.sd_program.specs.Seen.{within}
use Rattle.sd_queries.specs.Dropping.{CameOfDrop}
use Rattle.sd_queries.proofs.DropLemmas.{came_of}
use Rattle.sd_queries.proofs.drop.DropAsked.close.Goals as goal

pub returns : goal.returns
returns g c = record {
  came =
      let slot = c.args.self.now.slot in
      let force = c.args.self.now.force in
      let drop = c.drop_image-ended in
      subst (λ files. CameOfDrop dir.ghosts files slot force drop.result) (c.disk-disk.ensures.files ∙ c.in_ok-disk.ensures.files)
      (came_of dir.ghosts slot force (within c.disk-disk.result) (within drop.new.disk) drop.result
      (λ honest plain shown is before. let span = drop.ensures.kept honest plain shown is before in record { later = span.later; each = span.each; before = span.before })
      (λ shown before. let span = drop.ensures.counted shown before in record { later = span.later; each = span.each; before = span.before })
      drop.ensures.others drop.ensures.shown drop.ensures.dropped drop.ensures.unneeded drop.ensures.says
      (IfErr-weaker drop.result (λ error. error ≢ Device → OnlyReads _ c.disk-disk.result drop.new.disk) (λ error. error ≢ Device → OnlyReads dir.ghosts (within c.disk-disk.result) (within drop.new.disk)) (λ error reads other. let r = reads other in record { same = r.same; crash = r.crash; time = r.time; left = r.left; honest = r.honest; failures = r.failures }) drop.ensures.refused));
}
