use Rattle.sd_world.proofs.laws.world_laws.Goals as goal

pub returns-clause-core : goal.returns-clause-core
returns-clause-core g c = record {
  lanes = c.goes_on.ensures.lanes;
  jobs = c.goes_on.ensures.jobs;
  opener = c.goes_on.ensures.alone;
  goes = c.goes_on.ensures.goes;
  merged = c.merged_stands.ensures;
  looks = c.pre_dumps_rest.ensures.looks;
  few = c.pre_dumps_rest.ensures.few;
  alone = c.pre_dumps_rest.ensures.alone;
  pre_dumps = c.pre_dumps.ensures;
  tracked = c.sound.ensures;
}

pub returns-clause-disk : goal.returns-clause-disk
returns-clause-disk g c = record {
  given_up = c.given_up_fits.ensures;
  synced = c.synced_is_found.ensures;
  as_read = g.met.D.Disk.as_read c.args.disk.now;
  same_slots = g.met.D.Disk.same_slots c.args.disk.now;
  only_now = g.met.D.Disk.only_now c.args.disk.now;
}
