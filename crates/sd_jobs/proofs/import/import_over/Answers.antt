-- What is left of the disk.
use Rattle.sd_run.specs.Whole.{IsLeftByEvents}
use Rattle.sd_jobs.proofs.import.import_over.Goals as goal

pub returns-in-Ok : goal.returns-in-Ok
returns-in-Ok g c = record {
  left = IsLeftByEvents.run c.in-Ok.world c.import_all-ended.new.world (record {
    opening = record {
      reads = c.in-Ok.ensures.reads;
      journal = c.in-Ok.ensures.journal;
      idle = c.in-Ok.ensures.idle;
      numbers = c.in-Ok.ensures.numbers;
      shows = c.in-Ok.ensures.shows;
      everywhere = c.in-Ok.ensures.everywhere;
      bare = c.in-Ok.ensures.bare;
      frames = c.in-Ok.ensures.frames;
    };
    goes_on = c.import_all-ended.ensures.goes_on;
    disk = c.close.ensures;
    at_end = c.sound.ensures.allowed;
    contents = c.sound.ensures.contents;
    tracked = c.sound.ensures.tracked;
  });
}

pub returns-in-Err : goal.returns-in-Err
returns-in-Err g c = record { left = IsLeftByEvents.only_read c.in-Err.ensures.refused }
