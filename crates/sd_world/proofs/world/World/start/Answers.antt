-- The store of an opened world is opened again.
use Rattle.std.proofs.Common.{sym, subst}
use Rattle.sd_image.specs.Shows.{Shows}
use Rattle.sd_journal.specs.History.{Base}
use Rattle.sd_core.specs.Starts.{shown_base}
use Rattle.sd_world.proofs.StartLemmas.{job_begins}
use Rattle.sd_world.proofs.world.World.start.Goals as goal

pub returns-in-Ok-reopen_now-clause-reopened : goal.returns-in-Ok-reopen_now-clause-reopened
returns-in-Ok-reopen_now-clause-reopened g c =
    let opened = c.in-Ok.ensures in
    record {
      opened = c.in-Ok.world;
      opening = record {
        journal = opened.journal;
        standing = opened.standing;
        kept = opened.kept;
        idle = opened.idle;
        numbers = opened.numbers;
        reads = opened.reads;
        shows = opened.shows;
        everywhere = opened.everywhere;
        bare = opened.bare;
        pool = opened.frames;
      };
      job = (job_begins g.D.Disk c.in-Ok.world c.reopen_now.new.self c.in-Ok-reopen_now.field-0 opened.journal c.in-Ok-reopen_now.ensures.job).job;
      goes_on = c.reopen_now.ensures.goes_on;
    }

pub returns-in-Ok-reopen_now-clause-open : goal.returns-in-Ok-reopen_now-clause-open
returns-in-Ok-reopen_now-clause-open g c =
    (job_begins g.D.Disk c.in-Ok.world c.reopen_now.new.self c.in-Ok-reopen_now.field-0 c.in-Ok.ensures.journal c.in-Ok-reopen_now.ensures.job).stands

pub returns-in-Ok-reopen_now-clause-journal : goal.returns-in-Ok-reopen_now-clause-journal
returns-in-Ok-reopen_now-clause-journal g c =
    (job_begins g.D.Disk c.in-Ok.world c.reopen_now.new.self c.in-Ok-reopen_now.field-0 c.in-Ok.ensures.journal c.in-Ok-reopen_now.ensures.job).journal

pub returns-in-Ok-reopen_now-clause-shows : goal.returns-in-Ok-reopen_now-clause-shows
returns-in-Ok-reopen_now-clause-shows g c = λ honest.
    let begun = job_begins g.D.Disk c.in-Ok.world c.reopen_now.new.self c.in-Ok-reopen_now.field-0 c.in-Ok.ensures.journal c.in-Ok-reopen_now.ensures.job in
    subst (λ (b : Base). Shows (g.D.Disk.contents c.args.disk) (shown_base b.number b.memory)) (sym begun.base)
    (c.in-Ok.ensures.shows (c.reopen_now.ensures.goes_on.honest honest))
