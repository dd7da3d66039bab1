-- What is left of the disk, and what was printed.
use Rattle.std.proofs.Common.{◌∷◌, inl, inr, refl}
use Rattle.sd_disk.specs.Reads.{nothing_read}
use Rattle.sd_script.specs.declared.line.Line.TheVariants as asked
use Rattle.sd_run.specs.Promise.{Promise}
use Rattle.sd_run.specs.Strict.{Passes}
use Rattle.sd_run.specs.Whole.{IsLeftByRun, IsPartOfRun, IsWholeRun, PrintsLines}
use Rattle.sd_run.proofs.EndLemmas.{unopened_why}
use Rattle.sd_run.proofs.LineLemmas.{then_on_ok}
use Rattle.sd_run.proofs.PromiseLemmas.{promise_of, promise_so_far}
use Rattle.sd_run.proofs.StrictLemmas.{lines_why}
use Rattle.sd_run.proofs.running.run_lines.Goals as goal

pub returns-in-Ok-open-clause-passes : goal.returns-in-Ok-open-clause-passes
returns-in-Ok-open-clause-passes g c =
    let lines = asked.Reopen ∷ c.args.script.lines.items in
    let from = g.W.Write.contents c.args.out.now.writer in
    let ended = c.answer_all-ended in
    let to = g.W.Write.contents ended.new.out.writer in
    let opened = c.in-Ok-open.world in
    let last = ended.new.world in
    then_on_ok ended.result ((all : PrintsLines g.D.Disk opened lines last from to) × Passes c.args.rule all.answers)
    ((run : IsWholeRun g.D.Disk lines c.args.disk c.close.result from to) × Passes c.args.rule run.answers.answers)
    (λ both. (
      record {
        opened = opened;
        last = last;
        run = record {
          opening = record {
            reads = c.in-Ok-open.ensures.reads;
            journal = c.in-Ok-open.ensures.journal;
            idle = c.in-Ok-open.ensures.idle;
            numbers = c.in-Ok-open.ensures.numbers;
            shows = c.in-Ok-open.ensures.shows;
            everywhere = c.in-Ok-open.ensures.everywhere;
            bare = c.in-Ok-open.ensures.bare;
            frames = c.in-Ok-open.ensures.frames;
          };
          goes_on = ended.ensures.goes_on;
          disk = c.close.ensures;
          at_end = c.sound.ensures.allowed;
          contents = c.sound.ensures.contents;
          tracked = c.sound.ensures.tracked;
        };
        answers = both.0;
      },
      both.1,
    ))
    ended.ensures.printed

pub returns-in-Ok-open-clause-whole : goal.returns-in-Ok-open-clause-whole
returns-in-Ok-open-clause-whole g c =
    let lines = asked.Reopen ∷ c.args.script.lines.items in
    let whole = IsWholeRun g.D.Disk lines c.args.disk c.close.result (g.W.Write.contents c.args.out.now.writer) (g.W.Write.contents c.answer_all-ended.new.out.writer) in
    then_on_ok c.answer_all-ended.result ((run : whole) × Passes c.args.rule run.answers.answers) whole (λ both. both.0) (returns-in-Ok-open-clause-passes g c)

pub returns-in-Ok-open-clause-strict : goal.returns-in-Ok-open-clause-strict
returns-in-Ok-open-clause-strict g c = λ refused.
    let part = c.answer_all-ended.ensures.strict refused in
    record {
      run = record {
        opened = c.in-Ok-open.world;
        last = c.answer_all-ended.new.world;
        run = record {
          opening = record {
            reads = c.in-Ok-open.ensures.reads;
            journal = c.in-Ok-open.ensures.journal;
            idle = c.in-Ok-open.ensures.idle;
            numbers = c.in-Ok-open.ensures.numbers;
            shows = c.in-Ok-open.ensures.shows;
            everywhere = c.in-Ok-open.ensures.everywhere;
            bare = c.in-Ok-open.ensures.bare;
            frames = c.in-Ok-open.ensures.frames;
          };
          goes_on = c.answer_all-ended.ensures.goes_on;
          disk = c.close.ensures;
          at_end = c.sound.ensures.allowed;
          contents = c.sound.ensures.contents;
          tracked = c.sound.ensures.tracked;
        };
        answers = part.some;
      };
      ends = part.ends;
      printed = part.printed;
    }

pub returns-in-Ok-open-clause-left : goal.returns-in-Ok-open-clause-left
returns-in-Ok-open-clause-left g c = IsLeftByRun.run (record {
  opened = c.in-Ok-open.world;
  last = c.answer_all-ended.new.world;
  run = record {
    opening = record {
      reads = c.in-Ok-open.ensures.reads;
      journal = c.in-Ok-open.ensures.journal;
      idle = c.in-Ok-open.ensures.idle;
      numbers = c.in-Ok-open.ensures.numbers;
      shows = c.in-Ok-open.ensures.shows;
      everywhere = c.in-Ok-open.ensures.everywhere;
      bare = c.in-Ok-open.ensures.bare;
      frames = c.in-Ok-open.ensures.frames;
    };
    goes_on = c.answer_all-ended.ensures.goes_on;
    disk = c.close.ensures;
    at_end = c.sound.ensures.allowed;
    contents = c.sound.ensures.contents;
    tracked = c.sound.ensures.tracked;
  };
  answers = c.answer_all-ended.ensures.told.some;
})

pub returns-in-Ok-open-clause-promise : goal.returns-in-Ok-open-clause-promise
returns-in-Ok-open-clause-promise g c =
    let lines = asked.Reopen ∷ c.args.script.lines.items in
    let from = g.W.Write.contents c.args.out.now.writer in
    let to = g.W.Write.contents c.answer_all-ended.new.out.writer in
    let new = c.close.result in
    then_on_ok c.answer_all-ended.result (IsWholeRun g.D.Disk lines c.args.disk new from to)
    (g.D.Disk.is_honest new → Promise g.D.Disk lines c.args.disk new from to)
    (promise_of g.D.Disk c.points_follow.ensures lines c.args.disk new from to) (returns-in-Ok-open-clause-whole g c)

pub returns-in-Ok-open-clause-so_far : goal.returns-in-Ok-open-clause-so_far
returns-in-Ok-open-clause-so_far g c = λ honest.
    let part : IsPartOfRun g.D.Disk (asked.Reopen ∷ c.args.script.lines.items) c.args.disk c.close.result = record {
      opened = c.in-Ok-open.world;
      last = c.answer_all-ended.new.world;
      run = record {
        opening = record {
          reads = c.in-Ok-open.ensures.reads;
          journal = c.in-Ok-open.ensures.journal;
          idle = c.in-Ok-open.ensures.idle;
          numbers = c.in-Ok-open.ensures.numbers;
          shows = c.in-Ok-open.ensures.shows;
          everywhere = c.in-Ok-open.ensures.everywhere;
          bare = c.in-Ok-open.ensures.bare;
          frames = c.in-Ok-open.ensures.frames;
        };
        goes_on = c.answer_all-ended.ensures.goes_on;
        disk = c.close.ensures;
        at_end = c.sound.ensures.allowed;
        contents = c.sound.ensures.contents;
        tracked = c.sound.ensures.tracked;
      };
      answers = c.answer_all-ended.ensures.told.some;
    } in
    inr (promise_so_far g.D.Disk c.points_follow.ensures (asked.Reopen ∷ c.args.script.lines.items) c.args.disk c.close.result
    (g.W.Write.contents c.args.out.now.writer) (g.W.Write.contents c.answer_all-ended.new.out.writer) part c.answer_all-ended.ensures.told.told honest)

pub returns-in-Err-clause-left : goal.returns-in-Err-clause-left
returns-in-Err-clause-left g c = IsLeftByRun.only_read (nothing_read g.D.Disk c.args.disk)

pub returns-in-Err-clause-so_far : goal.returns-in-Err-clause-so_far
returns-in-Err-clause-so_far g c = λ honest. inl (nothing_read g.D.Disk c.args.disk, refl)

pub returns-in-Err-open-clause-so_far : goal.returns-in-Err-open-clause-so_far
returns-in-Err-open-clause-so_far g c = λ honest. inl (c.in-Err-open.ensures.refused, refl)

pub returns-in-Ok-open-clause-why : goal.returns-in-Ok-open-clause-why
returns-in-Ok-open-clause-why g c = λ honest other.
    lines_why (λ _. ⊥) (g.D.Disk.contents c.args.disk) (g.D.Disk.failed c.args.disk) (g.D.Disk.failed c.close.result) c.args.rule c.answer_all-ended.result other
    c.answer_all-ended.ensures.stops

pub returns-in-Err-clause-why : goal.returns-in-Err-clause-why
returns-in-Err-clause-why g c = λ honest other. tt

pub returns-in-Err-open-clause-why : goal.returns-in-Err-open-clause-why
returns-in-Err-open-clause-why g c = λ honest other.
    let met = c.in-Err-open.field-0 in
    unopened_why (λ _. ⊥) (g.D.Disk.contents c.args.disk) (g.D.Disk.failed c.args.disk) (g.D.Disk.failed met.disk) met.fault c.unopened.result c.unopened.ensures
    (c.in-Err-open.ensures.fault honest) (c.in-Err-open.ensures.no_frame honest)
