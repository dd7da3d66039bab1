use Rattle.std.proofs.Common.{◌≡◌, ◌∙◌, ℕ, ap, subst}
use Rattle.std.specs.Io.KnownBytes.{Appends}
use Rattle.sd_command.specs.declared.reply.Reply.TheVariants.{Merged}
use Rattle.sd_script.specs.Texts.{reply_line}
use Rattle.sd_run.specs.Merging.{IsLeftByMerge, IsMergeRun, IsWholeMerge, PrintsMerge}
use Rattle.sd_exit.specs.Ending.{status_of}
use Rattle.sd_run.proofs.EndLemmas.{ends_with_one, merged_why, unopened_is_one, unopened_why}
use Rattle.sd_run.proofs.LineLemmas.{then_on_ok}
use Rattle.sd_run.proofs.merging.merge_store.Goals as goal

pub returns-in-Ok-clause-merged : goal.returns-in-Ok-clause-merged
returns-in-Ok-clause-merged g c =
    let from = g.W.Write.contents c.args.out.now.writer in
    let to = g.W.Write.contents c.told-ended.new.out.writer in
    let new = c.close.result in
    let run : IsMergeRun g.D.Disk c.args.disk c.merge_tip-reply.result new = record {
      opened = c.in-Ok.world;
      last = c.merge_tip-reply.new.world;
      run = record {
        opening = record {
          reads = c.in-Ok.ensures.reads;
          journal = c.in-Ok.ensures.journal;
          idle = c.in-Ok.ensures.idle;
          numbers = c.in-Ok.ensures.numbers;
          shows = c.in-Ok.ensures.shows;
          everywhere = c.in-Ok.ensures.everywhere;
          bare = c.in-Ok.ensures.bare;
          frames = c.in-Ok.ensures.frames;
        };
        goes_on = c.merge_tip-reply.ensures.goes_on;
        disk = c.close.ensures;
        at_end = c.sound.ensures.allowed;
        contents = c.sound.ensures.contents;
        tracked = c.sound.ensures.tracked;
      };
      merges = c.merge_tip-reply.ensures.merges;
    } in
    then_on_ok c.told-ended.result ((serial : ℕ) × (c.merge_tip-reply.result ≡ Merged serial) × Appends from to (reply_line c.merge_tip-reply.result)) (IsWholeMerge g.D.Disk c.args.disk new from to)
    (λ told. (told.0, subst (λ answer. PrintsMerge g.D.Disk c.args.disk answer new from to) told.1 (record { run = run; printed = told.2 }))) c.told-ended.ensures.merged

pub returns-in-Ok-clause-refused : goal.returns-in-Ok-clause-refused
returns-in-Ok-clause-refused g c refused =
    let told = c.told-ended.ensures.refused refused in (
      c.merge_tip-reply.result,
      told.0,
      record {
        run = record {
          opened = c.in-Ok.world;
          last = c.merge_tip-reply.new.world;
          run = record {
            opening = record {
              reads = c.in-Ok.ensures.reads;
              journal = c.in-Ok.ensures.journal;
              idle = c.in-Ok.ensures.idle;
              numbers = c.in-Ok.ensures.numbers;
              shows = c.in-Ok.ensures.shows;
              everywhere = c.in-Ok.ensures.everywhere;
              bare = c.in-Ok.ensures.bare;
              frames = c.in-Ok.ensures.frames;
            };
            goes_on = c.merge_tip-reply.ensures.goes_on;
            disk = c.close.ensures;
            at_end = c.sound.ensures.allowed;
            contents = c.sound.ensures.contents;
            tracked = c.sound.ensures.tracked;
          };
          merges = c.merge_tip-reply.ensures.merges;
        };
        printed = told.1;
      },
    )

pub returns-in-Ok-clause-left : goal.returns-in-Ok-clause-left
returns-in-Ok-clause-left g c = IsLeftByMerge.run c.merge_tip-reply.result (record {
  opened = c.in-Ok.world;
  last = c.merge_tip-reply.new.world;
  run = record {
    opening = record {
      reads = c.in-Ok.ensures.reads;
      journal = c.in-Ok.ensures.journal;
      idle = c.in-Ok.ensures.idle;
      numbers = c.in-Ok.ensures.numbers;
      shows = c.in-Ok.ensures.shows;
      everywhere = c.in-Ok.ensures.everywhere;
      bare = c.in-Ok.ensures.bare;
      frames = c.in-Ok.ensures.frames;
    };
    goes_on = c.merge_tip-reply.ensures.goes_on;
    disk = c.close.ensures;
    at_end = c.sound.ensures.allowed;
    contents = c.sound.ensures.contents;
    tracked = c.sound.ensures.tracked;
  };
  merges = c.merge_tip-reply.ensures.merges;
})

pub returns-in-Ok-clause-why : goal.returns-in-Ok-clause-why
returns-in-Ok-clause-why g c = λ honest other.
    merged_why (λ _. ⊥) (g.D.Disk.contents c.args.disk) (g.D.Disk.failed c.args.disk) (g.D.Disk.failed c.close.result) c.told-ended.result other c.told-ended.ensures.stops

pub returns-in-Err-clause-why : goal.returns-in-Err-clause-why
returns-in-Err-clause-why g c = λ honest other.
    let met = c.in-Err.field-0 in
    unopened_why (λ _. ⊥) (g.D.Disk.contents c.args.disk) (g.D.Disk.failed c.args.disk) (g.D.Disk.failed met.disk) met.fault c.unopened.result c.unopened.ensures
    (c.in-Err.ensures.fault honest) (c.in-Err.ensures.no_frame honest)

pub returns-in-Ok-clause-stopped : goal.returns-in-Ok-clause-stopped
returns-in-Ok-clause-stopped g c = ends_with_one c.told-ended.result c.told-ended.ensures.stops

pub returns-in-Err-clause-stopped : goal.returns-in-Err-clause-stopped
returns-in-Err-clause-stopped g c = ap status_of c.unopened.ensures ∙ unopened_is_one c.in-Err.field-0.fault
