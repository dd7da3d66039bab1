-- A folder without files of slots is only read.
use Rattle.std.proofs.Common.{Err}
use Rattle.std.proofs.lemmas.Result.{IfOk-weaker}
use Rattle.sd_disk.specs.Reads.{nothing_read}
use Rattle.sd_drop.specs.declared.drop_error.DropError.TheVariants as drop
use Rattle.sd_queries.proofs.drop.drop_program.Goals as goal

pub returns-then-not-has_slot_files : goal.returns-then-not-has_slot_files
returns-then-not-has_slot_files g c =
    let disk = c.in_ok-open_store.field-0 in
    record {
      ends = IfOk-weaker c.print_kept.result _ _ (λ status says. record {
        ended = Err drop.Closed;
        came = record { old = disk; new = disk; opened = c.in_ok-open_store.ensures.files; reads = nothing_read _ disk };
        says = says;
      }) c.print_kept.ensures.says;
    }
