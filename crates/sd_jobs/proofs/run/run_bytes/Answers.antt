-- The script's requests are run over the disk that was opened.
use Rattle.std.proofs.Common.{◌≡◌, subst}
use Rattle.sd_disk.specs.Folder.{folder_files, outside_of}
use Rattle.sd_jobs.proofs.run.run_bytes.Goals as goal

pub returns : goal.returns
returns g c = record {
  runs = record {
    fits = c.in_ok-script.ensures.fits;
    old = c.in_ok-disk.disk;
    new = c.run_over-disk.result.0;
    ended = c.run_over-disk.result.1;
    opened = subst (λ called. folder_files c.in_ok-disk.disk.disk.disk.disk ≡ (outside_of called.found.now).found) c.new-session.ensures.called c.in_ok-disk.ensures.files;
    runs = rw (c.in_ok-script.ensures.requests, c.in_ok-disk.ensures.quiet) at c.run_over-disk.ensures.runs;
    exits = c.close.ensures.status;
  };
}
