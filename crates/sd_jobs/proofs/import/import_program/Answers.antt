-- The cores are imported into the files that are found.
use Rattle.std.proofs.Common.{◌≡◌, subst}
use Rattle.sd_disk.specs.Folder.{folder_files, outside_of}
use Rattle.sd_jobs.proofs.import.import_program.Goals as goal

pub returns : goal.returns
returns g c = record {
  left = record {
    old = c.in_ok-disk.disk;
    new = c.import_over-disk.result.0;
    opened = subst (λ called. folder_files c.in_ok-disk.disk.disk.disk.disk ≡ (outside_of called.found.now).found) c.new-session.ensures.called c.in_ok-disk.ensures.files;
    left = c.import_over-disk.ensures.left;
  };
}
