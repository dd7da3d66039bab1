-- The disk that was opened is merged.
use Rattle.std.proofs.Common.{◌≡◌, subst}
use Rattle.sd_disk.specs.Folder.{folder_files, outside_of}
use Rattle.sd_jobs.proofs.merge.merge_program.Goals as goal

pub returns : goal.returns
returns g c = record {
  merges = record {
    old = c.in_ok-disk.disk;
    new = c.merge_to-disk.result.0;
    ended = c.merge_to-disk.result.1;
    opened = subst (λ called. folder_files c.in_ok-disk.disk.disk.disk.disk ≡ (outside_of called.found.now).found) c.new-session.ensures.called c.in_ok-disk.ensures.files;
    merges = rw c.in_ok-disk.ensures.quiet at c.merge_to-disk.ensures.exits;
    left = c.merge_to-disk.ensures.left;
    exits = c.close-status.ensures.status;
  };
}
