use Rattle.std.proofs.Common.{◌∙◌, ◌+◌, ◌*◌, ℕ, List, length, ap, sym}
use Rattle.std.specs.List.{slice_range}
use Rattle.sd_disk.specs.Contents.{file_at}
use Rattle.sd_chain.specs.declared.found.Found.{Found}
use Rattle.sd_chain.specs.Chains.{found_on}
use Rattle.sd_chain.specs.Store.{bytes_at}
use Rattle.sd_restore.proofs.TakeLemmas.{range_of_same, range_within}
use Rattle.sd_restore.proofs.placing.read_placed_pages.Goals as goal

pub returns-in_ok-read_file-in-Data-clause-bytes : goal.returns-in_ok-read_file-in-Data-clause-bytes
returns-in_ok-read_file-in-Data-clause-bytes g c = λ honest k fits.
    let contents : List (List ℕ) = g.D.Disk.contents c.args.disk.now in
    ap (λ (bytes : List ℕ). slice_range bytes (4096 * k) (4096 * k + 4096)) (c.in_ok-read_file-in-Data.ensures.bytes honest)
    ∙ range_within (file_at contents c.in-Data.slot) c.in-Data.offset (length c.args.bytes.now) (4096 * k) 4096 fits
    ∙ ap (λ (there : Found). bytes_at contents (found_on there k)) (sym c.in-Data.is)

pub returns-in-Zero-clause-bytes : goal.returns-in-Zero-clause-bytes
returns-in-Zero-clause-bytes g c = λ honest k fits.
    let contents : List (List ℕ) = g.D.Disk.contents c.args.disk.now in
    ap (λ (bytes : List ℕ). slice_range bytes (4096 * k) (4096 * k + 4096)) (c.fill.ensures.after (λ y e. e))
    ∙ range_of_same 0 (length c.args.bytes.now) (4096 * k) 4096 fits
    ∙ ap (λ (there : Found). bytes_at contents (found_on there k)) (sym c.in-Zero.is)
