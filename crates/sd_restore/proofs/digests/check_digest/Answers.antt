use Rattle.std.proofs.Common.{rules, ◌≡◌, ◌≢◌, ◌∙◌, List, ℕ, ap, refl, sym}
use Rattle.sd_disk.specs.Contents.{file_at}
use Rattle.sd_image.specs.declared.header.Version.TheVariants.{Two}
use Rattle.sd_image.specs.Reading.{digest_of_file, table_in}
use Rattle.sd_restore.proofs.DigestLemmas.{digest_is_faulty}
use Rattle.sd_restore.proofs.digests.check_digest.Goals as goal

pub returns-then-ne-clause-wrong : goal.returns-then-ne-clause-wrong
returns-then-ne-clause-wrong g c = λ honest has is spaces table.
    let file : List ℕ = file_at (g.D.Disk.contents c.args.disk.now) c.args.slot in
    let two : c.args.header.now.version ≡ Two = search rules in
    let made : c.in_ok-digest.digest ≡ digest_of_file file = c.in_ok-digest.ensures.digest honest has is in
    let other : c.in_ok-digest.digest ≢ c.args.header.now.digest = search rules in
    let differs : c.args.header.now.digest ≢ digest_of_file file = λ same. other (made ∙ sym same) in
    (refl, digest_is_faulty c.good_header_has_no_reason.ensures file c.args.header.now spaces has (ap (table_in c.args.header.now) (sym is) ∙ table) two differs)
