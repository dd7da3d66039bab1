use Rattle.std.proofs.Common.{subst}
use Rattle.std.specs.Prelude.{IfSome}
use Rattle.sd_disk.specs.Contents.{file_at}
use Rattle.sd_restore.specs.Reading.{IsReading, IsDecodedAs, IsSoundTable}
use Rattle.sd_restore.proofs.scanned.Scanned.take_in.Goals as goal

pub returns-in_ok-add-in-Some-clause-scanned : goal.returns-in_ok-add-in-Some-clause-scanned
returns-in_ok-add-in-Some-clause-scanned c = λ contents less reading was.
    let read : IsDecodedAs (file_at contents c.args.slot) c.in-Some.decoded = subst (IsReading (file_at contents c.args.slot)) c.in-Some.is reading in
    c.in_ok-add-in-Some.ensures.scanned contents read.image less read.opens read.spelled read.header read.spaces was

pub returns-in_ok-add-in-Some-clause-read : goal.returns-in_ok-add-in-Some-clause-read
returns-in_ok-add-in-Some-clause-read c = λ count within sound was.
    c.in_ok-add-in-Some.ensures.read count within (subst (λ opened. IfSome opened IsSoundTable) c.in-Some.is sound) was
