-- The reasons of a damaged slot, in words.
use Rattle.std.specs.Prelude.{ℕ, List, codes}
use Rattle.sd_image.specs.declared.reason.Reason.{Reason}
use Rattle.sd_image.specs.declared.reason.Reason.TheVariants as reason

-- what is so of the slot, and may not be
abbrev pub reason_phrase : Reason → List ℕ
reason_phrase reason.Magic = codes "bytes 1 to 7 are not SDCHAIN"
reason_phrase reason.Version = codes "the version is neither 1 nor 2"
reason_phrase reason.Kind = codes "the kind is not 1, 2 or 3"
reason_phrase reason.Reserved = codes "a byte of the header that has to be zero is not"
reason_phrase reason.Serial = codes "the serial is 0"
reason_phrase reason.StandsFor = codes "stands_for is not what it has to be beside the serial"
reason_phrase reason.Parent = codes "the parent is not what it has to be beside the serial"
reason_phrase reason.Checkpoint = codes "the checkpoint is 0"
reason_phrase reason.Length = codes "header, pages and table are not as long as the file"
reason_phrase reason.PastEnd = codes "an item goes past the table's end"
reason_phrase reason.Space = codes "there are over 16 spaces, or a space's number is wrong"
reason_phrase reason.Area = codes "an area is wrong, or there are too many"
reason_phrase reason.Run = codes "a run is wrong"
reason_phrase reason.Zero = codes "a number of the table that has to be zero is not"
reason_phrase reason.Coverage = codes "the runs' pages are not the areas' pages, or a space has no run"
reason_phrase reason.Total = codes "bytes remain behind the table, or its pages are not as many as they have to be"
reason_phrase reason.Digest = codes "the digest is not that of the file"
reason_phrase reason.Chain = codes "a page is in a parent that does not have it"
reason_phrase reason.DoubleSerial = codes "another open slot has this serial"
