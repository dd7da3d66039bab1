-- The small words of the format.
use Rattle.std.specs.Prelude.{ℕ, List, codes, replicate}
use Rattle.std.specs.Int.{bytes_low_first}
use Rattle.sd_image.specs.declared.header.Version.{Version}
use Rattle.sd_image.specs.declared.header.Version.TheVariants.{One, Two}
use Rattle.sd_image.specs.declared.header.Kind.{Kind}
use Rattle.sd_image.specs.declared.header.Kind.TheVariants.{PreDump, Dump, Merged}
use Rattle.sd_image.specs.declared.run.RunKind.{RunKind}
use Rattle.sd_image.specs.declared.run.RunKind.TheVariants.{Data, Parent, Zero}

-- a number in n bytes, little endian
unfoldable pub number_bytes : ℕ → ℕ → List ℕ
number_bytes n x = bytes_low_first 0 n x

-- n zeros
unfoldable pub zero_bytes : ℕ → List ℕ
zero_bytes n = replicate n 0

abbrev pub version_number : Version → ℕ
version_number One = 1
version_number Two = 2

-- the kind of an image as its header has it
abbrev pub kind_number : Kind → ℕ
kind_number PreDump = 1
kind_number Dump = 2
kind_number Merged = 3

-- the kind of an image as it is printed
abbrev pub kind_name : Kind → List ℕ
kind_name PreDump = codes "pre-dump"
kind_name Dump = codes "dump"
kind_name Merged = codes "merged"

-- the kind of a run as its table has it
abbrev pub run_kind_number : RunKind → ℕ
run_kind_number Data = 1
run_kind_number Parent = 2
run_kind_number Zero = 3
