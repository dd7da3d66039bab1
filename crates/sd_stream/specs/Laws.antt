-- What the laws of streams speak of.
use Rattle.sd_stream.specs.declared.stream_error.StreamError.{StreamError}
use Rattle.sd_stream.specs.declared.stream_error.StreamError.TheVariants as read

-- the input failed
abbrev pub IsInput : StreamError → Type 0
IsInput (read.Input _) = Unit {0}
IsInput _ = ⊥
