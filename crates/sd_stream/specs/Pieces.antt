-- Bytes that are written or read in several calls, of which one may fail.
use Rattle.std.specs.Prelude.{◌≡◌, ℕ, ◌<◌, List, ◌++◌, length, Option}
use Rattle.std.specs.Io.KnownBytes.{Appends, Consumes, IsAtEnd}
use Rattle.sd_stream.specs.declared.stream_error.StreamError.{StreamError}
use Rattle.sd_stream.specs.declared.stream_error.StreamError.TheVariants as read

-- a beginning of these bytes was written
pub record WritesBeginning (before after : Option (List ℕ)) (bytes : List ℕ) : Type 0 where
  pub front : List ℕ
  pub rest : List ℕ
  pub whole : front ++ rest ≡ bytes
  pub written : Appends before after front

-- fewer bytes than these were left, and were taken
pub record CutsOff (before after : Option (List ℕ)) (wanted : ℕ) : Type 0 where
  pub front : List ℕ
  pub short : length front < wanted
  pub taken : Consumes before after front
  pub end : IsAtEnd after

-- why fewer bytes were read
abbrev pub IsCutOff : Option (List ℕ) → Option (List ℕ) → ℕ → StreamError → Type 0
IsCutOff before after wanted read.EndsEarly = CutsOff before after wanted
IsCutOff before after wanted (read.Input _) = Unit {0}
IsCutOff before after wanted _ = ⊥

-- why an input isn't at its end
abbrev pub IsNoEnd : List ℕ → StreamError → Type 0
IsNoEnd rest read.BytesAfterEnd = 0 < length rest
IsNoEnd rest (read.Input _) = Unit {0}
IsNoEnd rest _ = ⊥
