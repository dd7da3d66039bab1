-- What was copied of a page so far.
use Rattle.std.specs.Prelude.{◌≡◌, ◌<◌, ◌≤◌, ◌++◌, ◌==◌, ℕ, Bool, List, [], replicate}
use Rattle.std.specs.List.{list_all}

-- its bytes, where so many zeros come before those of a buffer
abbrev pub copied_bytes : ℕ → List ℕ → List ℕ
copied_bytes front buffer = replicate front 0 ++ buffer

-- the zeros that come first aren't in the buffer, which is empty then; and it is known whether all is zeros
pub record IsPageCopy (front : ℕ) (buffer : List ℕ) (zeros : Bool) : Type 0 where
  pub few : front ≤ 4096
  pub bare : 0 < front → buffer ≡ []
  pub all : zeros ≡ list_all (λ byte. byte == 0) (copied_bytes front buffer)
