-- What a digester was fed.
use Rattle.std.specs.Prelude.{◌≡◌, ℕ, List, [], None, MatchOption}
use Rattle.sha2.specs.Hashers.{Holds256}
use Rattle.sd_image.specs.declared.digester.Digester.{Digester}

-- a digester that was fed nothing
abbrev pub fresh : Digester
fresh = record { hasher = None }

-- it was fed these bytes, and no others
abbrev pub HasFed : Digester → List ℕ → Type 0
HasFed digester fed = MatchOption digester.hasher (fed ≡ []) (λ hasher. Holds256 hasher fed)
