use Rattle.std.proofs.Common.{◌≡◌, ℕ, List, refl, arith}
use Rattle.sd_image.specs.declared.header.Header.{Header}
use Rattle.sd_image.specs.Header.{header_front}
use Rattle.sd_writing.proofs.digests.with_digest.Goals as goal

-- the front of a header has no part of its digest
same_front : (h : Header) (digest : List ℕ) → header_front h ≡ header_front (record h { digest = digest })
unfolding header_front
same_front h digest = refl

pub returns-clause-digest : goal.returns-clause-digest
returns-clause-digest c = grind (arith, same_front)
