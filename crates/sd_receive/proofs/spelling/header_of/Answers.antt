use Rattle.std.proofs.Common.{◌≡◌, ◌∙◌, ◌++◌, ℕ, List, refl, ap}
use Rattle.sha2.specs.Sha256.{sha256}
use Rattle.sd_image.specs.declared.header.Header.{Header}
use Rattle.sd_image.specs.Header.{header_front}
use Rattle.sd_receive.proofs.spelling.header_of.Goals as goal

-- the front of a header has no part of its digest
same_front : (h : Header) (digest : List ℕ) → header_front h ≡ header_front (record h { digest = digest })
unfolding header_front
same_front h digest = refl

pub returns-clause-digest : goal.returns-clause-digest
returns-clause-digest c = λ fed has.
    c.finish-digest.ensures (fed ++ c.args.table.now) (c.table.ensures fed has) ∙ ap (λ (f : List ℕ). sha256 ((fed ++ c.args.table.now) ++ f)) (same_front _ c.finish-digest.result)
