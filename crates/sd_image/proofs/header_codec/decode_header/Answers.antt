use Rattle.std.proofs.Common.{◌≡◌, ℕ, List, length, drop, Result, Ok, Err, IfOk, ◌∙◌, arith}
use Rattle.sd_image.specs.declared.header.Header.{Header}
use Rattle.sd_image.specs.declared.reason.Reason.{Reason}
use Rattle.sd_image.specs.Header.{header_text, IsHeader}
use Rattle.sd_image.specs.Reading.{header_in}
use Rattle.sd_image.proofs.Steps.{IsBytes}
use Rattle.sd_image.proofs.HeaderRules.{header_takes, header_again}
use Rattle.sd_image.proofs.header_codec.decode_header.Goals as goal

is_found : (bytes : List ℕ) (len : ℕ) (r : Result Header Reason) → length bytes ≡ 4096 → IsBytes bytes → r ≡ header_in bytes len → IfOk r (λ h. (drop 1 bytes ≡ header_text h) × IsHeader h len)
is_found bytes len (Ok h) long fits e = header_takes bytes len h long fits (cc)
is_found bytes len (Err d) long fits e = tt

pub returns-clause-found : goal.returns-clause-found
returns-clause-found c = is_found c.args.bytes.now c.args.len c.header_of.result c.requires (λ i. omega (arith, c.type_inv.bytes i)) c.header_of.ensures

pub returns-clause-only : goal.returns-clause-only
returns-clause-only c = λ h e good. c.header_of.ensures ∙ header_again c.args.bytes.now c.args.len h c.requires e good
