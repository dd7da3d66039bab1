use Rattle.std.proofs.Common.{◌≡◌, ◌∙◌, ◌++◌, ◌∷◌, [], ap, sym}
use Rattle.sd_elf.specs.Cores.{program_headers_in}
use Rattle.sd_elf.proofs.CoreLemmas.{headers_more}
use Rattle.sd_elf.proofs.core_file.program_headers.Goals as goal

pub loop-k-preserved : goal.loop-k-preserved
loop-k-preserved c =
    let was = c.loop-k.invariant in
    let read = c.decode_program_header.ensures in
    let pushed = c.in_ok-push.ensures.items in
    let more = headers_more c.loop-k.k c.args.bytes.now in
    let e : c.push.new.self.items ≡ c.loop-k.segments.items ++ c.decode_program_header.result ∷ [] = pushed in
    e ∙ ap (λ hs. hs ++ c.decode_program_header.result ∷ []) was ∙ ap (λ h. program_headers_in c.loop-k.k c.args.bytes.now ++ h ∷ []) read ∙ sym more
