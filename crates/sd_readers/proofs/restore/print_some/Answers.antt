use Rattle.std.proofs.Common.{◌≡◌, ◌+◌, ◌/◌, ℕ, List, length, ap, ◌∙◌, arith, subst}
use Rattle.std.specs.Io.KnownBytes.{Appends}
use Rattle.sd_chain.specs.Chains.{found_on}
use Rattle.sd_chain.specs.Store.{bytes_at}
use Rattle.sd_readers.specs.Texts.{pages_text}
use Rattle.sd_readers.proofs.PageLemmas.{read_pages_text}
use Rattle.sd_readers.proofs.restore.print_some.Goals as goal

pub returns-clause-text : goal.returns-clause-text
returns-clause-text g c = λ honest.
    let contents : List (List ℕ) = g.D.Disk.contents c.args.disk.now in
    let run = c.args.run.now in
    let bytes : List ℕ = c.read_placed_pages.new.bytes in
    let first : ℕ = c.number.result + c.args.behind in
    let room = c.requires.room in
    let same = c.read_placed_pages.auto.bytes in
    let count : length bytes / 4096 ≡ c.args.count = omega (arith, room, same) in
    subst (Appends (g.W.Write.contents c.args.out.now.writer) (g.W.Write.contents c.print_read.new.out.writer))
    (ap (pages_text first bytes) count
    ∙ read_pages_text contents run c.args.behind c.args.count first bytes (ap (λ n. n + c.args.behind) c.number.ensures.value)
    (λ k less. c.in_ok-read_placed_pages.ensures.bytes honest k (omega (arith, room, less)) ∙ ap (λ there. bytes_at contents (found_on there k)) c.place.ensures.place))
    c.in_ok-print_read.ensures.text
