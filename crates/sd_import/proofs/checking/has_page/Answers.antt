use Rattle.std.proofs.Common.{rules, ◌≡◌, ◌∙◌, ◌+◌, ◌*◌, ◌/◌, Some, IfSome, arith, refl, subst, sym}
use Rattle.sd_pagetable.specs.Contents.{page_at}
use Rattle.sd_pagetable.specs.Page.{PageState}
use Rattle.sd_import.proofs.CheckLemmas.{page_compared}
use Rattle.sd_import.proofs.checking.has_page.Goals as goal

pub returns-then-is_permitted : goal.returns-then-is_permitted
returns-then-is_permitted g c =
    let is : c.prot_of.result ≡ Some c.prot.result = search rules in
    let permitted = subst (λ o. IfSome o (λ prot. (found : PageState) → page_at c.args.memory.now c.args.space c.in-Some.page ≡ Some found → found.prot ≡ prot)) is c.prot_of.ensures in
    page_compared _ (g.F.CoreFile.bytes c.args.file.now) c.args.memory.now c.args.segment.now c.args.space c.args.number (4096 * c.args.number) c.in-Some.page
    c.read_page.new.page c.has_bytes.result refl c.in-Some.ensures.value c.whole.ensures c.read_page.auto.page
    (λ found there. permitted found there ∙ c.prot.ensures) c.has_bytes.ensures c.in_ok-read_page.ensures
