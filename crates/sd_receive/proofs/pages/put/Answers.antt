use Rattle.std.proofs.Common.{ℕ, List, ◌∷◌, [], ◌++◌, sym, subst}
use Rattle.std.specs.List.{concat}
use Rattle.sd_image.specs.Digests.{HasFed}
use Rattle.sd_receive.specs.Arriving.{IsFilled}
use Rattle.sd_receive.proofs.ArriveLemmas.{keeps_still, one_longer, pages_more}
use Rattle.sd_receive.proofs.pages.put.Goals as goal

pub returns-in_err-buffer-clause-keeps : goal.returns-in_err-buffer-clause-keeps
returns-in_err-buffer-clause-keeps g c = λ has.
    let disk = c.args.disk.now in
    keeps_still g.D.Disk disk (λ files left. g.met.D.Disk.only_now disk files left) (λ files may. g.met.D.Disk.same_slots disk files may) has.fills.rests

pub returns-clause-taken : goal.returns-clause-taken
returns-clause-taken g c = λ has.
    let page : List ℕ = c.deref.result.now in
    let fills = c.in_ok-put_page.ensures.filled has.pages has.counted has.fills in
    record {
      pages = has.pages ++ page ∷ [];
      fills = subst (λ (p : List ℕ). IsFilled (g.D.Disk.contents c.put_page.new.disk) (g.D.Disk.may_leave c.put_page.new.disk) c.args.slot (has.pages ++ p ∷ [])) (sym c.deref.ensures.value) fills;
      counted = one_longer has.pages page c.args.place has.counted;
      fed = subst (HasFed c.digest_page.new.digester) (pages_more has.pages page) (c.digest_page.ensures (concat has.pages) has.fed);
    }
