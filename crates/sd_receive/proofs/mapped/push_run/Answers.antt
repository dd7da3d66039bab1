use Rattle.std.proofs.Common.{rules, ◌≡◌, ◌∙◌, ◌+◌, ◌++◌, ◌∷◌, [], ℕ, ap, sym, suc, arith, append-nil, append_assoc}
use Rattle.sd_restore.specs.Placed.{page_of_run}
use Rattle.sd_restore.proofs.RunLemmas.{first_pages, none_first, one_more}
use Rattle.sd_receive.specs.Merged.{pages_seen}
use Rattle.sd_receive.proofs.mapped.push_run.Goals as goal

pub loop-k-init : goal.loop-k-init
loop-k-init c = sym (ap (λ ps. pages_seen c.args.pages.now.items ++ ps) (none_first c.args.run.now) ∙ append-nil (pages_seen c.args.pages.now.items))

pub loop-k-preserved : goal.loop-k-preserved
loop-k-preserved c =
    let run = c.args.run.now in
    let k : ℕ = c.loop-k.k in
    let at : c.unwrap-page.result ≡ c.number.result + k = search rules in
    let page : c.unwrap-page.result ≡ run.first + k = at ∙ ap (λ n. n + k) c.number.ensures.value in
    let seen = pages_seen c.args.pages.now.items in
    c.in_ok-push.ensures
    ∙ ap (λ ps. ps ++ (record { space = run.space; page = c.unwrap-page.result; prot = run.prot; there = c.place.result }) ∷ []) c.loop-k.invariant
    ∙ ap (λ (n : ℕ). (seen ++ first_pages run k) ++ (record { space = run.space; page = n; prot = run.prot; there = c.place.result }) ∷ []) page
    ∙ ap (λ there. (seen ++ first_pages run k) ++ (record { space = run.space; page = run.first + k; prot = run.prot; there = there }) ∷ []) c.place.ensures.place
    ∙ append_assoc seen (first_pages run k) (page_of_run run k ∷ [])
    ∙ ap (λ ps. seen ++ ps) (sym (one_more run k))
    ∙ ap (λ n. seen ++ first_pages run n) (let e : suc k ≡ k + 1 = omega arith in e)
