use Rattle.std.proofs.Common.{◌≡◌, ℕ, ◌+◌, ◌-◌, ◌*◌, ◌<◌, List, Option, Some, None, replicate, take, drop, sym, ap, ◌∙◌, subst, arith}
use Rattle.std.specs.Prelude.{IfSome, slice_range}
use Rattle.std.specs.Option.{option_map}
use Rattle.std.specs.Borrow.{Bor}
use Rattle.std.proofs.lemmas.List.{drop-replicate, take-replicate}
use Rattle.sd_pagetable.specs.Page.{PageState, zeros}
use Rattle.sd_pagetable.specs.Contents.{Contents, page_at}
use Rattle.sd_pagetable.specs.Sectors.{framed_bytes}
use Rattle.sd_pagetable.proofs.memory.Memory.framed_sector.Goals as goal

-- a sector of a page of zeros
zeros_part : (n : ℕ) → n < 8 → replicate 512 0 ≡ slice_range zeros (512 * n) (512 * n + 512)
unfolding zeros
zeros_part n l =
    let long : 512 * n + 512 - 512 * n ≡ 512 = omega arith in
    sym (ap (λ k. take k (drop (512 * n) (replicate 4096 0))) long ∙ ap (λ (xs : List ℕ). take 512 xs) (drop-replicate (512 * n) 4096 0) ∙ take-replicate 512 (4096 - 512 * n) 0 (omega arith))

none_part : (r : Option (Option (Bor (List ℕ)))) (v : Option (Bor (List ℕ))) (o : Option PageState) (n : ℕ) → n < 8 → option_map framed_bytes r ≡ option_map (λ (page : PageState). page.bytes) o → r ≡ Some v → v ≡ None
    → IfSome o (λ (found : PageState). replicate 512 0 ≡ slice_range found.bytes (512 * n) (512 * n + 512))
none_part r v None n l e was is = tt
none_part r v (Some page) n l e was is =
    let same : zeros ≡ page.bytes = (let f : ◌≡◌ {A = Option (List ℕ)} (Some zeros) (Some page.bytes) = sym (ap (option_map framed_bytes) (was ∙ ap Some is)) ∙ e in cc) in
    subst (λ (bytes : List ℕ). replicate 512 0 ≡ slice_range bytes (512 * n) (512 * n + 512)) same (zeros_part n l)

pub returns-in_default-clause-bytes : goal.returns-in_default-clause-bytes
returns-in_default-clause-bytes c =
    none_part c.framed.result _ (page_at c.args.self.now c.args.space c.args.page) c.args.sector c.requires
    (c.framed.ensures.value ∙ ap (λ (m : Contents). option_map (λ (page : PageState). page.bytes) (page_at m c.args.space c.args.page)) c.self.view_is) c.in_ok-bytes.was c.in_default.is
