use Rattle.std.proofs.Common.{◌≡◌, ◌/◌, ◌*◌, ◌+◌, ℕ, List, Option, Bor, IfSome, is_some, slice_range, length, Some, ap, sym, ◌∙◌, subst, arith}
use Rattle.sd_pagetable.specs.Contents.{page_at}
use Rattle.sd_pagetable.specs.Page.{PageState}
use Rattle.sd_pagetable.specs.Sectors.{sector_bytes}
use Rattle.sd_rounds.specs.Pass.{Pass}
use Rattle.sd_rounds.specs.Rounds.{taking_of}
use Rattle.sd_rounds.proofs.CopyLemmas.{WasRead, was_read, copies_more, copies_zeros, taken_is}
use Rattle.sd_rounds.proofs.round.Round.copy_sector.Goals as goal

pub returns-then-ends_in_zeros-clause-copied : goal.returns-then-ends_in_zeros-clause-copied
returns-then-ends_in_zeros-clause-copied c =
    let len : c.len-number.result ≡ length c.self.inside.copy = c.len-number.ensures.value in
    let read : WasRead c.args.memory.now (c.in-Some.space, c.in-Some.page) (length c.self.inside.copy / 512) (sector_bytes c.in-Some-framed_sector.sector) =
    subst (λ n. WasRead c.args.memory.now (c.in-Some.space, c.in-Some.page) (n / 512) (sector_bytes c.in-Some-framed_sector.sector)) len
    (was_read c.args.memory.now (c.in-Some.space, c.in-Some.page) (c.len-number.result / 512) (sector_bytes c.in-Some-framed_sector.sector)
    (sym c.framed_sector.ensures.mapped ∙ ap is_some c.in-Some-framed_sector.is) c.framed_sector.ensures.whole (subst (λ (r : Option (Option (Bor (List ℕ)))). IfSome r (λ sector. IfSome (page_at c.args.memory.now c.in-Some.space c.in-Some.page) (λ (found : PageState).
    sector_bytes sector ≡ slice_range found.bytes (512 * (c.len-number.result / 512)) (512 * (c.len-number.result / 512) + 512)))) c.in-Some-framed_sector.is c.framed_sector.ensures.bytes)) in
    let is = taken_is c.self.inside.takes_all c.self.inside.tables.items c.self.inside.after c.self.inside.taking c.self.inside.copy (c.in-Some.space, c.in-Some.page) c.in-Some.is in
    copies_zeros c.self.inside.takes_all c.self.inside.tables.items c.self.inside.after c.self.inside.taking c.self.inside.copy
    (c.in-Some.space, c.in-Some.page) c.args.memory.now (sector_bytes c.in-Some-framed_sector.sector) c.args.self.now c.enter_taken.new.self
    c.self.view_is c.self.invariant c.in-Some.is c.requires read (subst (λ (r : Option (Option (Bor (List ℕ)))). IfSome r (λ sector. length (sector_bytes sector) ≡ 512)) c.in-Some-framed_sector.is c.framed_sector.ensures.length)
    (sym (c.ends_in_zeros.ensures (taking_of c.self.inside.copy (c.in-Some.space, c.in-Some.page)) (subst (λ (p : Pass). p.taking ≡ Some (taking_of c.self.inside.copy (c.in-Some.space, c.in-Some.page))) c.self.view_is is)) ∙ c.if-ends_in_zeros.true)
    c.in_ok-enter_taken.ensures.entered

pub returns-clause-copied : goal.returns-clause-copied
returns-clause-copied c = grind (arith, was_read, taken_is, copies_more)
