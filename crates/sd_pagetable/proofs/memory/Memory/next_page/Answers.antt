use Rattle.std.proofs.Common.{◌<◌, ℕ, Option, Some, None, IsSome, refl, arith}
use Rattle.sd_pagetable.specs.Nested.{value_at}
use Rattle.sd_pagetable.specs.Order.{IsFirstPage, IsNextPage}
use Rattle.sd_pagetable.specs.Contents.{Contents, IsSound}
use Rattle.sd_pagetable.proofs.NestedLemmas.{alive_at}
use Rattle.sd_pagetable.proofs.TableLemmas.{some_of}
use Rattle.sd_pagetable.proofs.memory.Memory.next_page.Goals as goal

positive : (m : Contents) → IsSound m → (space page : ℕ) → IsSome (value_at m.spaces space page) → 0 < space
positive m sound space page some =
    let x = some_of (value_at m.spaces space page) some in
    let s = (sound.spaces space (alive_at m.spaces space page x.0 x.1)).0 in
    omega (arith, s)

least_of_all : (m : Contents) (found : Option (ℕ × ℕ)) → IsSound m → IsFirstPage m.spaces 0 found → IsNextPage m.spaces None found
least_of_all m None sound h = λ space page some. absurd (h space page (positive m sound space page some) some)
least_of_all m (Some found) sound h = (h.1, refl, λ space page some a. h.2 space page (positive m sound space page some) some)

pub returns-in_default : goal.returns-in_default
returns-in_default c = rw c.in_default.is (least_of_all c.args.self.now c.first_page.result c.first_page.ensures.sound c.first_page.ensures.first)
