use Rattle.std.proofs.Common.{◌≡◌, ◌++◌, ◌∷◌, [], ◌-◌, ◌+◌, List, ℕ, map, sym, subst, arith}
use Rattle.std.proofs.lemmas.Result.{err_from_is_err_and}
use Rattle.std.proofs.lemmas.List.{map_push}
use Rattle.sd_image.specs.Table.{Listed, listing_of}
use Rattle.sd_image.specs.Reading.{many, space_at}
use Rattle.sd_image.proofs.Many.{with_front, goes_on, ends_fails, is_done}
use Rattle.sd_image.proofs.table_reading.spaces_of.Goals as goal

abbrev number_of : Listed → ℕ
number_of s = s.space

pub returns-in_err-space : goal.returns-in_err-space
returns-in_err-space c = grind (arith, err_from_is_err_and, ends_fails)

pub loop-preserved : goal.loop-preserved
loop-preserved c =
    let total = many (space_at c.args.header.now) number_of c.args.count 0 c.args.bytes.now in
    let after = c.in_ok-space.after.now in
    let x = listing_of c.in_ok-space.space in
    let front = map listing_of c.loop.spaces.items in
    let next = goes_on (space_at c.args.header.now) number_of front c.args.count c.loop.counter c.loop.before c.loop.rest.now x after total c.loop-test.true c.in_ok-space.ensures c.loop.invariant in
    let same = subst (λ (n : ℕ). with_front (front ++ x ∷ []) (many (space_at c.args.header.now) number_of (c.args.count - (c.loop.counter + 1)) n after) ≡ total) (sym c.number-before.ensures) next in
    let items : map listing_of c.push.new.self.items ≡ front ++ x ∷ [] = rw c.in_ok-push.ensures.items (map_push listing_of c.loop.spaces.items c.in_ok-space.space) in
    subst (λ (xs : List Listed). with_front xs (many (space_at c.args.header.now) number_of (c.args.count - (c.loop.counter + 1)) c.number-before.result after) ≡ total) (sym items) same

pub returns : goal.returns
returns c = is_done (space_at c.args.header.now) number_of (map listing_of c.loop.spaces.items) c.args.count c.loop.counter c.loop.before c.loop.rest.now (many (space_at c.args.header.now) number_of c.args.count 0 c.args.bytes.now) c.loop-test.false c.loop.invariant
