use Rattle.std.proofs.Common.{◌≡◌, ◌-◌, map}
use Rattle.sd_image.specs.Table.{Listed, listing_of}
use Rattle.sd_image.specs.Reading.{many, space_at}
use Rattle.sd_image.proofs.Many.{with_front}
use Rattle.sd_image.proofs.table_reading.spaces_of.Given as goal

abbrev pub invariant-loop : goal.invariant-loop
invariant-loop l = with_front (map listing_of l.spaces.items) (many (space_at l.header) (λ (s : Listed). s.space) (l.count - l.counter) l.before l.rest) ≡ many (space_at l.header) (λ (s : Listed). s.space) l.count 0 l.bytes
