use Rattle.std.proofs.Common.{◌≡◌, ◌-◌, None, Some}
use Rattle.sd_image.specs.Reading.{many, area_at}
use Rattle.sd_image.proofs.Many.{with_front, last_of}
use Rattle.sd_image.proofs.table_reading.areas_of.Given as goal

abbrev pub invariant-loop : goal.invariant-loop
invariant-loop l = with_front l.areas.items (many (area_at) Some (l.count - l.counter) (last_of l.areas.items) l.rest) ≡ many (area_at) Some l.count None l.bytes
