use Rattle.std.proofs.Common.{◌≡◌, ◌≤◌, ◌*◌, take}
use Rattle.std.specs.List.{flat_map, range_with_len}
use Rattle.sd_readers.specs.Texts.{part_text}
use Rattle.sd_readers.proofs.page_text.put_page.Given as goal

-- the lines so far stand there
abbrev pub invariant-loop-number : goal.invariant-loop-number
invariant-loop-number l = record {
  within : l.end ≤ 90 * l.number;
  lines : take l.end l.text ≡ flat_map (part_text l.address l.page) (range_with_len 0 l.number);
}
