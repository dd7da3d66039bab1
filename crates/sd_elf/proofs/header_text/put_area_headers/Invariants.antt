use Rattle.std.proofs.Common.{◌≡◌, ◌+◌, ◌*◌, ◌++◌, take}
use Rattle.std.specs.Prelude.{sum_by}
use Rattle.std.specs.List.{flat_map}
use Rattle.sd_elf.specs.Texts.{area_headers, program_header_text}
use Rattle.sd_elf.proofs.AreaLemmas.{count_of}
use Rattle.sd_elf.proofs.header_text.put_area_headers.Given as goal

-- the headers of the areas so far are written, and the next one's pages stand after theirs
abbrev pub invariant-loop-area : goal.invariant-loop-area
invariant-loop-area l = record {
  place : l.at ≡ l.place + 4096 * sum_by count_of (take l.area-index l.areas);
  written : l.out.items ≡ l.fn.out.items ++ flat_map program_header_text (area_headers l.place (take l.area-index l.areas));
}
