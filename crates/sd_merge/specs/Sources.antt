-- What a merge knows of the image that it repeats.
use Rattle.std.specs.Prelude.{ℕ, min, List, sum_by}
use Rattle.sd_image.specs.declared.run.Run.{Run}
use Rattle.sd_image.specs.Table.{Listed}
use Rattle.sd_chain.specs.Catalog.{Opened}
use Rattle.sd_merge.specs.declared.source.Source.{Source}

-- an image that is restored has at most 65,536 pages
abbrev pub few_pages : ℕ → ℕ
few_pages pages = min pages 65536

abbrev pub runs_count : List Run → ℕ
runs_count = sum_by (λ (r : Run). r.count)

-- how many pages a table lists
abbrev pub listed_count : List Listed → ℕ
listed_count = sum_by (λ (s : Listed). runs_count s.runs)

-- the source of a merge, by the open image that it copies
abbrev pub source_from : Opened → Source
source_from i = record {
  serial = i.header.serial;
  stands_for = i.header.stands_for;
  checkpoint = i.header.checkpoint;
  pages = few_pages (listed_count i.spaces);
}
