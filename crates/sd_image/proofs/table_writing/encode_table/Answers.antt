use Rattle.std.proofs.Common.{ap, ◌∙◌, map, arith}
use Rattle.std.proofs.lemmas.List.{length-map}
use Rattle.sd_image.specs.Table.{listing_of, table_text}
use Rattle.sd_image.proofs.Written.{three_parts, zero_4}
use Rattle.sd_image.specs.Reading.{table_in}
use Rattle.sd_image.proofs.TableLaws.{table_again}
use Rattle.sd_image.proofs.table_writing.encode_table.Goals as goal

pub returns-clause-text : goal.returns-clause-text
unfolding table_text
returns-clause-text c = grind (arith, length-map, zero_4, three_parts)

pub returns-clause-read_back : goal.returns-clause-read_back
returns-clause-read_back c = λ header good.
    ap (table_in header) (returns-clause-text c) ∙ table_again header (map listing_of c.args.table.now.spaces.items) good
