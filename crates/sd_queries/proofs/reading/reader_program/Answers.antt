use Rattle.sd_queries.proofs.reading.reader_program.Goals as goal

pub returns : goal.returns
returns g c = record { answers = (c.in_ok-disk.disk, c.in_ok-disk.ensures.answers) }
