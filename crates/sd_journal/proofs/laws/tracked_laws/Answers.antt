use Rattle.sd_journal.proofs.BitLemmas.{bits_begin}
use Rattle.sd_journal.proofs.MarkedLemmas.{legal, applied, frozen, told, started, visited, tabled}
use Rattle.sd_journal.proofs.laws.tracked_laws.Goals as goal

pub returns : goal.returns
returns c =
    let plain = c.plain_law.ensures in
    record {
      legal = legal;
      begins = λ base contents opened begins memory. record { marked = tt; memory = memory; bits = bits_begin base contents opened begins; swept = tt };
      applied = applied c.page_law.ensures c.effect_law.ensures;
      frozen = frozen;
      told = told;
      started = started;
      visited = visited c.clear_law.ensures c.effect_law-2.ensures plain;
      tabled = tabled plain;
    }
