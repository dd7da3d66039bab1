use Rattle.sd_journal.proofs.TrimmedMarks.{entries_after, marked, visiting_stays, started_fresh, cursor_stays, must_dump_stays, tracked}
use Rattle.sd_journal.proofs.VisitedLemmas.{visited}
use Rattle.sd_journal.proofs.laws.marked_trim_laws.Goals as goal

pub returns : goal.returns
returns c = record {
  entries = entries_after;
  marked = marked;
  visiting_stays = visiting_stays;
  fresh = started_fresh;
  cursor_stays = cursor_stays;
  visited = visited;
  must_dump_stays = must_dump_stays;
  tracked = tracked c.plain_law.ensures;
}
