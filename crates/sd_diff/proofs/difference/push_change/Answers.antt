use Rattle.sd_diff.proofs.ListLemmas.{change_joined}
use Rattle.sd_diff.proofs.difference.push_change.Goals as goal

pub returns-then-is_continued : goal.returns-then-is_continued
returns-then-is_continued c = record {
  changes = change_joined c.pop.new.self.items c.args.list.now.items c.push.new.self.items c.in-Some.last c.args.change c.longer_change.result
      c.in-Some.ensures.items c.in_ok-push.ensures.items (record {
        pages = record {
          space = c.is_continued.ensures.space c.if-is_continued.true;
          behind = c.is_continued.ensures.behind c.if-is_continued.true;
          long_space = c.longer_change.ensures.space;
          long_first = c.longer_change.ensures.first;
          long_count = c.longer_change.ensures.count;
        };
        old = c.is_continued.ensures.old c.if-is_continued.true;
        new = c.is_continued.ensures.new c.if-is_continued.true;
        long_old = c.longer_change.ensures.old;
        long_new = c.longer_change.ensures.new;
      });
}
