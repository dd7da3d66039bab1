use Rattle.sd_diff.proofs.ListLemmas.{page_joined}
use Rattle.sd_diff.proofs.difference.push_pages.Goals as goal

pub returns-then-goes_on : goal.returns-then-goes_on
returns-then-goes_on c = record {
  pages = page_joined c.pop.new.self.items c.args.list.now.items c.push.new.self.items c.in-Some.last c.args.run c.longer.result
      c.in-Some.ensures.items c.in_ok-push.ensures.items (record {
        space = c.goes_on.ensures.space c.if-goes_on.true;
        behind = c.goes_on.ensures.behind c.if-goes_on.true;
        long_space = c.longer.ensures.space;
        long_first = c.longer.ensures.first;
        long_count = c.longer.ensures.count;
      });
}
