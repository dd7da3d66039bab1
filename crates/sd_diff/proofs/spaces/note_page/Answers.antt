use Rattle.sd_diff.proofs.PageLemmas.{put_differs}
use Rattle.sd_diff.proofs.spaces.note_page.Goals as goal

pub returns-in_ok-push_pages-clause-adds : goal.returns-in_ok-push_pages-clause-adds
returns-in_ok-push_pages-clause-adds g c = λ honest.
    put_differs (g.D.Disk.contents c.args.disk.now) c.args.page c.args.old c.args.new c.args.written.now.items c.push_pages.new.list.items
    ((c.in_ok-differ.ensures.exact honest).0 c.if-branch.true) c.in_ok-push_pages.ensures.pages
