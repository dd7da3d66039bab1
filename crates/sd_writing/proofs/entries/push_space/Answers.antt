use Rattle.std.proofs.Common.{[], refl, sym, subst}
use Rattle.sd_image.specs.Runs.{AreRunsOf}
use Rattle.sd_writing.proofs.entries.push_space.Goals as goal

pub returns-clause-begun : goal.returns-clause-begun
returns-clause-begun c = record {
  table = _;
  after = c.in_ok-push.ensures.items;
  space = refl;
  areas = c.new.ensures.items;
  runs = λ parent sourced. c.in_ok-push_page.ensures.more parent []
      (subst (AreRunsOf parent []) (sym c.new-runs.ensures.items) (record { maximal = tt; list = refl })) sourced;
  end = c.in_ok-push_page.ensures.end;
}
