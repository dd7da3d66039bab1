use Rattle.std.proofs.Common.{refl, sym, ◌∙◌}
use Rattle.std.proofs.lemmas.Bool.{false≢true}
use Rattle.sd_diff.proofs.PageLemmas.{prots_put}
use Rattle.sd_diff.proofs.spaces.note_prots.Goals as goal

pub returns-in_ok-push_change : goal.returns-in_ok-push_change
returns-in_ok-push_change c = record {
  adds = prots_put c.args.pages.now c.args.old c.args.new c.args.areas.now.items c.push_change.new.list.items (record { pages = c.args.pages.now; old = c.args.old; new = c.args.new })
      (λ same. false≢true (sym c.if-not-are_same_prots.true ∙ c.are_same_prots.ensures.1 same)) refl refl refl c.in_ok-push_change.ensures.changes;
}
