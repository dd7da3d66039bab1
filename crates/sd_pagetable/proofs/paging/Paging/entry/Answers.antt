use Rattle.std.proofs.Common.{◌≡◌, ap, ◌∙◌, sym, subst, Option, Some, None, refl}
use Rattle.std.specs.Option.{option_map}
use Rattle.sd_tables.specs.declared.entry.Entry.{Entry}
use Rattle.sd_pagetable.specs.Contents.{page_at, IsSound}
use Rattle.sd_pagetable.specs.Nested.{value_at}
use Rattle.sd_frames.specs.Frames.{Pool}
use Rattle.sd_pagetable.specs.View.{page_of_entry, entry_of}
use Rattle.sd_pagetable.proofs.ViewLemmas.{page_at-view}
use Rattle.sd_pagetable.proofs.paging.Paging.entry.Goals as goal

again : (pool : Pool) (o : Option Entry) → o ≡ option_map entry_of (option_map (page_of_entry pool) o)
again pool None = refl
again pool (Some e) = refl

pub returns-clause-value : goal.returns-clause-value
returns-clause-value c = c.get.ensures ∙ again c.self.inside.frames (value_at c.self.inside.tables c.args.space c.args.page)
    ∙ ap (option_map entry_of) (sym (page_at-view c.self.inside.frames c.self.inside.tables c.args.space c.args.page)) ∙ ap (λ m. option_map entry_of (page_at m c.args.space c.args.page)) c.self.view_is

pub returns-clause-sound : goal.returns-clause-sound
returns-clause-sound c = subst IsSound c.self.view_is c.self.invariant.sound
