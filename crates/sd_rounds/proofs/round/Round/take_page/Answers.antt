use Rattle.std.proofs.Common.{refl, ◌∙◌}
use Rattle.sd_image.specs.declared.run.RunKind.TheVariants.{Data}
use Rattle.sd_rounds.specs.Rounds.{entry_parent}
use Rattle.sd_rounds.proofs.CopyLemmas.{data_is_own, takes_page}
use Rattle.sd_rounds.proofs.RoundLemmas.{at_cursor, ends_taken, entered_round, other_round}
use Rattle.sd_rounds.proofs.round.Round.take_page.Goals as goal

pub push_entry-requires : goal.push_entry-requires
push_entry-requires c = record {
  after = ends_taken c.self.inside.takes_all c.self.inside.tables.items c.self.inside.after c.self.inside.taking c.self.inside.copy
      (c.in-Some.space, c.in-Some.page) c.self.invariant c.in-Some.is;
}

pub invariant_of-self-2 : goal.invariant_of-self-2
invariant_of-self-2 c =
    let within = c.self.invariant.spaces (c.in-Some.space, c.in-Some.page)
    (at_cursor c.self.inside.takes_all c.self.inside.tables.items c.self.inside.after c.self.inside.taking c.self.inside.copy
    (c.in-Some.space, c.in-Some.page) c.self.invariant c.in-Some.is) in
    other_round c.self.inside.takes_all c.push_entry.new.tables.items c.self.inside.after _ c.self.inside.copy c.replace.new.dest refl
    (entered_round c.self.inside.takes_all c.self.inside.tables.items c.push_entry.new.tables.items c.self.inside.after c.self.inside.taking c.self.inside.copy
    (c.in-Some.space, c.in-Some.page) Data c.self.invariant c.in-Some.is
    (c.in_ok-push_entry.ensures.more (entry_parent c.self.inside.takes_all) 1 c.self.invariant.are (λ e. absurd (data_is_own e)) within.0))

pub returns-clause-taken : goal.returns-clause-taken
returns-clause-taken c =
    let within = c.self.invariant.spaces (c.in-Some.space, c.in-Some.page)
    (at_cursor c.self.inside.takes_all c.self.inside.tables.items c.self.inside.after c.self.inside.taking c.self.inside.copy
    (c.in-Some.space, c.in-Some.page) c.self.invariant c.in-Some.is) in
    takes_page c.self.inside.takes_all c.self.inside.tables.items c.push_entry.new.tables.items c.self.inside.after c.self.inside.taking c.self.inside.copy
    c.replace.new.dest c.into_buffer.result.items (c.in-Some.space, c.in-Some.page) (entry_parent c.self.inside.takes_all) c.args.self.now
    c.self.view_is c.self.invariant c.requires c.in-Some.is (c.into_buffer.ensures ∙ c.replace.ensures.value)
    (c.in_ok-push_entry.ensures.more (entry_parent c.self.inside.takes_all) 1 c.self.invariant.are (λ e. absurd (data_is_own e)) within.0)
