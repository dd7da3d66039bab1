-- What is so of every core, as it is seen.
use Rattle.std.specs.Prelude.{ℕ}
use Rattle.sd_chain.specs.Catalog.{IsSoundCatalog}
use Rattle.sd_journal.specs.History.{last, pending}
use Rattle.sd_merge.specs.Merger.{AreRunning as MergesInOrder, HasSoundCopy}
use Rattle.sd_pagetable.specs.Contents.{IsSound}
use Rattle.sd_rounds.specs.Dumper.{AreRunning}
use Rattle.sd_rounds.specs.Sound.{HasSoundImage}
use Rattle.sd_crash_safety.specs.View.{CoreView, history_of}
use Rattle.sd_core.specs.Grown.{has_visited_all}
use Rattle.sd_core.specs.Sound.{IsCore, Parts}

-- The parts of a core, by what is seen of it. What it keeps beside that is said by its journal; but for how many slots
-- there is room in the list to come.
abbrev pub parts_in : CoreView → ℕ → Parts
parts_in core room = record {
  base = core.base;
  journal = record {
    first = core.base.folded;
    items = core.items;
    held = core.held;
    limit = core.limit;
    room = 0;
    mark_room = 0;
  };
  memory = core.memory;
  frozen = pending (history_of core);
  newest = last core.base (history_of core);
  standing = core.standing;
  phases = core.phases;
  outs = core.outs;
  places = core.catalog;
  dumper = core.dumper;
  merger = core.merger;
  room = room;
  opener = core.opener;
  numbers = record {
    checkpoint = core.numbers.checkpoint;
    serial = core.numbers.serial;
    begun = core.numbers.begun;
    given = core.numbers.given;
    ticket = core.numbers.ticket;
  };
  grows = core.grows;
  committing = core.committing;
  swept = has_visited_all core.items;
}

pub record IsSoundView (core : CoreView) : Type 0 where
  pub room : ℕ
  pub is : IsCore (parts_in core room)
  pub orders : AreRunning core.dumper.since_freeze core.dumper.running
  pub images : HasSoundImage core.dumper.running
  pub memory : IsSound core.memory
  pub catalog : IsSoundCatalog core.catalog
  pub merges : MergesInOrder core.merger
  pub copies : HasSoundCopy core.merger
