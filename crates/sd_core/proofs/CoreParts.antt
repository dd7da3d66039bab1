-- The parts of a core, and what is seen of them.
use Rattle.sd_crash_safety.specs.View.{CoreView}
use Rattle.sd_core.specs.declared.state.Core.TheInside.{Inside}
use Rattle.sd_core.specs.Sound.{Parts}
use Rattle.sd_core.specs.Starts.{base_of}

-- the parts that the fields of a core are
abbrev pub parts_of : Inside → Parts
parts_of c = record {
  base = base_of c.base;
  journal = c.journal;
  memory = c.memory;
  frozen = c.pending;
  newest = c.last;
  standing = c.standing;
  phases = c.phases.items;
  outs = c.outs;
  places = c.catalog;
  dumper = c.dumper;
  merger = c.merger;
  room = c.room;
  opener = c.opener;
  numbers = c.numbers;
  grows = c.grows;
  committing = c.committing;
  swept = c.swept;
}

-- what is seen of a core
abbrev pub seen_of : Parts → CoreView
seen_of core = record {
  base = core.base;
  items = core.journal.items;
  held = core.journal.held;
  limit = core.journal.limit;
  memory = core.memory;
  standing = core.standing;
  phases = core.phases;
  outs = core.outs;
  catalog = core.places;
  dumper = core.dumper;
  merger = core.merger;
  opener = core.opener;
  numbers = record {
    checkpoint = core.numbers.checkpoint;
    serial = core.numbers.serial;
    begun = core.numbers.begun;
    given = core.numbers.given;
    ticket = core.numbers.ticket;
  };
  grows = core.grows;
  committing = core.committing;
}
