-- What is seen of a core.
use Rattle.std.specs.Prelude.{ℕ, ◌+◌, Bool, List, Option, refl}
use Rattle.std.specs.Coded.{Coded, code_by, coded×, coded_ℕ, coded_option}
use Rattle.sd_areas.specs.Codes.{plain_memory_code}
use Rattle.sd_areas.specs.PlainMemory.{PlainMemory}
use Rattle.sd_pagetable.specs.Contents.{Contents, contents_code}
use Rattle.sd_chain.specs.Catalog.{Places}
use Rattle.sd_gate.specs.declared.phase.Phase.{Phase}
use Rattle.sd_gate.specs.declared.request_id.RequestId.{RequestId}
use Rattle.sd_gate.specs.declared.worker.Worker.{Worker}
use Rattle.sd_gate.specs.declared.worker.Worker.TheVariants.{Dumper, Merger, Opener}
use Rattle.sd_journal.specs.declared.origin.Origin.{Origin}
use Rattle.sd_journal.specs.History.{Base, History}
use Rattle.sd_journal.specs.Marked.{Marked, entries_of}
use Rattle.sd_merge.specs.Merger as merger
use Rattle.sd_opener.specs.Looking.{Looking}
use Rattle.sd_rounds.specs.Dumper.{Dumping}
use Rattle.sd_crash_safety.specs.declared.standing.Standing.{Standing}

-- the numbers that were used
pub record Numbers : Type 0 where
  -- the greatest checkpoint number that was begun in this run, or found at the last opening
  pub checkpoint : ℕ
  -- the greatest serial that was given out in this run, or found at the last opening
  pub serial : ℕ
  -- the greatest checkpoint number that was begun in this run, or the one that it started from
  pub begun : ℕ
  -- the greatest serial that was given out in this run
  pub given : ℕ
  -- the ticket of the next request
  pub ticket : ℕ

-- the state of a core
pub record CoreView : Type 0 where
  -- what the run started from
  pub base : Base
  -- the entries of its journal, with the marks, the newest first
  pub items : Marked
  -- how many free entries are held, and the most that the journal may have with these
  pub held : ℕ
  pub limit : ℕ
  pub memory : Contents
  pub standing : Standing
  -- the phase of each slot, by the calls whose outcomes were handed in
  pub phases : List Phase
  -- the requests that are out: a lane for each worker, and then eight for the writes of the dumper's data pages
  pub outs : List (Option RequestId)
  pub catalog : Places
  pub dumper : Dumping
  pub merger : Option merger.Running
  pub opener : Option Looking
  pub numbers : Numbers
  -- a checkpoint was acknowledged since the store was opened or a checkpoint cancelled
  pub grows : Bool
  -- the opening of the gate of the pending checkpoint's dump was taken up
  pub committing : Bool

-- ---- how a view is stored as a value

abbrev pub saved_code : Coded (Option ℕ × PlainMemory)
saved_code = coded× (coded_option coded_ℕ) plain_memory_code

-- the requests that are out, and the workers
abbrev pub Workers : Type 0
Workers = List (Option RequestId) × (Places × (Dumping ×
    (Option merger.Running × (Option Looking × (Numbers × (Bool × Bool))))))

abbrev pub workers_of : CoreView → Workers
workers_of c = (c.outs, (c.catalog, (c.dumper, (c.merger, (c.opener, (c.numbers, (c.grows, c.committing)))))))

-- all but the number and the memory of the base, and the memory
abbrev pub Rest : Type 0
Rest = (Origin × ℕ) × (Marked × (ℕ × (ℕ × (Standing × (List Phase × Workers)))))

abbrev pub rest_of : CoreView → Rest
rest_of c = ((c.base.origin, c.base.folded), (c.items, (c.held, (c.limit, (c.standing, (c.phases, workers_of c))))))

-- how a view of a core is stored, where its rest is stored by the code given
abbrev pub core_code : Coded Rest → Coded CoreView
core_code rest = code_by ((Option ℕ × PlainMemory) × (Contents × Rest)) (coded× saved_code (coded× contents_code rest))
    (λ c. ((c.base.number, c.base.memory), (c.memory, rest_of c)))
    (λ t. record {
      base = record { number = t.0.0; memory = t.0.1; origin = t.1.1.0.0; folded = t.1.1.0.1 };
      memory = t.1.0;
      items = t.1.1.1.0;
      held = t.1.1.1.1.0;
      limit = t.1.1.1.1.1.0;
      standing = t.1.1.1.1.1.1.0;
      phases = t.1.1.1.1.1.1.1.0;
      outs = t.1.1.1.1.1.1.1.1.0;
      catalog = t.1.1.1.1.1.1.1.1.1.0;
      dumper = t.1.1.1.1.1.1.1.1.1.1.0;
      merger = t.1.1.1.1.1.1.1.1.1.1.1.0;
      opener = t.1.1.1.1.1.1.1.1.1.1.1.1.0;
      numbers = t.1.1.1.1.1.1.1.1.1.1.1.1.1.0;
      grows = t.1.1.1.1.1.1.1.1.1.1.1.1.1.1.0;
      committing = t.1.1.1.1.1.1.1.1.1.1.1.1.1.1.1;
    }) (λ _. refl)

-- ---- parts of it

-- the entries of its journal, the newest first
abbrev pub history_of : CoreView → History
history_of core = entries_of core.items

-- the lane of a worker
abbrev pub index : Worker → ℕ
index Dumper = 0
index Merger = 1
index Opener = 2

-- the lane of a write of a data page, after those of the workers
abbrev pub page_lane : ℕ → ℕ
page_lane lane = 3 + lane
