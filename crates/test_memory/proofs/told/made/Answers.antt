use Rattle.std.proofs.Common.{sym, ap, ◌∙◌, ◌≡◌, ℕ}
use Rattle.std.specs.FinMap as finmap
use Rattle.sd_areas.specs.Memory.{memory_of}
use Rattle.sd_areas.specs.PlainMemory.{PlainMemory}
use Rattle.sd_journal.specs.Worked.{empty_base}
use Rattle.test_memory.proofs.told.made.Goals as goal

pub replay-requires : goal.replay-requires
replay-requires c =
    let added : memory_of c.add_space.new.self ≡ empty_base.memory =
    c.in_ok-add_space.ensures.ok ∙ ap (λ (memory : PlainMemory). finmap.insert memory c.new.result finmap.empty) c.new-base.ensures.memory
    ∙ ap (λ (space : ℕ). let alone : PlainMemory = finmap.insert finmap.empty space finmap.empty in alone) c.new.ensures in
    record { legal = (empty_base, sym added, c.requires.legal) }
