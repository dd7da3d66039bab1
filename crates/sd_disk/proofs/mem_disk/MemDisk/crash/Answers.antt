use Rattle.std.proofs.Common.{◌≡◌, ℕ, ◌+◌, ◌<◌, List, [], ◌∷◌, ◌++◌, length, map, take, slice_index, sym, ap, ◌∙◌, subst, arith}
use Rattle.std.proofs.lemmas.List.{length-append, length-map}
use Rattle.sd_disk.specs.Contents.{file_at}
use Rattle.sd_disk.specs.Memory.{memory_events, memory_rooms}
use Rattle.sd_disk.specs.Outcomes.{Leaves, unsynced_after}
use Rattle.sd_disk.specs.Slots.{held, room_of, ShadowTracks, AreAtRest}
use Rattle.sd_disk.proofs.CrashLemmas.{rest_pushed, files_pushed, rooms_pushed, room_at, files_same}
use Rattle.sd_disk.proofs.mem_disk.MemDisk.crash.Goals as goal

pub loop-slot-preserved : goal.loop-slot-preserved
loop-slot-preserved g c =
    let self = c.args.self.now in
    let slots = c.loop-slot.files.items in
    let new = c.in_ok-crash.field-0 in
    let now = c.loop-slot.invariant in
    let known = unsynced_after self.budget.log.trace.outside (memory_events self) in
    let near : c.loop-slot.slot < length self.slots.items = omega arith in
    let here = c.index.ensures in
    let tracks : ShadowTracks c.index.result.now.shadow (known c.loop-slot.slot) = self.tracked.shadows c.loop-slot.slot c.index.result.now near here in
    let pushed : c.push.new.self.items ≡ slots ++ new ∷ [] = c.in_ok-push.ensures.items in
    let each_file : (P : ℕ → List ℕ → Type 0) → ((number : ℕ) → number < c.loop-slot.slot → P number (file_at (map held slots) number)) → P c.loop-slot.slot (held new)
    → (number : ℕ) → number < c.loop-slot.slot + 1 → P number (file_at (map held c.push.new.self.items) number) =
    λ P before last number below.
    subst (λ all. P number (file_at (map held all) number)) (sym pushed)
    (files_pushed slots new P (λ other earlier. before other (omega (arith, earlier, now.size))) (subst (λ n. P n (held new)) (sym now.size) last) number (omega (arith, below, now.size))) in
    record {
      size = ap length pushed ∙ length-append slots (new ∷ []) ∙ ap (λ n. n + 1) now.size;
      rooms = ap (map room_of) pushed
          ∙ rooms_pushed slots new (memory_rooms self) (now.rooms ∙ ap (λ n. take n (memory_rooms self)) (sym now.size))
          (omega (arith, now.size, near, length-map self.slots.items room_of))
          (c.in_ok-crash.ensures.room ∙ room_at self.slots.items c.loop-slot.slot c.index.result.now near here ∙ ap (λ n. slice_index (memory_rooms self) n) (sym now.size))
          ∙ ap (λ n. take (n + 1) (memory_rooms self)) now.size;
      rest = subst AreAtRest (sym pushed) (rest_pushed slots new now.rest c.in_ok-crash.ensures.rest);
      outcome = each_file (λ number file. Leaves (known number) file) now.outcome (c.in_ok-crash.ensures.outcome (known c.loop-slot.slot) tracks);
      aimed = λ outcome aims left.
          let so_far = now.aimed outcome aims left in
          let next = c.in_ok-crash.ensures.aimed (known c.loop-slot.slot) outcome tracks so_far.0
          (left.each c.loop-slot.slot (omega (arith, near, left.count, ap length self.replayed, length-map self.slots.items held)) (self.tracked.synced c.loop-slot.slot near)) in
          (next.1, each_file (λ number file. file ≡ file_at outcome number) so_far.1 next.0);
    }

pub returns-clause-aimed : goal.returns-clause-aimed
returns-clause-aimed g c = λ outcome aims left.
    let self = c.args.self.now in
    let now = c.loop-slot.invariant in
    files_same c.loop-slot.files.items c.settled.result.slots.items outcome (ap (λ v. v.items) c.settled.ensures.files)
    (omega (arith, now.size, left.count, ap length self.replayed, length-map self.slots.items held))
    (λ number near. (now.aimed outcome aims left).1 number (omega (arith, near, now.size)))
