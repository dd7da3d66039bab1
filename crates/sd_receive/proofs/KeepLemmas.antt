-- What is shown while a store is made ready, and afterwards.
use Rattle.std.proofs.Common.{◌≡◌, ◌⊎◌, ℕ, List, Option, Some, Result, Ok, Err, length, inl}
use Rattle.std.specs.Prelude.{IfOk}
use Rattle.std.specs.Result.{IsErr}
use Rattle.std.proofs.lemmas.Result.{IfOk-from_err}
use Rattle.sd_areas.specs.PlainMemory.{PlainMemory}
use Rattle.sd_disk.specs.Spans.{LeavesOnly, span_widened, spans_join}
use Rattle.sd_disk.specs.declared.disk.Disk.{Ghosts}
use Rattle.sd_image.specs.Shows.{Shows}
use Rattle.sd_receive.specs.declared.receiver.Received.{Received}
use Rattle.sd_receive.specs.declared.receiver.Received.TheVariants as kinds
use Rattle.sd_receive.specs.Arrived.{Receives, ShowsThen}
use Rattle.sd_receive.specs.Arriving.{IsSettled, KeepsImages}
use Rattle.sd_receive.proofs.ArriveLemmas.{keeps_still}
use Rattle.sd_receive.proofs.OpenLemmas.{no_memory}
use Rattle.sd_receive.proofs.ShowLemmas.{keeps_shows}

module _ {D : Type 0} (g : Ghosts D) (shown : Option (ℕ × PlainMemory)) where
  -- nothing was called
  pub shows_still : (disk : D) → ((c : List (List ℕ)) → g.left_since disk (g.moment disk) c → g.may_leave disk c)
      → ((c : List (List ℕ)) → g.may_leave disk c → length c ≡ length (g.contents disk))
      → IsSettled (g.contents disk) (g.may_leave disk) → Shows (g.contents disk) shown → LeavesOnly g disk disk (λ c. Shows c shown)
  shows_still disk only_now same_slots rests shows = keeps_show disk disk shows (keeps_still g disk only_now same_slots rests)
    where
      keeps_show : (old new : D) → Shows (g.contents old) shown → LeavesOnly g old new (KeepsImages (g.contents old)) → LeavesOnly g old new (λ c. Shows c shown)
      keeps_show old new shows keeps = span_widened g old new (KeepsImages (g.contents old)) (λ c. Shows c shown) (λ c k. keeps_shows (g.contents old) c shown k shows) keeps

  -- calls that keep the images
  pub shows_kept : (old new : D) → Shows (g.contents old) shown → LeavesOnly g old new (KeepsImages (g.contents old)) → LeavesOnly g old new (λ c. Shows c shown)
  shows_kept old new shows keeps = span_widened g old new (KeepsImages (g.contents old)) (λ c. Shows c shown) (λ c k. keeps_shows (g.contents old) c shown k shows) keeps

  pub shows_join : (old mid new : D) → LeavesOnly g old mid (λ c. Shows c shown) → LeavesOnly g mid new (λ c. Shows c shown) → LeavesOnly g old new (λ c. Shows c shown)
  shows_join old mid new first second = spans_join g old mid new (λ c. Shows c shown) first second

  then_after : (last : ℕ) (memory : PlainMemory) (old mid new : D) (r : Received) → LeavesOnly g old mid (λ c. Shows c shown)
      → ShowsThen g mid new shown last memory r → ShowsThen g old new shown last memory r
  then_after last memory old mid new kinds.PreDump first then = shows_join old mid new first then
  then_after last memory old mid new (kinds.Checkpoint n) first then = then
  then_after last memory old mid new kinds.End first then = shows_join old mid new first then

  each_ok : {X E : Type 0} {P Q : X → Type 0} (r : Result X E) → ((x : X) → P x → Q x) → IfOk r P → IfOk r Q
  each_ok (Ok x) then p = then x p
  each_ok (Err e) then p = tt

  -- what is received after calls that leave what is shown
  pub receives_after : {E : Type 0} (last : ℕ) (memory : PlainMemory) (old mid new : D) (result : Result Received E) → LeavesOnly g old mid (λ c. Shows c shown)
      → Receives g mid new shown last memory result → Receives g old new shown last memory result
  receives_after last memory old mid new result first then = record {
    any_moment = spans_join g old mid new (λ c. Shows c shown ⊎ Shows c (Some (last, memory)))
        (span_widened g old mid (λ c. Shows c shown) (λ c. Shows c shown ⊎ Shows c (Some (last, memory))) (λ c is. inl is) first) then.any_moment;
    at_end = each_ok result (λ r. then_after last memory old mid new r first) then.at_end;
  }

  -- an error after them
  pub receives_only : {E : Type 0} (last : ℕ) (old new : D) (result : Result Received E) → IsErr result → LeavesOnly g old new (λ c. Shows c shown)
      → (memory : PlainMemory) × Receives g old new shown last memory result
  receives_only last old new result is span = (
    no_memory,
    record {
      any_moment = span_widened g old new (λ c. Shows c shown) (λ c. Shows c shown ⊎ Shows c (Some (last, no_memory))) (λ c is. inl is) span;
      at_end = IfOk-from_err result (ShowsThen g old new shown last no_memory) is;
    },
  )
