-- How a merge ends over a run.
use Rattle.std.proofs.Common.{◌≡◌, ℕ, List, [], ◌∷◌, ◌++◌, refl, sym, ◌∙◌, ap, subst, inl, inr, arith}
use Rattle.std.proofs.lemmas.List.{append_assoc}
use Rattle.sd_command.specs.declared.reply.Reply.{Reply}
use Rattle.sd_command.specs.declared.reply.Reply.TheVariants as reply
use Rattle.sd_disk.specs.Contents.{file_at}
use Rattle.sd_disk.specs.declared.disk.Disk.{Ghosts}
use Rattle.sd_merge.specs.Merger as merger
use Rattle.sd_chain.specs.Catalog.{Places}
use Rattle.sd_world.specs.declared.event.Event.{Event}
use Rattle.sd_world.specs.Closing.{ComesToClose, EntersIn, MergeCloses}
use Rattle.sd_world.specs.Merged.{EnteredWithin, MergesStand}
use Rattle.sd_world.specs.Merges.{IsMergedThere}
use Rattle.sd_world.specs.Runs.{IsStep, Runs}
use Rattle.sd_world.specs.View.{WorldView}
use Rattle.sd_world.proofs.RunLemmas.{honest_before, runs_more}

-- the merged image stands where its file stays
still_there : (before now : List (List ℕ)) (places : Places) (merge : merger.Running) (serial : ℕ) → file_at now merge.slot ≡ file_at before merge.slot
    → IsMergedThere before places merge serial → IsMergedThere now places merge serial
still_there before now places merge serial same there = grind arith

append_none : {X : Type 0} (xs : List X) → xs ++ [] ≡ xs
append_none [] = refl
append_none (x ∷ xs) = ap (λ all. x ∷ all) (append_none xs)

module _ {D : Type 0} (g : Ghosts D) where
  -- one event more, after which the file is as it was
  entered_longer : (first last end : WorldView D) (events : List Event) (answers : List Reply) (event : Event) (answer : Reply) (slot serial : ℕ) → IsStep g event last answer end
      → file_at (g.contents end.disk) slot ≡ file_at (g.contents last.disk) slot → EnteredWithin g first events answers last slot serial
      → EnteredWithin g first (events ++ event ∷ []) (answers ++ answer ∷ []) end slot serial
  entered_longer first last end events answers event answer slot serial step same e = record {
    before = e.before;
    told = e.told;
    mid = e.mid;
    there = e.there;
    event = e.event;
    answer = e.answer;
    next = e.next;
    enters = e.enters;
    after = e.after ++ event ∷ [];
    more = e.more ++ answer ∷ [];
    goes_on = runs_more g e.next last end e.after e.more event answer e.goes_on step;
    events_are = ap (λ all. all ++ event ∷ []) e.events_are ∙ append_assoc e.before (e.event ∷ e.after) (event ∷ []);
    answers_are = ap (λ all. all ++ answer ∷ []) e.answers_are ∙ append_assoc e.told (e.answer ∷ e.more) (answer ∷ []);
    merge = e.merge;
    opens = e.opens;
    in_slot = e.in_slot;
    stands = still_there (g.contents last.disk) (g.contents end.disk) e.mid.core.catalog e.merge serial
        (subst (λ s. file_at (g.contents end.disk) s ≡ file_at (g.contents last.disk) s) (sym e.in_slot) same) e.stands;
  }

  -- the last event is the one
  entered_now : (first last end : WorldView D) (events : List Event) (answers : List Reply) (event : Event) (answer : Reply) (slot serial : ℕ) → Runs g first events answers last
      → IsStep g event last answer end → EntersIn g last end slot serial → EnteredWithin g first (events ++ event ∷ []) (answers ++ answer ∷ []) end slot serial
  entered_now first last end events answers event answer slot serial runs step enters = record {
    before = events;
    told = answers;
    mid = last;
    there = runs;
    event = event;
    answer = answer;
    next = end;
    enters = step;
    after = [];
    more = [];
    goes_on = refl;
    events_are = refl;
    answers_are = refl;
    merge = enters.merge;
    opens = enters.opens;
    in_slot = enters.in_slot;
    stands = enters.stands;
  }

  -- each merge that closes images entered its own within the run so far
  abbrev Entered : WorldView D → List Event → List Reply → WorldView D → Type 0
  Entered first events answers last = (slot serial : ℕ) → MergeCloses last.core slot serial → EnteredWithin g first events answers last slot serial

  came : (first last end : WorldView D) (events : List Event) (answers : List Reply) (event : Event) (answer : Reply) (slot serial : ℕ) → Runs g first events answers last
      → IsStep g event last answer end → Entered first events answers last → ComesToClose g last end slot serial
      → EnteredWithin g first (events ++ event ∷ []) (answers ++ answer ∷ []) end slot serial
  came first last end events answers event answer slot serial runs step entered (inl was) =
      entered_longer first last end events answers event answer slot serial step
      (subst (λ s. file_at (g.contents end.disk) s ≡ file_at (g.contents last.disk) s) was.in_slot (step.keeps was.merge was.r was.runs was.doing)) (entered slot serial was)
  came first last end events answers event answer slot serial runs step entered (inr enters) = entered_now first last end events answers event answer slot serial runs step enters

  -- so it is after all events
  entered_all : (first mid last : WorldView D) (before : List Event) (told : List Reply) (after : List Event) (more : List Reply) → Runs g first before told mid → Entered first before told mid
      → Runs g mid after more last → g.is_honest last.disk → Entered first (before ++ after) (told ++ more) last × g.is_honest mid.disk
  entered_all first mid last before told [] [] runs entered rest honest = (
    subst (λ events. Entered first events (told ++ []) last) (sym (append_none before)) (subst (λ answers. Entered first before answers last) (sym (append_none told))
        (subst (Entered first before told) (sym rest) entered)),
    subst (λ (w : WorldView D). g.is_honest w.disk) rest honest,
  )
  entered_all first mid last before told (e ∷ es) (r ∷ rs) runs entered rest honest =
      let next = rest.0 in
      let ahead = honest_before g next last es rs rest.2 honest in
      let more = entered_all first next last (before ++ e ∷ []) (told ++ r ∷ []) es rs (runs_more g first mid next before told e r runs rest.1)
      (λ slot serial c. came first mid next before told e r slot serial runs rest.1 entered (rest.1.closes ahead slot serial c)) rest.2 honest in (
        subst (λ events. Entered first events (told ++ r ∷ rs) last) (append_assoc before (e ∷ []) es)
            (subst (λ answers. Entered first ((before ++ e ∷ []) ++ es) answers last) (append_assoc told (r ∷ []) rs) more.0),
        rest.1.honest ahead,
      )
  entered_all first mid last before told _ _ runs entered rest honest = absurd rest

  pub merges_stand : MergesStand g
  merges_stand first last end events answers event serial none runs step honest =
      let before = step.honest honest in
      let all = entered_all first first last [] [] events answers refl (λ slot number c. absurd (none slot number c)) runs before in
      let ends = step.ends honest serial refl in
      record {
        slot = ends.slot;
        entered = came first last end events answers event (reply.Merged serial) ends.slot serial runs step all.0 ends.comes;
        cut = ends.cut;
      }
