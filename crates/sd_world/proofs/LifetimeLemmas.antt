-- How long an image stays in its slot over a run.
use Rattle.std.proofs.Common.{◌≡◌, ◌⊎◌, ℕ, List, [], ◌∷◌, refl, sym, ◌∙◌, ap, subst, inl, inr}
use Rattle.sd_command.specs.declared.reply.Reply.{Reply}
use Rattle.sd_disk.specs.Contents.{file_at}
use Rattle.sd_disk.specs.declared.disk.Disk.{Ghosts}
use Rattle.sd_image.specs.Image.{IsImage}
use Rattle.sd_core.specs.GoingOn.{HasItsJobs}
use Rattle.sd_world.specs.declared.event.Event.{Event}
use Rattle.sd_world.specs.Consistent.{IsWorld}
use Rattle.sd_world.specs.Lifetimes.{ImagesStay, TakenWithin}
use Rattle.sd_world.specs.Runs.{IsStep, Runs}
use Rattle.sd_world.specs.Stays.{IsTaken, IsUnasked}
use Rattle.sd_world.specs.View.{WorldView}
use Rattle.sd_world.proofs.RunLemmas.{honest_before}
use Rattle.sd_world.proofs.StaysLemmas.{free_or_taken}

module _ {D : Type 0} (g : Ghosts D) where
  -- the slot is taken as the run begins
  at_once : (first last : WorldView D) (events : List Event) (answers : List Reply) (slot : ℕ) → Runs g first events answers last → IsTaken first.core slot
      → TakenWithin g first events answers last slot
  at_once first last events answers slot runs taken = record {
    before = [];
    told = [];
    mid = first;
    there = refl;
    after = events;
    more = answers;
    goes_on = runs;
    events_are = refl;
    answers_are = refl;
    taken = taken;
  }

  -- or after its first event
  later : (first next last : WorldView D) (event : Event) (answer : Reply) (events : List Event) (answers : List Reply) (slot : ℕ) → IsStep g event first answer next
      → TakenWithin g next events answers last slot → TakenWithin g first (event ∷ events) (answer ∷ answers) last slot
  later first next last event answer events answers slot step taken = record {
    before = event ∷ taken.before;
    told = answer ∷ taken.told;
    mid = taken.mid;
    there = (next, step, taken.there);
    after = taken.after;
    more = taken.more;
    goes_on = taken.goes_on;
    events_are = ap (λ es. event ∷ es) taken.events_are;
    answers_are = ap (λ rs. answer ∷ rs) taken.answers_are;
    taken = taken.taken;
  }

  -- the file of a slot stays, or a job has the slot at a point of the run
  file_stays : (first last : WorldView D) (events : List Event) (answers : List Reply) (slot : ℕ) → Runs g first events answers last → g.is_honest last.disk
      → IsUnasked first.kept slot ⊎ IsTaken first.core slot
      → (file_at (g.contents last.disk) slot ≡ file_at (g.contents first.disk) slot) ⊎ TakenWithin g first events answers last slot
  file_stays first last events answers slot runs honest (inr taken) = inr (at_once first last events answers slot runs taken)
  file_stays first last [] [] slot runs honest (inl free) = inl (ap (λ (w : WorldView D). file_at (g.contents w.disk) slot) runs)
  file_stays first last [] (r ∷ rs) slot runs honest (inl free) = absurd runs
  file_stays first last (e ∷ es) [] slot runs honest (inl free) = absurd runs
  file_stays first last (e ∷ es) (r ∷ rs) slot runs honest (inl free) =
      let step = runs.1.files (honest_before g runs.0 last es rs runs.2 honest) slot free in
      elim (file_stays runs.0 last es rs slot runs.2 honest step.1) [
        | inl same ↦ inl (same ∙ step.0)
        | inr taken ↦ inr (later first runs.0 last e r es rs slot runs.1 taken)
      ]

  -- so an image stands there still
  pub images_stay : (first : WorldView D) → IsWorld g first → HasItsJobs first.core → ImagesStay g first
  images_stay first world jobs stands events answers last runs honest image there =
      let free = free_or_taken g first world (world.consistent (honest_before g first last events answers runs honest)) jobs stands image.slot in
      elim (file_stays first last events answers image.slot runs honest free) [
        | inl same ↦ inl (record { image = there.image; told = there.told; stands = subst (λ file. IsImage file there.image) (sym same) there.stands })
        | inr taken ↦ inr taken
      ]
