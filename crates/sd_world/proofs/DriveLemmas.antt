-- A worker's events, one more after those so far.
use Rattle.std.proofs.Common.{◌≡◌, ◌+◌, ◌<◌, ℕ, true, false, List, [], ◌∷◌, ◌++◌, if◌then◌else◌, length, refl, sym, ap, subst, arith}
use Rattle.std.proofs.lemmas.List.{append_assoc}
use Rattle.std.specs.List.{AllByRecursion}
use Rattle.sd_command.specs.declared.reply.Reply.{Reply}
use Rattle.sd_command.specs.declared.reply.Reply.TheVariants as reply
use Rattle.sd_disk.specs.declared.disk.Disk.{Ghosts}
use Rattle.sd_gate.specs.declared.worker.Worker.{Worker}
use Rattle.sd_world.specs.declared.event.Event.{Event}
use Rattle.sd_world.specs.declared.event.Event.TheVariants.{Perform, Work}
use Rattle.sd_world.specs.Runs.{IsStep}
use Rattle.sd_world.specs.Steps.{LeavesLess}
use Rattle.sd_world.specs.View.{WorldView, is_asked}
use Rattle.sd_world.specs.Jobs.{AreDriven, AreMade, Drives, is_end, next_event}

-- so many events of a worker, none of which but the last may end its job
pub record HasDriven {D : Type 0} (g : Ghosts D) (worker : Worker) (count : ℕ) (first : WorldView D) (answer : Reply) (last : WorldView D) : Type 0 where
  pub before : List Reply
  pub drives : Drives g worker first (before ++ answer ∷ []) last
  pub goes_on : AllByRecursion (λ reply. is_end reply ≡ false) before
  pub count_is : length before + 1 ≡ count

none_ends_more : (before : List Reply) (answer : Reply) → AllByRecursion (λ reply. is_end reply ≡ false) before → is_end answer ≡ false
    → AllByRecursion (λ reply. is_end reply ≡ false) (before ++ answer ∷ [])
none_ends_more [] answer none not_this = (not_this, tt)
none_ends_more (r ∷ rs) answer none not_this = (none.0, none_ends_more rs answer none.1 not_this)

none_ends_on : (one other : List Reply) → AllByRecursion (λ reply. is_end reply ≡ false) one → AllByRecursion (λ reply. is_end reply ≡ false) other
    → AllByRecursion (λ reply. is_end reply ≡ false) (one ++ other)
none_ends_on [] other none more = more
none_ends_on (r ∷ rs) other none more = (none.0, none_ends_on rs other none.1 more)

-- what is left is less, where neither the job ended nor it was refused
pub less_of : (answer : Reply) (before now : ℕ) → is_end answer ≡ false → LeavesLess answer before now → now < before
less_of answer before now goes leaves = grind arith

one_longer : (before : List Reply) (answer : Reply) → length (before ++ answer ∷ []) ≡ length before + 1
one_longer [] answer = refl
one_longer (r ∷ rs) answer = let more = one_longer rs answer in omega arith

module _ {D : Type 0} (g : Ghosts D) (worker : Worker) where
  drives_more : (first mid last : WorldView D) (answers : List Reply) (answer : Reply) → Drives g worker first answers mid
      → IsStep g (next_event mid.kept worker) mid answer last → Drives g worker first (answers ++ answer ∷ []) last
  drives_more first mid last [] answer drives step =
      (last, subst (λ (world : WorldView D). IsStep g (next_event world.kept worker) world answer last) drives step, refl)
  drives_more first mid last (r ∷ rs) answer drives step =
      (drives.0, drives.1, drives_more drives.0 mid last rs answer drives.2 step)

  pub driven_once : (first last : WorldView D) (answer : Reply) → IsStep g (next_event first.kept worker) first answer last
      → HasDriven g worker 1 first answer last
  driven_once first last answer step = record { before = []; drives = (last, step, refl); goes_on = tt; count_is = refl }

  pub driven_more : (count : ℕ) (first mid last : WorldView D) (before answer : Reply) → HasDriven g worker count first before mid
      → is_end before ≡ false → IsStep g (next_event mid.kept worker) mid answer last → HasDriven g worker (count + 1) first answer last
  driven_more count first mid last before answer so_far goes step =
      let longer = one_longer so_far.before before in
      record {
        before = so_far.before ++ before ∷ [];
        drives = drives_more first mid last (so_far.before ++ before ∷ []) answer so_far.drives step;
        goes_on = none_ends_more so_far.before before so_far.goes_on goes;
        count_is = (let is = so_far.count_is in omega arith);
      }

  -- the worker's events so far, none of which ended its job
  pub called_none : (first : WorldView D) → AreMade g worker first first
  called_none first = record { answers = []; drives = refl; goes_on = tt }

  pub called_more : (first mid last : WorldView D) (answer : Reply) → AreMade g worker first mid → is_end answer ≡ false
      → IsStep g (next_event mid.kept worker) mid answer last → AreMade g worker first last
  called_more first mid last answer so_far goes step = record {
    answers = so_far.answers ++ answer ∷ [];
    drives = drives_more first mid last so_far.answers answer so_far.drives step;
    goes_on = none_ends_more so_far.answers answer so_far.goes_on goes;
  }

  pub called_driven : (first mid last : WorldView D) (answer : Reply) → AreMade g worker first mid → IsStep g (next_event mid.kept worker) mid answer last
      → AreDriven g worker first answer last
  called_driven first mid last answer so_far step =
      record { before = so_far.answers; drives = drives_more first mid last so_far.answers answer so_far.drives step; goes_on = so_far.goes_on }

  -- ---- one turn after another

  drives_on : (first mid last : WorldView D) (one other : List Reply) → Drives g worker first one mid → Drives g worker mid other last
      → Drives g worker first (one ++ other) last
  drives_on first mid last [] other before after = subst (λ (world : WorldView D). Drives g worker world other last) before after
  drives_on first mid last (r ∷ rs) other before after = (before.0, before.1, drives_on before.0 mid last rs other before.2 after)

  pub one_driven : (event : Event) (first last : WorldView D) (answer : Reply) → next_event first.kept worker ≡ event → IsStep g event first answer last
      → AreDriven g worker first answer last
  one_driven event first last answer is step =
      record { before = []; drives = (last, subst (λ e. IsStep g e first answer last) (sym is) step, refl); goes_on = tt }

  pub driven_on : (first mid last : WorldView D) (one other : Reply) → AreDriven g worker first one mid → is_end one ≡ false
      → AreDriven g worker mid other last → AreDriven g worker first other last
  driven_on first mid last one other so_far goes then_ = record {
    before = (so_far.before ++ one ∷ []) ++ then_.before;
    drives = subst (λ all. Drives g worker first all last) (sym (append_assoc (so_far.before ++ one ∷ []) then_.before (other ∷ [])))
        (drives_on first mid last (so_far.before ++ one ∷ []) (then_.before ++ other ∷ []) so_far.drives then_.drives);
    goes_on = none_ends_on (so_far.before ++ one ∷ []) then_.before (none_ends_more so_far.before one so_far.goes_on goes) then_.goes_on;
  }

  pub call_next : (first : WorldView D) → is_asked first.kept worker ≡ true → next_event first.kept worker ≡ Perform worker
  call_next first is = ap (λ b. if b then Perform worker else Work worker) is

  pub step_next : (first : WorldView D) → is_asked first.kept worker ≡ false → next_event first.kept worker ≡ Work worker
  step_next first is = ap (λ b. if b then Perform worker else Work worker) is
