-- The pre-dumps of a checkpoint that are in the catalog, as that changes.
use Rattle.std.proofs.Common.{◌≡◌, ℕ, zero, suc, ◌+◌, ◌<◌, ◌≤◌, true, false, if◌then◌else◌, length, Option, Some, None, refl, sym, ◌∙◌, ap, subst, inl, inr, arith}
use Rattle.std.proofs.lemmas.Bool.{leb-true}
use Rattle.std.proofs.lemmas.Bool.Decides.{eqb_tells}
use Rattle.sd_chain.specs.Catalog.{Changes, IsHeld, Opened, Places, place_of}
use Rattle.sd_image.specs.declared.header.Kind.TheVariants.{Dump, PreDump}
use Rattle.sd_rounds.specs.Dumper.{AreRunning, Running, is_last}
use Rattle.sd_core.specs.Images.{HasImage, HasPreDumps, IsPreDump, begun_as}

-- each of the first pre-dumps stays
abbrev pub TheyStay : Running → Places → Places → ℕ → Type 0
TheyStay job old new count = (place serial : ℕ) (o : Opened) → place < count → IsPreDump job old place serial o → place_of new serial ≡ Some (Some o)

pub same_stay : (job : Running) (places : Places) (count : ℕ) → TheyStay job places places count
same_stay job places count place serial o below is = is.is_in

pub pre_dumps_stay : (job : Running) (old new : Places) (count serial : ℕ) → TheyStay job old new count → HasPreDumps job old count serial
    → HasPreDumps job new count serial
pre_dumps_stay job old new zero serial stay made = made
pre_dumps_stay job old new (suc count) serial stay made = (
  made.0,
  record {
    is_in = stay count serial made.0 (omega arith) made.1;
    own = made.1.own;
    slot = made.1.slot;
    kind = made.1.kind;
    checkpoint = made.1.checkpoint;
  },
  pre_dumps_stay job old new count made.0.header.parent (λ place s o below. stay place s o (omega (arith, below))) made.2,
)

-- a place changes at which no image stands
pub change_stays : (job : Running) (old new : Places) (serial count : ℕ) (to : Option (Option Opened)) → Changes old new serial to
    → ((o : Opened) → place_of old serial ≡ Some (Some o) → ⊥) → TheyStay job old new count
change_stays job old new serial count to changes none place s o below is = changes s ∙ elim (eqb_tells serial s) [
  | inl same ↦ absurd (none o (ap (place_of old) same.1 ∙ is.is_in))
  | inr other ↦ ap (λ b. if b then to else place_of old s) other.0 ∙ is.is_in
]

-- that of a held serial
pub none_held : (old : Places) (serial : ℕ) (o : Opened) → IsHeld old serial → place_of old serial ≡ Some (Some o) → ⊥
none_held old serial o held is = let no : Some None ≡ Some (Some o) = sym held ∙ is in cc

-- one more is open
pub pre_dump_entered : (running : Running) (old new : Places) (image : Opened) → HasImage running new image → is_last running ≡ false
    → TheyStay (begun_as running) old new running.opened → HasPreDumps (begun_as running) old running.opened running.parent
    → HasPreDumps (begun_as running) new (running.opened + 1) image.header.serial
pre_dump_entered running old new image has more stay made = subst (λ n. HasPreDumps (begun_as running) new n image.header.serial) one_more entered
  where
    one_more : suc running.opened ≡ running.opened + 1
    one_more = omega arith

    entered : HasPreDumps (begun_as running) new (suc running.opened) image.header.serial
    entered = (
      image,
      record {
        is_in = has.is_in;
        own = refl;
        slot = has.slot;
        kind = has.kind ∙ ap (λ b. if b then Dump else PreDump) more;
        checkpoint = has.checkpoint;
      },
      subst (HasPreDumps (begun_as running) new running.opened) (sym has.parent) (pre_dumps_stay (begun_as running) old new running.opened running.parent stay made),
    )

-- all of them are, where the dump is last
pub all_pre_dumps : (running : Running) (places : Places) (serial : ℕ) → running.opened ≤ length running.pre_dumps → is_last running ≡ true
    → HasPreDumps (begun_as running) places running.opened serial → HasPreDumps (begun_as running) places (length running.pre_dumps) serial
all_pre_dumps running places serial few last made = subst (λ n. HasPreDumps (begun_as running) places n serial) all made
  where
    all : running.opened ≡ length running.pre_dumps
    all = let over = leb-true (length running.pre_dumps) running.opened last in omega (arith, few, over)

pub few_opened : (since : ℕ) (all : Option Running) (running : Running) → AreRunning since all → all ≡ Some running → running.opened ≤ length running.pre_dumps
few_opened since all running are was = (subst (AreRunning since) was are).few
