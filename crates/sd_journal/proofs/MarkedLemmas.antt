-- Marked journals by one item more.
use Rattle.std.proofs.Common.{◌≡◌, ℕ, ◌==◌, Bool, true, false, ◌&&◌, [], ◌∷◌, Option, Some, None, IfSome, IsSome, is_some, refl, sym, ◌∙◌, ap, arith}
use Rattle.std.proofs.lemmas.Bool.Decides.{nat_tests}
use Rattle.std.specs.List.{list_any}
use Rattle.std.specs.Option.{option_map}
use Rattle.std.proofs.lemmas.Bool.{or_right, or_parts, and_parts}
use Rattle.sd_areas.specs.PlainMemory.{PlainMemory}
use Rattle.sd_pagetable.specs.Contents.{Contents, IsSound, page_at, plain_of}
use Rattle.sd_pagetable.specs.EventEffects.{EventEffectLaw}
use Rattle.sd_pagetable.specs.Law.{ClearLaw, PlainLaw}
use Rattle.sd_pagetable.specs.Nested.{value_at}
use Rattle.sd_pagetable.specs.Order.{is_above, IsNextPage}
use Rattle.sd_pagetable.specs.Page.{plain_page}
use Rattle.sd_pagetable.specs.PageLaw.{PageLaw}
use Rattle.sd_pagetable.specs.Tracking.{Cleared, Passed, Step, is_page}
use Rattle.sd_command.specs.declared.command.Command.{Command}
use Rattle.sd_command.specs.declared.command.Command.TheVariants as command
use Rattle.sd_command.specs.declared.refusal.Refusal.TheVariants.{Frozen}
use Rattle.sd_command.specs.declared.reply.Reply.{Reply}
use Rattle.sd_command.specs.declared.reply.Reply.TheVariants.{Refused}
use Rattle.sd_command.specs.Events.{event_of, EffectLaw}
use Rattle.sd_command.specs.Replies.{IsLegalReply, effect}
use Rattle.sd_journal.specs.declared.entry.Entry.{Entry}
use Rattle.sd_journal.specs.declared.entry.Entry.TheVariants.{Applied}
use Rattle.sd_journal.specs.declared.mark.Mark.TheVariants.{Start, Visit, Table}
use Rattle.sd_journal.specs.History.{Base, pending}
use Rattle.sd_journal.specs.Legal.{IsLegal, MayFollow}
use Rattle.sd_journal.specs.Marked.{Told, Noted, Marked, entries_of, memory_at, is_of, is_visited, last_visit, visiting, is_mapped, stays_mapped, IsMarked, HasVisitedMapped, IsTracked}
use Rattle.sd_journal.specs.Receipts.{is_command}
use Rattle.sd_journal.proofs.BitLemmas.{bits_clear, bits_pass, bits_step}
use Rattle.sd_journal.proofs.HistoryLemmas.{same}

pub never : {P : Type 0} → true ≡ false → P
never e = absurd (cc)

pub if_some : {A : Type 0} (o : Option A) (P Q : A → Type 0) → ((a : A) → P a → Q a) → IfSome o P → IfSome o Q
if_some o P Q f p = grind arith

some_of : {A B : Type 0} (f : A → B) (o : Option A) → is_some (option_map f o) ≡ true → IsSome o
some_of f o e = grind arith

of_some : {A B : Type 0} (f : A → B) (o : Option A) → IsSome o → is_some (option_map f o) ≡ true
of_some f o e = grind arith

pub legal : (base : Base) (items : Marked) → IsMarked base items → IsLegal base (entries_of items)
legal base [] marked = tt
legal base (Told entry ∷ earlier) marked = (marked.0, legal base earlier marked.1)
legal base (Noted mark ∷ earlier) marked = legal base earlier marked.1

-- ---- entries

swept_told : (base : Base) (items : Marked) (entry : Entry) (serial : ℕ) → HasVisitedMapped base items serial → HasVisitedMapped base (Told entry ∷ items) serial
swept_told base items entry serial swept space page above stays =
    swept space page above ((and_parts (is_mapped (memory_at base (Told entry ∷ items)) space page) (stays_mapped base items serial space page) stays).1)

still_swept : (base : Base) (items : Marked) (entry : Entry) → IfSome (visiting items) (λ serial. HasVisitedMapped base items serial)
    → IfSome (visiting items) (λ serial. HasVisitedMapped base (Told entry ∷ items) serial)
still_swept base items entry swept =
    if_some (visiting items) (λ serial. HasVisitedMapped base items serial) (λ serial. HasVisitedMapped base (Told entry ∷ items) serial) (λ serial. swept_told base items entry serial) swept

pub applied : PageLaw → EffectLaw → (base : Base) (items : Marked) (old new : Contents) (seat : ℕ) (command : Command) (reply : Reply)
    → IsSound old → IsTracked base items old → pending (entries_of items) ≡ None → IsLegalReply (plain_of old) false command reply
    → Step old (event_of command reply) new → IsTracked base (Told (Applied seat command reply) ∷ items) new
applied pages effects base items old new seat command reply sound tracked none legal step = grind (arith, bits_step, still_swept)

pub frozen_passes : (command : Command) → event_of command (Refused Frozen) ≡ Passed
frozen_passes command = grind arith

pub frozen_leaves : (command : Command) (memory : PlainMemory) → effect command (Refused Frozen) memory ≡ memory
frozen_leaves command memory = grind arith

pub frozen : (base : Base) (items : Marked) (contents : Contents) (seat n : ℕ) (command : Command)
    → IsTracked base items contents → pending (entries_of items) ≡ Some n
    → IsTracked base (Told (Applied seat command (Refused Frozen)) ∷ items) contents
frozen base items contents seat n command tracked is = grind (arith, frozen_leaves, bits_pass, frozen_passes, still_swept)

pub told : (base : Base) (items : Marked) (contents : Contents) (entry : Entry)
    → IsTracked base items contents → MayFollow base (entries_of items) entry → is_command entry ≡ false
    → IsTracked base (Told entry ∷ items) contents
told base items contents entry tracked may other = grind arith

-- ---- marks

-- an image without a mark has visited no page
pub no_visit : (items : Marked) (serial : ℕ) → list_any (is_of serial) items ≡ false → last_visit items serial ≡ None
no_visit [] serial e = refl
no_visit (Told entry ∷ earlier) serial e = no_visit earlier serial e
no_visit (Noted (Start s) ∷ earlier) serial e = no_visit earlier serial ((or_parts (s == serial) (list_any (is_of serial) earlier) e).1)
no_visit (Noted (Visit s space page) ∷ earlier) serial e =
    rw ((or_parts (s == serial) (list_any (is_of serial) earlier) e).0) (no_visit earlier serial ((or_parts (s == serial) (list_any (is_of serial) earlier) e).1))
no_visit (Noted (Table s) ∷ earlier) serial e = no_visit earlier serial ((or_parts (s == serial) (list_any (is_of serial) earlier) e).1)

swept_start : (base : Base) (items : Marked) (serial : ℕ) → list_any (is_of serial) items ≡ false → HasVisitedMapped base (Noted (Start serial) ∷ items) serial
swept_start base items serial new space page above stays = grind (arith, no_visit)

pub started : (base : Base) (items : Marked) (contents : Contents) (serial : ℕ)
    → IsTracked base items contents → list_any (is_of serial) items ≡ false → IsTracked base (Noted (Start serial) ∷ items) contents
started base items contents serial tracked new = grind (arith, bits_pass, swept_start)

-- a page that the journal has mapped is a page of the memory
in_memory : PlainLaw → (base : Base) (items : Marked) (contents : Contents) (space page : ℕ) → plain_of contents ≡ memory_at base items
    → is_mapped (memory_at base items) space page ≡ true → IsSome (value_at contents.spaces space page)
in_memory plain base items contents space page memory mapped = grind arith

of_memory : PlainLaw → (base : Base) (items : Marked) (contents : Contents) (space page : ℕ) → plain_of contents ≡ memory_at base items
    → IsSome (value_at contents.spaces space page) → is_mapped (memory_at base items) space page ≡ true
of_memory plain base items contents space page memory is =
    ap (λ m. is_some (value_at m space page)) (sym memory) ∙ ap is_some (plain.pages contents space page) ∙ of_some plain_page (page_at contents space page) is

-- a page that is neither above another nor that one is below it
below : (s p space page : ℕ) → is_above (Some (s, p)) space page ≡ false → is_page s p space page ≡ false → is_above (Some (space, page)) s p ≡ true
below s p space page above other = grind (arith, nat_tests)

-- a page after the new last visit was visited
swept_visit : PlainLaw → (base : Base) (items : Marked) (old : Contents) (serial s p : ℕ) → IsTracked base items old → visiting items ≡ Some serial
    → IsNextPage old.spaces (last_visit items serial) (Some (s, p)) → HasVisitedMapped base (Noted (Visit serial s p) ∷ items) serial
swept_visit plain base items old serial s p tracked is next space page behind stays =
    let mapped : is_mapped (memory_at base items) space page ≡ true =
    (and_parts (is_mapped (memory_at base items) space page) (stays_mapped base items serial space page) stays).0 in
    let stayed : stays_mapped base items serial space page ≡ true =
    (and_parts (is_mapped (memory_at base items) space page) (stays_mapped base items serial space page) stays).1 in
    let swept : HasVisitedMapped base items serial = rw is at tracked.swept in
    let last : is_above (Some (s, p)) space page ≡ false = rw (same serial) at behind in
    go mapped stayed swept last (is_page s p space page) refl (is_above (last_visit items serial) space page) refl
  where
    go : is_mapped (memory_at base items) space page ≡ true → stays_mapped base items serial space page ≡ true → HasVisitedMapped base items serial
        → is_above (Some (s, p)) space page ≡ false
        → (here : Bool) → is_page s p space page ≡ here → (after : Bool) → is_above (last_visit items serial) space page ≡ after
        → is_visited (Noted (Visit serial s p) ∷ items) serial space page ≡ true
    go mapped stayed swept last true here after e = rw (same serial, here) refl
    go mapped stayed swept last false other false e =
        or_right (serial == serial && is_page s p space page) (is_visited items serial space page) (swept space page e stayed)
    go mapped stayed swept last false other true e =
        never (sym (below s p space page last other) ∙ next.2 space page (in_memory plain base items old space page tracked.memory mapped) e)

pub visited : ClearLaw → EventEffectLaw → PlainLaw → (base : Base) (items : Marked) (old new : Contents) (serial space page : ℕ)
    → IsTracked base items old → visiting items ≡ Some serial
    → IsNextPage old.spaces (last_visit items serial) (Some (space, page)) → Step old (Cleared space page) new
    → IsTracked base (Noted (Visit serial space page) ∷ items) new
visited clears effects plain base items old new serial space page tracked is next step =
    let mapped : is_mapped (memory_at base items) space page ≡ true = of_memory plain base items old space page tracked.memory next.0 in
    record {
      marked = ((is, mapped, next.1), tracked.marked);
      memory = effects old new (Cleared space page) step ∙ tracked.memory;
      bits = bits_clear clears base (Noted (Visit serial space page)) items old new space page refl step tracked.bits;
      swept = rw is (swept_visit plain base items old serial space page tracked is next);
    }

pub tabled : PlainLaw → (base : Base) (items : Marked) (contents : Contents) (serial : ℕ)
    → IsTracked base items contents → visiting items ≡ Some serial → IsNextPage contents.spaces (last_visit items serial) None
    → IsTracked base (Noted (Table serial) ∷ items) contents
tabled plain base items contents serial tracked is next =
    let swept : HasVisitedMapped base items serial = rw is at tracked.swept in
    record {
      marked = ((is, λ space page stays. all swept space page stays), tracked.marked);
      memory = tracked.memory;
      bits = bits_pass base (Noted (Table serial)) items contents refl tracked.bits;
      swept = tt;
    }
  where
    now_mapped : (more : Marked) (space page : ℕ) → stays_mapped base more serial space page ≡ true → is_mapped (memory_at base more) space page ≡ true
    now_mapped [] space page e = never (sym e)
    now_mapped (item ∷ earlier) space page e = (and_parts (is_mapped (memory_at base (item ∷ earlier)) space page) _ e).0

    all : HasVisitedMapped base items serial → (space page : ℕ) → stays_mapped base items serial space page ≡ true → is_visited items serial space page ≡ true
    all swept space page stays =
        swept space page (next space page (in_memory plain base items contents space page tracked.memory (now_mapped items space page stays))) stays
