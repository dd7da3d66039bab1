-- What must be dumped stays so while a checkpoint is pending.
use Rattle.std.proofs.Common.{◌≡◌, ℕ, Bool, true, false, cond, [], ◌∷◌, Some, None, is_some, refl, sym, ◌∙◌, ap, inl, inr, arith}
use Rattle.std.proofs.lemmas.Option.{same_Some}
use Rattle.sd_pagetable.specs.Tracking.{is_page, touches, clears}
use Rattle.sd_command.specs.declared.command.Command.{Command}
use Rattle.sd_command.specs.declared.reply.Reply.{Reply}
use Rattle.sd_command.specs.Events.{event_of}
use Rattle.sd_command.specs.Replies.{IsLegalReply}
use Rattle.sd_journal.specs.declared.entry.Entry.TheVariants.{Applied, Freeze, Acked, Cancelled, Reopened}
use Rattle.sd_journal.specs.declared.mark.Mark.TheVariants.{Start, Visit, Table}
use Rattle.sd_journal.specs.History.{Base, pending, unless_it_is}
use Rattle.sd_journal.specs.Marked.{Item, Told, Noted, Marked, entries_of, must_dump, item_event, memory_at, IsMarked}
use Rattle.sd_journal.specs.TrackedLaws.{before_freeze, visited_since}
use Rattle.sd_journal.proofs.HistoryLemmas.{same, none_is_some}

-- a page that an event neither touches nor clears must be dumped as before
passes : (base : Base) (item : Item) (items : Marked) (space page : ℕ) → clears space page (item_event item) ≡ false → touches space page (item_event item) ≡ false
    → must_dump base (item ∷ items) space page ≡ must_dump base items space page
passes base item items space page uncleared untouched = grind arith

-- nothing is pending once the number that was pending has ended
ended : (n m : ℕ) {P : Type 0} → unless_it_is m (Some m) ≡ Some n → P
ended n m e = let gone : unless_it_is m (Some m) ≡ None = rw (same m) refl in none_is_some n (sym gone ∙ e)

unseen : (b rest : Bool) → cond b true rest ≡ false → (b ≡ false) × (rest ≡ false)
unseen b rest e = grind arith

-- a command while a checkpoint is pending passes by
passed_by : (base : Base) (items : Marked) (n seat : ℕ) (command : Command) (reply : Reply) (space page : ℕ) → pending (entries_of items) ≡ Some n
    → IsLegalReply (memory_at base items) (is_some (pending (entries_of items))) command reply
    → must_dump base (Told (Applied seat command reply) ∷ items) space page ≡ must_dump base items space page
passed_by base items n seat command reply space page is legal = grind arith

pub still : (base : Base) (items frozen : Marked) (n space page : ℕ) → IsMarked base items
    → pending (entries_of items) ≡ Some n → before_freeze items n ≡ Some frozen → visited_since items n space page ≡ false
    → must_dump base items space page ≡ must_dump base frozen space page
still base [] frozen n space page marked is at unvisited = none_is_some frozen at
still base (Told (Applied seat command reply) ∷ earlier) frozen n space page marked is at unvisited =
    let other = unseen (clears space page (event_of command reply)) (visited_since earlier n space page) unvisited in
    passed_by base earlier n seat command reply space page is marked.0 ∙ still base earlier frozen n space page marked.1 is at other.1
still base (Told (Freeze m) ∷ earlier) frozen n space page marked is at unvisited =
    let own : m ≡ n = same_Some m n is in
    let here : before_freeze (Told (Freeze m) ∷ earlier) m ≡ Some earlier = rw (same m) refl in
    let found : Some earlier ≡ Some frozen = sym here ∙ ap (before_freeze (Told (Freeze m) ∷ earlier)) own ∙ at in
    passes base (Told (Freeze m)) earlier space page refl refl ∙ ap (λ items. must_dump base items space page) (same_Some earlier frozen found)
still base (Told (Acked m) ∷ earlier) frozen n space page marked is at unvisited = ended n m (ap (unless_it_is m) (sym marked.0) ∙ is)
still base (Told (Cancelled m) ∷ earlier) frozen n space page marked is at unvisited = elim marked.0 [
  | inl was ↦ ended n m (ap (unless_it_is m) (sym was) ∙ is)
  | inr none ↦ none_is_some n (ap (unless_it_is m) (sym none.0) ∙ is)
]
still base (Told (Reopened m) ∷ earlier) frozen n space page marked is at unvisited = none_is_some n is
still base (Noted (Start s) ∷ earlier) frozen n space page marked is at unvisited =
    passes base (Noted (Start s)) earlier space page refl refl ∙ still base earlier frozen n space page marked.1 is at unvisited
still base (Noted (Visit s v p) ∷ earlier) frozen n space page marked is at unvisited =
    let other = unseen (is_page v p space page) (visited_since earlier n space page) unvisited in
    passes base (Noted (Visit s v p)) earlier space page other.0 refl ∙ still base earlier frozen n space page marked.1 is at other.1
still base (Noted (Table s) ∷ earlier) frozen n space page marked is at unvisited =
    passes base (Noted (Table s)) earlier space page refl refl ∙ still base earlier frozen n space page marked.1 is at unvisited
