-- Entries by their numbers, and the acknowledgements among them.
use Rattle.std.proofs.Common.{◌≡◌, ◌+◌, ◌<◌, ◌≤◌, ◌++◌, ℕ, true, false, List, [], ◌∷◌, length, take, drop, get_or, None, IsTrue, refl, sym, ◌∙◌, ap, arith, append_assoc, take-append-drop, append-nil, length-append}
use Rattle.std.specs.List.{filter_map}
use Rattle.std.proofs.lemmas.List.{take_more, length-take-le}
use Rattle.std.proofs.Math.Seq.{get_or-append_seam}
use Rattle.std.proofs.lemmas.List.Elements.{filter_map-append}
use Rattle.sd_journal.specs.declared.entry.Entry.{Entry}
use Rattle.sd_journal.specs.declared.entry.Entry.TheVariants.{Applied, Acked}
use Rattle.sd_journal.specs.Receipts.{HasCommand, IsEntryAt, acked_number, acked_numbers, is_command}

-- a number has one entry
pub one_entry : (first : ℕ) (journal : List Entry) (number : ℕ) (a b : Entry) → IsEntryAt first journal number a → IsEntryAt first journal number b → a ≡ b
one_entry first journal number a b is_a is_b = grind arith

-- a command at a number
pub has_command : (first : ℕ) (journal : List Entry) (number : ℕ) (entry : Entry) → IsEntryAt first journal number entry → is_command entry ≡ true
    → HasCommand first journal number
has_command first journal number (Applied seat command reply) is holds = (seat, command, reply, is)
has_command first journal number _ is holds = absurd (let e : false ≡ true = holds in cc)

-- the acknowledgements of one entry more
pub acked_more : (journal : List Entry) (i : ℕ) (d entry : Entry) → i < length journal → entry ≡ get_or journal i d
    → acked_numbers (take (i + 1) journal) ≡ acked_numbers (take i journal) ++ filter_map acked_number (entry ∷ [])
acked_more journal i d entry within is =
    rw (take_more journal i d within, ← is) (filter_map-append acked_number (take i journal) (entry ∷ []))

-- an entry that acknowledges nothing
pub acked_same : (journal : List Entry) (i : ℕ) (d entry : Entry) (acks : List ℕ) (found : ℕ) → i < length journal → entry ≡ get_or journal i d → acked_number entry ≡ None
    → acked_numbers (take i journal) ≡ take found acks → acked_numbers (take (i + 1) journal) ≡ take found acks
acked_same journal i d entry acks found within is none so_far =
    let more = acked_more journal i d entry within is in
    let nothing : filter_map acked_number (entry ∷ []) ≡ [] = rw none refl in
    more ∙ rw (nothing, append-nil) so_far

-- an entry that acknowledges the next number
pub acked_next : (journal : List Entry) (i n : ℕ) (d : Entry) (acks : List ℕ) (found : ℕ) → i < length journal → Acked n ≡ get_or journal i d
    → found < length acks → get_or acks found 0 ≡ n → acked_numbers (take i journal) ≡ take found acks → acked_numbers (take (i + 1) journal) ≡ take (found + 1) acks
acked_next journal i n d acks found within is near same so_far =
    acked_more journal i d (Acked n) within is ∙ rw so_far (ap (λ m. take found acks ++ (m ∷ [])) (sym same) ∙ sym (take_more acks found 0 near))

-- all acknowledgements, by those before an entry and those after it
pub acked_split : (journal : List Entry) (i n : ℕ) (d : Entry) → i < length journal → Acked n ≡ get_or journal i d
    → acked_numbers journal ≡ acked_numbers (take i journal) ++ (n ∷ acked_numbers (drop (i + 1) journal))
acked_split journal i n d within is =
    let parts : take (i + 1) journal ++ drop (i + 1) journal ≡ journal = take-append-drop (i + 1) journal in
    let front = acked_more journal i d (Acked n) within is in
    ap acked_numbers (sym parts)
    ∙ filter_map-append acked_number (take (i + 1) journal) (drop (i + 1) journal)
    ∙ ap (λ xs. xs ++ acked_numbers (drop (i + 1) journal)) front
    ∙ append_assoc (acked_numbers (take i journal)) (n ∷ []) (acked_numbers (drop (i + 1) journal))

-- one that acknowledges another number
pub acked_other : (journal : List Entry) (i n : ℕ) (d : Entry) (acks : List ℕ) (found : ℕ) → i < length journal → Acked n ≡ get_or journal i d
    → found ≤ length acks → acked_numbers (take i journal) ≡ take found acks → ((found < length acks) × (get_or acks found 0 ≡ n) → ⊥) → acked_numbers journal ≡ acks → ⊥
acked_other journal i n d acks found within is near so_far other all =
    let rest = acked_numbers (drop (i + 1) journal) in
    let split : acks ≡ take found acks ++ (n ∷ rest) = sym all ∙ acked_split journal i n d within is ∙ ap (λ xs. xs ++ (n ∷ rest)) so_far in
    let size : length (take found acks) ≡ found = length-take-le found acks near in
    let long : length acks ≡ length (take found acks) + length (n ∷ rest) = ap length split ∙ length-append (take found acks) (n ∷ rest) in
    let same : get_or acks found 0 ≡ n =
    ap (λ xs. get_or xs found 0) split ∙ ap (λ k. get_or (take found acks ++ (n ∷ rest)) k 0) (sym size) ∙ get_or-append_seam (take found acks) n rest 0 in
    other (omega (arith, long, size), same)

pub never : IsTrue false → ⊥
never e = let f : false ≡ true = e in cc

-- an entry that is no acknowledgement
pub acked_none : (entry : Entry) → ((n : ℕ) → entry ≡ Acked n → ⊥) → acked_number entry ≡ None
acked_none entry not = grind arith
