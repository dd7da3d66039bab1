-- Stores side by side, and one more.
use Rattle.std.proofs.Common.{◌≡◌, ◌+◌, ◌^◌, ◌%◌, ◌∙◌, ℕ, List, [], ◌∷◌, ◌++◌, refl, sym, ap, append_assoc, append-nil, Option, Some, None, Result, Ok, Err, subst, arith}
use Rattle.std.specs.List.{concat}
use Rattle.std.specs.Result.{IsErr}
use Rattle.sd_run.specs.Bulk.{Gets, Loaded, Puts, all_bytes, asked_by, behind, address_after_all, answers_of_bytes, dones, load_of, loads_of, past_loads, store_of, stores_of}
use Rattle.sd_run.specs.declared.bulk.Halt.{Halt}
use Rattle.sd_script.specs.declared.line.Line.{Line}
use Rattle.sd_script.specs.declared.answer.Answer.{Answer}
use Rattle.sd_script.specs.declared.answer.Answer.TheVariants as answer
use Rattle.sd_command.specs.declared.reply.Reply.TheVariants as reply
use Rattle.sd_command.specs.declared.reply.Reply.{Reply}
use Rattle.sd_disk.specs.declared.disk.Disk.{Ghosts}
use Rattle.sd_world.specs.View.{WorldView}
use Rattle.sd_run.specs.Lines.{AnswersLine, AnswersLines}
use Rattle.sd_world.specs.Points.{PointsFollow, StandsAt}
use Rattle.sd_world.specs.Promise.{Point}
use Rattle.sd_run.specs.Promise.{GoesByLines}
use Rattle.sd_run.proofs.LineLemmas.{answers_more}
use Rattle.sd_run.proofs.PromiseLemmas.{lines_reach}

pub stores_more : (space address : ℕ) (pieces : List (List ℕ)) (piece : List ℕ)
    → stores_of space address (pieces ++ piece ∷ []) ≡ stores_of space address pieces ++ store_of space (address_after_all address pieces) piece ∷ []
stores_more space address [] piece = refl
stores_more space address (p ∷ ps) piece = ap (λ rest. store_of space address p ∷ rest) (stores_more space (behind address p) ps piece)

pub behind_more : (address : ℕ) (pieces : List (List ℕ)) (piece : List ℕ)
    → address_after_all address (pieces ++ piece ∷ []) ≡ behind (address_after_all address pieces) piece
behind_more address [] piece = refl
behind_more address (p ∷ ps) piece = behind_more (behind address p) ps piece

pub dones_more : (pieces : List (List ℕ)) (piece : List ℕ) → dones (pieces ++ piece ∷ []) ≡ dones pieces ++ answer.Reply reply.Done ∷ []
dones_more [] piece = refl
dones_more (p ∷ ps) piece = ap (λ rest. answer.Reply reply.Done ∷ rest) (dones_more ps piece)

pub concat_more : (pieces : List (List ℕ)) (piece : List ℕ) → concat pieces ++ piece ≡ concat (pieces ++ piece ∷ [])
concat_more [] piece = sym (append-nil piece)
concat_more (p ∷ ps) piece = append_assoc p (concat ps) piece ∙ ap (λ behind. p ++ behind) (concat_more ps piece)

pub parts_more : (bytes rest others : List ℕ) (pieces : List (List ℕ)) (piece : List ℕ) → bytes ≡ concat pieces ++ rest → rest ≡ piece ++ others
    → bytes ≡ concat (pieces ++ piece ∷ []) ++ others
parts_more bytes rest others pieces piece is split =
    is ∙ ap (λ x. concat pieces ++ x) split ∙ sym (append_assoc (concat pieces) piece others) ∙ ap (λ front. front ++ others) (concat_more pieces piece)

pub no_room_for : {E : Type 0} (Answers : List Line → List Answer → Type 0) (space address : ℕ) (bytes : List ℕ) (result : Result (Option Halt) E)
    → IsErr result → (pieces : List (List ℕ)) (rest : List ℕ) → bytes ≡ concat pieces ++ rest → Answers (stores_of space address pieces) (dones pieces)
    → Puts Answers space address bytes result
no_room_for Answers space address bytes (Err why) is pieces rest parts answered = Puts.no_room why pieces rest parts answered
no_room_for Answers space address bytes (Ok ended) is pieces rest parts answered = grind arith

module _ {D : Type 0} (g : Ghosts D) where
  -- one store more, with its answer
  pub store_more : (first mid last : WorldView D) (space start address : ℕ) (pieces : List (List ℕ)) (piece bytes : List ℕ) (given : Reply)
      → AnswersLines g first (stores_of space start pieces) (dones pieces) mid → AnswersLine g (store_of space address bytes) mid (answer.Reply given) last
      → bytes ≡ piece
      → AnswersLines g first (stores_of space start pieces ++ store_of space address piece ∷ []) (dones pieces ++ answer.Reply given ∷ []) last
  store_more first mid last space start address pieces piece bytes given answered one is =
      answers_more g first mid last (stores_of space start pieces) (dones pieces) (store_of space address piece) (answer.Reply given) answered
      (subst (λ b. AnswersLine g (store_of space address b) mid (answer.Reply given) last) is one)

  -- one that was done
  pub done_more : (first mid last : WorldView D) (space start address : ℕ) (pieces : List (List ℕ)) (piece bytes : List ℕ) (given : Reply)
      → AnswersLines g first (stores_of space start pieces) (dones pieces) mid → AnswersLine g (store_of space address bytes) mid (answer.Reply given) last
      → bytes ≡ piece → address ≡ address_after_all start pieces → given ≡ reply.Done
      → AnswersLines g first (stores_of space start (pieces ++ piece ∷ [])) (dones (pieces ++ piece ∷ [])) last
  done_more first mid last space start address pieces piece bytes given answered one is there done =
      subst (λ lines. AnswersLines g first lines (dones (pieces ++ piece ∷ [])) last) (sym (stores_more space start pieces piece))
      (subst (λ answers. AnswersLines g first (stores_of space start pieces ++ store_of space (address_after_all start pieces) piece ∷ []) answers last)
      (sym (dones_more pieces piece))
      (subst (λ r. AnswersLines g first (stores_of space start pieces ++ store_of space (address_after_all start pieces) piece ∷ []) (dones pieces ++ answer.Reply r ∷ []) last) done
      (subst (λ a. AnswersLines g first (stores_of space start pieces ++ store_of space a piece ∷ []) (dones pieces ++ answer.Reply given ∷ []) last) there
      (store_more first mid last space start address pieces piece bytes given answered one is))))

-- from the worlds of these stores to points at which they stand
module _ {D : Type 0} (g : Ghosts D) (follow : PointsFollow g) where
  pub puts_reach : {E : Type 0} (first last : WorldView D) (space address : ℕ) (bytes : List ℕ) (result : Result (Option Halt) E)
      → Puts (λ lines answers. AnswersLines g first lines answers last) space address bytes result → g.is_honest last.disk
      → (from : Point D) → StandsAt first from
      → (to : Point D) × StandsAt last to × Puts (λ lines answers. GoesByLines g from lines answers to) space address bytes result
  puts_reach first last space address bytes (Ok None) (Puts.stored pieces parts answered) honest from stands =
      let all = lines_reach g follow first last (stores_of space address pieces) (dones pieces) answered honest from stands in
      (all.0, all.1, Puts.stored pieces parts all.2)
  puts_reach first last space address bytes (Ok (Some halt)) (Puts.stopped same pieces piece rest parts there other answered) honest from stands =
      let all = lines_reach g follow first last (stores_of space address pieces ++ store_of space halt.address piece ∷ [])
      (dones pieces ++ answer.Reply halt.reply ∷ []) answered honest from stands in
      (all.0, all.1, Puts.stopped halt pieces piece rest parts there other all.2)
  puts_reach first last space address bytes (Err why) (Puts.no_room same pieces rest parts answered) honest from stands =
      let all = lines_reach g follow first last (stores_of space address pieces) (dones pieces) answered honest from stands in
      (all.0, all.1, Puts.no_room why pieces rest parts all.2)

-- ---- loads side by side, and one more

pub loads_more : (space address : ℕ) (loads : List Loaded) (load : Loaded)
    → loads_of space address (loads ++ load ∷ []) ≡ loads_of space address loads ++ load_of space (past_loads address loads) load.count ∷ []
loads_more space address [] load = refl
loads_more space address (l ∷ ls) load = ap (λ rest. load_of space address l.count ∷ rest) (loads_more space ((address + l.count) % 2 ^ 64) ls load)

pub past_more : (address : ℕ) (loads : List Loaded) (load : Loaded) → past_loads address (loads ++ load ∷ []) ≡ (past_loads address loads + load.count) % 2 ^ 64
past_more address [] load = refl
past_more address (l ∷ ls) load = past_more ((address + l.count) % 2 ^ 64) ls load

pub bytes_told_more : (loads : List Loaded) (load : Loaded) → answers_of_bytes (loads ++ load ∷ []) ≡ answers_of_bytes loads ++ answer.Reply (reply.Bytes load.bytes) ∷ []
bytes_told_more [] load = refl
bytes_told_more (l ∷ ls) load = ap (λ rest. answer.Reply (reply.Bytes l.bytes) ∷ rest) (bytes_told_more ls load)

pub all_bytes_more : (loads : List Loaded) (load : Loaded) → all_bytes (loads ++ load ∷ []) ≡ all_bytes loads ++ load.bytes
all_bytes_more [] load = append-nil load.bytes
all_bytes_more (l ∷ ls) load = ap (λ rest. l.bytes ++ rest) (all_bytes_more ls load) ∙ sym (append_assoc l.bytes (all_bytes ls) load.bytes)

pub asked_more : (loads : List Loaded) (load : Loaded) → asked_by (loads ++ load ∷ []) ≡ asked_by loads + load.count
asked_more [] load = omega arith
asked_more (l ∷ ls) load = let rest = asked_more ls load in omega (arith, rest)

module _ {D : Type 0} (g : Ghosts D) where
  -- one load more, with its answer
  pub load_more : (first mid last : WorldView D) (space start address : ℕ) (loads : List Loaded) (asked : ℕ) (given : Reply)
      → AnswersLines g first (loads_of space start loads) (answers_of_bytes loads) mid → AnswersLine g (load_of space address asked) mid (answer.Reply given) last
      → AnswersLines g first (loads_of space start loads ++ load_of space address asked ∷ []) (answers_of_bytes loads ++ answer.Reply given ∷ []) last
  load_more first mid last space start address loads asked given answered one =
      answers_more g first mid last (loads_of space start loads) (answers_of_bytes loads) (load_of space address asked) (answer.Reply given) answered one

  -- one that was answered bytes
  pub loaded_more : (first mid last : WorldView D) (space start address : ℕ) (loads : List Loaded) (load : Loaded) (given : Reply)
      → AnswersLines g first (loads_of space start loads) (answers_of_bytes loads) mid → AnswersLine g (load_of space address load.count) mid (answer.Reply given) last
      → address ≡ past_loads start loads → given ≡ reply.Bytes load.bytes
      → AnswersLines g first (loads_of space start (loads ++ load ∷ [])) (answers_of_bytes (loads ++ load ∷ [])) last
  loaded_more first mid last space start address loads load given answered one there is =
      subst (λ lines. AnswersLines g first lines (answers_of_bytes (loads ++ load ∷ [])) last) (sym (loads_more space start loads load))
      (subst (λ answers. AnswersLines g first (loads_of space start loads ++ load_of space (past_loads start loads) load.count ∷ []) answers last)
      (sym (bytes_told_more loads load))
      (subst (λ r. AnswersLines g first (loads_of space start loads ++ load_of space (past_loads start loads) load.count ∷ []) (answers_of_bytes loads ++ answer.Reply r ∷ []) last) is
      (subst (λ a. AnswersLines g first (loads_of space start loads ++ load_of space a load.count ∷ []) (answers_of_bytes loads ++ answer.Reply given ∷ []) last) there
      (load_more first mid last space start address loads load.count given answered one))))

pub no_room_to_load : {E : Type 0} (Answers : List Line → List Answer → Type 0) (space address count : ℕ) (before after : List ℕ) (result : Result (Option Halt) E)
    → IsErr result → (loads : List Loaded) → Answers (loads_of space address loads) (answers_of_bytes loads) → Gets Answers space address count before after result
no_room_to_load Answers space address count before after (Err why) is loads answered = Gets.no_room why loads answered
no_room_to_load Answers space address count before after (Ok ended) is loads answered = grind arith

-- from the worlds of these loads to points at which they stand
module _ {D : Type 0} (g : Ghosts D) (follow : PointsFollow g) where
  pub gets_reach : {E : Type 0} (first last : WorldView D) (space address count : ℕ) (before after : List ℕ) (result : Result (Option Halt) E)
      → Gets (λ lines answers. AnswersLines g first lines answers last) space address count before after result → g.is_honest last.disk
      → (from : Point D) → StandsAt first from
      → (to : Point D) × StandsAt last to × Gets (λ lines answers. GoesByLines g from lines answers to) space address count before after result
  gets_reach first last space address count before after (Ok None) (Gets.loaded loads all parts answered) honest from stands =
      let reached = lines_reach g follow first last (loads_of space address loads) (answers_of_bytes loads) answered honest from stands in
      (reached.0, reached.1, Gets.loaded loads all parts reached.2)
  gets_reach first last space address count before after (Ok (Some halt)) (Gets.stopped same loads asked parts there other answered) honest from stands =
      let reached = lines_reach g follow first last (loads_of space address loads ++ load_of space halt.address asked ∷ [])
      (answers_of_bytes loads ++ answer.Reply halt.reply ∷ []) answered honest from stands in
      (reached.0, reached.1, Gets.stopped halt loads asked parts there other reached.2)
  gets_reach first last space address count before after (Err why) (Gets.no_room same loads answered) honest from stands =
      let reached = lines_reach g follow first last (loads_of space address loads) (answers_of_bytes loads) answered honest from stands in
      (reached.0, reached.1, Gets.no_room why loads reached.2)
