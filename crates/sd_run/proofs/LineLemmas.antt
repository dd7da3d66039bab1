-- Lines that are answered, one after the other.
use Rattle.std.proofs.Common.{◌≡◌, ◌+◌, ◌<◌, ℕ, List, [], ◌∷◌, ◌++◌, length, map, take, drop, get_or, Option, Result, Ok, Err, OnErr, OnOk, refl, sym, ◌∙◌, ap, subst, append_assoc, append-nil, take-append-drop, inl, inr, arith}
use Rattle.std.specs.List.{flat_map}
use Rattle.std.specs.Io.KnownBytes.{Appends, Keeps}
use Rattle.std.proofs.KnownBytes.{Appends-trans, Keeps-refl}
use Rattle.std.proofs.lemmas.List.{map-id, take_more}
use Rattle.sd_command.specs.declared.reply.Reply.{Reply}
use Rattle.sd_command.specs.declared.reply.Reply.TheVariants as reply
use Rattle.sd_disk.specs.declared.disk.Disk.{Ghosts}
use Rattle.sd_script.specs.declared.answer.Answer.{Answer}
use Rattle.sd_script.specs.declared.answer.Answer.TheVariants as answer
use Rattle.sd_script.specs.declared.line.Line.{Line}
use Rattle.sd_script.specs.Texts.{answer_line, reply_line}
use Rattle.sd_world.specs.View.{WorldView}
use Rattle.sd_exit.specs.declared.stop.Stop.{Stop}
use Rattle.sd_exit.specs.Texts.{PrintsBeginning}
use Rattle.sd_run.specs.Lines.{AnswersLine, AnswersLines}
use Rattle.sd_run.specs.Merging.{IsWholeMerge}
use Rattle.sd_run.specs.Promise.{Promise, PromiseSoFar}
use Rattle.sd_run.specs.Whole.{ArePrintedAfter, BreaksOff, IsWholeRun, PrintsLines, PrintsSome}

module _ {D : Type 0} (g : Ghosts D) where
  pub answered_as : (first last new : WorldView D) (line asked : Line) (reply given : Reply) → line ≡ asked → reply ≡ given → last ≡ new
      → AnswersLine g asked first (answer.Reply given) new → AnswersLine g line first (answer.Reply reply) last
  answered_as first last new line asked reply given line_is reply_is last_is answers = grind arith

  -- one line more
  pub answers_more : (first mid last : WorldView D) (lines : List Line) (answers : List Answer) (line : Line) (given : Answer)
      → AnswersLines g first lines answers mid → AnswersLine g line mid given last
      → AnswersLines g first (lines ++ line ∷ []) (answers ++ given ∷ []) last
  answers_more first mid last [] [] line given answered one = (last, subst (λ world. AnswersLine g line world given last) answered one, refl)
  answers_more first mid last (l ∷ ls) (a ∷ others) line given answered one =
      (answered.0, answered.1, answers_more answered.0 mid last ls others line given answered.2 one)
  answers_more first mid last _ _ line given answered one = absurd answered

-- ---- what is printed

flat_more : {A B : Type 0} (f : A → List B) (xs : List A) (x : A) → flat_map f (xs ++ x ∷ []) ≡ flat_map f xs ++ f x
flat_more f [] x = append-nil (f x)
flat_more f (y ∷ ys) x = ap (λ rest. f y ++ rest) (flat_more f ys x) ∙ sym (append_assoc (f y) (flat_map f ys) (f x))

pub printed_more : (before mid now : Option (List ℕ)) (answers : List Answer) (given : Answer) → Appends before mid (flat_map answer_line answers)
    → Appends mid now (answer_line given) → Appends before now (flat_map answer_line (answers ++ given ∷ []))
printed_more before mid now answers given so_far one = subst (Appends before now) (sym (flat_more answer_line answers given))
    (Appends-trans before mid now (flat_map answer_line answers) (answer_line given) so_far one)

-- ---- what stands where nothing is printed

pub stays : (a : Option (List ℕ)) → Keeps a a
stays a = Keeps-refl a

pub begins_still : (a b c : Option (List ℕ)) (text : List ℕ) → PrintsBeginning a b text → Keeps b c → PrintsBeginning a c text
begins_still a b c text begins kept = grind arith

pub always_on_ok : {T E : Type 0} {P : Type 0} (result : Result T E) → P → OnOk result P
always_on_ok (Ok value) p = p
always_on_ok (Err error) p = tt

-- all of the lines were answered, and their answers printed
pub tells_all : {D : Type 0} (g : Ghosts D) (first last : WorldView D) (lines : List Line) (before now : Option (List ℕ)) → PrintsLines g first lines last before now
    → PrintsSome g first lines last before now
tells_all g first last lines before now is = record {
  some = record {
    done = lines;
    rest = [];
    parts = sym (append-nil lines);
    answers = is.answers;
    answered = is.answered;
  };
  told = inl is.printed;
}

pub tells_anyway : {D : Type 0} (g : Ghosts D) (first last : WorldView D) (lines : List Line) (before now : Option (List ℕ)) (result : Result Unit Stop)
    → OnErr result (PrintsSome g first lines last before now) → OnOk result (PrintsLines g first lines last before now) → PrintsSome g first lines last before now
tells_anyway g first last lines before now (Ok value) told all = tells_all g first last lines before now all
tells_anyway g first last lines before now (Err why) told all = told

pub always_on_err : {T E : Type 0} {P : Type 0} (result : Result T E) → P → OnErr result P
always_on_err (Ok value) p = tt
always_on_err (Err error) p = p

-- the last answer's line is broken off
pub broken_off : (before mid now : Option (List ℕ)) (told : List Answer) (last : Answer) → Appends before mid (flat_map answer_line told)
    → PrintsBeginning mid now (answer_line last) → BreaksOff (told ++ last ∷ []) before now
broken_off before mid now told last so_far begins = record {
  told = told;
  last = last;
  are = refl;
  front = begins.front;
  rest = begins.rest;
  line = begins.whole;
  printed = Appends-trans before mid now (flat_map answer_line told) begins.front so_far begins.printed;
}

-- one answer is printed before the others
pub told_behind : (before mid now : Option (List ℕ)) (given : Answer) (answers : List Answer) → Appends before mid (answer_line given)
    → ArePrintedAfter answers mid now → ArePrintedAfter (given ∷ answers) before now
told_behind before mid now given answers one (inl all) = inl (Appends-trans before mid now (answer_line given) (flat_map answer_line answers) one all)
told_behind before mid now given answers one (inr broken) = inr (record {
  told = given ∷ broken.told;
  last = broken.last;
  are = ap (λ others. given ∷ others) broken.are;
  front = broken.front;
  rest = broken.rest;
  line = broken.line;
  printed = subst (Appends before now) (sym (append_assoc (answer_line given) (flat_map answer_line broken.told) broken.front))
      (Appends-trans before mid now (answer_line given) (flat_map answer_line broken.told ++ broken.front) one broken.printed);
})

-- ---- what stands where nothing is printed after it

then_nothing : (a b c : Option (List ℕ)) (bs : List ℕ) → Appends a b bs → Appends b c [] → Appends a c bs
then_nothing a b c bs p q = subst (Appends a c) (append-nil bs) (Appends-trans a b c bs [] p q)

module _ {D : Type 0} (g : Ghosts D) (lines : List Line) (old new : D) (before a b : Option (List ℕ)) (none : Appends a b []) where
  pub run_still : IsWholeRun g lines old new before a → IsWholeRun g lines old new before b
  run_still is = record {
    opened = is.opened;
    last = is.last;
    run = is.run;
    answers = record {
      answers = is.answers.answers;
      answered = is.answers.answered;
      printed = then_nothing before a b (flat_map answer_line is.answers.answers) is.answers.printed none;
    };
  }

  so_far_still : (run : PromiseSoFar g lines old new before a) → PromiseSoFar g lines old new before b
  so_far_still run = record {
    first = run.first;
    last = run.last;
    reads = run.reads;
    entries = run.entries;
    begun = run.begun;
    shows = run.shows;
    everywhere = run.everywhere;
    done = run.done;
    rest = run.rest;
    parts = run.parts;
    told = run.told;
    broken = run.broken;
    one = run.one;
    goes = run.goes;
    ends = run.ends;
    front = run.front;
    back = run.back;
    text = run.text;
    printed = then_nothing before a b (flat_map answer_line run.told ++ run.front) run.printed none;
  }

  pub promised_still : Promise g lines old new before a → Promise g lines old new before b
  unfolding so_far_still
  promised_still is = (so_far_still is.0, is.1, is.2)

module _ {D : Type 0} (g : Ghosts D) (old new : D) (before a b : Option (List ℕ)) (none : Appends a b []) where
  pub merge_still : IsWholeMerge g old new before a → IsWholeMerge g old new before b
  merge_still is = (is.0, record { run = is.1.run; printed = then_nothing before a b (reply_line (reply.Merged is.0)) is.1.printed none })

-- ---- items so far, and one more

pub one_more : {A : Type 0} (all seen : List A) (item : A) → map (λ y. y) seen ≡ take (length seen) all → length seen < length all
    → item ≡ get_or all (length seen) item → all ≡ (seen ++ item ∷ []) ++ drop (length seen + 1) all
one_more all seen item front within is = grind (arith, map-id, take_more, take-append-drop)

pub all_of_them : {A : Type 0} (all seen : List A) → map (λ y. y) seen ≡ all → seen ≡ all
all_of_them all seen is = grind (arith, map-id)

-- ---- what holds where a call succeeded

pub then_on_ok : {T E : Type 0} (result : Result T E) (before after : Type 0) → (before → after) → OnOk result before → OnOk result after
then_on_ok (Ok value) before after turns holds = turns holds
then_on_ok (Err why) before after turns holds = tt
