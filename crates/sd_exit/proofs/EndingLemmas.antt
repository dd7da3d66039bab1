-- How a program exits, and what its exit status says.
use Rattle.std.proofs.Common.{◌≡◌, ◌≢◌, ◌≤◌, ℕ, Bool, false, true, List, [], Option, Result, Ok, Err, OnOk, IfErr, sym, ◌∙◌, inl, inr, refl, arith}
use Rattle.std.specs.Prelude.{if◌then◌else◌}
use Rattle.std.proofs.KnownBytes.{Appends-kept}
use Rattle.std.proofs.lemmas.Bool.{cond-false, cond-true}
use Rattle.std.specs.Io.KnownBytes.{Appends, Keeps}
use Rattle.sd_restore.specs.declared.fault.Fault.TheVariants.{EmptyChain}
use Rattle.sd_exit.specs.declared.stop.Stop.{Stop}
use Rattle.sd_exit.specs.declared.stop.Stop.TheVariants as stop
use Rattle.sd_exit.specs.Ending.{Exits, IsWrittenLast, OnFault, OnWriter, end_status, end_text, status_of}

-- what is said last is written, or was refused; and what came of the flush
pub exits : (before mid after : Option (List ℕ)) (refused : Bool) (text : List ℕ) (due wanted status : ℕ) (told_refused : Bool)
    → IsWrittenLast before mid told_refused text due wanted → (told_refused ≡ true → refused ≡ true)
    → Keeps mid after → status ≡ (if refused then 1 else wanted) → Exits before after refused text due status
exits before mid after refused text due wanted status told_refused told since kept is = by refused refl told
  where
    by : (b : Bool) → refused ≡ b → IsWrittenLast before mid told_refused text due wanted → Exits before after refused text due status
    by true e told = inr (e, is ∙ cond-true _ _ _ e)
    by false e (inl t) = inl (e, Appends-kept before mid after text t.1 kept, is ∙ cond-false _ _ _ e ∙ t.0)
    by false e (inr t) = absurd (let f : false ≡ true = sym e ∙ since t in cc)

-- no cause ends with status 0
pub cause_is_seen : (why : Stop) → status_of why ≡ 0 → {A : Type 0} → A
cause_is_seen (stop.Fault EmptyChain) e = absurd (let f : 3 ≡ 0 = e in omega (arith, f))
cause_is_seen (stop.ScriptLine number) e = absurd (let f : 2 ≡ 0 = e in omega (arith, f))
cause_is_seen _ e = absurd (let f : 1 ≡ 0 = e in omega (arith, f))

-- status 3 is that of an empty chain
pub only_empty : (why : Stop) → status_of why ≡ 3 → why ≡ stop.Fault EmptyChain
only_empty why e = grind arith

module _ (before after : Option (List ℕ)) (refused : Bool) (status : ℕ) where
  -- how a program exits, by how it ended
  abbrev ExitsSo : Result Unit Stop → Type 0
  ExitsSo ended = Exits before after refused (end_text ended) (end_status ended) status

  -- a program that exits with status 0 came to its end
  pub came_to_its_end : {P : Type 0} (ended : Result Unit Stop) → ExitsSo ended → OnOk ended P → status ≡ 0 → P
  came_to_its_end (Ok value) exits done is = done
  came_to_its_end (Err why) (inl e) done is = cause_is_seen why (sym e.2 ∙ is)
  came_to_its_end (Err why) (inr e) done is = let one : status ≡ 1 = e.1 in absurd (omega (arith, one, is))

  -- a program that comes to its end or is stopped with status 1 exits with one of the two
  pub at_most_one : (ended : Result Unit Stop) → ExitsSo ended → IfErr ended (λ why. status_of why ≡ 1) → status ≤ 1
  at_most_one ended given one = grind arith

  -- what was printed before the end stands, where the program exits with status 0
  pub printed_at_its_end : (P : Option (List ℕ) → Type 0) → ((a b : Option (List ℕ)) → Appends a b [] → P a → P b) → (ended : Result Unit Stop)
      → ExitsSo ended → OnOk ended (P before) → status ≡ 0 → P after
  printed_at_its_end P more (Ok value) (inl e) done is = more before after e.1 done
  printed_at_its_end P more (Err why) (inl e) done is = cause_is_seen why (sym e.2 ∙ is)
  printed_at_its_end P more ended (inr e) done is = let one : status ≡ 1 = e.1 in absurd (omega (arith, one, is))

  -- where nothing was refused the status is another than 1, or the end's
  pub whole_but_for_one : (text : List ℕ) (wanted : ℕ) → Exits before after refused text wanted status → status ≢ 1 → refused ≡ false
  whole_but_for_one text wanted given other = grind arith

-- ---- what holds of a stop

pub on_fault : {P Q : Type 0} (result : Result Unit Stop) → (P → Q) → OnFault result P → OnFault result Q
on_fault (Ok value) f p = record {}
on_fault (Err (stop.Writer error)) f p = record {}
on_fault (Err _) f p = f p

pub always_on_fault : {P : Type 0} (result : Result Unit Stop) → P → OnFault result P
always_on_fault (Ok value) p = record {}
always_on_fault (Err (stop.Writer error)) p = record {}
always_on_fault (Err _) p = p

pub on_writer : {P Q : Type 0} (result : Result Unit Stop) → (P → Q) → OnWriter result P → OnWriter result Q
on_writer (Err (stop.Writer error)) f p = f p
on_writer _ f p = record {}
