-- The reader of a stream goes on.
use Rattle.std.proofs.Common.{◌≡◌, ◌≢◌, ℕ, List, [], ◌∷◌, ◌++◌, Option, refl, sym, ◌∙◌, ap, append-nil, append_assoc, Result, Ok, Err}
use Rattle.std.specs.Prelude.{IfOk, OnOk}
use Rattle.sd_stream.specs.declared.reader.StreamReader.{StreamReader}
use Rattle.sd_stream.specs.Progress.{Progress}
use Rattle.sd_stream.specs.Reading.{HasRead}
use Rattle.sd_receive.specs.declared.receiver.Received.{Received}
use Rattle.sd_receive.specs.declared.receiver.Received.TheVariants as received
use Rattle.sd_receive.specs.Arrived.{GoesOn, HasMore, ReadsNext, numbers_received, numbers_so_far}

module _ {R : Type 0} (remaining : R → Option (List ℕ)) where
  -- no checkpoint came
  pub none_more : (before : Option (List ℕ)) (p now : Progress) (reader : StreamReader R) → HasRead remaining before now reader → now.base ≡ p.base
      → numbers_so_far now ≡ numbers_so_far p → HasMore remaining before p [] reader
  none_more before p now reader read base same = record { now = now; read = read; base = base; more = same ∙ sym (append-nil (numbers_so_far p)) }

  pub reads_nothing : (reader : StreamReader R) → GoesOn remaining reader [] reader
  reads_nothing reader before p read = none_more before p p reader read refl refl

  -- and then others
  pub goes_on_more : (old mid new : StreamReader R) (first second : List ℕ) → GoesOn remaining old first mid → GoesOn remaining mid second new → GoesOn remaining old (first ++ second) new
  goes_on_more old mid new first second one other before p read =
      let a = one before p read in
      let b = other before a.now a.read in
      record { now = b.now; read = b.read; base = b.base ∙ a.base; more = b.more ∙ ap (λ l. l ++ second) a.more ∙ append_assoc (numbers_so_far p) first second }

  -- with an image that was received
  pub reads_image : (old new : StreamReader R) (r : Received) → r ≢ received.End → GoesOn remaining old (numbers_received r) new → ReadsNext remaining old new r
  reads_image old new received.PreDump is more = more
  reads_image old new (received.Checkpoint n) is more = more
  reads_image old new received.End is more = absurd (is refl)

  -- and what was read before it
  pub reads_after : (old mid new : StreamReader R) (r : Received) → r ≢ received.End → GoesOn remaining old [] mid → ReadsNext remaining mid new r → ReadsNext remaining old new r
  reads_after old mid new received.PreDump is first then = goes_on_more old mid new [] [] first then
  reads_after old mid new (received.Checkpoint n) is first then = goes_on_more old mid new [] (n ∷ []) first then
  reads_after old mid new received.End is first then = absurd (is refl)

pub ok_then : {X E P Q : Type 0} (r : Result X E) → (P → Q) → OnOk r P → OnOk r Q
ok_then (Ok x) then p = then p
ok_then (Err e) then p = tt

pub each_ok : {X E : Type 0} {P Q : X → Type 0} (r : Result X E) → ((x : X) → P x → Q x) → IfOk r P → IfOk r Q
each_ok (Ok x) then p = then x p
each_ok (Err e) then p = tt

pub both_ok : {X E : Type 0} {P Q S : X → Type 0} (r : Result X E) → ((x : X) → P x → Q x → S x) → IfOk r P → IfOk r Q → IfOk r S
both_ok (Ok x) then p q = then x p q
both_ok (Err e) then p q = tt
