-- The image of a checkpoint is one image, and so is where a piece begins.
use Rattle.std.proofs.Common.{◌≡◌, ◌≢◌, ◌≤◌, ℕ, Option, Some, None, All, sym, ap, ◌∙◌, subst, arith}
use Rattle.std.specs.Prelude.{IfSome, IsErrOf, Result, Ok, Err, is_some, true, ◌↔◌}
use Rattle.std.proofs.lemmas.List.Elements.{All-contains}
use Rattle.sd_chain.specs.Catalog.{IsSoundCatalog, Opened, Places, images, place_of}
use Rattle.sd_chain.specs.Checkpoints.{HasCheckpoint, IsOfCheckpointAmong}
use Rattle.sd_send.specs.declared.send_error.SendError.{SendError}
use Rattle.sd_send.specs.declared.send_error.SendError.TheVariants as send
use Rattle.sd_send.specs.declared.sender.Last.{Last}
use Rattle.sd_send.specs.Last.{IsGone, IsOfSending, IsPast, IsStopAfter}

same_serial : (a b : ℕ) → a ≤ b → b ≤ a → a ≡ b
same_serial a b below above = omega (arith, below, above)

-- an image that stands at two serials which are one
same_image : (places : Places) (i j : Opened) → place_of places i.header.serial ≡ Some (Some i) → place_of places j.header.serial ≡ Some (Some j) → i.header.serial ≡ j.header.serial → i ≡ j
same_image places i j one other same =
    let both : Some (Some i) ≡ Some (Some j) = sym one ∙ ap (λ n. place_of places n) same ∙ other in
    cc

pub one_of_checkpoint : (places : Places) (number : ℕ) (i j : Opened) → IsSoundCatalog places → IsOfCheckpointAmong (images places) number i → IsOfCheckpointAmong (images places) number j → i ≡ j
one_of_checkpoint places number i j sound one other =
    let same : i.header.serial ≡ j.header.serial = same_serial i.header.serial j.header.serial (other.greatest i one.member one.has) (one.greatest j other.member other.has) in
    same_image places i j (sound.own i one.member) (sound.own j other.member) same

module _ (places : Places) (last : Last) where
  -- the image of the checkpoint is another, so nothing begins after it
  pub another_gone : (i : Opened) → IsSoundCatalog places → IsOfCheckpointAmong (images places) last.number i → (IfSome last.stands_for (λ serial. i.header.stands_for ≡ serial) → ⊥)
      → (stop : Option ℕ) → IsStopAfter places (Some last) stop → ⊥
  another_gone i sound is other None past = All-contains (λ (j : Opened). HasCheckpoint last.number j → ⊥) (images places) i past.lacks is.member is.has
  another_gone i sound is other (Some slot) (j, of, at) =
      other (subst (λ (k : Opened). IfSome last.stands_for (λ serial. k.header.stands_for ≡ serial)) (one_of_checkpoint places last.number j i sound of.newest is) of.stands)

  -- no image is of the checkpoint, and what was sent isn't known, or none is of a newer one
  pub none_gone : All (λ (i : Opened). HasCheckpoint last.number i → ⊥) (images places) → (IsPast places last → ⊥)
      → (stop : Option ℕ) → IsStopAfter places (Some last) stop → ⊥
  none_gone lacks not_past None past = not_past past
  none_gone lacks not_past (Some slot) (j, of, at) = All-contains (λ (j : Opened). HasCheckpoint last.number j → ⊥) (images places) j lacks of.newest.member of.newest.has

no_error : (stop : Option ℕ) (error : SendError) → IsErrOf {T = Option ℕ} {E = SendError} (Ok stop) error → ⊥
no_error stop error is = absurd (cc)

same_number : (a b : ℕ) → IsErrOf {T = Option ℕ} {E = SendError} (Err (send.Gone a)) (send.Gone b) → b ≡ a
same_number a b is = cc

pub not_none : (serial : Option ℕ) → true ≡ is_some serial → serial ≢ None
not_none None is none = absurd (cc)
not_none (Some n) is none = absurd (cc)

-- a piece begins there, so none is gone
pub stop_is_there : (places : Places) (last : Option Last) (stop : Option ℕ) → IsStopAfter places last stop
    → (number : ℕ) → IsErrOf {T = Option ℕ} {E = SendError} (Ok stop) (send.Gone number) ↔ IsGone places last number
stop_is_there places None stop after number = (λ is. absurd (no_error stop (send.Gone number) is), λ gone. absurd gone)
stop_is_there places (Some last) stop after number = (λ is. absurd (no_error stop (send.Gone number) is), λ gone. absurd (gone.1 stop after))

-- no piece begins anywhere
pub stop_is_gone : (places : Places) (last : Last) → ((stop : Option ℕ) → IsStopAfter places (Some last) stop → ⊥)
    → (number : ℕ) → IsErrOf {T = Option ℕ} {E = SendError} (Err (send.Gone last.number)) (send.Gone number) ↔ IsGone places (Some last) number
stop_is_gone places last none number = (λ is. (same_number last.number number is, none), λ gone. ap (λ n. Err (send.Gone n)) (sym gone.0))

-- it began there, and ended with an error of another kind
other_error : (T : Type 0) (error : SendError) (number : ℕ) → IsOfSending error → IsErrOf {T = T} {E = SendError} (Err error) (send.Gone number) → ⊥
other_error T (send.Fault fault) number of is = absurd (cc)
other_error T (send.Stream why) number of is = absurd (cc)
other_error T send.NotThere number of is = of
other_error T (send.Gone n) number of is = of
other_error T (send.Folder stop) number of is = of

pub stop_was_there : (T : Type 0) (places : Places) (last : Option Last) (stop : Option ℕ) (result : Result T SendError) (error : SendError) → IsStopAfter places last stop
    → result ≡ Err error → IsOfSending error → (number : ℕ) → IsErrOf result (send.Gone number) ↔ IsGone places last number
stop_was_there T places None stop result error after is of number = (λ gone. absurd (other_error T error number of (sym is ∙ gone)), λ gone. absurd gone)
stop_was_there T places (Some last) stop result error after is of number = (λ gone. absurd (other_error T error number of (sym is ∙ gone)), λ gone. absurd (gone.1 stop after))
