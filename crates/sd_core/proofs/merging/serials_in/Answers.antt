use Rattle.std.proofs.Common.{◌≡◌, ◌+◌, ◌++◌, ◌∷◌, [], List, ℕ, suc, map, take, Bor, Some, sym, ◌∙◌, ap, arith}
use Rattle.std.proofs.lemmas.Option.{slice_get-get_or}
use Rattle.sd_chain.specs.Catalog.{Opened, serial_of}
use Rattle.sd_image.specs.declared.header.Header.{Header}
use Rattle.sd_restore.proofs.TakeLemmas.{taken_all as take_all}
use Rattle.sd_core.proofs.TipLemmas.{serials_are, serials_more}
use Rattle.sd_core.proofs.merging.serials_in.Goals as goal

pub loop-image-preserved : goal.loop-image-preserved
loop-image-preserved c =
    let all : List (Bor Opened) = c.deref-image-items.result.now in
    let more : suc c.loop-image.image-index ≡ c.loop-image.image-index + 1 = omega arith in
    c.in_ok-push.ensures.items ∙ ap (λ (done : List ℕ). done ++ c.header.result.now.serial ∷ []) c.loop-image.invariant
    ∙ ap (λ (h : Header). map (λ (i : Bor Opened). i.now.header.serial) (take c.loop-image.image-index all) ++ h.serial ∷ []) c.header.ensures
    ∙ sym (serials_more all c.loop-image.image-index c.image-item.result
    (slice_get-get_or all c.loop-image.image-index c.image-item.result c.loop-image-test.true ∙ ap Some (sym c.image-item.is)))
    ∙ ap (λ n. map (λ (i : Bor Opened). i.now.header.serial) (take n all)) more

pub returns : goal.returns
returns c =
    c.loop-image.invariant ∙ ap (map (λ (i : Bor Opened). i.now.header.serial)) (take_all c.deref-image-items.result.now c.loop-image.image-index c.loop-image-test.false)
    ∙ serials_are c.deref-image-items.result.now ∙ ap (λ (all : List (Bor Opened)). map serial_of (map (λ i. i.now) all)) c.deref-image-items.ensures.value ∙ ap (map serial_of) c.in_ok-list.ensures
