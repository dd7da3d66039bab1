-- The list of the images that a merge closes, where its image enters the catalog, and what is so at its end.
use Rattle.std.proofs.Common.{◌≡◌, ℕ, List, length, Contains, Option, Some, None, slice_get, sym, ◌∙◌, ap, subst, arith}
use Rattle.std.proofs.lemmas.Option.{same_Some}
use Rattle.sd_image.proofs.Members.{place_in}
use Rattle.sd_chain.specs.Catalog.{IsHeld, Places}
use Rattle.sd_gate.specs.declared.phase.Phase.{Phase}
use Rattle.sd_gate.specs.declared.phase.Phase.TheVariants.{Bare}
use Rattle.sd_gate.specs.declared.request_id.RequestId.{RequestId}
use Rattle.sd_gate.specs.Phases.{bodies_after}
use Rattle.sd_gate.specs.Requests.{Made}
use Rattle.sd_merge.specs.declared.merge_progress.MergeProgress.{MergeProgress}
use Rattle.sd_merge.specs.declared.retired.Retired.{Retired}
use Rattle.sd_merge.specs.Copying.{Copying}
use Rattle.sd_merge.specs.Merger as merger
use Rattle.sd_merge.specs.Merger.{HandsAt, TakesList, copying, list_in, list_of, source_of}
use Rattle.sd_writing.specs.declared.new_image.NewImage.{NewImage}
use Rattle.sd_crash_safety.specs.Calls.{IsFree}
use Rattle.sd_crash_safety.specs.Copies.{IsCopyAtRest, IsCopyThere, IsOrderly}
use Rattle.sd_crash_safety.specs.MergerOutcomes.{MergerOutcomes}
use Rattle.sd_crash_safety.specs.View.{CoreView}
use Rattle.sd_crash_safety.specs.declared.standing.Standing.TheVariants.{Open}
use Rattle.sd_free_slots.specs.Taken.{IsListOf}
use Rattle.sd_core.specs.Merging.{AreCut, HasItsList, IsAsBelieved, IsMergedImage, IsMore, IsOneByte, OpensMerged, RetiresThese, opened_merge, retires_as}
use Rattle.sd_core.specs.Sound.{IsCore, Parts}
use Rattle.sd_core.proofs.OwnLemmas.{spared_of}
use Rattle.sd_core.proofs.CoreParts.{seen_of}
use Rattle.sd_core.proofs.MergerHands.{EndsMerge, GoesOnMerge, LeavesMerge, ended_goes_on, free_then, list_free, merged_core, work}
use Rattle.sd_core.proofs.OpenedLemmas.{OpensMerge, beside, fixed, merged_image, merged_opens, opened_core}
use Rattle.sd_core.proofs.OutcomeLemmas.{left_held}

-- ---- the image doesn't enter

-- its place was held, and stays so
pub not_opened : (core : Parts) (seen new : CoreView) → IsCore core → seen_of core ≡ seen → ((n : ℕ) → IsHeld core.places n → IsHeld new.catalog n)
    → (merge : merger.Running) (serial : ℕ) → OpensMerged merge serial seen new → ⊥
not_opened core seen new sound same stays merge serial o = grind arith

-- nor where one that the merger closed may leave
pub none_enters : {core : Parts} {seen : CoreView} {made : Made} {phases : List Phase} {outs : List (Option RequestId)} {places : Places} {now : Option merger.Running}
    (l : LeavesMerge core seen made phases outs places now) (merge : merger.Running) (serial : ℕ) → OpensMerged merge serial seen (seen_of (merged_core core phases outs places core.room now)) → ⊥
none_enters {core} {seen} {made} {phases} {outs} {places} {now} l = not_opened core seen (seen_of (merged_core core phases outs places core.room now)) l.hands.sound l.hands.seen_is
    (λ n held. left_held l.closed made.request.id.slot core.places places n l.leaves held)

-- a merge that goes on with its image goes on repeating its source
pub still_copies : {core : Parts} {seen : CoreView} {made : Made} {phases : List Phase} {outs : List (Option RequestId)} {places : Places} {done : MergeProgress} {now : Option merger.Running}
    (g : GoesOnMerge core seen made phases outs places done now) (merge : merger.Running) (copy : Copying) → seen.merger ≡ Some merge → merge.doing ≡ copying copy → source_of now ≡ None → ⊥
still_copies {made = made} {done = done} g merge copy was doing none = by g.more (subst (λ d. HandsAt d made done g.doing) (ap (λ (m : merger.Running). m.doing) same ∙ doing) g.goes)
  where
    same : g.leaves.merge ≡ merge
    same = same_Some g.leaves.merge merge (sym g.leaves.hands.was ∙ ap (λ (v : CoreView). v.merger) g.leaves.hands.seen_is ∙ was)

    goes : (next : Copying) → g.doing ≡ copying next → ⊥
    goes next is = let no : Some g.leaves.merge.source ≡ None = sym (ap source_of g.is ∙ ap (λ d. source_of (Some (record g.leaves.merge { doing = d }))) is) ∙ none in cc

    by : IsMore done → HandsAt (copying copy) made done g.doing → ⊥
    by given hands = grind arith

-- ---- the list

pub retires_these : (merge : merger.Running) (core : CoreView) → HasItsList merge core → IsOrderly core.catalog → RetiresThese merge core (list_of core.merger)
retires_these merge core is o = record {
  each = λ one. (
    λ listed. record { within = (is.each one listed).0; left_over = (is.each one listed).1; unneeded = is.unneeded o.falls one listed },
    λ t. is.all o.falls o.apart one t.within t.left_over t.unneeded,
  );
  rises = is.rises;
}

-- ---- the outcome with which it enters

module _ {core : Parts} {seen : CoreView} {made : Made} {phases : List Phase} {outs : List (Option RequestId)}
    {places : Places} {room : ℕ} {image : NewImage} {ended : Option ℕ} {now : Option merger.Running}
    (o : OpensMerge core seen made phases outs places room image ended now) where
  merge_was : seen.merger ≡ Some o.merge
  merge_was = ap (λ (v : CoreView). v.merger) (sym o.hands.seen_is) ∙ o.hands.was

  one_copy : (x y : Copying) → copying x ≡ copying y → x ≡ y
  one_copy x y e = cc

  -- the copy of the merge that was seen is the one whose image is open
  its_copy : (other : merger.Running) (copy : Copying) → seen.merger ≡ Some other → other.doing ≡ copying copy → (other ≡ o.merge) × (copy.order.serial ≡ image.header.serial)
  its_copy other copy was copies = grind arith

  -- what is so of that merge and its serial is so of those that were seen
  of_seen : (P : merger.Running → ℕ → Type 0) → P o.merge image.header.serial → (other : merger.Running) (serial : ℕ) → OpensMerged other serial seen (seen_of (opened_core o)) → P other serial
  of_seen P so other serial opens =
      let is = its_copy other opens.copy opens.was opens.doing in
      subst (λ n. P other n) (sym (opens.own ∙ is.1)) (subst (λ m. P m image.header.serial) (sym is.0) so)

  pub opened_now : (other : merger.Running) (copy : Copying) → seen.merger ≡ Some other → other.doing ≡ copying copy → OpensMerged other copy.order.serial seen (seen_of (opened_core o))
  opened_now other copy was copies = grind arith

  list_here : HasItsList (opened_merge o.merge image.header.serial) (seen_of (opened_core o))
  list_here = subst (IsListOf places core.dumper.running (Some (opened_merge o.merge image.header.serial)) outs (length phases)) (list_is ended o.fixes.retires)
      (subst (λ n. IsListOf places core.dumper.running (Some (opened_merge o.merge image.header.serial)) outs n o.fixes.list) ((beside o).room ∙ sym o.hands.follows.count) (fixed o))
    where
      list_is : (ended : Option ℕ) → TakesList o.before o.fixes.list (retires_as ended) now → o.fixes.list ≡ list_of now
      list_is None r = sym (ap list_of r.is)
      list_is (Some number) r = r.none ∙ sym (ap list_of r.is)

  pub opened_list : (other : merger.Running) (serial : ℕ) → OpensMerged other serial seen (seen_of (opened_core o)) → HasItsList (opened_merge other serial) (seen_of (opened_core o))
  opened_list = of_seen (λ m n. HasItsList (opened_merge m n) (seen_of (opened_core o))) list_here

  -- what the laws say where the store is as it is believed to be
  as_seen : (bodies : List (List ℕ)) → IsAsBelieved seen made.request bodies → IsAsBelieved (seen_of core) made.request bodies
  as_seen bodies b = subst (λ old. IsAsBelieved old made.request bodies) (sym o.hands.seen_is) b

  pub opened_retires : MergerOutcomes places → (other : merger.Running) (serial : ℕ) (bodies : List (List ℕ)) → OpensMerged other serial seen (seen_of (opened_core o)) → IsAsBelieved seen made.request bodies
      → RetiresThese (opened_merge other serial) (seen_of (opened_core o)) (list_of now)
  opened_retires laws other serial bodies opens b =
      let known = as_seen bodies b in
      retires_these (opened_merge other serial) (seen_of (opened_core o)) (opened_list other serial opens)
      (laws.orderly _ _ o.merge (beside o).copy made o.hands.follows.phase image o.fixes.list (retires_as ended) known.asked bodies known.files (merged_opens o) known.out known.believes)

  pub opened_enters : MergerOutcomes places → (other : merger.Running) (serial : ℕ) (bodies : List (List ℕ)) → OpensMerged other serial seen (seen_of (opened_core o)) → IsAsBelieved seen made.request bodies
      → IsCopyThere other.source.serial serial seen.catalog (seen_of (opened_core o)) (bodies_after bodies made.request.id made.request.bytes) × IsMergedImage other places serial × IsFree outs other.slot
  opened_enters laws other serial bodies opens b =
      let known = as_seen bodies b in
      let copies = laws.copies _ _ o.merge (beside o).copy made o.hands.follows.phase image o.fixes.list (retires_as ended) known.asked bodies known.files (merged_opens o) (free_then o.hands) known.out known.believes in
      let free = free_then o.hands o.merge.slot (spared_of core.dumper.running o.merge.slot (work o.hands).spared) in
      of_seen (λ m n. IsCopyThere m.source.serial n seen.catalog (seen_of (opened_core o)) (bodies_after bodies made.request.id made.request.bytes) × IsMergedImage m places n × IsFree outs m.slot) (
        subst (λ (v : CoreView). IsCopyThere o.merge.source.serial image.header.serial v.catalog (seen_of (opened_core o)) (bodies_after bodies made.request.id made.request.bytes)) o.hands.seen_is copies,
        merged_image o,
        subst (λ all. IsFree all o.merge.slot) (sym o.hands.outs_are) free,
      ) other serial opens

  pub opened_rests : MergerOutcomes places → (other : merger.Running) (serial : ℕ) (bodies : List (List ℕ)) → OpensMerged other serial seen (seen_of (opened_core o)) → IsAsBelieved seen made.request bodies
      → (core.standing ≡ Open) × IsCopyAtRest other.source.serial serial seen.catalog (seen_of (opened_core o)) (bodies_after bodies made.request.id made.request.bytes)
  opened_rests laws other serial bodies opens b =
      let known = as_seen bodies b in
      let rests = laws.rests _ _ o.merge (beside o).copy made o.hands.follows.phase image o.fixes.list (retires_as ended) known.asked bodies known.files (merged_opens o) (free_then o.hands) known.out known.believes in (
        (work o.hands).stands,
        of_seen (λ m n. IsCopyAtRest m.source.serial n seen.catalog (seen_of (opened_core o)) (bodies_after bodies made.request.id made.request.bytes))
            (subst (λ (v : CoreView). IsCopyAtRest o.merge.source.serial image.header.serial v.catalog (seen_of (opened_core o)) (bodies_after bodies made.request.id made.request.bytes)) o.hands.seen_is rests) other serial opens,
      )

  -- its list was empty
  pub none_cut : AreCut seen (seen_of (opened_core o))
  none_cut = record { each = λ one listed. absurd (none one listed); free = λ one listed. absurd (none one listed) }
    where
      none : (one : Retired) → Contains (list_of seen.merger) one → ⊥
      none one listed =
          let within = listed.1 in
          let empty : length (list_of seen.merger) ≡ 0 = ap (λ m. length (list_of m)) merge_was ∙ ap (λ d. length (list_in d)) (beside o).was in
          omega (arith, within, empty)

-- ---- the end

one_byte : (phases : List Phase) (slot : ℕ) → slice_get phases slot ≡ Some Bare → IsOneByte phases slot
one_byte phases slot bare = grind arith

module _ {core : Parts} {seen : CoreView} {made : Made} {phases : List Phase} {outs : List (Option RequestId)}
    {places : Places} {serial : ℕ} {now : Option merger.Running}
    (m : EndsMerge core seen made phases outs places serial now) where
  ended_was : seen.merger ≡ Some m.leaves.merge
  ended_was = ap (λ (v : CoreView). v.merger) (sym m.leaves.hands.seen_is) ∙ m.leaves.hands.was

  -- after the last of its calls
  pub ended_cut : {before : Places} → MergerOutcomes before → (bodies : List (List ℕ)) → IsAsBelieved seen made.request bodies → AreCut seen (seen_of (merged_core core phases outs places core.room now))
  ended_cut laws bodies b = record {
    free = λ one listed. (let at = found one listed in subst (λ all. IsFree all one.slot) (sym m.leaves.hands.outs_are) (list_free m.leaves.hands m.ends.r m.ends.was at.0 one at.1));
    each = λ one listed.
        let at = found one listed in
        let known = subst (λ old. IsAsBelieved old made.request bodies) (sym m.leaves.hands.seen_is) b in
        one_byte phases one.slot (laws.cuts _ _ m.leaves.merge m.ends.r m.ends.next made m.leaves.hands.follows.phase serial at.0 one known.asked bodies known.files (ended_goes_on m)
        known.out known.believes at.1);
  }
    where
      found : (one : Retired) → Contains (list_of seen.merger) one → (place : ℕ) × (slice_get m.ends.r.list place ≡ Some one)
      found one listed = place_in m.ends.r.list one (subst (λ all. Contains all one) (ap list_of ended_was ∙ ap list_in m.ends.was) listed)

  -- a merge that closes images doesn't make its own
  pub not_copying : (merge : merger.Running) (copy : Copying) → seen.merger ≡ Some merge → merge.doing ≡ copying copy → ⊥
  not_copying merge copy was copies = grind arith
