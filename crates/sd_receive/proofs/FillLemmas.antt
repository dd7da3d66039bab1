-- A slot that is made ready, filled page by page, and opened.
use Rattle.std.proofs.Common.{◌≡◌, ◌≢◌, ◌⊎◌, ⊎_elim, ℕ, ◌<◌, true, false, List, [], ◌∷◌, ◌++◌, length, slice_get, slice_set, Result, Some, inl, inr, refl, sym, ◌∙◌, ap, subst, arith}
use Rattle.std.proofs.lemmas.Bool.{cases_eq}
use Rattle.std.proofs.lemmas.List.{get_or-set_same, get_or-set_other, length-set}
use Rattle.std.proofs.lemmas.Option.{slice_get_within}
use Rattle.std.specs.List.{concat}
use Rattle.sd_disk.specs.Contents.{file_at}
use Rattle.sd_disk.specs.Crash.{OnlyAt, Within}
use Rattle.sd_disk.specs.Reads.{OnlyReads}
use Rattle.sd_disk.specs.Spans.{LeavesOnly, span_widened, spans_join}
use Rattle.sd_disk.specs.declared.disk.Disk.{Ghosts}
use Rattle.sd_image.specs.declared.header.Header.{Header}
use Rattle.sd_image.specs.Header.{HasWords, header_text}
use Rattle.sd_image.specs.Image.{gate, is_open}
use Rattle.sd_gate.specs.declared.call.Call.TheVariants.{Write}
use Rattle.sd_gate.specs.declared.phase.Phase.{Phase}
use Rattle.sd_gate.specs.declared.phase.Phase.TheVariants.{Raw, RawClosing, Whole, Closing, Shut, ShutSynced, Bare}
use Rattle.sd_gate.specs.declared.phase.Phase.TheVariants.{Writing, Ready, Opening, Doubt, DoubtSynced}
use Rattle.sd_gate.specs.Fits.{DiskFits, PhaseLeaves, PhaseReads}
use Rattle.sd_gate.specs.Laws.{AreWholePages, BodiesFill, FoundFits, IsClosedOrWhole, found_phase, pages_body}
use Rattle.sd_gate.specs.PlanRuns.{LeavesAtMost, PlansTake, Takes, body_closed}
use Rattle.sd_gate.specs.Phases.{body_after, filled, may_write, state_of}
use Rattle.sd_receive.specs.Arriving.{IsFilled, IsSettled, KeepsImages, file_of, is_settled}
use Rattle.sd_gate.specs.Sequences.{body_calls, data_place, format_calls}
use Rattle.sd_receive.specs.PlanRuns.{IsLeftBeside, RunsCalls, RunsPlan}
use Rattle.sd_receive.proofs.RunLemmas.{get_set_other, get_set_same}
use Rattle.sd_receive.proofs.SettledLemmas.{beside_keeps, settled_leaves, settled_synced, synced_phase, short_is_closed, shut_is_closed, slot_closed}

-- ---- one slot's phase changes

module _ (before contents : List (List ℕ)) (old now : List (List ℕ) → Type 0) (rest : IsSettled before old) (slot : ℕ) (phase : Phase) (body : List ℕ) (inside : slot < length rest.phases)
    (fits : DiskFits (slice_set rest.phases slot phase) (slice_set rest.bodies slot body) contents now) (settles : is_settled phase ≡ true) where
  pub settled_set : IsSettled contents now
  settled_set = record {
    phases = slice_set rest.phases slot phase;
    bodies = slice_set rest.bodies slot body;
    fits = fits;
    settled = λ other p is. ⊎_elim
        (λ same. (let e : Some phase ≡ Some p = sym (get_set_same rest.phases slot phase inside) ∙ ap (slice_get (slice_set rest.phases slot phase)) (sym same) ∙ is in subst (λ q. is_settled q ≡ true) (some_is phase p e) settles))
        (λ apart. rest.settled other p (sym (get_set_other rest.phases slot other phase apart) ∙ is)) (cases_eq other slot);
  }
    where
      some_is : (a b : Phase) → Some a ≡ Some b → a ≡ b
      some_is a b e = cc

  pub filled_set : (pages : List (List ℕ)) → may_write phase ≡ true → filled phase ≡ Writing → body ≡ pages_body pages → AreWholePages pages → IsFilled contents now slot pages
  unfolding settled_set
  filled_set pages ready fills is whole = record {
    rests = settled_set;
    phase = phase;
    is = get_set_same rest.phases slot phase inside;
    ready = ready;
    fills = fills;
    body = get_or-set_same rest.bodies slot body [] (let many = rest.fits.count in omega (arith, inside, many)) ∙ is;
    whole = whole;
  }

-- ---- what is closed

-- of a slot that may be written a crash leaves no image
pub write_at_most : (image : List ℕ) (phase : Phase) (body : List ℕ) → may_write phase ≡ true → is_settled phase ≡ true → LeavesAtMost image phase body
write_at_most image phase body ready settled file leaves = inl (write_leaves phase body file ready settled leaves)
  where
    write_leaves : (phase : Phase) (body file : List ℕ) → may_write phase ≡ true → is_settled phase ≡ true → PhaseLeaves phase body file → is_open file ≡ false
    write_leaves Raw body file ready settled leaves = absurd (let no_it : false ≡ true = ready in cc)
    write_leaves RawClosing body file ready settled leaves = absurd (let no_it : false ≡ true = ready in cc)
    write_leaves Whole body file ready settled leaves = absurd (let no_it : false ≡ true = ready in cc)
    write_leaves Closing body file ready settled leaves = absurd (let no_it : false ≡ true = ready in cc)
    write_leaves Shut body file ready settled leaves = shut_is_closed file leaves
    write_leaves ShutSynced body file ready settled leaves = shut_is_closed file leaves
    write_leaves Bare body file ready settled leaves = shut_is_closed file leaves
    write_leaves Writing body file ready settled leaves = shut_is_closed file leaves
    write_leaves Ready body file ready settled leaves = slot_closed body file leaves
    write_leaves Opening body file ready settled leaves = absurd (let no_it : false ≡ true = ready in cc)
    write_leaves Doubt body file ready settled leaves = absurd (let no_it : false ≡ true = ready in cc)
    write_leaves DoubtSynced body file ready settled leaves = absurd (let no_it : false ≡ true = ready in cc)

-- and it reads as closed
pub write_reads : (phase : Phase) (body file : List ℕ) → may_write phase ≡ true → PhaseReads phase body file → is_open file ≡ false
write_reads Raw body file ready reads = absurd (let no_it : false ≡ true = ready in cc)
write_reads RawClosing body file ready reads = absurd (let no_it : false ≡ true = ready in cc)
write_reads Whole body file ready reads = absurd (let no_it : false ≡ true = ready in cc)
write_reads Closing body file ready reads = absurd (let no_it : false ≡ true = ready in cc)
write_reads Shut body file ready reads = shut_is_closed file reads
write_reads ShutSynced body file ready reads = shut_is_closed file reads
write_reads Bare body file ready reads = slot_closed [] file reads.1
write_reads Writing body file ready reads = slot_closed body file reads
write_reads Ready body file ready reads = slot_closed body file reads
write_reads Opening body file ready reads = absurd (let no_it : false ≡ true = ready in cc)
write_reads Doubt body file ready reads = absurd (let no_it : false ≡ true = ready in cc)
write_reads DoubtSynced body file ready reads = absurd (let no_it : false ≡ true = ready in cc)

pub filled_is_closed : (contents : List (List ℕ)) (may_leave : List (List ℕ) → Type 0) (slot : ℕ) (pages : List (List ℕ)) → IsFilled contents may_leave slot pages → is_open (file_at contents slot) ≡ false
filled_is_closed contents may_leave slot pages fill = write_reads fill.phase (file_at fill.rests.bodies slot) (file_at contents slot) fill.ready (fill.rests.fits.each slot fill.phase fill.is).reads

-- a closed file that was found
pub found_at_most : (image file body : List ℕ) → is_open file ≡ false → LeavesAtMost image (found_phase file) body
found_at_most image file body shut left leaves = inl (by (found_phase file) refl leaves)
  where
    found_shut : (f : List ℕ) → is_open f ≡ false → found_phase f ≡ Whole → ⊥
    found_shut f closed is = grind arith

    found_else : (f : List ℕ) (p : Phase) → found_phase f ≡ p → (p ≡ Raw) ⊎ ((p ≡ Shut) ⊎ (p ≡ Whole))
    found_else f p is = grind arith

    by : (p : Phase) → found_phase file ≡ p → PhaseLeaves p body left → is_open left ≡ false
    by p is has = ⊎_elim (λ raw. short_is_closed left (subst (λ q. PhaseLeaves q body left) raw has))
        (λ other. ⊎_elim (λ closed. shut_is_closed left (subst (λ q. PhaseLeaves q body left) closed has)) (λ whole. absurd (found_shut file shut (is ∙ whole))) other) (found_else file p is)

-- ---- moments

module _ {D : Type 0} (g : Ghosts D) where
  -- calls that read leave at each moment what was left
  pub span_of_reads : (old new : D) (P : List (List ℕ) → Type 0) → OnlyReads g old new → ((c : List (List ℕ)) → g.left_since old (g.moment old) c → g.may_leave old c)
      → Within (g.may_leave old) P → LeavesOnly g old new P
  span_of_reads old new P reads only_now has = record {
    later = reads.time;
    each = λ c left. has c (only_now c (reads.left (g.moment old) c (omega arith) left));
    before = λ t c since left. inl (reads.left t c since left);
  }

-- ---- the gate is opened

pub beside_opens : (contents c : List (List ℕ)) (may_leave : List (List ℕ) → Type 0) (rest : IsSettled contents may_leave) (slot : ℕ) (image : List ℕ) → slot < length contents
    → is_open (file_at contents slot) ≡ false → IsLeftBeside rest.phases rest.bodies slot image c → KeepsImages contents c ⊎ KeepsImages (slice_set contents slot (gate ∷ image)) c
beside_opens contents c may_leave rest slot image inside shut left = by left.here
  where
    kept : is_open (file_at c slot) ≡ false → KeepsImages contents c
    kept closed = beside_keeps contents c may_leave rest slot shut (record { count = left.count; here = inl closed; others = left.others })

    -- the other slots, as if this one were closed
    beside : (shut_c : List (List ℕ)) → KeepsImages contents shut_c → (length shut_c ≡ length c) → ((other : ℕ) → other ≢ slot → file_at c other ≡ file_at shut_c other)
        → file_at c slot ≡ gate ∷ image → KeepsImages (slice_set contents slot (gate ∷ image)) c
    beside shut_c keeps many same whole = record {
      count = sym many ∙ keeps.count ∙ sym (length-set contents slot (gate ∷ image));
      opened = λ other opens. ⊎_elim
          (λ here. subst (λ s. file_at c s ≡ file_at (slice_set contents slot (gate ∷ image)) s) (sym here) (whole ∙ sym (get_or-set_same contents slot (gate ∷ image) [] inside)))
          (λ apart. same other apart ∙ keeps.opened other (subst (λ f. is_open f ≡ true) (get_or-set_other contents slot other (gate ∷ image) [] apart) opens)
          ∙ sym (get_or-set_other contents slot other (gate ∷ image) [] apart)) (cases_eq other slot);
      closed = λ other closed. ⊎_elim
          (λ here. subst (λ s. is_open (file_at c s) ≡ false) (sym here)
          (subst (λ f. is_open f ≡ false) (get_or-set_same contents slot (gate ∷ image) [] inside ∙ sym whole) (subst (λ s. is_open (file_at (slice_set contents slot (gate ∷ image)) s) ≡ false) here closed)))
          (λ apart. subst (λ f. is_open f ≡ false) (sym (same other apart)) (keeps.closed other (subst (λ f. is_open f ≡ false) (get_or-set_other contents slot other (gate ∷ image) [] apart) closed)))
          (cases_eq other slot);
    }

    -- with the slot emptied
    emptied : List (List ℕ)
    emptied = slice_set c slot []

    by : IsClosedOrWhole image (file_at c slot) → KeepsImages contents c ⊎ KeepsImages (slice_set contents slot (gate ∷ image)) c
    by (inl closed) = inl (kept closed)
    by (inr whole) =
        let many : length c ≡ length contents = left.count ∙ sym rest.fits.slots in
        let here : slot < length c = omega (arith, inside, many) in
        inr (beside emptied
        (beside_keeps contents emptied may_leave rest slot shut (record {
          count = length-set c slot [] ∙ left.count;
          here = inl (subst (λ f. is_open f ≡ false) (sym (get_or-set_same c slot [] [] here)) refl);
          others = λ other p apart is. subst (λ f. PhaseLeaves p (file_at rest.bodies other) f) (sym (get_or-set_other c slot other [] [] apart)) (left.others other p apart is);
        })) (length-set c slot []) (λ other apart. sym (get_or-set_other c slot other [] [] apart)) whole)

-- ---- a slot is made ready

module _ {D E X : Type 0} (g : Ghosts D) (old mid new : D) (result : Result X E) (slot : ℕ) (takes : PlansTake) (only_now : (c : List (List ℕ)) → g.left_since old (g.moment old) c → g.may_leave old c)
    (same_slots : (c : List (List ℕ)) → g.may_leave old c → length c ≡ length (g.contents old)) (reads : OnlyReads g old mid)
    (only : OnlyAt slot (file_at (g.contents old) slot) (g.may_leave mid)) (found : FoundFits (g.contents mid) (g.may_leave mid)) (inside : slot < length (g.contents old))
    (rest : IsSettled (g.contents old) (g.may_leave old)) (shut : is_open (file_at (g.contents old) slot) ≡ false) where
  abbrev Keeps : List (List ℕ) → Type 0
  Keeps = KeepsImages (g.contents old)

  inside_mid : slot < length (g.contents mid)
  inside_mid = subst (λ c. slot < length c) (sym reads.same) inside

  shut_mid : is_open (file_at (g.contents mid) slot) ≡ false
  shut_mid = subst (λ c. is_open (file_at c slot) ≡ false) (sym reads.same) shut

  was : IsSettled (g.contents mid) (g.may_leave old)
  was = subst (λ c. IsSettled c (g.may_leave old)) (sym reads.same) rest

  only_mid : OnlyAt slot (file_at (g.contents mid) slot) (g.may_leave mid)
  only_mid = subst (λ c. OnlyAt slot (file_at c slot) (g.may_leave mid)) (sym reads.same) only

  abbrev phase : Phase
  phase = found_phase (file_at (g.contents mid) slot)

  pub ready_mid : IsSettled (g.contents mid) (g.may_leave mid)
  ready_mid = settled_synced (g.contents mid) (g.may_leave old) (g.may_leave mid) slot was inside_mid reads.crash only_mid found shut_mid

  phase_mid : slice_get ready_mid.phases slot ≡ Some phase
  unfolding ready_mid
  phase_mid = synced_phase (g.contents mid) (g.may_leave old) (g.may_leave mid) slot was inside_mid reads.crash only_mid found shut_mid

  pub format_runs : RunsCalls g slot (format_calls (state_of (found_phase (file_at (g.contents old) slot)))) mid new result → RunsPlan g ready_mid.phases ready_mid.bodies slot [] Bare [] mid new result
  format_runs runs = runs ready_mid.phases ready_mid.bodies [] phase Bare [] phase_mid
      (subst (λ c. Takes [] phase (file_at ready_mid.bodies slot) (format_calls (state_of (found_phase (file_at c slot)))) Bare []) reads.same
      (takes.format [] phase (file_at ready_mid.bodies slot) (found_at_most [] (file_at (g.contents mid) slot) (file_at ready_mid.bodies slot) shut_mid))) ready_mid.fits

  pub keeps_before : LeavesOnly g old mid Keeps
  keeps_before = span_of_reads g old mid Keeps reads only_now (λ files may. settled_leaves (g.contents old) files (g.may_leave old) rest (same_slots files may) may)

  pub keeps_all : RunsPlan g ready_mid.phases ready_mid.bodies slot [] Bare [] mid new result → LeavesOnly g old new Keeps
  keeps_all ran = spans_join g old mid new Keeps keeps_before
      (span_widened g mid new (IsLeftBeside ready_mid.phases ready_mid.bodies slot []) Keeps
      (λ c left. subst (λ k. KeepsImages k c) reads.same (beside_keeps (g.contents mid) c (g.may_leave mid) ready_mid slot shut_mid left)) ran.any_moment)

  pub filled_bare : DiskFits (slice_set ready_mid.phases slot Bare) (slice_set ready_mid.bodies slot []) (g.contents new) (g.may_leave new) → IsFilled (g.contents new) (g.may_leave new) slot []
  filled_bare fits = filled_set (g.contents mid) (g.contents new) (g.may_leave mid) (g.may_leave new) ready_mid slot Bare [] (slice_get_within ready_mid.phases slot phase phase_mid) fits refl [] refl refl refl tt

-- ---- a page, and the end

whole_more : (pages : List (List ℕ)) (page : List ℕ) → AreWholePages pages → length page ≡ 4096 → AreWholePages (pages ++ page ∷ [])
whole_more [] page are whole = (whole, tt)
whole_more (p ∷ pages) page are whole = (are.0, whole_more pages page are.1 whole)

module _ {D E X : Type 0} (g : Ghosts D) (old new : D) (result : Result X E) (slot : ℕ) (takes : PlansTake) (bodies : BodiesFill) (inside : slot < length (g.contents old))
    (pages : List (List ℕ)) (fill : IsFilled (g.contents old) (g.may_leave old) slot pages) where
  abbrev its : IsSettled (g.contents old) (g.may_leave old)
  its = fill.rests

  settled_phase : is_settled fill.phase ≡ true
  settled_phase = its.settled slot fill.phase fill.is

  shut_now : is_open (file_at (g.contents old) slot) ≡ false
  shut_now = filled_is_closed (g.contents old) (g.may_leave old) slot pages fill

  -- of a page
  module _ (place : ℕ) (page : List ℕ) (at : place ≡ length pages) (whole : length page ≡ 4096) where
    abbrev next_body : List ℕ
    next_body = body_after (file_at its.bodies slot) (Write (data_place place)) page

    body_is : next_body ≡ pages_body (pages ++ page ∷ [])
    body_is = ap (λ b. body_after b (Write (data_place place)) page) fill.body ∙ ap (λ p. body_after (pages_body pages) (Write (data_place p)) page) at ∙ bodies.page pages page fill.whole

    pub page_runs : RunsCalls g slot ((Write (data_place place), page) ∷ []) old new result → RunsPlan g its.phases its.bodies slot [] (filled fill.phase) next_body old new result
    page_runs runs = runs its.phases its.bodies [] fill.phase (filled fill.phase) next_body fill.is
        (takes.page [] fill.phase (file_at its.bodies slot) (data_place place) page fill.ready) its.fits

    pub page_keeps : RunsPlan g its.phases its.bodies slot [] (filled fill.phase) next_body old new result → LeavesOnly g old new (KeepsImages (g.contents old))
    page_keeps ran = span_widened g old new (IsLeftBeside its.phases its.bodies slot []) (KeepsImages (g.contents old))
        (λ c left. beside_keeps (g.contents old) c (g.may_leave old) its slot shut_now left) ran.any_moment

    pub page_filled : DiskFits (slice_set its.phases slot (filled fill.phase)) (slice_set its.bodies slot next_body) (g.contents new) (g.may_leave new)
        → IsFilled (g.contents new) (g.may_leave new) slot (pages ++ page ∷ [])
    page_filled fits = filled_set (g.contents old) (g.contents new) (g.may_leave old) (g.may_leave new) its slot Writing next_body (slice_get_within its.phases slot fill.phase fill.is)
        (subst (λ p. DiskFits (slice_set its.phases slot p) (slice_set its.bodies slot next_body) (g.contents new) (g.may_leave new)) fill.fills fits) refl
        (pages ++ page ∷ []) refl refl body_is (whole_more pages page fill.whole whole)

  -- of the table, the header and the gate
  module _ (header : Header) (table : List ℕ) (count : header.pages ≡ length pages) (words : HasWords header) where
    abbrev image : List ℕ
    image = header_text header ++ concat pages ++ table

    image_is : body_closed (file_at its.bodies slot) header table ≡ image
    image_is = ap (λ b. body_closed b header table) fill.body ∙ bodies.image pages header table fill.whole count words

    pub body_runs : RunsCalls g slot (body_calls header table) old new result → RunsPlan g its.phases its.bodies slot image Whole image old new result
    body_runs runs = runs its.phases its.bodies image fill.phase Whole image fill.is
        (subst (λ i. Takes i fill.phase (file_at its.bodies slot) (body_calls header table) Whole i) image_is (takes.close_body fill.phase (file_at its.bodies slot) header table fill.ready fill.fills)) its.fits

    pub body_opens : RunsPlan g its.phases its.bodies slot image Whole image old new result
        → LeavesOnly g old new (λ c. KeepsImages (g.contents old) c ⊎ KeepsImages (slice_set (g.contents old) slot (file_of header pages table)) c)
    body_opens ran = span_widened g old new (IsLeftBeside its.phases its.bodies slot image)
        (λ c. KeepsImages (g.contents old) c ⊎ KeepsImages (slice_set (g.contents old) slot (file_of header pages table)) c)
        (λ c left. beside_opens (g.contents old) c (g.may_leave old) its slot image inside shut_now left) ran.any_moment

    pub body_opened : DiskFits (slice_set its.phases slot Whole) (slice_set its.bodies slot image) (g.contents new) (g.may_leave new)
        → IsSettled (g.contents new) (g.may_leave new) × (file_at (g.contents new) slot ≡ file_of header pages table)
    body_opened fits =
        let here : slot < length its.phases = slice_get_within its.phases slot fill.phase fill.is in (
          settled_set (g.contents old) (g.contents new) (g.may_leave old) (g.may_leave new) its slot Whole image here fits refl,
          (let now = fits.each slot Whole (get_set_same its.phases slot Whole here) in
              now.reads ∙ ap (λ b. gate ∷ b) (get_or-set_same its.bodies slot image [] (let many = its.fits.count in omega (arith, here, many)))),
        )
