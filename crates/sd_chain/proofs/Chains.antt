-- The chain of an image as a list: built one image at a time, and followed by pages that lie alike.
use Rattle.std.proofs.Common.{◌≡◌, ◌<◌, ◌≤◌, ◌+◌, ◌*◌, ◌^◌, ℕ, zero, suc, min, List, [], ◌∷◌, ◌++◌, map, length, Contains, Option, Some, None, refl, sym, ◌∙◌, ap, subst, inl, inr, Bor, arith}
use Rattle.std.specs.Prelude.{◌↔◌, IfSome, get_or}
use Rattle.std.specs.Option.{option_map}
use Rattle.std.specs.List.{slice_get}
use Rattle.std.proofs.lemmas.Bool.{cases_lt}
use Rattle.std.proofs.lemmas.List.{length-append, length-map}
use Rattle.std.proofs.lemmas.List.Elements.{All-contains}
use Rattle.std.proofs.lemmas.Option.{slice_get-get_or, slice_get-map, none-some, same_Some, slice_get_within, slice_get_past}
use Rattle.sd_image.specs.declared.run.RunKind.TheVariants.{Data}
use Rattle.sd_image.specs.Laws.{FewPages, OneKind, OnePlace}
use Rattle.sd_image.specs.Shows.{pages_of}
use Rattle.sd_image.specs.Table.{IsTable}
use Rattle.sd_chain.specs.declared.found.Found.TheVariants as found
use Rattle.sd_chain.specs.declared.trace.Trace.{Trace}
use Rattle.sd_chain.specs.declared.trace.Trace.TheVariants as trace
use Rattle.sd_chain.specs.declared.way.Way.{Way}
use Rattle.sd_chain.specs.declared.way.Way.TheVariants as way
use Rattle.sd_chain.specs.Catalog.{Opened, Places, Names, images, place_of}
use Rattle.sd_chain.specs.Chains.{AreAlike, IsChainOf, IsTraced, trace_on, way_on}
use Rattle.sd_chain.specs.Ways.{AreImages, HasPage, by_data, by_zero}
use Rattle.sd_chain.proofs.Lies.{data_lies, zero_lies}
use Rattle.sd_chain.proofs.TablePages.{get_right}
use Rattle.sd_chain.proofs.Traces.{IsWalked, ends_found, ends_unlisted, ends_without_parent, traced_none, traced_some, walk_begins, walk_goes_on}
use Rattle.sd_chain.proofs.Walks.{IsImageOf, IsNext, member_of}
use Rattle.sd_chain.proofs.Ways.{IsExact, exact_some}

-- ---- lists

get_before : {X : Type 0} (xs ys : List X) (k : ℕ) → k < length xs → slice_get (xs ++ ys) k ≡ slice_get xs k
get_before [] ys k less = absurd (omega (arith, less))
get_before (x ∷ xs) ys zero less = refl
get_before (x ∷ xs) ys (suc k) less = get_before xs ys k (omega (arith, less))

append-nil : {X : Type 0} (xs : List X) → xs ++ [] ≡ xs
append-nil [] = refl
append-nil (x ∷ xs) = ap (λ ys. x ∷ ys) (append-nil xs)

-- the images that a list of references leads to
abbrev pub opened_in : List (Bor Opened) → List Opened
opened_in = map (λ (i : Bor Opened). i.now)

pub image_at : (list : List (Bor Opened)) (k : ℕ) (i : Bor Opened) → k < length list → i ≡ get_or list k i → slice_get (opened_in list) k ≡ Some i.now
image_at list k i less is = slice_get-map (λ (i : Bor Opened). i.now) list k ∙ ap (option_map (λ (i : Bor Opened). i.now)) (slice_get-get_or list k i less ∙ ap Some (sym is))

pub no_image_at : (list : List (Bor Opened)) (k : ℕ) → length list ≤ k → slice_get (opened_in list) k ≡ None
no_image_at list k past = slice_get_past (opened_in list) k (omega (arith, past, length-map list (λ (i : Bor Opened). i.now)))

-- ---- building it

abbrev pub shown : Option (Bor Opened) → List Opened
shown None = []
shown (Some i) = i.now ∷ []

-- these images and the next one are the chain as far as it was built
pub record IsChainTo (places : Places) (serial : ℕ) (list : List Opened) (next : Option (Bor Opened)) : Type 0 where
  pub first : (i : Opened) → (place_of places serial ≡ Some (Some i)) ↔ (slice_get (list ++ shown next) 0 ≡ Some i)
  pub linked : (k : ℕ) (i p : Opened) → k < length list → slice_get (list ++ shown next) k ≡ Some i
      → Names places i.header.parent p ↔ (slice_get (list ++ shown next) (k + 1) ≡ Some p)
  pub member : IfSome next (λ i. Contains (images places) i.now)

pub chain_begins : (places : Places) (serial : ℕ) (next : Option (Bor Opened)) → IsImageOf places serial next → IsChainTo places serial [] next
chain_begins places serial next none = grind (arith, none-some, same_Some, member_of)

next_is : (places : Places) (i p : Opened) (next : Option (Bor Opened)) → i.header.parent < i.header.stands_for → ((p q : Opened) → Names places i.header.parent p → Names places i.header.parent q → p ≡ q)
    → IsNext places i next → Names places i.header.parent p ↔ (slice_get (shown next) 0 ≡ Some p)
next_is places i p None falls one is = (λ named. absurd (is.all falls refl p named), λ e. absurd (none-some p e))
next_is places i p (Some q) falls one is = (λ named. ap Some (one q.now p is.named named), λ e. subst (Names places i.header.parent) (same_Some q.now p e) is.named)

next_member : (places : Places) (i : Opened) (next : Option (Bor Opened)) → IsNext places i next → IfSome next (λ p. Contains (images places) p.now)
next_member places i next is = grind arith

pub chain_goes_on : (places : Places) (serial : ℕ) (list : List Opened) (i : Bor Opened) (next : Option (Bor Opened)) → i.now.header.parent < i.now.header.stands_for
    → ((p q : Opened) → Names places i.now.header.parent p → Names places i.now.header.parent q → p ≡ q)
    → IsChainTo places serial list (Some i) → IsNext places i.now next → IsChainTo places serial (list ++ i.now ∷ []) next
chain_goes_on places serial list i next falls one was is =
    let full : List Opened = list ++ i.now ∷ [] in
    let long : length full ≡ length list + 1 = length-append list (i.now ∷ []) in
    record {
      first = λ j. subst (λ o. (place_of places serial ≡ Some (Some j)) ↔ (o ≡ Some j)) (sym (get_before full (shown next) 0 (omega (arith, long)))) (was.first j);
      linked = λ k j p less got. elim (cases_lt k (length list)) [
        | inl low ↦
            let here : slice_get full k ≡ Some j = sym (get_before full (shown next) k (omega (arith, long, low))) ∙ got in
            subst (λ o. Names places j.header.parent p ↔ (o ≡ Some p)) (sym (get_before full (shown next) (k + 1) (omega (arith, long, low)))) (was.linked k j p low here)
        | inr high ↦
            let at : k ≡ length list + 0 = omega (arith, long, less, high) in
            let here : slice_get full k ≡ Some i.now = get_right list (i.now ∷ []) k 0 at in
            let same : i.now ≡ j = same_Some i.now j (sym here ∙ (sym (get_before full (shown next) k (omega (arith, long, at))) ∙ got)) in
            let behind : slice_get (full ++ shown next) (k + 1) ≡ slice_get (shown next) 0 = get_right full (shown next) (k + 1) 0 (omega (arith, long, at)) in
            subst (λ (o : Opened). Names places o.header.parent p ↔ (slice_get (full ++ shown next) (k + 1) ≡ Some p)) same
            (subst (λ o. Names places i.now.header.parent p ↔ (o ≡ Some p)) (sym behind) (next_is places i.now p next falls one is))
      ];
      member = next_member places i.now next is;
    }

pub chain_ends : (places : Places) (serial : ℕ) (list : List Opened) → IsChainTo places serial list None → IsChainOf places serial list
chain_ends places serial list was = record {
  first = λ i. subst (λ (xs : List Opened). (place_of places serial ≡ Some (Some i)) ↔ (slice_get xs 0 ≡ Some i)) (append-nil list) (was.first i);
  next = λ k i p got.
      let less = slice_get_within list k i got in
      let there : slice_get (list ++ []) k ≡ Some i = ap (λ (xs : List Opened). slice_get xs k) (append-nil list) ∙ got in
      subst (λ (xs : List Opened). Names places i.header.parent p ↔ (slice_get xs (k + 1) ≡ Some p)) (append-nil list) (was.linked k i p less there);
}

-- ---- following pages

-- Pages were followed up to an image of the chain; they come to this where that one doesn't list them. After its last image they come to this.
pub record IsFollowed (places : Places) (serial : ℕ) (chain : List Opened) (space page k count : ℕ) (answer : Trace) : Type 0 where
  pub here : (i : Opened) → slice_get chain k ≡ Some i
      → (start : Opened) × (place_of places serial ≡ Some (Some start)) × ((j : ℕ) → j < count → IsWalked places (space, page + j) start i answer)
  pub done : slice_get chain k ≡ None → (j : ℕ) → j < count → IsTraced places serial (space, page + j) (trace_on answer j)

pub follow_begins : (places : Places) (serial : ℕ) (chain : List Opened) (space page count : ℕ) → IsChainOf places serial chain
    → IsFollowed places serial chain space page 0 count trace.Absent
follow_begins places serial chain space page count is = record {
  here = λ i got.
      let there = (is.first i).1 got in
      (i, there, λ j less. walk_begins places (space, page + j) i (member_of places serial i there));
  done = λ none j less. traced_none places serial (space, page + j) (λ i there. none-some i (sym none ∙ (is.first i).0 there));
}

-- the way of each of some pages that a table has alike
alike_exact : OneKind → OnePlace → (places : Places) (i : Opened) (space page : ℕ) (w : Way) (count j : ℕ) → IsTable i.header i.spaces → AreAlike i.spaces (space, page) w count → j < count
    → IsExact i.spaces (space, page + j) (Some (way_on w j))
alike_exact kinds once places i space page w count j table alike less =
    exact_some kinds once i.header i.spaces (space, page + j) (way_on w j) table (alike.each j less)

table_of : (places : Places) (i : Opened) → AreImages places → Contains (images places) i → IsTable i.header i.spaces
table_of places i good c = All-contains (λ (i : Opened). IsTable i.header i.spaces) (images places) i good.tables c

pub member_here : (places : Places) (serial : ℕ) (chain : List Opened) (space page k count : ℕ) (answer : Trace) (i : Opened) → 0 < count
    → IsFollowed places serial chain space page k count answer → slice_get chain k ≡ Some i → Contains (images places) i
member_here places serial chain space page k count answer i some was got = ((was.here i got).2 0 some).member

pub table_here : (places : Places) (serial : ℕ) (chain : List Opened) (space page k count : ℕ) (answer : Trace) (i : Opened) → 0 < count → AreImages places
    → IsFollowed places serial chain space page k count answer → slice_get chain k ≡ Some i → IsTable i.header i.spaces
table_here places serial chain space page k count answer i some good was got =
    table_of places i good (member_here places serial chain space page k count answer i some was got)

pub follow_goes_on : OneKind → OnePlace → (places : Places) (serial : ℕ) (chain : List Opened) (space page k count : ℕ) (answer : Trace) (i : Opened) (alike_count less_count : ℕ) → 0 < count
    → AreImages places → IsChainOf places serial chain → IsFollowed places serial chain space page k count answer → slice_get chain k ≡ Some i
    → AreAlike i.spaces (space, page) way.Parent alike_count → less_count ≡ min count alike_count
    → IsFollowed places serial chain space page (k + 1) less_count (trace.Broken i.slot)
follow_goes_on kinds once places serial chain space page k count answer i alike_count less_count some good is was got alike least =
    let at = was.here i got in
    let table = table_here places serial chain space page k count answer i some good was got in
    record {
      here = λ p next. (
        at.0,
        at.1,
        λ j less.
            walk_goes_on places (space, page + j) at.0 i p answer
            (λ a b x y. same_Some a b (sym ((is.next k i a got).0 x) ∙ (is.next k i b got).0 y))
            (at.2 j (omega (arith, less, least))) (alike_exact kinds once places i space page way.Parent alike_count j table alike (omega (arith, less, least))) ((is.next k i p got).1 next),
      );
      done = λ none j less.
          traced_some places serial (space, page + j) at.0 (trace.Broken i.slot) at.1
          (ends_without_parent places (space, page + j) at.0 i answer good (at.2 j (omega (arith, less, least)))
          (alike_exact kinds once places i space page way.Parent alike_count j table alike (omega (arith, less, least)))
          (λ falls p named. none-some p (sym none ∙ (is.next k i p got).0 named)));
    }

pub follow_stops : (places : Places) (serial : ℕ) (chain : List Opened) (space page k count : ℕ) (answer : Trace) (i : Opened) (j : ℕ) → 0 < count
    → IsFollowed places serial chain space page k count answer → slice_get chain k ≡ Some i → ((w : Way) → HasPage i.spaces (space, page) w → ⊥)
    → j < 1 → IsTraced places serial (space, page + j) (trace_on answer j)
follow_stops places serial chain space page k count answer i j some was got none less =
    let at = was.here i got in
    let exact : IsExact i.spaces (space, page) None = λ w. (λ e. absurd (none-some w e), λ has. absurd (none w has)) in
    let traced : IsTraced places serial (space, page + 0) answer = traced_some places serial (space, page + 0) at.0 answer at.1
    (ends_unlisted places (space, page + 0) at.0 i answer (at.2 0 some) (subst (λ n. IsExact i.spaces (space, n) None) (let e : page ≡ page + 0 = omega arith in e) exact)) in
    let first : 0 ≡ j = omega (arith, less) in
    subst (λ n. IsTraced places serial (space, page + n) (trace_on answer n)) first (none_on answer traced)
  where
    none_on : (answer : Trace) → IsTraced places serial (space, page + 0) answer → IsTraced places serial (space, page + 0) (trace_on answer 0)
    none_on (trace.Found found.Zero) t = t
    none_on (trace.Found (found.Data slot offset)) t = subst (λ n. IsTraced places serial (space, page + 0) (trace.Found (found.Data slot n))) (let e : offset ≡ offset + 4096 * 0 = omega arith in e) t
    none_on (trace.Broken slot) t = t
    none_on trace.Absent t = t

pub follow_finds_zeros : OneKind → OnePlace → (places : Places) (serial : ℕ) (chain : List Opened) (space page k count : ℕ) (answer : Trace) (i : Opened) (alike_count less_count j : ℕ) → 0 < count
    → AreImages places → IsFollowed places serial chain space page k count answer → slice_get chain k ≡ Some i
    → AreAlike i.spaces (space, page) way.Zero alike_count → less_count ≡ min count alike_count → j < less_count
    → IsTraced places serial (space, page + j) (trace_on (trace.Found found.Zero) j)
follow_finds_zeros kinds once places serial chain space page k count answer i alike_count less_count j some good was got alike least less =
    let at = was.here i got in
    let table = table_here places serial chain space page k count answer i some good was got in
    let exact = alike_exact kinds once places i space page way.Zero alike_count j table alike (omega (arith, less, least)) in
    let has : HasPage i.spaces (space, page + j) way.Zero = (exact way.Zero).0 refl in
    traced_some places serial (space, page + j) at.0 (trace.Found found.Zero) at.1
    (ends_found places (space, page + j) at.0 i answer way.Zero found.Zero (at.2 j (omega (arith, less, least))) has
    (λ parent. let e = same_Some way.Zero way.Parent ((exact way.Parent).1 parent) in absurd cc)
    (by_zero i has refl) (λ other lies. zero_lies places (space, page + j) other i exact lies))

pub follow_finds_data : FewPages → OneKind → OnePlace → (places : Places) (serial : ℕ) (chain : List Opened) (space page k count : ℕ) (answer : Trace) (i : Opened) (place offset alike_count less_count j : ℕ) → 0 < count
    → AreImages places → IsFollowed places serial chain space page k count answer → slice_get chain k ≡ Some i
    → AreAlike i.spaces (space, page) (way.Data place) alike_count → less_count ≡ min count alike_count → (4096 + 4096 * place < 2 ^ 64 → offset ≡ 4096 + 4096 * place) → j < less_count
    → IsTraced places serial (space, page + j) (trace_on (trace.Found (found.Data i.slot offset)) j)
follow_finds_data few kinds once places serial chain space page k count answer i place offset alike_count less_count j some good was got alike least sum less =
    let at = was.here i got in
    let table = table_here places serial chain space page k count answer i some good was got in
    let exact = alike_exact kinds once places i space page (way.Data place) alike_count j table alike (omega (arith, less, least)) in
    let has : HasPage i.spaces (space, page + j) (way.Data (place + j)) = (exact (way.Data (place + j))).0 refl in
    let within = slice_get_within (pages_of Data i.spaces) (place + j) (space, page + j) has in
    let room = few i.header i.spaces Data table in
    let plain : offset ≡ 4096 + 4096 * place = sum (omega (arith, within, room)) in
    let there : offset + 4096 * j ≡ 4096 + 4096 * (place + j) = omega (arith, plain) in
    let is : found.Data i.slot (offset + 4096 * j) ≡ found.Data i.slot (4096 + 4096 * (place + j)) = ap (found.Data i.slot) there in
    traced_some places serial (space, page + j) at.0 (trace.Found (found.Data i.slot (offset + 4096 * j))) at.1
    (ends_found places (space, page + j) at.0 i answer (way.Data (place + j)) (found.Data i.slot (offset + 4096 * j)) (at.2 j (omega (arith, less, least))) has
    (λ parent. let e = same_Some (way.Data (place + j)) way.Parent ((exact way.Parent).1 parent) in absurd cc)
    (by_data i (place + j) has is) (λ other lies. data_lies places (space, page + j) other i (place + j) exact lies ∙ sym is))

-- the last of some data pages that a table has alike is one of the few that a table can have
pub data_below : FewPages → (places : Places) (serial : ℕ) (chain : List Opened) (space page k count : ℕ) (answer : Trace) (i : Opened) (place offset alike_count less_count : ℕ) → 0 < count
    → AreImages places → IsFollowed places serial chain space page k count answer → slice_get chain k ≡ Some i
    → AreAlike i.spaces (space, page) (way.Data place) alike_count → less_count ≡ min count alike_count → (4096 + 4096 * place < 2 ^ 64 → offset ≡ 4096 + 4096 * place)
    → offset + 4096 * less_count ≤ 2 ^ 52
data_below few places serial chain space page k count answer i place offset alike_count less_count some good was got alike least sum = grind (arith, table_here, slice_get_within)
