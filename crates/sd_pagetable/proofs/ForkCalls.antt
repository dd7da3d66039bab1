-- What `fork` and `exit` make of the spaces.
use Rattle.std.proofs.Common.{◌≡◌, ℕ, ◌+◌, ◌<◌, ◌≤◌, zero, suc, Bool, true, false, cond, nat_eq, nat_lt, nat_le, ◌||◌, is_some, IsSome, List, [], ◌∷◌, map, length, Option, Some, None, unwrap_or, refl, sym, ◌∙◌, ap, subst, inl, inr, arith}
use Rattle.std.specs.Prelude.{sum_by}
use Rattle.std.proofs.lemmas.Bool.Decides.{nat_tests}
use Rattle.std.proofs.lemmas.List.Sums.{sum_by-cons}
use Rattle.std.specs.Option.{option_map, option_map_or}
use Rattle.std.specs.Ordering.{nat_cmp}
use Rattle.std.specs.BTreeMap.{BTreeMap, get}
use Rattle.std.specs.FinMap as finmap
use Rattle.std.specs.FinMap.{get-empty, len-entries}
use Rattle.std.proofs.Math.Bool.{or-true}
use Rattle.std.proofs.lemmas.Bool.{cases_Bool}
use Rattle.sd_areas.specs.Areas.{PageMap}
use Rattle.sd_areas.specs.PlainMemory as plain
use Rattle.sd_areas.specs.Pages.{is_within}
use Rattle.sd_pagetable.specs.Nested.{Table, map_values, inside, is_alive, total}
use Rattle.sd_pagetable.specs.Page.{PageState, plain_page, shared_page, inherited_page}
use Rattle.sd_pagetable.specs.Contents.{Contents, plain_of, page_count, IsSound}
use Rattle.sd_pagetable.specs.Effects.{after_exit, after_fork, IsLeastFree}
use Rattle.sd_pagetable.specs.declared.access_error.AccessError.TheVariants.{Refused}
use Rattle.sd_pagetable.specs.declared.memory_refusal.MemoryRefusal.TheVariants.{NoSuchSpace, LastSpace, TooManySpaces, Enomem}
use Rattle.sd_pagetable.specs.RefusalOrder.{exit_refusal, fork_refusal}
use Rattle.sd_pagetable.specs.Kept.{HasAreas, prots_of}
use Rattle.sd_pagetable.proofs.MemoryLemmas.{plain_alive}
use Rattle.sd_pagetable.specs.Ranges.{bare_page}
use Rattle.sd_pagetable.specs.Tracking.{with_space, contents_after_fork}
use Rattle.sd_pagetable.proofs.TableLemmas.{same_table, get_put, get_removed, get-map_values, entries-map_values}
use Rattle.sd_pagetable.proofs.NestedLemmas.{alive-insert, tests}
use Rattle.sd_pagetable.proofs.TotalLemmas.{total-empty, total-insert, total-remove, total_within-remove_space}
use Rattle.sd_pagetable.proofs.RangeLemmas.{inside_with, inside_other, with_twice}
use Rattle.sd_pagetable.proofs.PlainRanges.{composed, map_removed, same_many, plain_many, plain_inside, plain_with, areas_with}
use Rattle.sd_pagetable.proofs.ForkLemmas.{with_swap}

-- ---- how many keys
module _ {X : Type 0} where
  ones : (es : List (ℕ × X)) → sum_by (λ (e : ℕ × X). 1) es ≡ length es
  ones [] = refl
  ones (e ∷ es) = (let a = sum_by-cons (λ (e : ℕ × X). 1) e es in omega (arith, a, ones es))

  pub len_total : (t : Table X) → finmap.len t ≡ total (λ _. 1) t
  unfolding total
  len_total t = len-entries t ∙ sym (ones (finmap.entries t))

  counted : (o : Option X) → IsSome o → ◌≡◌ {A = ℕ} (option_map_or (λ (_ : X). 1) o 0) 1
  counted o e = grind arith

  at_most_one : (o : Option X) → option_map_or (λ (_ : X). 1) o 0 ≤ 1
  at_most_one o = grind arith

  pub has_all : (count : ℕ) (t : Table X) (first : ℕ) → ((q : ℕ) → is_within first count q ≡ true → IsSome (finmap.get t q)) → count ≤ total (λ (_ : X). 1) t
  has_all zero t first all = omega arith
  has_all (suc count) t first all =
      let last = first + count in
      let less = total-remove (λ (_ : X). 1) t last in
      let one = counted (finmap.get t last) (all last (at_end first count)) in
      let rest = has_all count (finmap.remove t last) first (λ q within. subst IsSome (sym (get_removed t last q ∙ ap (λ b. cond b None (finmap.get t q)) (before first count q within))) (all q (longer first count q within))) in
      omega (arith, less, one, rest)
    where
      at_end : (first count : ℕ) → is_within first (suc count) (first + count) ≡ true
      at_end first count = grind (arith, nat_tests)

      before : (first count q : ℕ) → is_within first count q ≡ true → nat_eq q (first + count) ≡ false
      before first count q within = grind (arith, nat_tests)

      longer : (first count q : ℕ) → is_within first count q ≡ true → is_within first (suc count) q ≡ true
      longer first count q within = grind (arith, nat_tests)

  none_of : (o : Option X) → (IsSome o → ⊥) → o ≡ None
  none_of o never = grind arith

  pub has_only : (count : ℕ) (t : Table X) (first : ℕ) → ((q : ℕ) → IsSome (finmap.get t q) → is_within first count q ≡ true) → total (λ (_ : X). 1) t ≤ count
  has_only zero t first only =
      let empty : t ≡ finmap.empty = same_table _ _ (λ q. none_of (finmap.get t q) (λ there. absurd (let e : false ≡ true = sym (nothing first q) ∙ only q there in cc)) ∙ sym (get-empty nat_cmp q)) in
      let none : total (λ (_ : X). 1) t ≡ 0 = ap (total (λ (_ : X). 1)) empty ∙ total-empty (λ (_ : X). 1) in
      omega (arith, none)
    where
      nothing : (first q : ℕ) → is_within first 0 q ≡ false
      nothing first q = grind (arith, nat_tests)
  has_only (suc count) t first only =
      let last = first + count in
      let less = total-remove (λ (_ : X). 1) t last in
      let rest = has_only count (finmap.remove t last) first (λ q there. inner q (subst IsSome (get_removed t last q) there)) in
      omega (arith, less, at_most_one (finmap.get t last), rest)
    where
      shorter : (first count q : ℕ) → is_within first (suc count) q ≡ true → nat_eq q (first + count) ≡ false → is_within first count q ≡ true
      shorter first count q within differs = grind (arith, nat_tests)

      kept : (b : Bool) (o : Option X) → IsSome (cond b None o) → (b ≡ false) × IsSome o
      kept b o e = grind arith

      inner : (q : ℕ) → IsSome (cond (nat_eq q (first + count)) None (finmap.get t q)) → is_within first count q ≡ true
      inner q there = (let k = kept (nat_eq q (first + count)) (finmap.get t q) there in shorter first count q (only q k.1) k.0)

pub plain_len : (c : Contents) → finmap.len (plain_of c) ≡ finmap.len c.spaces
unfolding plain_of
plain_len c = len-entries (map_values (map_values plain_page) c.spaces) ∙ ap (λ (es : List (ℕ × Table plain.Page)). length es) (entries-map_values (map_values plain_page) c.spaces) ∙ mapped (finmap.entries c.spaces) ∙ sym (len-entries c.spaces)
  where
    seen : ℕ × Table PageState → ℕ × Table plain.Page
    seen e = (e.0, map_values plain_page e.1)

    mapped : (es : List (ℕ × Table PageState)) → length (map seen es) ≡ length es
    mapped [] = refl
    mapped (e ∷ es) = ap suc (mapped es)

-- ---- `exit`
removed_again : (b : Bool) (o : Option (Table PageState)) (t : Table PageState) → cond b None (cond b (Some t) o) ≡ cond b None o
removed_again b o t = grind arith

pub ended : (c mid new : Contents) (s : ℕ) → mid ≡ with_space c s finmap.empty → new ≡ record { pool = mid.pool; spaces = finmap.remove mid.spaces s } → new ≡ record { pool = c.pool; spaces = finmap.remove c.spaces s }
ended c mid new s empty removed = removed ∙ ap (λ (m : Contents). record { pool = m.pool; spaces = finmap.remove m.spaces s }) empty
    ∙ ap (λ spaces. record { pool = c.pool; spaces = spaces }) (same_table _ _ (λ q. get_removed (finmap.insert c.spaces s finmap.empty) s q ∙ ap (cond (nat_eq q s) None) (get_put c.spaces s finmap.empty q)
    ∙ removed_again (nat_eq q s) (finmap.get c.spaces q) finmap.empty ∙ sym (get_removed c.spaces s q)))

pub plain_ended : (c : Contents) (s : ℕ) → plain_of (record { pool = c.pool; spaces = finmap.remove c.spaces s }) ≡ after_exit (plain_of c) s
unfolding plain_of
plain_ended c s = map_removed (map_values plain_page) c.spaces s

gone : {Y : Type 0} (b : Bool) (f : Table PageState → Y) (o : Option (Table PageState)) → cond b None (option_map f o) ≡ option_map f (cond b None o)
gone b f o = grind arith

pub areas_ended : (areas new : BTreeMap ℕ PageMap) (c : Contents) (s : ℕ) → HasAreas areas c → ((q : ℕ) → get nat_cmp new q ≡ cond (nat_eq q s) None (get nat_cmp areas q))
    → HasAreas new (record { pool = c.pool; spaces = finmap.remove c.spaces s })
areas_ended areas new c s has removed = λ q. removed q ∙ ap (cond (nat_eq q s) None) (has q) ∙ gone (nat_eq q s) prots_of (finmap.get c.spaces q) ∙ ap (option_map prots_of) (sym (get_removed c.spaces s q))

-- ---- `fork`
pub dead_inside : (c : Contents) (s : ℕ) → is_alive c.spaces s ≡ false → inside c.spaces s ≡ finmap.empty
dead_inside c s dead = none (finmap.get c.spaces s) dead
  where
    none : (o : Option (Table PageState)) → is_some o ≡ false → unwrap_or o finmap.empty ≡ finmap.empty
    none None e = refl
    none (Some t) e = absurd (let f : true ≡ false = e in cc)

pub apart_from : (c : Contents) (s child : ℕ) → is_alive c.spaces s ≡ true → is_alive c.spaces child ≡ false → s ≡ child → ⊥
apart_from c s child alive dead same = absurd (let e : true ≡ false = sym alive ∙ ap (is_alive c.spaces) same ∙ dead in cc)

-- a space more, with copies of another's pages
pub copied_parent : (c copied : Contents) (s child : ℕ) (t : Table PageState) → (s ≡ child → ⊥) → copied ≡ with_space c child t → inside copied.spaces s ≡ inside c.spaces s
copied_parent c copied s child t apart is = ap (λ (m : Contents). inside m.spaces s) is ∙ inside_other c child s t apart

pub copied_child : (c copied : Contents) (s child : ℕ) → (s ≡ child → ⊥) → copied ≡ with_space c child (map_values bare_page (inside c.spaces s)) → inside copied.spaces child ≡ map_values bare_page (inside copied.spaces s)
copied_child c copied s child apart is = ap (λ (m : Contents). inside m.spaces child) is ∙ inside_with c child _ ∙ ap (map_values bare_page) (sym (copied_parent c copied s child _ apart is))

pub still_alive : (c : Contents) (s u : ℕ) (t : Table PageState) → is_alive c.spaces u ≡ true → is_alive (with_space c s t).spaces u ≡ true
still_alive c s u t alive = alive-insert c.spaces s t u ∙ ap (λ b. nat_eq u s || b) alive ∙ or-true (nat_eq u s)

pub shared : (c copied new : Contents) (s child : ℕ) (t : Table PageState) → (s ≡ child → ⊥) → copied ≡ with_space c child t
    → new ≡ with_space (with_space copied s (map_values shared_page (inside copied.spaces s))) child (map_values inherited_page (inside copied.spaces s)) → new ≡ contents_after_fork c s child
shared c copied new s child t apart is done = grind (arith, copied_parent, with_swap, with_twice)

dead_none : (o : Option (Table PageState)) → is_some o ≡ false → o ≡ None
dead_none o e = grind arith

plain_space : (c : Contents) (s : ℕ) → finmap.get (plain_of c) s ≡ option_map (map_values plain_page) (finmap.get c.spaces s)
unfolding plain_of
plain_space c s = get-map_values (map_values plain_page) c.spaces s

-- the plain memory after `fork`
pub plain_forked : (c : Contents) (s child : ℕ) → (s ≡ child → ⊥) → is_alive c.spaces s ≡ true → plain_of (contents_after_fork c s child) ≡ after_fork (plain_of c) s child
plain_forked c s child apart alive =
    let own = inside c.spaces s in
    plain_with (with_space c s (map_values shared_page own)) child (map_values inherited_page own)
    ∙ ap (λ m. finmap.insert m child (map_values plain_page (map_values inherited_page own))) (plain_with c s (map_values shared_page own)
    ∙ ap (finmap.insert (plain_of c) s) (composed shared_page plain_page plain_page (λ _. refl) own) ∙ itself)
    ∙ ap (finmap.insert (plain_of c) child) (composed inherited_page plain_page plain_page (λ _. refl) own ∙ sym (plain_inside c s))
  where
    put_back : (b : Bool) (o : Option (Table plain.Page)) (t : Table plain.Page) → (b ≡ true → o ≡ Some t) → cond b (Some t) o ≡ o
    put_back true o t is = sym (is refl)
    put_back false o t is = refl

    there : (o : Option (Table PageState)) → is_some o ≡ true → option_map (map_values plain_page) o ≡ Some (map_values plain_page (unwrap_or o finmap.empty))
    there o e = grind arith

    itself : finmap.insert (plain_of c) s (map_values plain_page (inside c.spaces s)) ≡ plain_of c
    itself = same_table _ _ (λ q. get_put (plain_of c) s (map_values plain_page (inside c.spaces s)) q
        ∙ put_back (nat_eq q s) (finmap.get (plain_of c) q) (map_values plain_page (inside c.spaces s)) (λ here. ap (finmap.get (plain_of c)) (tests q s here) ∙ plain_space c s ∙ there (finmap.get c.spaces s) alive))

-- the areas after `fork`
own_areas : (o : Option PageMap) (t : Option (Table PageState)) (own : PageMap) → o ≡ option_map prots_of t → o ≡ Some own → own ≡ prots_of (unwrap_or t finmap.empty)
own_areas o t own has is = grind arith

pub areas_forked : (areas new : BTreeMap ℕ PageMap) (c : Contents) (s child : ℕ) (own : PageMap) → HasAreas areas c → get nat_cmp areas s ≡ Some own
    → ((q : ℕ) → get nat_cmp new q ≡ cond (nat_eq q child) (Some own) (get nat_cmp areas q)) → HasAreas new (contents_after_fork c s child)
areas_forked areas new c s child own has is put =
    let are = own_areas (get nat_cmp areas s) (finmap.get c.spaces s) own (has s) is in
    areas_with areas new (with_space c s (map_values shared_page (inside c.spaces s))) child (map_values inherited_page (inside c.spaces s)) own
    (areas_with areas areas c s (map_values shared_page (inside c.spaces s)) own has (are ∙ sym (composed shared_page (λ (page : PageState). page.prot) (λ (page : PageState). page.prot) (λ _. refl) (inside c.spaces s)))
    (λ q. sym (put_back (nat_eq q s) (get nat_cmp areas q) own (λ here. ap (get nat_cmp areas) (tests q s here) ∙ is))))
    (are ∙ sym (composed inherited_page (λ (page : PageState). page.prot) (λ (page : PageState). page.prot) (λ _. refl) (inside c.spaces s))) put
  where
    put_back : (b : Bool) (o : Option PageMap) (t : PageMap) → (b ≡ true → o ≡ Some t) → cond b (Some t) o ≡ o
    put_back true o t e = sym (e refl)
    put_back false o t e = refl

-- ---- which numbers are alive
pub has_sixteen : (c : Contents) (number : ℕ) → 16 < number → ((q : ℕ) → 1 ≤ q → q < number → is_alive c.spaces q ≡ true) → 16 ≤ finmap.len c.spaces
has_sixteen c number past alive =
    let all = has_all 16 c.spaces 1 (λ q within. alive q (from q within) (let b = below q within in omega (arith, b, past))) in
    let len = len_total c.spaces in
    omega (arith, all, len)
  where
    from : (q : ℕ) → is_within 1 16 q ≡ true → 1 ≤ q
    from q within = grind (arith, nat_tests)

    below : (q : ℕ) → is_within 1 16 q ≡ true → q < 17
    below q within = grind (arith, nat_tests)

pub one_alive_more : (c : Contents) (number : ℕ) → is_alive c.spaces number ≡ true → ((q : ℕ) → 1 ≤ q → q < number → is_alive c.spaces q ≡ true) → (q : ℕ) → 1 ≤ q → q < number + 1 → is_alive c.spaces q ≡ true
one_alive_more c number alive before q from below = elim (cases_Bool (nat_eq q number)) [
  | inl here ↦ ap (is_alive c.spaces) (tests q number here) ∙ alive
  | inr there ↦ before q from (differs q number there below)
]
  where
    differs : (q number : ℕ) → nat_eq q number ≡ false → q < number + 1 → q < number
    differs q number e below = grind (arith, nat_tests)

pub is_free : (c : Contents) (number child : ℕ) → child ≡ number → IsSound c → 1 ≤ number → number ≤ 16 → is_alive c.spaces number ≡ false → ((q : ℕ) → 1 ≤ q → q < number → is_alive c.spaces q ≡ true)
    → IsLeastFree (plain_of c) child × (finmap.len c.spaces < 16) × (child ≤ 16)
is_free c number child is sound from upto free before =
    let more = total-insert (λ (_ : Table PageState). 1) c.spaces number finmap.empty in
    let none : ◌≡◌ {A = ℕ} (option_map_or (λ (_ : Table PageState). 1) (finmap.get c.spaces number) 0) 0 = ap (λ o. option_map_or (λ (_ : Table PageState). 1) o 0) (dead_none (finmap.get c.spaces number) free) in
    let few = has_only 16 (finmap.insert c.spaces number finmap.empty) 1 (λ q there. inner q (subst IsSome (get_put c.spaces number finmap.empty q) there)) in
    let len = len_total c.spaces in (
      record {
        first = subst (λ n. 1 ≤ n) (sym is) from;
        free = plain_alive c child ∙ ap (is_alive c.spaces) is ∙ free;
        least = λ other above below. plain_alive c other ∙ before other above (subst (λ n. other < n) is below);
      },
      omega (arith, more, none, few, len),
      subst (λ n. n ≤ 16) (sym is) upto,
    )
  where
    within : (q : ℕ) → 1 ≤ q → q ≤ 16 → is_within 1 16 q ≡ true
    within q a b = grind (arith, nat_tests)

    inner : (q : ℕ) → IsSome (cond (nat_eq q number) (Some finmap.empty) (finmap.get c.spaces q)) → is_within 1 16 q ≡ true
    inner q there = grind arith

-- ---- which refusal applies
pub exit_dead : (c : Contents) (s : ℕ) → is_alive c.spaces s ≡ false → exit_refusal (plain_of c) s ≡ Some (Refused NoSuchSpace)
exit_dead c s dead = ap (λ b. cond b (cond (nat_eq (finmap.len (plain_of c)) 1) (Some (Refused LastSpace)) None) (Some (Refused NoSuchSpace))) (plain_alive c s ∙ dead)

pub exit_alive : (c : Contents) (s : ℕ) (last : Bool) → is_alive c.spaces s ≡ true → nat_eq (finmap.len c.spaces) 1 ≡ last → exit_refusal (plain_of c) s ≡ cond last (Some (Refused LastSpace)) None
exit_alive c s last alive is = ap (λ b. cond b (cond (nat_eq (finmap.len (plain_of c)) 1) (Some (Refused LastSpace)) None) (Some (Refused NoSuchSpace))) (plain_alive c s ∙ alive)
    ∙ ap (λ b. cond b (Some (Refused LastSpace)) None) (ap (λ n. nat_eq n 1) (plain_len c) ∙ is)

pub is_one : (n : ℕ) → n ≡ 1 → nat_eq n 1 ≡ true
is_one n e = grind (arith, nat_tests)

pub is_not_one : (n : ℕ) → (n ≡ 1 → ⊥) → nat_eq n 1 ≡ false
is_not_one n differs = grind (arith, nat_tests)

pub fork_dead : (c : Contents) (s : ℕ) → is_alive c.spaces s ≡ false → fork_refusal (plain_of c) s ≡ Some (Refused NoSuchSpace)
fork_dead c s dead = ap (λ b. cond b (cond (nat_le 16 (finmap.len (plain_of c))) (Some (Refused TooManySpaces)) (cond (nat_lt 65536 (page_count (plain_of c) + finmap.len (inside (plain_of c) s))) (Some (Refused Enomem)) None)) (Some (Refused NoSuchSpace))) (plain_alive c s ∙ dead)

inside_len : (c : Contents) (s : ℕ) → finmap.len (inside (plain_of c) s) ≡ finmap.len (inside c.spaces s)
inside_len c s = len_total (inside (plain_of c) s) ∙ ap (total (λ _. 1)) (plain_inside c s) ∙ same_many plain_page (inside c.spaces s) ∙ sym (len_total (inside c.spaces s))

pub fork_alive : (c : Contents) (s : ℕ) (full many : Bool) → is_alive c.spaces s ≡ true → nat_le 16 (finmap.len c.spaces) ≡ full → nat_lt 65536 (page_count c.spaces + finmap.len (inside c.spaces s)) ≡ many
    → fork_refusal (plain_of c) s ≡ cond full (Some (Refused TooManySpaces)) (cond many (Some (Refused Enomem)) None)
fork_alive c s full many alive is_full is_many = grind (arith, plain_alive, plain_len, plain_many, inside_len)

pub is_sixteen : (n : ℕ) → 16 ≤ n → nat_le 16 n ≡ true
is_sixteen n le = grind (arith, nat_tests)

pub is_fewer : (n : ℕ) → n < 16 → nat_le 16 n ≡ false
is_fewer n less = grind (arith, nat_tests)

pub space_pages : (c : Contents) (s : ℕ) → finmap.len (inside c.spaces s) ≤ page_count c.spaces
space_pages c s =
    let inner = total_within-remove_space (λ (_ : PageState). 1) c.spaces s in
    let len = len_total (inside c.spaces s) in
    omega (arith, inner, len)

-- the areas of a child that was given up
pub areas_back : (areas added new : BTreeMap ℕ PageMap) (c : Contents) (child : ℕ) (own : PageMap) → HasAreas areas c → is_alive c.spaces child ≡ false
    → ((q : ℕ) → get nat_cmp added q ≡ cond (nat_eq q child) (Some own) (get nat_cmp areas q)) → ((q : ℕ) → get nat_cmp new q ≡ cond (nat_eq q child) None (get nat_cmp added q)) → HasAreas new c
areas_back areas added new c child own has dead add drop = λ q. drop q ∙ ap (cond (nat_eq q child) None) (add q) ∙ back (nat_eq q child) (get nat_cmp areas q) own (λ here. has q ∙ ap (λ k. option_map prots_of (finmap.get c.spaces k)) (tests q child here) ∙ ap (option_map prots_of) (dead_none (finmap.get c.spaces child) dead)) ∙ has q
  where
    back : (b : Bool) (o : Option PageMap) (t : PageMap) → (b ≡ true → o ≡ None) → cond b None (cond b (Some t) o) ≡ o
    back true o t none = sym (none refl)
    back false o t none = refl
