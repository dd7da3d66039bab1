-- The pages of a child, shared one after the other.
use Rattle.std.proofs.Common.{◌≡◌, ℕ, ◌+◌, ◌<◌, ◌≤◌, Bool, true, false, cond, nat_eq, nat_lt, ◌||◌, is_some, IsSome, Option, Some, None, refl, sym, ◌∙◌, ap, subst, arith}
use Rattle.std.specs.Prelude.{IfSome}
use Rattle.std.proofs.lemmas.Bool.Decides.{nat_tests}
use Rattle.std.specs.Option.{option_map, option_map_or}
use Rattle.std.specs.declared.ops.Bound.{Bound}
use Rattle.std.specs.declared.ops.Bound.TheVariants.{Excluded, Unbounded}
use Rattle.std.specs.FinMap as finmap
use Rattle.sd_pagetable.specs.Nested.{Table, map_entries, map_values, inside, value_at, is_alive, total}
use Rattle.sd_pagetable.specs.Page.{PageState, shared_page, inherited_page}
use Rattle.sd_pagetable.specs.Contents.{Contents, page_at, put_page}
use Rattle.sd_tables.specs.Firsts.{is_from, IsFirstFrom}
use Rattle.sd_pagetable.specs.Ranges.{bare_page}
use Rattle.sd_pagetable.specs.Tracking.{with_space}
use Rattle.sd_pagetable.proofs.TableLemmas.{same_table, get_put, get-map_entries, get-map_values}
use Rattle.sd_pagetable.proofs.NestedLemmas.{same_nested, alive-insert, value_at-insert, tests}
use Rattle.sd_pagetable.proofs.TotalLemmas.{total-insert}
use Rattle.sd_pagetable.proofs.RangeLemmas.{inside_with, inside_other, with_itself, put_in}

-- ---- the pages from a bound on
pub no_longer : (page : ℕ) → is_from (Excluded page) page ≡ false
no_longer page = grind (arith, nat_tests)

up_from : (start : Bound ℕ) (page q : ℕ) → is_from start page ≡ true → nat_lt page q ≡ true → is_from start q ≡ true
up_from start page q from less = grind arith

less_of : (page q : ℕ) → page ≤ q → nat_eq q page ≡ false → nat_lt page q ≡ true
less_of page q le differs = grind (arith, nat_tests)

agree : (a b : Bool) → (a ≡ true → b ≡ true) → (b ≡ true → a ≡ true) → a ≡ b
agree a b f g = grind arith

-- after its first page
pub from_next : {X : Type 0} (t : Table X) (start : Bound ℕ) (page q : ℕ) → IsFirstFrom t start (Some page) → IsSome (finmap.get t q) → nat_eq q page ≡ false → is_from start q ≡ is_from (Excluded page) q
from_next t start page q first there differs = agree (is_from start q) (nat_lt page q)
    (λ from. less_of page q (first.2 q there from) differs) (up_from start page q first.1)

-- each page changed as its place asks: one way from the bound on, and another way before it
pub parted : {Y : Type 0} → (PageState → Y) → (PageState → Y) → Bound ℕ → Table PageState → Table Y
parted later done start t = map_entries (λ q x. cond (is_from start q) (later x) (done x)) t

pub get-parted : {Y : Type 0} (later done : PageState → Y) (start : Bound ℕ) (t : Table PageState) (q : ℕ) → finmap.get (parted later done start t) q ≡ option_map (λ x. cond (is_from start q) (later x) (done x)) (finmap.get t q)
unfolding parted
get-parted later done start t q = get-map_entries (λ q x. cond (is_from start q) (later x) (done x)) t q

next_at : {Y : Type 0} (later done : PageState → Y) (start : Bound ℕ) (t : Table PageState) (page : ℕ) (x : PageState) → IsFirstFrom t start (Some page) → finmap.get t page ≡ Some x
    → (q : ℕ) (here : Bool) → nat_eq q page ≡ here → (o : Option PageState) → finmap.get t q ≡ o
    → option_map (λ y. cond (is_from (Excluded page) q) (later y) (done y)) o ≡ cond here (Some (done x)) (option_map (λ y. cond (is_from start q) (later y) (done y)) o)
next_at later done start t page x first is q here e o f = grind arith

-- the first page is done
pub parted_next : {Y : Type 0} (later done : PageState → Y) (start : Bound ℕ) (t : Table PageState) (page : ℕ) (x : PageState) → IsFirstFrom t start (Some page) → finmap.get t page ≡ Some x
    → finmap.insert (parted later done start t) page (done x) ≡ parted later done (Excluded page) t
parted_next later done start t page x first is = grind (arith, same_table, get_put, get-parted, next_at)

-- at first none is done, and at last all are
none_yet : {Y : Type 0} (later done : PageState → Y) (o : Option PageState) → option_map (λ x. cond true (later x) (done x)) o ≡ option_map later o
none_yet later done o = grind arith

pub parted_none : {Y : Type 0} (later done : PageState → Y) (t : Table PageState) → parted later done Unbounded t ≡ map_values later t
parted_none later done t = same_table _ _ (λ q. get-parted later done Unbounded t q ∙ none_yet later done (finmap.get t q) ∙ sym (get-map_values later t q))

all_now : {Y : Type 0} (later done : PageState → Y) (start : Bound ℕ) (q : ℕ) (o : Option PageState) → (IsSome o → is_from start q ≡ false) → option_map (λ x. cond (is_from start q) (later x) (done x)) o ≡ option_map done o
all_now later done start q o none = grind arith

pub parted_all : {Y : Type 0} (later done : PageState → Y) (start : Bound ℕ) (t : Table PageState) → IsFirstFrom t start None → parted later done start t ≡ map_values done t
parted_all later done start t none = same_table _ _ (λ q. get-parted later done start t q ∙ all_now later done start q (finmap.get t q) (none q) ∙ sym (get-map_values done t q))

-- ---- how many are left
one : PageState → ℕ
one x = 1

nought : PageState → ℕ
nought x = 0

pub remaining : Bound ℕ → Table PageState → ℕ
remaining start t = total (λ n. n) (parted one nought start t)

pub remaining_next : (start : Bound ℕ) (t : Table PageState) (page : ℕ) (x : PageState) → IsFirstFrom t start (Some page) → finmap.get t page ≡ Some x → remaining start t ≡ remaining (Excluded page) t + 1
unfolding remaining one nought
remaining_next start t page x first is =
    let was : finmap.get (parted one nought start t) page ≡ Some 1 =
    get-parted one nought start t page ∙ ap (option_map (λ y. cond (is_from start page) (one y) (nought y))) is ∙ ap (λ b. Some (cond b (one x) (nought x))) first.1 in
    let weight : ◌≡◌ {A = ℕ} (option_map_or (λ n. n) (finmap.get (parted one nought start t) page) 0) 1 = ap (λ o. option_map_or (λ n. n) o 0) was in
    let sum = total-insert (λ n. n) (parted one nought start t) page 0 in
    let same : total (λ n. n) (finmap.insert (parted one nought start t) page 0) ≡ total (λ n. n) (parted one nought (Excluded page) t) = ap (total (λ n. n)) (parted_next one nought start t page x first is) in
    omega (arith, weight, sum, same)

some_of : (o : Option PageState) → IsSome o → (x : PageState) × (o ≡ Some x)
some_of o e = grind arith

pub if_there : (P : PageState → Type 0) (o : Option PageState) (x : PageState) → o ≡ Some x → IfSome o P → P x
if_there P o x e given = (let g : IfSome (Some x) P = subst (λ o. IfSome o P) e given in g)

pub less_remains : (t : Table PageState) (start : Bound ℕ) (page : ℕ) → IsFirstFrom t start (Some page) → remaining (Excluded page) t < remaining start t
less_remains t start page first = grind (arith, some_of, remaining_next)

-- ---- one page more that is shared
pub with_swap : (c : Contents) (s u : ℕ) (t v : Table PageState) → (s ≡ u → ⊥) → with_space (with_space c s t) u v ≡ with_space (with_space c u v) s t
with_swap c s u t v apart = ap (λ spaces. record { pool = c.pool; spaces = spaces }) (same_nested _ _
    (λ q. alive-insert (finmap.insert c.spaces s t) u v q ∙ ap (λ b. nat_eq q u || b) (alive-insert c.spaces s t q) ∙ or_swap (nat_eq q u) (nat_eq q s) (is_alive c.spaces q)
    ∙ sym (alive-insert (finmap.insert c.spaces u v) s t q ∙ ap (λ b. nat_eq q s || b) (alive-insert c.spaces u v q)))
    (λ q p. value_at-insert (finmap.insert c.spaces s t) u v q p ∙ ap (cond (nat_eq q u) (finmap.get v p)) (value_at-insert c.spaces s t q p)
    ∙ cond_swap (nat_eq q u) (nat_eq q s) (finmap.get v p) (finmap.get t p) (value_at c.spaces q p) (λ a b. apart (sym (tests q s b) ∙ tests q u a))
    ∙ sym (value_at-insert (finmap.insert c.spaces u v) s t q p ∙ ap (cond (nat_eq q s) (finmap.get t p)) (value_at-insert c.spaces u v q p))))
  where
    or_swap : (a b c : Bool) → (a || (b || c)) ≡ (b || (a || c))
    or_swap true true c = refl
    or_swap true false c = refl
    or_swap false true c = refl
    or_swap false false c = refl

    cond_swap : (a b : Bool) (x y z : Option PageState) → (a ≡ true → b ≡ true → ⊥) → cond a x (cond b y z) ≡ cond b y (cond a x z)
    cond_swap a b x y z never = grind arith

abbrev pub shared_so_far : Contents → ℕ → ℕ → Bound ℕ → Contents
shared_so_far old parent child start = with_space (with_space old parent (parted (λ page. page) shared_page start (inside old.spaces parent))) child (parted bare_page inherited_page start (inside old.spaces parent))

plain_values : (t : Table PageState) → map_values (λ page. page) t ≡ t
plain_values t = same_table _ _ (λ q. get-map_values (λ page. page) t q ∙ itself (finmap.get t q))
  where
    itself : (o : Option PageState) → option_map (λ (x : PageState). x) o ≡ o
    itself None = refl
    itself (Some x) = refl

pub shares_none : (old : Contents) (parent child : ℕ) → (parent ≡ child → ⊥) → is_alive old.spaces parent ≡ true → is_alive old.spaces child ≡ true
    → inside old.spaces child ≡ map_values bare_page (inside old.spaces parent) → old ≡ shared_so_far old parent child Unbounded
shares_none old parent child apart alive_parent alive_child copied = grind (arith, parted_none, plain_values, with_itself)

-- the parent's table so far
pub parent_so_far : (old now : Contents) (parent child : ℕ) (start : Bound ℕ) → (parent ≡ child → ⊥) → now ≡ shared_so_far old parent child start
    → inside now.spaces parent ≡ parted (λ page. page) shared_page start (inside old.spaces parent)
parent_so_far old now parent child start apart done = ap (λ (c : Contents). inside c.spaces parent) done
    ∙ inside_other (with_space old parent (parted (λ page. page) shared_page start (inside old.spaces parent))) child parent _ apart ∙ inside_with old parent _

pub child_so_far : (old now : Contents) (parent child : ℕ) (start : Bound ℕ) → now ≡ shared_so_far old parent child start
    → inside now.spaces child ≡ parted bare_page inherited_page start (inside old.spaces parent)
child_so_far old now parent child start done = ap (λ (c : Contents). inside c.spaces child) done
    ∙ inside_with (with_space old parent (parted (λ page. page) shared_page start (inside old.spaces parent))) child _

-- the same pages are in a table whose pages changed
mapped_some : (o : Option PageState) (f : PageState → PageState) → is_some (option_map f o) ≡ is_some o
mapped_some o f = grind arith

part_there : {Y : Type 0} (later done : PageState → Y) (start : Bound ℕ) (t : Table PageState) (q : ℕ) → is_some (finmap.get (parted later done start t) q) ≡ is_some (finmap.get t q)
part_there later done start t q = ap is_some (get-parted later done start t q) ∙ still (finmap.get t q)
  where
    still : (o : Option PageState) → is_some (option_map (λ x. cond (is_from start q) (later x) (done x)) o) ≡ is_some o
    still None = refl
    still (Some x) = refl

pub first_of_part : (later done : PageState → PageState) (start : Bound ℕ) (t : Table PageState) (page : Option ℕ) → IsFirstFrom (parted later done start t) start page → IsFirstFrom t start page
first_of_part later done start t page none = grind (arith, part_there)

pub first_shared : (old now : Contents) (parent child : ℕ) (start : Bound ℕ) (page : Option ℕ) → (parent ≡ child → ⊥) → now ≡ shared_so_far old parent child start
    → IsFirstFrom (inside now.spaces parent) start page → IsFirstFrom (inside old.spaces parent) start page
first_shared old now parent child start page apart done first =
    first_of_part (λ page. page) shared_page start (inside old.spaces parent) page (subst (λ t. IsFirstFrom t start page) (parent_so_far old now parent child start apart done) first)

-- what the first page is in both tables
pub parent_page : (old now : Contents) (parent child page : ℕ) (start : Bound ℕ) (x : PageState) → (parent ≡ child → ⊥) → now ≡ shared_so_far old parent child start → is_from start page ≡ true
    → finmap.get (inside old.spaces parent) page ≡ Some x → page_at now parent page ≡ Some x
parent_page old now parent child page start x apart done from is = ap (λ t. finmap.get t page) (parent_so_far old now parent child start apart done)
    ∙ get-parted (λ page. page) shared_page start (inside old.spaces parent) page ∙ ap (option_map (λ x. cond (is_from start page) x (shared_page x))) is ∙ ap (λ b. Some (cond b x (shared_page x))) from

pub child_page : (old now : Contents) (parent child page : ℕ) (start : Bound ℕ) (x : PageState) → now ≡ shared_so_far old parent child start → is_from start page ≡ true
    → finmap.get (inside old.spaces parent) page ≡ Some x → page_at now child page ≡ Some (bare_page x)
child_page old now parent child page start x done from is = ap (λ t. finmap.get t page) (child_so_far old now parent child start done)
    ∙ get-parted bare_page inherited_page start (inside old.spaces parent) page ∙ ap (option_map (λ x. cond (is_from start page) (bare_page x) (inherited_page x))) is ∙ ap (λ b. Some (cond b (bare_page x) (inherited_page x))) from

pub page_of_first : (t : Table PageState) (start : Bound ℕ) (page : ℕ) → IsFirstFrom t start (Some page) → (x : PageState) × (finmap.get t page ≡ Some x)
page_of_first t start page first = some_of (finmap.get t page) first.0

pub shares_next : (old now new : Contents) (parent child page : ℕ) (start : Bound ℕ) → (parent ≡ child → ⊥) → now ≡ shared_so_far old parent child start → IsFirstFrom (inside old.spaces parent) start (Some page)
    → IfSome (page_at now parent page) (λ before. new ≡ put_page (put_page now parent page (shared_page before)) child page (inherited_page before)) → new ≡ shared_so_far old parent child (Excluded page)
shares_next old now new parent child page start apart done first put =
    let t = inside old.spaces parent in
    let x = page_of_first t start page first in
    let step : new ≡ put_page (put_page now parent page (shared_page x.0)) child page (inherited_page x.0) =
    if_there (λ before. new ≡ put_page (put_page now parent page (shared_page before)) child page (inherited_page before)) _ x.0 (parent_page old now parent child page start x.0 apart done first.1 x.1) put in
    let own = parted bare_page inherited_page start t in
    let theirs = parted (λ page. page) shared_page start t in
    let one : put_page now parent page (shared_page x.0) ≡ with_space (with_space old parent (parted (λ page. page) shared_page (Excluded page) t)) child own =
    ap (λ c. put_page c parent page (shared_page x.0)) (done ∙ with_swap old parent child theirs own apart) ∙ put_in (with_space old child own) parent page theirs (shared_page x.0)
    ∙ ap (with_space (with_space old child own) parent) (parted_next (λ page. page) shared_page start t page x.0 first x.1) ∙ with_swap old child parent own _ (λ e. apart (sym e)) in
    step ∙ ap (λ c. put_page c child page (inherited_page x.0)) one ∙ put_in (with_space old parent (parted (λ page. page) shared_page (Excluded page) t)) child page own (inherited_page x.0)
    ∙ ap (with_space (with_space old parent (parted (λ page. page) shared_page (Excluded page) t)) child) (parted_next bare_page inherited_page start t page x.0 first x.1)

pub shares_all : (old now : Contents) (parent child : ℕ) (start : Bound ℕ) → now ≡ shared_so_far old parent child start → IsFirstFrom (inside old.spaces parent) start None
    → now ≡ with_space (with_space old parent (map_values shared_page (inside old.spaces parent))) child (map_values inherited_page (inside old.spaces parent))
shares_all old now parent child start done none = grind (arith, parted_all)
