-- A memory as plain memory, with its areas.
use Rattle.std.proofs.Common.{◌≡◌, ℕ, ◌+◌, ◌≤◌, ◌%◌, Bool, true, false, cond, nat_eq, ◌&&◌, ◌||◌, is_some, List, [], Option, Some, None, IsSome, unwrap_or, refl, sym, ◌∙◌, ap, subst, inl, inr, arith}
use Rattle.std.proofs.lemmas.Bool.{cases_Bool, cond-true, cond-false, or_parts, ltb-false, and_from}
use Rattle.std.proofs.lemmas.Bool.Decides.{nat_tests}
use Rattle.std.specs.Option.{option_map}
use Rattle.std.specs.Ordering.{nat_cmp, is_eq}
use Rattle.std.specs.FinMap.{get-empty}
use Rattle.std.specs.Map.{lookup}
use Rattle.std.specs.BTreeMap.{is_at, BTreeMap, get}
use Rattle.std.specs.FinMap as finmap
use Rattle.sd_areas.specs.Areas.{PageMap}
use Rattle.sd_areas.specs.Pages.{page_of}
use Rattle.sd_areas.specs.declared.prot.Prot.{Prot}
use Rattle.sd_pagetable.specs.declared.access.Access.{Access}
use Rattle.sd_pagetable.specs.declared.access.Access.TheVariants.{Write}
use Rattle.sd_pagetable.specs.declared.access_error.AccessError.{AccessError}
use Rattle.sd_pagetable.specs.declared.access_error.AccessError.TheVariants.{Segv as Stopped, Refused}
use Rattle.sd_pagetable.specs.declared.segv.Segv.TheVariants.{Maperr, Accerr}
use Rattle.sd_tables.specs.declared.entry.Entry.{Entry}
use Rattle.sd_pagetable.specs.Nested.{Table, Nested, map_values, value_at, is_alive, put_at}
use Rattle.sd_pagetable.specs.Page.{PageState, plain_page, writable_page, stored_page}
use Rattle.sd_pagetable.specs.Contents.{Contents, page_at, put_page, plain_of, IsSound}
use Rattle.sd_pagetable.specs.View.{entry_of, HasEntry}
use Rattle.sd_pagetable.specs.Access.{allows, stored_at, is_bad_access}
use Rattle.sd_pagetable.specs.declared.memory_refusal.MemoryRefusal.TheVariants.{NoSuchSpace, Einval}
use Rattle.sd_pagetable.specs.Effects.{after_store}
use Rattle.sd_pagetable.specs.RefusalOrder.{page_refusal, access_refusal, fault_refusal, frame_refusal, in_space, or_else, Answers}
use Rattle.sd_pagetable.specs.Tracking.{MakesWritable, IsBeginning}
use Rattle.std.specs.Prelude.{Result, Ok, Err, OnOk, OnErr, IfSome}
use Rattle.std.proofs.Math.Bool.{or_self_left}
use Rattle.sd_tables.proofs.TableLemmas.{same_again}
use Rattle.sd_pagetable.specs.declared.memory_error.MemoryError.{MemoryError}
use Rattle.sd_pagetable.specs.declared.memory_error.MemoryError.TheVariants.{Denied as DeniedError}
use Rattle.sd_pagetable.specs.Kept.{prots_of, HasAreas}
use Rattle.sd_pagetable.proofs.TableLemmas.{turned_test, map_values-empty, get_put, map_values-insert, turned_in, some_of, get-map_values}
use Rattle.sd_pagetable.proofs.ViewLemmas.{alone_in}
use Rattle.sd_pagetable.proofs.NestedLemmas.{same_nested, value_at-insert, value_at-put, alive-put, alive-put_same, value_at-map, alive-map, alive_at}

pub plain_alive : (m : Contents) (s : ℕ) → is_alive (plain_of m) s ≡ is_alive m.spaces s
unfolding plain_of
plain_alive m s = alive-map plain_page m.spaces s

pub plain_at : (m : Contents) (s p : ℕ) → value_at (plain_of m) s p ≡ option_map plain_page (page_at m s p)
unfolding plain_of
plain_at m s p = value_at-map plain_page m.spaces s p

-- ---- what is put
pub map_put : {X Y : Type 0} (f : X → Y) (m : Nested X) (s p : ℕ) (x : X) → map_values (map_values f) (put_at m s p x) ≡ put_at (map_values (map_values f) m) s p (f x)
map_put f m s p x = grind (arith, same_nested, alive-map, alive-put, value_at-map, value_at-put, turned_in)

pub put_again : {X : Type 0} (m : Nested X) (s p : ℕ) (x : X) → value_at m s p ≡ Some x → put_at m s p x ≡ m
put_again m s p x h = same_nested _ _ (λ q. alive-put_same m s p x q (alive_at m s p x h)) (λ q r. value_at-put m s p x q r ∙ here q r)
  where
    here : (q r : ℕ) → cond (nat_eq q s && nat_eq r p) (Some x) (value_at m q r) ≡ value_at m q r
    here q r = elim (cases_Bool (nat_eq q s && nat_eq r p)) [
      | inl b ↦ ap (λ b. cond b (Some x) (value_at m q r)) b ∙ sym (ap (λ a. value_at m a r) (let g : q ≡ s = grind (arith, nat_tests) in g) ∙ ap (value_at m s) (let g : r ≡ p = grind (arith, nat_tests) in g) ∙ h)
      | inr o ↦ ap (λ b. cond b (Some x) (value_at m q r)) o
    ]

pub plain_put : (m : Contents) (s p : ℕ) (x : PageState) → plain_of (put_page m s p x) ≡ put_at (plain_of m) s p (plain_page x)
unfolding plain_of
plain_put m s p x = map_put plain_page m.spaces s p x

-- the same permissions and bytes
pub plain_same : (m : Contents) (s p : ℕ) (x y : PageState) → page_at m s p ≡ Some x → plain_page y ≡ plain_page x → plain_of (put_page m s p y) ≡ plain_of m
plain_same m s p x y h e = plain_put m s p y ∙ ap (put_at (plain_of m) s p) e ∙ put_again (plain_of m) s p (plain_page x) (plain_at m s p ∙ ap (option_map plain_page) h)

-- a page with other bytes
pub plain_stored : (m : Contents) (s address : ℕ) (bytes : List ℕ) (x y : PageState) → page_at m s (page_of address) ≡ Some x → plain_page y ≡ record { prot = x.prot; bytes = stored_at x.bytes (address % 4096) bytes }
    → plain_of (put_page m s (page_of address) y) ≡ after_store (plain_of m) s address bytes
plain_stored m s address bytes x y h e = grind (arith, plain_at, plain_put)

-- ---- areas
inside_alive : (o : Option (Table PageState)) → is_some o ≡ true → o ≡ Some (unwrap_or o finmap.empty)
inside_alive o e = grind arith

pub areas_put : (areas : BTreeMap ℕ PageMap) (m : Contents) (s p : ℕ) (x y : PageState) → HasAreas areas m → page_at m s p ≡ Some x → y.prot ≡ x.prot → HasAreas areas (put_page m s p y)
unfolding put_at
areas_put areas m s p x y h there same q = grind (arith, inside_alive, alive_at, map_values-insert, same_again, get-map_values, get_put, cases_Bool)

-- ---- pages
seen_page : (o : Option PageState) (e : Entry) → option_map entry_of o ≡ Some e → (x : PageState) × (o ≡ Some x) × (entry_of x ≡ e)
seen_page o e h = grind arith

pub page_of_seen : (m : Contents) (s p : ℕ) (e : Entry) → option_map entry_of (page_at m s p) ≡ Some e → (x : PageState) × (page_at m s p ≡ Some x) × (entry_of x ≡ e)
page_of_seen m s p e h = seen_page (page_at m s p) e h

-- a writable page is as a fault makes it, and needs no frame
same_page : (x : PageState) (k : ℕ) → x.class ≡ Some k → x.writable ≡ true → x.soft_dirty ≡ true → writable_page x k x.bytes ≡ x
same_page x k class writable dirty = grind arith

pub writable_already : (m : Contents) (s p : ℕ) (e : Entry) → IsSound m → HasEntry m s p e → e.writable ≡ true → MakesWritable m s p (λ bytes. bytes) m
writable_already m s p e sound h w =
    let x = page_of_seen m s p e h in
    let writable : x.0.writable ≡ true = ap (λ (y : Entry). y.writable) x.2 ∙ w in
    let is = sound.writable s p x.0 x.1 writable in
    let alone = alone_in m x.0 is.alone in
    let same = same_page x.0 alone.0 alone.1 writable is.soft_dirty in (
      x.0,
      alone.0,
      x.1,
      inl (is.alone, alone.1),
      sym (ap (λ (y : PageState). put_page m s p y) same ∙ ap (λ (spaces : Nested PageState). record { pool = m.pool; spaces = spaces }) (put_again m.spaces s p x.0 x.1)),
    )

pub none_due : (m : Contents) (s p : ℕ) (e : Entry) → IsSound m → HasEntry m s p e → e.writable ≡ true → frame_refusal m (page_at m s p) ≡ None
none_due m s p e sound h w = grind arith

-- which refusal applies at a page, by the page
pub due_none : (m : Contents) (s p : ℕ) (need : Access) → page_at m s p ≡ None → page_refusal need (value_at (plain_of m) s p) ≡ Some (Stopped Maperr)
due_none m s p need h = grind (arith, plain_at)

pub due_some : (m : Contents) (s p : ℕ) (need : Access) (x : PageState) → page_at m s p ≡ Some x → page_refusal need (value_at (plain_of m) s p) ≡ cond (allows need x.prot) None (Some (Stopped Accerr))
due_some m s p need x h = grind (arith, plain_at)

-- a page that may be accessed
pub permitted_page : (m : Contents) (s p : ℕ) (need : Access) → page_refusal need (value_at (plain_of m) s p) ≡ None → (x : PageState) × (page_at m s p ≡ Some x) × (allows need x.prot ≡ true)
permitted_page m s p need h = by_page (page_at m s p) refl
  where
    stopped : (d : AccessError) → ◌≡◌ {A = Option AccessError} (Some d) None → ⊥
    stopped d e = cc

    by_prot : (x : PageState) → page_at m s p ≡ Some x → (b : Bool) → allows need x.prot ≡ b → (y : PageState) × (page_at m s p ≡ Some y) × (allows need y.prot ≡ true)
    by_prot x e true a = (x, e, a)
    by_prot x e false a = absurd (stopped (Stopped Accerr) (sym (due_some m s p need x e ∙ ap (λ b. cond b None (Some (Stopped Accerr))) a) ∙ h))

    by_page : (o : Option PageState) → page_at m s p ≡ o → (x : PageState) × (page_at m s p ≡ Some x) × (allows need x.prot ≡ true)
    by_page None e = absurd (stopped (Stopped Maperr) (sym (due_none m s p need e) ∙ h))
    by_page (Some x) e = by_prot x e (allows need x.prot) refl

-- ---- which refusal applies, by what the code has tested
pub access_dead : (m : Contents) (s address bytes : ℕ) (need : Access) → is_alive m.spaces s ≡ false → access_refusal (plain_of m) s address bytes need ≡ Some (Refused NoSuchSpace)
access_dead m s address bytes need h = cond-false _ _ _ (plain_alive m s ∙ h)

pub access_bad : (m : Contents) (s address bytes : ℕ) (need : Access) → is_alive m.spaces s ≡ true → is_bad_access address bytes ≡ true → access_refusal (plain_of m) s address bytes need ≡ Some (Refused Einval)
access_bad m s address bytes need h b = cond-true _ _ _ (plain_alive m s ∙ h) ∙ cond-true _ _ _ b

pub access_at : (m : Contents) (s address bytes : ℕ) (need : Access) → is_alive m.spaces s ≡ true → is_bad_access address bytes ≡ false → access_refusal (plain_of m) s address bytes need ≡ page_refusal need (value_at (plain_of m) s (page_of address))
access_at m s address bytes need h b = cond-true _ _ _ (plain_alive m s ∙ h) ∙ cond-false _ _ _ b

-- a refusal in a space, which has to be alive for it
in_plain : (m : Contents) (s : ℕ) (due : Option AccessError) → in_space (plain_of m) s due ≡ in_space m.spaces s due
in_plain m s due = ap (λ b. cond b due (Some (Refused NoSuchSpace))) (plain_alive m s)

pub bad_in : (m : Contents) (s address bytes : ℕ) (need : Access) (d : AccessError) → is_bad_access address bytes ≡ true → in_space m.spaces s (Some (Refused Einval)) ≡ Some d → access_refusal (plain_of m) s address bytes need ≡ Some d
bad_in m s address bytes need d b h = ap (in_space (plain_of m) s) (cond-true _ _ _ b) ∙ in_plain m s (Some (Refused Einval)) ∙ h

pub stopped_in : (m : Contents) (s address bytes : ℕ) (need : Access) (e d : AccessError) → is_bad_access address bytes ≡ false → page_refusal need (value_at (plain_of m) s (page_of address)) ≡ Some e → in_space m.spaces s (Some e) ≡ Some d
    → access_refusal (plain_of m) s address bytes need ≡ Some d
stopped_in m s address bytes need e d b stop h = ap (in_space (plain_of m) s) (cond-false _ _ _ b ∙ stop) ∙ in_plain m s (Some e) ∙ h

-- the space of a page that has an entry is alive
pub alive_seen : (m : Contents) (s p : ℕ) (entry : Entry) → HasEntry m s p entry → is_alive m.spaces s ≡ true
alive_seen m s p entry h = let x = page_of_seen m s p entry h in alive_at m.spaces s p x.0 x.1

pub access_within : (address bytes : ℕ) → is_bad_access address bytes ≡ false → address % 4096 + bytes ≤ 4096
access_within address bytes h = let p = or_parts _ _ h in ltb-false 4096 (address % 4096 + bytes) p.1

-- ---- faults
pub same_key : (k : ℕ) → nat_eq k k ≡ true
same_key k = grind (arith, nat_tests)

pub at_put_here : (m : Contents) (s p : ℕ) (x : PageState) → page_at (put_page m s p x) s p ≡ Some x
at_put_here m s p x = value_at-put m.spaces s p x s p ∙ cond-true _ _ _ (and_from _ _ (same_key s) (same_key p))

over : {X : Type 0} (b : Bool) (x y o : Option X) → cond b y (cond b x o) ≡ cond b y o
over b x y o = grind arith

pub put_twice : (m : Contents) (s p : ℕ) (x y : PageState) → put_page (put_page m s p x) s p y ≡ put_page m s p y
put_twice m s p x y = λ i. record { pool = m.pool; spaces = twice i }
  where
    twice : put_at (put_at m.spaces s p x) s p y ≡ put_at m.spaces s p y
    twice = same_nested _ _
        (λ q. alive-put (put_at m.spaces s p x) s p y q ∙ ap (λ b. nat_eq q s || b) (alive-put m.spaces s p x q) ∙ or_self_left (nat_eq q s) (is_alive m.spaces q) ∙ sym (alive-put m.spaces s p y q))
        (λ q r. value_at-put (put_at m.spaces s p x) s p y q r ∙ ap (cond (nat_eq q s && nat_eq r p) (Some y)) (value_at-put m.spaces s p x q r) ∙ over (nat_eq q s && nat_eq r p) (Some x) (Some y) (value_at m.spaces q r) ∙ sym (value_at-put m.spaces s p y q r))

pub either_result : {T E : Type 0} (r : Result T E) (P Q R : Type 0) → OnOk r P → OnErr r Q → (P → R) → (Q → R) → R
either_result (Ok x) P Q R p q f g = f p
either_result (Err e) P Q R p q f g = g q

pub fault_dead : (m : Contents) (s address : ℕ) → is_alive m.spaces s ≡ false → fault_refusal m s address ≡ Some (Refused NoSuchSpace)
fault_dead m s address h = ap (λ o. or_else o (frame_refusal m (page_at m s (page_of address)))) (cond-false _ _ _ (plain_alive m s ∙ h))

pub fault_stopped : (m : Contents) (s address : ℕ) (d : AccessError) → is_alive m.spaces s ≡ true → page_refusal Write (value_at (plain_of m) s (page_of address)) ≡ Some d → fault_refusal m s address ≡ Some d
fault_stopped m s address d h e = ap (λ o. or_else o (frame_refusal m (page_at m s (page_of address)))) (cond-true _ _ _ (plain_alive m s ∙ h) ∙ e)

pub fault_goes : (m : Contents) (s address : ℕ) → is_alive m.spaces s ≡ true → page_refusal Write (value_at (plain_of m) s (page_of address)) ≡ None → fault_refusal m s address ≡ frame_refusal m (page_at m s (page_of address))
fault_goes m s address h e = ap (λ o. or_else o (frame_refusal m (page_at m s (page_of address)))) (cond-true _ _ _ (plain_alive m s ∙ h) ∙ e)

pub answers_err : (due : Option AccessError) (d : AccessError) (e : MemoryError) (r : Result (Unit {0}) MemoryError) → due ≡ Some d → e ≡ DeniedError d → r ≡ Err e → Answers due r
answers_err due d e r h is was = subst (λ (x : Result (Unit {0}) MemoryError). Answers due x) (sym (was ∙ ap Err is)) h

-- what a fault needs
pub write_there : (m n : Contents) (s p q : ℕ) → n ≡ m → q ≡ p → page_refusal Write (value_at (plain_of m) s p) ≡ None → (x : PageState) × (page_at n s q ≡ Some x) × (x.prot.write ≡ true)
write_there m n s p q v e h = grind (arith, permitted_page)

-- a fault leaves the plain memory
pub plain_made_writable : (m n : Contents) (s p : ℕ) → MakesWritable m s p (λ bytes. bytes) n → plain_of n ≡ plain_of m
plain_made_writable m n s p (x, k, there, own, is) = ap plain_of is ∙ plain_same m s p x (writable_page x k x.bytes) there refl

-- and a store after it is a store
pub writable_there : (m n : Contents) (s p : ℕ) → MakesWritable m s p (λ bytes. bytes) n → (x : PageState) × (page_at n s p ≡ Some x) × (x.writable ≡ true)
writable_there m n s p (x, k, there, own, is) = (writable_page x k x.bytes, ap (λ (z : Contents). page_at z s p) is ∙ at_put_here m s p (writable_page x k x.bytes), refl)

pub stored_after : (m n l : Contents) (s address : ℕ) (bytes : List ℕ) → MakesWritable m s (page_of address) (λ b. b) n
    → IfSome (page_at n s (page_of address)) (λ (before : PageState). l ≡ put_page n s (page_of address) (stored_page before (stored_at before.bytes (address % 4096) bytes)))
    → MakesWritable m s (page_of address) (λ before. stored_at before (address % 4096) bytes) l × (plain_of l ≡ after_store (plain_of m) s address bytes)
stored_after m n l s address bytes given h = grind (arith, at_put_here, put_twice, plain_stored)

-- ---- the areas stay where the permissions do
pub areas_made_writable : (areas : BTreeMap ℕ PageMap) (m n : Contents) (s p : ℕ) (f : List ℕ → List ℕ) → HasAreas areas m → MakesWritable m s p f n → HasAreas areas n
areas_made_writable areas m n s p f h (x, k, there, own, is) = subst (HasAreas areas) (sym is) (areas_put areas m s p x (writable_page x k (f x.bytes)) h there refl)

pub areas_stored : (areas : BTreeMap ℕ PageMap) (m n : Contents) (s p : ℕ) (bytes : List ℕ → List ℕ) → HasAreas areas m → IsSome (page_at m s p) → IfSome (page_at m s p) (λ (before : PageState). n ≡ put_page m s p (stored_page before (bytes before.bytes))) → HasAreas areas n
areas_stored areas m n s p bytes h some is = grind (arith, some_of, areas_put)

pub areas_write_protected : (areas : BTreeMap ℕ PageMap) (m n : Contents) (s p : ℕ) (prot : Prot) (bit : Bool) (x : PageState) → HasAreas areas m → page_at m s p ≡ Some x → prot ≡ x.prot → IfSome (page_at m s p) (λ (before : PageState). n ≡ put_page m s p (record before { prot = prot; writable = false; soft_dirty = bit })) → HasAreas areas n
areas_write_protected areas m n s p prot bit x h there same is =
    subst (HasAreas areas) (sym (rw there at is)) (areas_put areas m s p x (record x { prot = prot; writable = false; soft_dirty = bit }) h there same)

-- one space without pages
pub areas_of_one : (old new : BTreeMap ℕ PageMap) (m : Contents) (s : ℕ) (map : PageMap) → old.entries ≡ [] → map ≡ finmap.empty → ((q : ℕ) → get nat_cmp new q ≡ cond (is_eq (nat_cmp s q)) (Some map) (get nat_cmp old q))
    → m.spaces ≡ finmap.insert finmap.empty s finmap.empty → HasAreas new m
areas_of_one old new m s map none e is spaces q =
    is q ∙ ap (λ (es : List (ℕ × PageMap)). cond (is_eq (nat_cmp s q)) (Some map) (lookup (is_at (nat_cmp q)) es)) none
    ∙ sym (ap (λ (n : Nested PageState). option_map prots_of (finmap.get n q)) spaces ∙ ap (option_map prots_of) (get_put finmap.empty s finmap.empty q ∙ ap (cond (nat_eq q s) (Some finmap.empty)) (get-empty nat_cmp q))
    ∙ turned_in (nat_eq q s) prots_of finmap.empty None ∙ ap (λ (t : PageMap). cond (nat_eq q s) (Some t) None) (map_values-empty (λ (page : PageState). page.prot) ∙ sym e) ∙ ap (λ b. cond b (Some map) None) (sym (turned_test s q)))

-- the plain memory of space 1 alone, without a page
pub plain_of_one : (c one : Contents) (space : ℕ) → one.spaces ≡ finmap.insert c.spaces space finmap.empty → c.spaces ≡ finmap.empty → space ≡ 1
    → plain_of one ≡ finmap.insert finmap.empty 1 finmap.empty
unfolding plain_of
plain_of_one c one space more none is = grind (arith, map_values-insert, map_values-empty)

-- a space without pages begins
pub alone_begins : (c one : Contents) (space : ℕ) → one.spaces ≡ finmap.insert c.spaces space finmap.empty → c.spaces ≡ finmap.empty → IsBeginning one
alone_begins c one space more none s p page there = absurd (let f : ◌≡◌ {A = Option PageState} None (Some page) = sym (nothing s p) ∙ there in cc)
  where
    each : (b : Bool) (o : Option PageState) → o ≡ None → cond b None o ≡ None
    each true o e = refl
    each false o e = e

    empty_at : (s p : ℕ) → value_at {X = PageState} finmap.empty s p ≡ None
    empty_at s p = ap (λ (o : Option (Table PageState)). finmap.get (unwrap_or o finmap.empty) p) (get-empty nat_cmp s) ∙ get-empty nat_cmp p

    nothing : (s p : ℕ) → page_at one s p ≡ None
    nothing s p = ap (λ (n : Nested PageState). value_at n s p) (more ∙ ap (λ (n : Nested PageState). finmap.insert n space finmap.empty) none)
        ∙ value_at-insert {X = PageState} finmap.empty space finmap.empty s p
        ∙ ap (λ (o : Option PageState). cond (nat_eq s space) o (value_at {X = PageState} finmap.empty s p)) (get-empty nat_cmp p)
        ∙ each (nat_eq s space) (value_at {X = PageState} finmap.empty s p) (empty_at s p)
