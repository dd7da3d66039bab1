-- The first page of a space, as the tables have it.
use Rattle.std.proofs.Common.{◌≡◌, ℕ, is_some, Option, Some, None, sym, ◌∙◌, ap, arith}
use Rattle.std.specs.Option.{option_map, IfSome}
use Rattle.std.specs.FinMap as finmap
use Rattle.std.specs.declared.ops.Bound.{Bound}
use Rattle.sd_tables.specs.declared.entry.Entry.{Entry}
use Rattle.sd_tables.specs.Firsts.{IsFirstFrom}
use Rattle.sd_frames.specs.Frames.{Pool}
use Rattle.sd_pagetable.specs.Nested.{Table, Nested, inside, value_at}
use Rattle.sd_pagetable.specs.Page.{PageState}
use Rattle.sd_pagetable.specs.Contents.{Contents, page_at}
use Rattle.sd_pagetable.specs.View.{entry_of, contents_of, HasEntry}
use Rattle.sd_pagetable.proofs.NestedLemmas.{value_at-map}
use Rattle.sd_pagetable.proofs.ViewLemmas.{entry_there}

some_seen : (f : Entry → PageState) (o : Option Entry) → is_some (option_map f o) ≡ is_some o
some_seen f o = grind arith

same_first : (t : Table Entry) (u : Table PageState) (start : Bound ℕ) (r : Option ℕ) → ((page : ℕ) → is_some (finmap.get u page) ≡ is_some (finmap.get t page)) → IsFirstFrom t start r → IsFirstFrom u start r
same_first t u start r same h = grind arith

module _ (pool : Pool) (tables : Nested Entry) (m : Contents) (s : ℕ) (v : contents_of pool tables ≡ m) where
  pub first_seen : (start : Bound ℕ) (r : Option ℕ) → IsFirstFrom (inside tables s) start r → IsFirstFrom (inside m.spaces s) start r
  first_seen start r first = grind (arith, same_first, value_at-map, some_seen)

  pub has_entry : (page : ℕ) (e : Entry) → value_at tables s page ≡ Some e → HasEntry m s page e
  has_entry page e h = ap (λ (c : Contents). option_map entry_of (page_at c s page)) (sym v) ∙ ap (option_map entry_of) (entry_there pool tables s page e h)

  pub found_entry : (r : Option (ℕ × Entry)) → IfSome r (λ found. value_at tables s found.0 ≡ Some found.1) → IfSome r (λ found. HasEntry m s found.0 found.1)
  found_entry None h = tt
  found_entry (Some found) h = has_entry found.0 found.1 h
