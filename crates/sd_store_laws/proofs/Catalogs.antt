-- What an image of a catalog reaches is what the image of the contents reaches.
use Rattle.std.proofs.Common.{◌≡◌, ℕ, List, sym, ◌∙◌, ap, subst}
use Rattle.sd_image.specs.declared.header.Header.{Header}
use Rattle.sd_image.specs.Image.{Image}
use Rattle.sd_image.specs.Shows.{IsNamed}
use Rattle.sd_chain.specs.Catalog.{Opened, Places, Names}
use Rattle.sd_chain.specs.Reaches.{ReachesSerial}
use Rattle.sd_chain.specs.Reaches as catalog
use Rattle.sd_chain.specs.Store.{HasTheImages, IsOpenedAs}
use Rattle.sd_store_laws.specs.Reached.{Reaches, ReachesBySerial, itself, beyond}

reached_image : (contents : List (List ℕ)) (places : Places) (all : List Image) (j i : Opened) (a : Image) → HasTheImages contents places all → IsOpenedAs contents i a
    → catalog.ReachesInCatalog places j i → (b : Image) × IsOpenedAs contents j b × Reaches all b a
reached_image contents places all j i a has is (catalog.itself) = (a, is, itself)
reached_image contents places all j i a has is (catalog.beyond _ parent names reaches) =
    let up = has.image parent names.member in
    let number : i.header.parent ≡ a.header.parent = ap (λ (h : Header). h.parent) (sym is.header) in
    let rest = reached_image contents places all j parent up.0 has up.2 reaches in
    (rest.0, rest.1, beyond a up.0 (subst (λ n. IsNamed all n up.0) number (has.named i.header.parent parent up.0 up.2 names)) rest.2)

reached_opened : (contents : List (List ℕ)) (places : Places) (all : List Image) (b : Image) (i : Opened) (a : Image) → HasTheImages contents places all → IsOpenedAs contents i a
    → Reaches all b a → (j : Opened) × IsOpenedAs contents j b × catalog.ReachesInCatalog places j i
reached_opened contents places all b i a has is (itself) = (i, is, catalog.itself)
reached_opened contents places all b i a has is (beyond _ parent named reaches) =
    let up = has.opened parent named.member in
    let number : a.header.parent ≡ i.header.parent = ap (λ (h : Header). h.parent) is.header in
    let rest = reached_opened contents places all b up.0 parent has up.2 reaches in
    (rest.0, rest.1, catalog.beyond i up.0 (subst (λ n. Names places n up.0) number (has.names a.header.parent up.0 parent up.1 up.2 named)) rest.2)

pub serials_on : (contents : List (List ℕ)) (places : Places) (all : List Image) (serial reached : ℕ) → HasTheImages contents places all
    → ReachesSerial places serial reached → ReachesBySerial all serial reached
serials_on contents places all serial reached has r =
    let a = has.image r.0 r.2 in
    let b = reached_image contents places all r.1 r.0 a.0 has a.2 r.4 in
    (a.0, b.0, a.1, ap (λ (h : Header). h.serial) a.2.header ∙ r.3, b.2, ap (λ (h : Header). h.serial) b.1.header ∙ r.5)

pub serials_back : (contents : List (List ℕ)) (places : Places) (all : List Image) (serial reached : ℕ) → HasTheImages contents places all
    → ReachesBySerial all serial reached → ReachesSerial places serial reached
serials_back contents places all serial reached has r =
    let i = has.opened r.0 r.2 in
    let j = reached_opened contents places all r.1 i.0 r.0 has i.2 r.4 in
    (i.0, j.0, i.1, ap (λ (h : Header). h.serial) (sym i.2.header) ∙ r.3, j.2, ap (λ (h : Header). h.serial) (sym j.1.header) ∙ r.5)
