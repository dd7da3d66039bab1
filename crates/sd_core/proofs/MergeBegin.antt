-- A merge begins.
use Rattle.std.proofs.Common.{◌≡◌, ℕ, ◌<◌, ◌^◌, Bool, true, List, [], ◌∷◌, length, Option, Some, None, refl, sym, ◌∙◌, ap, subst, inl, inr, arith}
use Rattle.sd_chain.specs.Catalog.{IsSoundCatalog, Opened, place_of}
use Rattle.sd_chain.specs.Reaches.{ParentsFall}
use Rattle.sd_command.specs.declared.refusal.Refusal.{Refusal}
use Rattle.sd_merge.specs.Merger as merger
use Rattle.sd_merge.specs.Merger.{begun_merge}
use Rattle.sd_merge.specs.Sources.{source_from}
use Rattle.sd_rounds.specs.Dumper.{HasSlot, Running, out_of_running, writes_of_running}
use Rattle.sd_crash_safety.specs.declared.standing.Standing.TheVariants as standing
use Rattle.sd_crash_safety.specs.MergerSteps.{IsUncalled}
use Rattle.sd_crash_safety.specs.View.{CoreView}
use Rattle.sd_free_slots.specs.Taken.{FreeSlotsLaw, NamesParent}
use Rattle.sd_core.specs.Beginning.{FreeSlots, first_of}
use Rattle.sd_core.specs.Merging.{has_tip, merge_refusal}
use Rattle.sd_core.specs.Sound.{IsCore, Parts}
use Rattle.sd_core.proofs.BesideLemmas.{core_beside, jobs_out}
use Rattle.sd_core.proofs.SlotLemmas.{IsFreeAt, reached_at}

-- ---- when no refusal holds

pub first_five : (a b d e f x y z u v : Bool) (p q r s t : Refusal) → a ≡ x → b ≡ y → d ≡ z → e ≡ u → f ≡ v
    → first_of ((a, p) ∷ (b, q) ∷ (d, r) ∷ (e, s) ∷ (f, t) ∷ []) ≡ first_of ((x, p) ∷ (y, q) ∷ (z, r) ∷ (u, s) ∷ (v, t) ∷ [])
first_five a b d e f x y z u v p q r s t one two three four five = grind arith

pub record MayMerge (core : CoreView) : Type 0 where
  pub stands : core.standing ≡ standing.Open
  pub idle : core.merger ≡ None
  pub tip : has_tip core.catalog ≡ true
  pub serial : core.numbers.serial < 2 ^ 63

pub may_merge : (core : CoreView) → merge_refusal core ≡ None → MayMerge core
may_merge core is = grind arith

-- ---- what stands in the merged image's slot isn't referenced

pub free_uncalled : FreeSlotsLaw → (core : CoreView) (slots : List ℕ) (slot : ℕ) → FreeSlots core slots → IsFreeAt slots slot → IsSoundCatalog core.catalog → ParentsFall core.catalog
    → IsUncalled core.catalog core.dumper.running slot
free_uncalled law core slots slot free f sound falls = by core.dumper.running refl
  where
    by : (running : Option Running) → core.dumper.running ≡ running → IsUncalled core.catalog running slot
    by None is = tt
    by (Some running) is = λ serial o start at here names reaches.
        law.unneeded core.catalog core.dumper.running core.merger core.outs (length core.phases) slots f.place slot free falls f.at
        (record {
          root = start.header.serial;
          is = inr (inl (record { start = start; names = subst (λ r. NamesParent core.catalog r start) (sym is) names; own = refl }));
          at = reached_at core.catalog start.header.serial serial slot o sound at here reaches;
        })

-- ---- a core whose merge begins

pub merge_begun : (core : Parts) (tip : Opened) (slot room : ℕ) (before : List ℕ) (merge : Option merger.Running) → IsCore core → merge ≡ Some (begun_merge (source_from tip) slot before)
    → core.standing ≡ standing.Open → core.opener ≡ None → core.merger ≡ None → core.numbers.serial < 2 ^ 63 → slot < length core.phases → (HasSlot core.dumper.running slot → ⊥)
    → place_of core.places tip.header.serial ≡ Some (Some tip) → room ≡ length core.phases → IsCore (record core { room = room; merger = merge })
merge_begun core tip slot room before merge sound is stands closed idle serial within spared there enough = subst (λ m. IsCore (record core { room = room; merger = m })) (sym is)
    (core_beside core core.outs core.phases core.places room core.numbers (Some begun) sound stands closed refl (record {
      begun = refl;
      given = omega arith;
      checkpoint = refl;
      above = sound.numbers_are.serials;
      serials = λ running runs. omega (arith, serial);
      held = λ running image runs making held. held;
      stay = λ number o at has. at;
    }) sound.counted (jobs_out core sound stands ∙ ap (λ m. out_of_running core.dumper.running ∷ merger.out_of_merge m ∷ None ∷ writes_of_running core.dumper.running) idle)
    (λ id out. absurd (let no : None ≡ Some id = out in cc)) (λ id out. absurd (let no : None ≡ Some id = out in cc)) (record {
      stands = stands;
      closed = closed;
      within = within;
      spared = spared;
      counted = sound.counted tip.header.serial tip there;
      asks = λ id out. absurd (let no : None ≡ Some id = out in cc);
      syncs = λ id out. absurd (let no : None ≡ Some id = out in cc);
      doing = (omega (arith, serial), enough);
    }))
  where
    begun : merger.Running
    begun = begun_merge (source_from tip) slot before
