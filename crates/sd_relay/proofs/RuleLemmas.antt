-- Each step keeps the rule.
use Rattle.std.proofs.Common.{◌≡◌, ◌≢◌, ℕ, zero, suc, ◌+◌, ◌-◌, ◌<◌, true, false, true≢false, List, [], ◌∷◌, ◌++◌, set, refl, sym, ap, ◌∙◌, subst, ⊎_elim, append_assoc, append-nil, arith}
use mathlib.Core.Option.{some, some-ne-none, some-injective}
use lib.ListN.{get_elem?}
use Rattle.crossbeam_channel.specs.Fifo.{Pushes, Pops, Forks, Merges, Learns}
use Rattle.sd_relay.specs.declared.hand.Hand.{Hand}
use Rattle.sd_relay.specs.declared.message.Message.{Message}
use Rattle.sd_relay.specs.Hands.{all_parts, hand, ticket_of, tickets, after_put, after_taking}
use Rattle.sd_relay.specs.Relays.{Fits, Relays, IsSettled}
use Rattle.sd_relay.specs.Tickets.{TicketsRise, times}
use Rattle.sd_relay.proofs.TicketLemmas.{times_append, tickets_append}
use Rattle.sd_relay.proofs.TotalLemmas.{at_set, at_snoc, total_set, total_snoc, total_alone}

abbrev AllFit : (ℕ → Hand → Type 0) → List Hand → Type 0
AllFit F views = (pass : ℕ) (v : Hand) → get_elem? views pass ≡ some v → F pass v

fit_set : (F : ℕ → Hand → Type 0) (views : List Hand) (pass : ℕ) (w : Hand) → F pass w
    → ((j : ℕ) (u : Hand) → j ≢ pass → get_elem? views j ≡ some u → F j u) → AllFit F (set views pass w)
fit_set F views pass w mine others j u e = ⊎_elim (λ (x : (j ≡ pass) × (w ≡ u)). subst (λ (y : ℕ × Hand). F y.0 y.1) (λ i. (sym x.0 i, x.1 i)) mine)
    (λ (x : (j ≢ pass) × (get_elem? views j ≡ some u)). others j u x.0 x.1) (at_set views pass j w u e)

fits_first : AllFit (Fits 0 []) (hand all_parts true [] [] ∷ [])
fits_first zero v e = subst (λ y. Fits 0 [] 0 y) (some-injective (hand all_parts true [] []) v e) ((λ _. (refl, refl)), (λ _. refl), λ _. refl)
fits_first (suc j) v e = absurd (some-ne-none v (sym e))

pub begins : Relays [] (hand all_parts true [] [] ∷ [])
begins = record {
  front = 0;
  put = [];
  taken = [];
  left = refl;
  rises = tt;
  fits = fits_first;
  shared = λ t. refl;
  parts = refl;
}

-- a message joins the queue, of the pass that puts: its ticket, if it has one, is above all
pub puts : (n pass : ℕ) (v : Hand) (message : Message) → v.puts ≡ true → (TicketsRise v.put → TicketsRise (v.put ++ ticket_of message))
    → Pushes Relays n pass v message (λ w. w ≡ after_put v message)
puts n pass v message may rising messages views room rule at =
    let w : Hand = after_put v message in
    let mine = rule.fits pass v at in
    let same : v.put ≡ rule.put = (mine.0 may).1 in
    let put : List ℕ = rule.put ++ ticket_of message in (
      w,
      record {
        front = rule.front;
        put = put;
        taken = rule.taken;
        left = ap (λ l. l ++ ticket_of message) rule.left ∙ append_assoc rule.taken (tickets messages) (ticket_of message)
            ∙ ap (λ l. rule.taken ++ l) (sym (tickets_append messages (message ∷ []) ∙ ap (λ l. tickets messages ++ l) (append-nil (ticket_of message))));
        rises = subst (λ l. TicketsRise (l ++ ticket_of message)) same (rising (subst TicketsRise (sym same) rule.rises));
        fits = fit_set (Fits rule.front put) views pass w
            ((λ _. ((mine.0 may).0, ap (λ l. l ++ ticket_of message) same)), (λ p. absurd (true≢false (sym may ∙ p))), mine.2)
            (λ j u other e. let theirs = rule.fits j u e in ((λ p. absurd (other ((theirs.0 p).0 ∙ sym (mine.0 may).0))), theirs.1, theirs.2));
        shared = λ t. let h = total_set (λ u. times t u.taken) views pass v w at in let s = rule.shared t in omega arith;
        parts = let h = total_set (λ u. u.parts) views pass v w at in let p = rule.parts in omega arith;
      },
      refl,
    )

-- a message leaves the queue, to a pass that has a part
pub takes : (pass : ℕ) (v : Hand) → 0 < v.parts → Pops Relays pass v (λ message w. w ≡ after_taking v message)
takes pass v some_part message messages views rule at =
    let w : Hand = after_taking v message in
    let mine = rule.fits pass v at in (
      w,
      record {
        front = rule.front;
        put = rule.put;
        taken = rule.taken ++ ticket_of message;
        left = rule.left ∙ sym (append_assoc rule.taken (ticket_of message) (tickets messages));
        rises = rule.rises;
        fits = fit_set (Fits rule.front rule.put) views pass w (mine.0, mine.1, λ none. absurd (omega arith)) (λ j u other e. rule.fits j u e);
        shared = λ t.
            let h = total_set (λ u. times t u.taken) views pass v w at in
            let s = rule.shared t in
            let a = times_append t v.taken (ticket_of message) in
            let b = times_append t rule.taken (ticket_of message) in omega arith;
        parts = let h = total_set (λ u. u.parts) views pass v w at in let p = rule.parts in omega arith;
      },
      refl,
    )

-- a pass with one part is cut from the pass that puts
pub forks : (pass : ℕ) (v : Hand) → 1 < v.parts → Forks Relays pass v (hand (v.parts - 1) v.puts v.put v.taken) (hand 1 false [] [])
forks pass v enough messages views rule at =
    let l : Hand = hand (v.parts - 1) v.puts v.put v.taken in
    let r : Hand = hand 1 false [] [] in
    let mine = rule.fits pass v at in
    let cut : List Hand = set views pass l in
    let old : AllFit (Fits rule.front rule.put) cut = fit_set (Fits rule.front rule.put) views pass l (mine.0, mine.1, λ none. absurd (omega arith)) (λ j u other e. rule.fits j u e) in
    record {
      front = rule.front;
      put = rule.put;
      taken = rule.taken;
      left = rule.left;
      rises = rule.rises;
      fits = λ j u e. ⊎_elim (λ x. old j u x)
          (λ (is : r ≡ u). subst (λ y. Fits rule.front rule.put j y) is ((λ p. absurd (true≢false (sym p))), (λ _. refl), λ none. refl)) (at_snoc cut r u j e);
      shared = λ t.
          let h = total_set (λ u. times t u.taken) views pass v l at in
          let s = rule.shared t in
          let more = total_snoc (λ u. times t u.taken) cut r in omega arith;
      parts =
          let h = total_set (λ u. u.parts) views pass v l at in
          let p = rule.parts in
          let more = total_snoc (λ u. u.parts) cut r in omega arith;
    }

-- a pass takes in another that has a part and put nothing
pub merges : (pass : ℕ) (v : Hand) (other : ℕ) (w : Hand) → 0 < w.parts
    → Merges Relays pass v other w (hand (v.parts + w.parts) v.puts v.put (v.taken ++ w.taken)) (hand 0 false [] [])
merges pass v other w some_part messages views rule at two at' =
    let both : Hand = hand (v.parts + w.parts) v.puts v.put (v.taken ++ w.taken) in
    let spent : Hand = hand 0 false [] [] in
    let mine = rule.fits pass v at in
    let met : List Hand = set views pass both in
    let now : AllFit (Fits rule.front rule.put) met = fit_set (Fits rule.front rule.put) views pass both (mine.0, mine.1, λ none. absurd (omega arith)) (λ j u apart e. rule.fits j u e) in
    record {
      front = rule.front;
      put = rule.put;
      taken = rule.taken;
      left = rule.left;
      rises = rule.rises;
      fits = fit_set (Fits rule.front rule.put) met other spent ((λ p. absurd (true≢false (sym p))), (λ _. refl), λ none. refl) (λ j u apart e. now j u e);
      shared = λ t.
          let h = total_set (λ u. times t u.taken) views pass v both at in
          let k = total_set (λ u. times t u.taken) met other w spent at' in
          let s = rule.shared t in
          let a = times_append t v.taken w.taken in omega arith;
      parts =
          let h = total_set (λ u. u.parts) views pass v both at in
          let k = total_set (λ u. u.parts) met other w spent at' in
          let p = rule.parts in omega arith;
    }

-- the pass with every part knows the whole
pub learns : (pass : ℕ) (v : Hand) → v.parts ≡ all_parts → v.puts ≡ true → Learns Relays pass v (λ messages. IsSettled v.put v.taken (tickets messages))
learns pass v whole may messages views rule at =
    let mine = rule.fits pass v at in
    let same : v.put ≡ rule.put = (mine.0 may).1 in (
      subst TicketsRise (sym same) rule.rises,
      λ t.
          let alone = total_alone (λ u. times t u.taken) views pass v (λ j u e none. ap (λ l. times t l) ((rule.fits j u e).2 none)) at (rule.parts ∙ sym whole) in
          let s = rule.shared t in
          let a = times_append t rule.taken (tickets messages) in
          let b : times t v.put ≡ times t (rule.taken ++ tickets messages) = ap (λ l. times t l) (same ∙ rule.left) in omega arith,
    )
