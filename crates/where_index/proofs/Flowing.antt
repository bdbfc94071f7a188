-- Moves put in and taken out, by the cell that they leave and by their way.
use Rattle.std.proofs.Common.{◌≡◌, ◌≢◌, inl, inr, ℕ, ◌+◌, ◌-◌, min, ◌<◌, ◌≤◌, Bool, true, false, List, Option, None, slice_index, refl, sym, ap, ◌∙◌, subst, arith}
use Rattle.std.proofs.lemmas.Bool.Decides.{nat_tests}
use Rattle.grid_cells.specs.declared.numbers.TheConstants.{MOST_AGENT}
use Rattle.where_index.specs.declared.trails.Hop.{Hop}
use Rattle.where_index.specs.declared.ways.Way.{Way}
use Rattle.where_index.specs.declared.ways.Way.TheVariants.{Up, Left, Right, Down}
use Rattle.where_index.specs.declared.flows.Flows.{Flows}
use Rattle.where_index.specs.declared.traffic.Traffic.{Traffic}
use Rattle.where_index.specs.Changes.{set_at}
use Rattle.where_index.specs.Flows.{many_below, goes, AreCounted, HasFlows}
use Rattle.where_index.specs.Traffic.{HasTraffic}
use Rattle.where_index.proofs.Changes.{HasSpots-ext, set_itself}
use Rattle.where_index.proofs.Crowding.{HasCrowds-ext}
use Rattle.where_index.proofs.Counts.{same_or_apart, many-same, many-none, many-le, many-more}

pub counted-ext : (counts : List ℕ) (way : Way) (f g : ℕ → ℕ → Option Hop) → ((a t : ℕ) → goes way (f a t) ≡ goes way (g a t)) → AreCounted counts way f → AreCounted counts way g
counted-ext counts way f g same has t = has t ∙ many-same (λ a. goes way (f a t)) (λ a. goes way (g a t)) (MOST_AGENT + 1) (λ a _. same a t)

pub HasTraffic-ext : (traffic : Traffic) (f g : ℕ → ℕ → Option Hop) → ((a t : ℕ) → f a t ≡ g a t) → HasTraffic traffic f → HasTraffic traffic g
HasTraffic-ext traffic f g same has = record {
  stands = HasSpots-ext traffic.stands f g same has.stands;
  crowds = HasCrowds-ext traffic.crowds f g same has.crowds;
  flows = λ way. counted-ext _ way f g (λ a t. ap (λ o. goes way o) (same a t)) (has.flows way);
}

pub HasFlows-each : (flows : Flows) (f : ℕ → ℕ → Option Hop) → AreCounted flows.up Up f → AreCounted flows.left Left f → AreCounted flows.right Right f → AreCounted flows.down Down f → HasFlows flows f
HasFlows-each flows f up left right down Up = up
HasFlows-each flows f up left right down Left = left
HasFlows-each flows f up left right down Right = right
HasFlows-each flows f up left right down Down = down

pub none_counted : (counts : List ℕ) (way : Way) → ((t : ℕ) → slice_index counts t ≡ 0) → AreCounted counts way (λ _ _. None)
none_counted counts way is t = is t ∙ sym (many-none (λ a. goes way None) (MOST_AGENT + 1) (λ a. refl))

module _ (way : Way) (f : ℕ → ℕ → Option Hop) (agent time : ℕ) (v : Option Hop) where
  away : (a t : ℕ) → ((a ≡ agent) → (t ≡ time) → ⊥) → goes way (f a t) ≡ goes way (set_at f agent time v a t)
  away a t apart = grind (arith, nat_tests)

  -- where neither goes that way
  pub keeps : (counts : List ℕ) → goes way (f agent time) ≡ goes way v → AreCounted counts way f → AreCounted counts way (set_at f agent time v)
  keeps counts same = counted-ext counts way f (set_at f agent time v) (λ a t. grind (arith, nat_tests))

  now : goes way (set_at f agent time v agent time) ≡ goes way v
  now = ap (λ o. goes way o) (set_itself f agent time v)

  abbrev was_at : ℕ → Bool
  was_at a = goes way (f a time)

  abbrev is_at : ℕ → Bool
  is_at a = goes way (set_at f agent time v a time)

  at_or_off : (old new : List ℕ) → ((t : ℕ) → t ≢ time → slice_index new t ≡ slice_index old t) → AreCounted old way f → slice_index new time ≡ many_below is_at (MOST_AGENT + 1) → AreCounted new way (set_at f agent time v)
  at_or_off old new others has here t = elim (same_or_apart t time) [
    | inl is ↦ subst (λ q. slice_index new q ≡ many_below (λ a. goes way (set_at f agent time v a q)) (MOST_AGENT + 1)) (sym is) here
    | inr apart ↦ others t apart ∙ (has t ∙ many-same (λ a. goes way (f a t)) (λ a. goes way (set_at f agent time v a t)) (MOST_AGENT + 1) (λ a _. away a t (λ _ e. apart e)))
  ]

  pub counts_more : (old new : List ℕ) (most : ℕ) → MOST_AGENT + 1 < most → agent ≤ MOST_AGENT → goes way (f agent time) ≡ false → goes way v ≡ true
      → slice_index new time ≡ min (slice_index old time + 1) most → ((t : ℕ) → t ≢ time → slice_index new t ≡ slice_index old t) → AreCounted old way f → AreCounted new way (set_at f agent time v)
  counts_more old new most room low off on here others has =
      let few : many_below was_at (MOST_AGENT + 1) ≤ MOST_AGENT + 1 = many-le was_at (MOST_AGENT + 1) in
      let more : many_below is_at (MOST_AGENT + 1) ≡ many_below was_at (MOST_AGENT + 1) + 1 = many-more was_at is_at agent (MOST_AGENT + 1) (omega arith) off (now ∙ on) (λ a apart. away a time (λ e _. apart e)) in
      let before : slice_index old time ≡ many_below was_at (MOST_AGENT + 1) = has time in
      at_or_off old new others has (omega (arith, few, more, before, here))

  pub counts_less : (old new : List ℕ) → agent ≤ MOST_AGENT → goes way (f agent time) ≡ true → goes way v ≡ false
      → slice_index new time ≡ slice_index old time - 1 → ((t : ℕ) → t ≢ time → slice_index new t ≡ slice_index old t) → AreCounted old way f → AreCounted new way (set_at f agent time v)
  counts_less old new low on off here others has =
      let less : many_below was_at (MOST_AGENT + 1) ≡ many_below is_at (MOST_AGENT + 1) + 1 = many-more is_at was_at agent (MOST_AGENT + 1) (omega arith) (now ∙ off) on (λ a apart. sym (away a time (λ e _. apart e))) in
      let before : slice_index old time ≡ many_below was_at (MOST_AGENT + 1) = has time in
      at_or_off old new others has (omega (arith, less, before, here))
