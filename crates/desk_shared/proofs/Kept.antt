-- The rule of the table: how a step keeps it, and that it holds at the opening.
use Rattle.std.specs.Prelude.{slice_index_or, All}
use Rattle.std.proofs.lemmas.List.Elements.{All-nil, All-weaker}
use Rattle.std.proofs.Common.{◌≡◌, ◌≢◌, ℕ, zero, suc, ◌^◌, ◌<◌, ◌≤◌, Bool, true, false, List, [], ◌∷◌, length, get_or, set, refl, sym, ap, ◌∙◌, subst, ⊎_elim, arith, Option, Some, None, length-set, get_or-set_other, get_or-set_same}
use Rattle.std.proofs.lemmas.Bool.Decides.{nat_tests}
use Rattle.std.proofs.lemmas.Grind.{common_steps}
use Rattle.std.proofs.lemmas.Option.{gets}
use mathlib.Core.Logic.{dite}
use mathlib.Core.Option.{none, some, some-ne-none, some-injective}
use native.Mathlib.Decide.{ℕ_discrete}
use mathlib.Core.Option as maybe
use lib.ListN.{get_elem?}
use lib.Seq.{set-get_or}
use Rattle.atomic_table.specs.Table.{State, keeps, stepped, opening}
use Rattle.atomic_table.proofs.Lists.{at_set, set_else, set_again}
use Rattle.desk_commits.specs.Entries.{Entry}
use Rattle.desk_commits.specs.State.{DeskState, after}
use Rattle.desk_commits.specs.Replays.{IsLegal}
use Rattle.desk_shared.proofs.Journals.{legal_within}
use Rattle.desk_shared.specs.declared.board.Known.{Known}
use Rattle.desk_shared.specs.declared.board.Stage.{Stage}
use Rattle.desk_shared.specs.declared.board.Stage.TheVariants.{Making, Idle, Holding, Joined}
use Rattle.desk_shared.specs.Passes.{version_at, AreOfPlanners, HasJust, IsOfAnother, ExtendsSeen}
use Rattle.desk_shared.specs.Turns.{shown, Stands, IsPast, Live, IsBusy, IsWithinCall, Ruled, posed, first_known}
use Rattle.desk_shared.proofs.Beginnings.{own_rest, own_none, none_own, after_prefix}

abbrev St : Type 0
St = State (Option DeskState) Known

abbrev pub Homes : Type 0
Homes = List (maybe.Option (Option DeskState))

abbrev pub Carried : Type 0
Carried = List (ℕ × Option DeskState)

pub each_stays : (K : ℕ → Known → Type 0) (vs : List Known) (me : ℕ) (w : Known) → K me w → ((j : ℕ) (k : Known) → j ≢ me → get_elem? vs j ≡ some k → K j k)
    → (j : ℕ) (k : Known) → get_elem? (set vs me w) j ≡ some k → K j k
each_stays K vs me w mine others j k e = ⊎_elim (λ (t : (j ≡ me) × (w ≡ k)). subst (λ (x : ℕ × Known). K x.0 x.1) (λ i. (sym t.0 i, t.1 i)) mine)
    (λ (t : (j ≢ me) × (get_elem? vs j ≡ some k)). others j k t.0 t.1) (at_set vs me j w k e)

-- a pass that has not the turn knows nothing of it
pub rests : (start : DeskState) (log : List Entry) (turn : ℕ) (homes : Homes) (holder seat : ℕ) (log' : List Entry) (turn' : ℕ) (homes' : Homes) (holder' : ℕ)
    (made : List Entry) (stage : Stage) → (seat ≡ holder → turn ≡ 1 → ⊥) → Stands start log turn homes holder seat made stage → Stands start log' turn' homes' holder' seat made stage
rests start log turn homes holder seat log' turn' homes' holder' made Idle away h = tt
rests start log turn homes holder seat log' turn' homes' holder' made Making away h = absurd (away h.0 h.1)
rests start log turn homes holder seat log' turn' homes' holder' made Holding away h = absurd (away h.0 h.1)
rests start log turn homes holder seat log' turn' homes' holder' made (Joined a b p q s) away h = h

-- the pass at another stage, which has seen the whole journal, or what it had
pub live_posed : (start : DeskState) (planners : ℕ) (log : List Entry) (owner : ℕ → ℕ) (seat : ℕ) (k : Known) (stage : Stage) → Live start planners log owner seat k → Live start planners log owner seat (posed k stage log)
live_posed start planners log owner seat k stage l = grind (arith, nat_tests, common_steps, gets)

pub live_staged : (start : DeskState) (planners : ℕ) (log : List Entry) (owner : ℕ → ℕ) (seat : ℕ) (k : Known) (stage : Stage) → Live start planners log owner seat k → Live start planners log owner seat (posed k stage k.made)
live_staged start planners log owner seat k stage l = grind (arith, nat_tests, common_steps, gets)

pub set_at : {A : Type 0} (l : List A) (i : ℕ) (a b : A) → get_elem? l i ≡ some a → get_elem? (set l i b) i ≡ some b
set_at [] i a b e = absurd (some-ne-none a (sym e))
set_at (x ∷ xs) zero a b e = refl
set_at (x ∷ xs) (suc i) a b e = set_at xs i a b e

-- a pass goes on into a call
pub held_here : (vs : List Known) (id : ℕ) (k w : Known) → get_elem? vs id ≡ some k → IsBusy w.stage → IsWithinCall (set vs id w) id
held_here vs id k w at busy = (w, set_at vs id k w at, busy)

-- the pass that has the turn is still within its call
pub held_on : (vs : List Known) (id : ℕ) (k w : Known) (holder : ℕ) → get_elem? vs id ≡ some k → (IsBusy k.stage → IsBusy w.stage) → IsWithinCall vs holder → IsWithinCall (set vs id w) holder
held_on vs id k w holder at still h = dite (ℕ_discrete holder id)
    (λ is. let same : h.0 ≡ k = some-injective _ _ (sym h.1 ∙ (ap (get_elem? vs) is ∙ at)) in subst (IsWithinCall (set vs id w)) (sym is) (w, set_at vs id k w at, still (subst (λ (z : Known). IsBusy z.stage) same h.2)))
    (λ other. (h.0, set_else vs id holder w other ∙ h.1, h.2))

abbrev pub desk_or : DeskState → Option DeskState → DeskState
desk_or d (Some z) = z
desk_or d None = d

abbrev pub turn_of : St → ℕ
turn_of s = get_or s.words 1 0

-- what holds of the pass of a seat
abbrev pub Stays : (start : DeskState) (planners : ℕ) (log : List Entry) (turn : ℕ) (homes : Homes) (holder : ℕ) (owner : ℕ → ℕ) → ℕ → Known → Type 0
Stays start planners log turn homes holder owner j v = v.live ≡ true → Live start planners log owner j v × Stands start log turn homes holder j v.made v.stage

pub unmoved : (s : St) (r : Ruled s) (i id : ℕ) (cs : Carried) (k : Known) → get_elem? s.views id ≡ some k → Ruled (stepped s i (get_or s.words i 0) id cs k keeps)
unmoved s r i id cs k at = subst (λ (z : List ℕ × List Known). Ruled record { words = z.0; homes = s.homes; views = z.1 }) (λ c. (sym (set-get_or s.words i 0) c, sym (set_again s.views id k at) c)) r

-- the rule for a table after a step, from the same desk for as many planners
pub renewed : (s t : St) (r : Ruled s) (log : List Entry) (holder : ℕ) (owner : ℕ → ℕ) → length t.words ≡ 2 → length t.homes ≡ 1 → IsLegal r.start log → AreOfPlanners r.planners log
    → get_or t.words 0 0 ≡ version_at r.start log → (turn_of t ≡ 0 → get_elem? t.homes 0 ≡ some (some (Some (after r.start log)))) → (turn_of t ≢ 0 → IsWithinCall t.views holder)
    → ((j : ℕ) (k : Known) → get_elem? t.views j ≡ some k → Stays r.start r.planners log (turn_of t) t.homes holder owner j k) → Ruled t
renewed s t r log holder owner wide deep legal numbered count home held each =
    record { start = r.start; planners = r.planners; log = log; holder = holder; owner = owner; wide = wide; deep = deep; bounded = r.bounded; within = r.within; legal = legal; numbered = numbered; count = count; home = home; held = held; each = each }

-- the pass of a seat takes the turn, has it or gives it up, and the journal stays
pub turned : (s : St) (r : Ruled s) (id : ℕ) (k w : Known) (turn : ℕ) (homes : Homes) → get_elem? s.views id ≡ some k → length homes ≡ 1
    → (turn ≡ 0 → get_elem? homes 0 ≡ some (some (Some (after r.start r.log)))) → (turn ≢ 0 → IsBusy w.stage)
    → Live r.start r.planners r.log r.owner id w × Stands r.start r.log turn homes id id w.made w.stage → ((j : ℕ) → j ≢ id → j ≡ r.holder → turn_of s ≡ 1 → ⊥)
    → Ruled record { words = set s.words 1 turn; homes = homes; views = set s.views id w }
turned s r id k w turn homes at deep home busy mine away =
    let wide = r.wide in
    let is : get_or (set s.words 1 turn) 1 0 ≡ turn = get_or-set_same s.words 1 turn 0 (omega arith) in
    renewed s record { words = set s.words 1 turn; homes = homes; views = set s.views id w } r r.log id r.owner (length-set s.words 1 turn ∙ r.wide) deep r.legal r.numbered
    (get_or-set_other s.words 1 0 turn 0 (λ e. omega arith) ∙ r.count) (rw is home) (rw is (λ n. held_here s.views id k w at (busy n)))
    (rw is (each_stays (Stays r.start r.planners r.log turn homes id r.owner) s.views id w (λ _. mine)
    (λ j v other there alive. let h = r.each j v there alive in (h.0, rests r.start r.log (turn_of s) s.homes r.holder j r.log turn homes id v.made v.stage (away j other) h.1))))

pub found : (s : St) (r : Ruled s) (id : ℕ) (k : Known) → Live r.start r.planners r.log r.owner id k → ExtendsSeen (shown k) r.log
found s r id k l = record {
  seen = l.seen;
  floor = subst (λ (z : DeskState). k.floor ≤ version_at z r.log) (sym l.same) l.floor;
  legal = subst (λ (z : DeskState). IsLegal z r.log) (sym l.same) r.legal;
  within = subst (λ (z : DeskState). version_at z r.log ≤ z.limit) (sym l.same) (legal_within r.start r.log r.within r.legal);
  own = l.own;
  numbered = subst (λ (n : ℕ). AreOfPlanners n r.log) (sym l.shared) r.numbered;
  others = subst (All (λ (e : Entry). IsOfAnother (shown k) e.planner)) (sym (after_prefix k.made r.log l.seen)) (λ i d at. (
    none_own k.planner l.seen.0 (own_rest k.planner k.made r.log l.seen l.own) i d at,
    λ give. let none = (l.unused (get_or l.seen.0 i d).planner give).1 in
        none_own (get_or l.seen.0 i d).planner l.seen.0 (own_rest _ k.made r.log l.seen (none ∙ sym (own_none _ k.made r.log l.seen none))) i d at refl,
  ));
  past = All-weaker (IsPast r.start r.planners r.log r.owner id k) (HasJust r.log) (λ n p. p.whole) k.past l.past;
}

pub starts : (start : DeskState) (planners : ℕ) (unused : List Bool) → start.limit < 2 ^ 32 → length start.journal ≤ start.limit → 0 < planners → ((u : ℕ) → slice_index_or unused u false ≡ true → (u < planners) × (u ≢ 0))
    → Ruled (opening (length start.journal ∷ 1 ∷ []) (None ∷ []) (first_known start planners unused))
starts start planners unused bounded room any numbers = record {
  start = start;
  log = [];
  holder = 0;
  planners = planners;
  owner = λ _. 0;
  numbered = All-nil (λ (e : Entry). e.planner < planners);
  wide = refl;
  deep = refl;
  bounded = bounded;
  within = room;
  legal = tt;
  count = omega arith;
  home = λ z. absurd (omega arith);
  held = λ _. (first_known start planners unused, refl, tt);
  each = λ j k at alive. let w = first_known start planners unused in
      ⊎_elim (λ (t : (j ≡ 0) × (w ≡ k)). subst (λ (x : ℕ × Known). Live start planners [] (λ _. 0) x.0 x.1 × Stands start [] 1 (some None ∷ []) 0 x.0 x.1.made x.1.stage) (λ i. (sym t.0 i, t.1 i)) (
        record {
          same = refl;
          shared = refl;
          seen = ([], refl);
          floor = omega arith;
          number = (any, refl);
          own = refl;
          unused = λ u give. let n = numbers u give in ((n.0, n.1, refl), refl);
          past = All-nil (IsPast start planners [] (λ _. 0) 0 w);
        },
        (refl, refl, refl, refl),
      )) (λ (t : (j ≢ 0) × (get_elem? (w ∷ []) j ≡ some k)). absurd (beyond j k w t.0 t.1)) (at_set (w ∷ []) 0 j w k at);
}
  where
    beyond : (j : ℕ) (k w : Known) → j ≢ 0 → get_elem? (w ∷ []) j ≡ some k → ⊥
    beyond zero k w other e = other refl
    beyond (suc j) k w other e = some-ne-none k (sym e)
