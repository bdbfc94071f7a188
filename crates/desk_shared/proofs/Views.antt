-- Steps on the views of passes keep the rule of the table.
use Rattle.std.specs.Prelude.{All}
use Rattle.std.proofs.lemmas.List.Elements.{All-nil, All-cons, All-append, All-weaker}
use Rattle.std.proofs.Common.{◌≡◌, ◌≢◌, ℕ, zero, suc, ◌<◌, Bool, true, false, true≢false, List, [], ◌∷◌, ◌++◌, length, get_or, set, refl, sym, ap, ◌∙◌, subst, ⊎_elim, arith, Option, length-set, get_or-set_other}
use Rattle.std.proofs.lemmas.Bool.Decides.{nat_tests}
use Rattle.std.proofs.lemmas.Grind.{common_steps}
use Rattle.std.proofs.lemmas.Option.{gets}
use mathlib.Core.Logic.{dite}
use mathlib.Core.Option.{none, some}
use native.Mathlib.Decide.{ℕ_discrete}
use lib.ListN.{get_elem?}
use lib.Seq.{set-get_or}
use Rattle.atomic_table.specs.Table.{State, step, keeps, Allows, Splits, Joins}
use Rattle.atomic_table.proofs.Lists.{set_else, at_longer}
use Rattle.desk_commits.specs.Entries.{Entry}
use Rattle.desk_commits.specs.State.{DeskState}
use Rattle.desk_shared.specs.declared.board.Known.{Known}
use Rattle.desk_shared.specs.declared.board.Stage.TheVariants.{Idle}
use Rattle.desk_shared.specs.Passes.{own_of, version_at, MayGive, AreOfPlanners, HasJust}
use Rattle.desk_shared.specs.Turns.{shown, Stands, IsPast, Live, IsBusy, IsWithinCall, Ruled, posed, floored, fronted, asided, joined, giver, given, both, nobody}
use Rattle.desk_shared.specs.Numbers.{first_true}
use Rattle.desk_shared.proofs.Beginnings.{prefix_longer, own_none, own_between, All-prefix}
use Rattle.desk_shared.proofs.Unused.{either_at, blank, put, put_here, put_else, moved, moved_here, moved_else, at_end}
use Rattle.desk_shared.proofs.Kept.{Carried, Stays, turn_of, each_stays, held_on, unmoved, found, live_staged, renewed}

-- the same pass, where its numbers stay its own
live_owned : (start : DeskState) (planners : ℕ) (log : List Entry) (owner owner' : ℕ → ℕ) (seat : ℕ) (k : Known) → ((u : ℕ) → owner u ≡ seat → owner' u ≡ seat) → Live start planners log owner seat k → Live start planners log owner' seat k
live_owned start planners log owner owner' seat k stays l = grind (arith, nat_tests, common_steps, gets)

-- the same pass, where it has read the length of the journal
live_floored : (start : DeskState) (planners : ℕ) (log : List Entry) (owner : ℕ → ℕ) (seat : ℕ) (k : Known) (n : ℕ) → n ≡ version_at start log → Live start planners log owner seat k → Live start planners log owner seat (floored k n)
live_floored start planners log owner seat k n is l = grind (arith, nat_tests, common_steps, gets)

-- a step on no word and no slot, after which the passes are these
viewed : (s : State (Option DeskState) Known) (r : Ruled s) (owner : ℕ → ℕ) (views : List Known) → ((j : ℕ) (k : Known) → get_elem? views j ≡ some k → Stays r.start r.planners r.log (turn_of s) s.homes r.holder owner j k)
    → (IsWithinCall s.views r.holder → IsWithinCall views r.holder) → Ruled record { words = s.words; homes = s.homes; views = views }
viewed s r owner views each held =
    renewed s record { words = s.words; homes = s.homes; views = views } r r.log r.holder owner r.wide r.deep r.legal r.numbered r.count r.home (λ z. held (r.held z)) each

-- the same at a load of the word i
loaded : (s : State (Option DeskState) Known) (r : Ruled s) (i id : ℕ) (k w : Known) → get_elem? s.views id ≡ some k → (IsBusy k.stage → IsBusy w.stage)
    → Stays r.start r.planners r.log (turn_of s) s.homes r.holder r.owner id w → Ruled record { words = set s.words i (get_or s.words i 0); homes = s.homes; views = set s.views id w }
loaded s r i id k w at busy mine = subst (λ (ws : List ℕ). Ruled record { words = ws; homes = s.homes; views = set s.views id w }) (sym (set-get_or s.words i 0))
    (viewed s r r.owner (set s.views id w) (each_stays (Stays r.start r.planners r.log (turn_of s) s.homes r.holder r.owner) s.views id w mine (λ j v _ there. r.each j v there)) (held_on s.views id k w r.holder at busy))

pub fronts : (slots id : ℕ) (k : Known) (cs : Carried) → k.live ≡ true → Allows Ruled slots id (k, cs) 0 (λ n. n) (fronted (step slots 0 0 0 none) (k, cs))
fronts slots id k cs live s r deep at small =
    let n : ℕ = get_or s.words 0 0 in
    let (mine, stands) = r.each id k at live in
    let count = r.count in (
      floored k n,
      keeps,
      tt,
      loaded s r 0 id k (floored k n) at (λ b. b) (λ _. (live_floored r.start r.planners r.log r.owner id k n r.count mine, stands)),
      ((r.log, found s r id k mine, count ∙ ap (λ (z : DeskState). version_at z r.log) (sym mine.same)), refl),
    )

pub asides : (slots id : ℕ) (k : Known) (cs : Carried) → k.live ≡ true → Allows Ruled slots id (k, cs) 0 (λ n. n) (asided (step slots 0 0 0 none) (k, cs))
asides slots id k cs live s r deep at small = let mine = (r.each id k at live).0 in
    (k, keeps, tt, unmoved s r 0 id cs k at, ((λ u give. let m = mine.unused u give in (m.0.1, own_none u k.made r.log mine.seen m.1)), refl))

pub compares : (slots id : ℕ) (k : Known) (cs : Carried) → k.live ≡ true → (IsBusy k.stage → ⊥) → Allows Ruled slots id (k, cs) 0 (λ n. n) (joined (step slots 0 0 0 none) (k, cs))
compares slots id k cs live busy s r deep at small =
    let w : Known = posed k Idle k.made in
    let (mine, stands) = r.each id k at live in (
      w,
      keeps,
      tt,
      loaded s r 0 id k w at (λ b. absurd (busy b)) (λ _. (live_staged r.start r.planners r.log r.owner id k Idle mine, tt)),
      λ a b p q o is. let h = subst (Stands r.start r.log (turn_of s) s.homes r.holder id k.made) is stands in (
        (h.0, h.1, h.2, h.3, h.4 ∙ sym mine.same),
        subst (λ (n : ℕ). AreOfPlanners n k.made) (sym mine.shared) (All-prefix (λ (e : Entry). e.planner < r.planners) k.made r.log mine.seen r.numbered),
        All-weaker (IsPast r.start r.planners r.log r.owner id k) (HasJust k.made) (λ z p. p.seen) k.past mine.past,
        All-weaker (IsPast r.start r.planners r.log r.owner id k) (λ z. z.0 ≢ k.planner) (λ z p. p.beside.1) k.past mine.past,
        refl,
      ),
    )

pub splits : (id : ℕ) (k : Known) → k.live ≡ true → MayGive (shown k) (first_true k.unused) → Splits Ruled id k (giver k) (given k)
splits id k live may s r at =
    let n : ℕ = first_true k.unused in
    let (mine, stands) = r.each id k at live in
    let lent = mine.unused n may in
    let new : ℕ = length s.views in
    let owner' : ℕ → ℕ = put r.owner n new in
    let vs : List Known = set s.views id (giver k) in
    let K : ℕ → Known → Type 0 = Stays r.start r.planners r.log (turn_of s) s.homes r.holder owner' in
    let long : length vs ≡ new = length-set s.views id (giver k) in
    let kept : (u : ℕ) → MayGive (shown (giver k)) u → (u ≢ n) × MayGive (shown k) u = λ u give. dite (ℕ_discrete u n)
    (λ is. absurd (true≢false (sym give ∙ off k.unused n u is)))
    (λ other. (other, sym (get_or-set_other k.unused n u false false other) ∙ give)) in
    let giver_lives : K id (giver k) = λ _. (
      record {
        same = mine.same;
        shared = mine.shared;
        seen = mine.seen;
        floor = mine.floor;
        number = (mine.number.0, put_else r.owner n new k.planner (λ e. lent.0.1 (sym e)) ∙ mine.number.1);
        own = mine.own;
        unused = λ u give. let h = kept u give in let m = mine.unused u h.1 in ((m.0.0, m.0.1, put_else r.owner n new u h.0 ∙ m.0.2), m.1);
        past = All-weaker (IsPast r.start r.planners r.log r.owner id k) (IsPast r.start r.planners r.log owner' id (giver k)) (λ z p. record {
          beside = (p.beside.0, p.beside.1, put_else r.owner n new z.0 (λ e. p.kept (subst (MayGive (shown k)) (sym e) may)) ∙ p.beside.2);
          kept = λ give. p.kept (kept z.0 give).1;
          whole = p.whole;
          seen = p.seen;
        }) k.past mine.past;
      },
      stands,
    ) in
    let given_lives : (j : ℕ) → j ≡ new → K j (given k) = λ j is _. (
      record {
        same = mine.same;
        shared = mine.shared;
        seen = mine.seen;
        floor = mine.floor;
        number = (lent.0.0, put_here r.owner n new ∙ sym is);
        own = lent.1 ∙ sym (own_none n k.made r.log mine.seen lent.1);
        unused = λ u give. absurd (true≢false (sym give ∙ blank 256 u));
        past = All-nil (IsPast r.start r.planners r.log owner' j (given k));
      },
      tt,
    ) in
    let others : (j : ℕ) (v : Known) → j ≢ id → get_elem? s.views j ≡ some v → K j v = λ j v other there alive. let h = r.each j v there alive in
    (live_owned r.start r.planners r.log r.owner owner' j v (λ u by. put_else r.owner n new u (λ e. other (sym by ∙ (ap r.owner e ∙ lent.0.2))) ∙ by) h.0, h.1) in
    viewed s r owner' (vs ++ given k ∷ []) (λ j v there. ⊎_elim (each_stays K s.views id (giver k) giver_lives others j v)
    (λ (t : (given k ≡ v) × (j ≡ length vs)). subst (K j) t.0 (given_lives j (t.1 ∙ long))) (at_end vs (given k) v j there))
    (λ h. let on = held_on s.views id k (giver k) r.holder at (λ b. b) h in (on.0, at_longer vs (given k ∷ []) r.holder on.0 on.1, on.2))
  where
    off : (bs : List Bool) (n u : ℕ) → u ≡ n → get_or (set bs n false) u false ≡ false
    off [] n u e = refl
    off (b ∷ bs) zero zero e = refl
    off (b ∷ bs) zero (suc u) e = absurd (omega arith)
    off (b ∷ bs) (suc n) zero e = absurd (omega arith)
    off (b ∷ bs) (suc n) (suc u) e = off bs n u (omega arith)

pub joins : (id : ℕ) (k : Known) (other : ℕ) (l : Known) → k.live ≡ true → l.live ≡ true → k.stage ≡ Idle → l.stage ≡ Idle → Joins Ruled id k other l (both k l) nobody
joins id k other l live live' idle idle' s r at apart there =
    let w : Known = both k l in
    let vs : List Known = set s.views id w in
    let mine = (r.each id k at live).0 in
    let there' : get_elem? s.views other ≡ some l = sym (set_else s.views id other w apart) ∙ there in
    let theirs = (r.each other l there' live').0 in
    let owner' : ℕ → ℕ = moved r.owner other id in
    let K : ℕ → Known → Type 0 = λ j v. j ≢ other → Stays r.start r.planners r.log (turn_of s) s.homes r.holder owner' j v in
    let three = prefix_longer k.made l.made r.log mine.seen theirs.seen in
    let stays : (u j : ℕ) → j ≢ other → r.owner u ≡ j → owner' u ≡ j = λ u j not by. moved_else r.owner other id u (λ e. not (sym by ∙ e)) ∙ by in
    let not : id ≢ other = λ e. apart (sym e) in
    let unlike : (u : ℕ) → r.owner u ≡ other → u ≢ k.planner = λ u by e. apart (sym by ∙ (ap r.owner e ∙ mine.number.1)) in
    let ungiven : (u : ℕ) → (MayGive (shown k) u → ⊥) → (MayGive (shown l) u → ⊥) → MayGive (shown w) u → ⊥ = λ u a b give. ⊎_elim a b (either_at k.unused l.unused u give) in
    let own_k : own_of k.planner w.made ≡ own_of k.planner k.made = own_between k.planner k.made w.made r.log three.0 three.2 mine.own in
    let own_l : own_of l.planner w.made ≡ own_of l.planner l.made = own_between l.planner l.made w.made r.log three.1 three.2 theirs.own in
    let floor = mine.floor in
    let floor' = theirs.floor in
    let P : ℕ × List Entry → Type 0 = IsPast r.start r.planners r.log owner' id w in
    let new_past : All P w.past = All-append P k.past ((l.planner, own_of l.planner l.made) ∷ l.past)
    (All-weaker (IsPast r.start r.planners r.log r.owner id k) P (λ z p. record {
      beside = (p.beside.0, p.beside.1, stays z.0 id not p.beside.2);
      kept = ungiven z.0 p.kept (λ give. not (sym p.beside.2 ∙ (theirs.unused z.0 give).0.2));
      whole = p.whole;
      seen = own_between z.0 k.made w.made r.log three.0 three.2 (p.whole ∙ sym p.seen) ∙ p.seen;
    }) k.past mine.past)
    (All-cons P (l.planner, own_of l.planner l.made) l.past (record {
      beside = (theirs.number.0, unlike l.planner theirs.number.1, moved_here r.owner other id l.planner theirs.number.1);
      kept = ungiven l.planner (λ give. not (sym (mine.unused l.planner give).0.2 ∙ theirs.number.1)) (λ give. (theirs.unused l.planner give).0.1 refl);
      whole = theirs.own;
      seen = own_l;
    })
    (All-weaker (IsPast r.start r.planners r.log r.owner other l) P (λ z p. record {
      beside = (p.beside.0, unlike z.0 p.beside.2, moved_here r.owner other id z.0 p.beside.2);
      kept = ungiven z.0 (λ give. not (sym (mine.unused z.0 give).0.2 ∙ p.beside.2)) p.kept;
      whole = p.whole;
      seen = own_between z.0 l.made w.made r.log three.1 three.2 (p.whole ∙ sym p.seen) ∙ p.seen;
    }) l.past theirs.past)) in
    let both_live : K id w = λ _ _. (
      record {
        same = mine.same;
        shared = mine.shared;
        seen = three.2;
        floor = omega arith;
        number = (mine.number.0, stays k.planner id not mine.number.1);
        own = mine.own ∙ sym own_k;
        unused = λ u give. ⊎_elim (λ (a : MayGive (shown k) u). let m = mine.unused u a in ((m.0.0, m.0.1, stays u id not m.0.2), m.1))
            (λ (b : MayGive (shown l) u). let m = theirs.unused u b in ((m.0.0, unlike u m.0.2, moved_here r.owner other id u m.0.2), m.1)) (either_at k.unused l.unused u give);
        past = new_past;
      },
      (three.0, three.1, own_k, own_l, theirs.same),
    ) in
    let others : (j : ℕ) (v : Known) → j ≢ id → get_elem? s.views j ≡ some v → K j v = λ j v _ at' not' alive. let h = r.each j v at' alive in
    (live_owned r.start r.planners r.log r.owner owner' j v (λ u by. stays u j not' by) h.0, h.1) in
    viewed s r owner' (set vs other nobody) (each_stays (Stays r.start r.planners r.log (turn_of s) s.homes r.holder owner') vs other nobody (λ alive. absurd (true≢false (sym alive)))
    (λ j v not' at'. each_stays K s.views id w both_live others j v at' not'))
    (λ h. held_on vs other l nobody r.holder there (λ b. absurd (subst IsBusy idle' b)) (held_on s.views id k w r.holder at (λ b. absurd (subst IsBusy idle b)) h))
