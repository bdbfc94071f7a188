-- Each step of a turn keeps the rule of the table.
use Rattle.std.proofs.lemmas.List.Elements.{All-push, All-weaker}
use Rattle.std.proofs.Common.{◌≡◌, ◌≢◌, ℕ, ◌+◌, ◌%◌, ◌^◌, ◌<◌, eqb, true, List, [], ◌∷◌, ◌++◌, get_or, set, refl, sym, ap, ◌∙◌, subst, arith, Option, Some, None, length-set, length-append, get_or-set_other, get_or-set_same}
use mathlib.Core.Option.{none, some}
use mathlib.Core.List.{IsPrefix}
use prog.Atomic.{either}
use Rattle.atomic_table.specs.Table.{Me, rest, step, Act, keeps, takes, gives, stepped, carried_after, Valid, Allows}
use Rattle.atomic_table.proofs.Lists.{set_here, exchanged}
use Rattle.desk_commits.specs.Entries.{Entry}
use Rattle.desk_commits.specs.State.{DeskState, grown, after}
use Rattle.desk_commits.specs.Commits.{Accepts}
use Rattle.desk_commits.proofs.Replaying.{after-push, IsLegal-push}
use Rattle.desk_shared.proofs.Journals.{limit_after, version_after, since_after}
use Rattle.desk_shared.specs.declared.board.Known.{Known}
use Rattle.desk_shared.specs.declared.board.Stage.TheVariants.{Making, Idle, Holding}
use Rattle.desk_shared.specs.Passes.{own_of, version_at}
use Rattle.desk_shared.specs.Turns.{since, Stands, IsPast, Live, Ruled, posed, reached, won, grew, freed, IsDeskSeen, IsNextDesk}
use Rattle.desk_shared.proofs.Beginnings.{prefix_self, prefix_more, own_of-other}
use Rattle.desk_shared.proofs.Kept.{Carried, each_stays, rests, live_posed, live_staged, held_here, desk_or, turn_of, Stays, unmoved, renewed, turned, found}

abbrev in_hand : DeskState → Carried → DeskState
in_hand d [] = d
in_hand d (x ∷ xs) = desk_or d x.1

pub wins : (slots id : ℕ) (k : Known) (cs : Carried) → k.live ≡ true → Allows Ruled slots id (k, cs) 1 (λ n. either (eqb n 0) 1 n) (won (step slots 1 0 1 none) (k, cs))
wins slots id k cs live s r deep at small =
    let n : ℕ = turn_of s in
    let mine = (r.each id k at live).0 in
    exchanged n 0 1 (λ x. (w : Known) × (a : Act (Option DeskState)) × Valid s.homes cs a × Ruled (stepped s 1 x id cs w a) × won (step slots 1 0 1 none) (k, cs) n (w, carried_after cs a))
    (λ free. let w : Known = posed k Holding r.log in let d : Option DeskState = Some (after k.start r.log) in (
      w,
      takes 0 d,
      r.home free ∙ ap (λ (z : DeskState). some (some (Some (after z r.log)))) (sym mine.same),
      turned s r id k w 1 (set s.homes 0 none) at (length-set s.homes 0 none ∙ r.deep) (λ z. absurd (omega arith)) (λ _. tt)
          (live_posed r.start r.planners r.log r.owner id k Holding mine, (refl, refl, refl)) (λ _ _ _ held. omega arith),
      ((λ _. (found s r id k mine, refl)), λ held. absurd (held free)),
    ))
    (λ held. (k, keeps, tt, unmoved s r 1 id cs k at, ((λ free. absurd (held free)), λ _. refl)))

-- what is in hand, as an access to the slot asks it
pub carries : (m m' : Me (Option DeskState) Known) (d : Option DeskState) (cs : Carried) → m ≡ m' → m'.1 ≡ (0, d) ∷ cs → (old : Option DeskState) × (m.1 ≡ (0, old) ∷ rest m.1)
carries m m' d cs is has = let e : m.1 ≡ (0, d) ∷ cs = ap (λ (z : Me (Option DeskState) Known). z.1) is ∙ has in (d, e ∙ ap (λ (l : Carried). (0, d) ∷ rest l) (sym e))

pub reaches : (slots id : ℕ) (k : Known) (cs : Carried) → k.live ≡ true → k.stage ≡ Making → Allows Ruled slots id (k, cs) 1 (λ n. n) (reached (step slots 1 0 0 none) (k, cs))
reaches slots id k cs live making s r deep at small =
    let n : ℕ = turn_of s in
    let (mine, stands) = r.each id k at live in
    let h : Stands r.start r.log n s.homes r.holder id k.made Making = subst (Stands r.start r.log n s.homes r.holder id k.made) making stands in
    let held : n ≡ 1 = h.1 in
    let w : Known = posed k Holding k.made in (
      w,
      takes 0 None,
      h.3,
      subst (λ (turn : ℕ). Ruled record { words = set s.words 1 turn; homes = set s.homes 0 none; views = set s.views id w }) (sym held)
          (turned s r id k w 1 (set s.homes 0 none) at (length-set s.homes 0 none ∙ r.deep) (λ z. absurd (omega arith)) (λ _. tt)
          (live_staged r.start r.planners r.log r.owner id k Holding mine, (refl, refl, h.2)) (λ _ other is _. other (is ∙ sym h.0))),
      refl,
    )

pub frees : (slots id : ℕ) (k : Known) (d : DeskState) → k.live ≡ true → k.stage ≡ Holding → IsDeskSeen k d
    → Allows Ruled slots id (k, (0, Some d) ∷ []) 1 (λ _. 0) (λ _. freed (step slots 1 0 0 none) (k, (0, Some d) ∷ []) 0)
frees slots id k d live holding is s r deep at small =
    let n : ℕ = turn_of s in
    let (mine, stands) = r.each id k at live in
    let h : Stands r.start r.log n s.homes r.holder id k.made Holding = subst (Stands r.start r.log n s.homes r.holder id k.made) holding stands in
    let held : n ≡ 1 = h.1 in
    let w : Known = posed k Idle k.made in
    let deep = r.deep in
    let there : d ≡ after r.start r.log = is ∙ (λ c. after (mine.same c) (h.2 c)) in (
      w,
      gives,
      tt,
      turned s r id k w 0 (set s.homes 0 (some (Some d))) at (length-set s.homes 0 (some (Some d)) ∙ r.deep)
          (λ _. set_here s.homes 0 (some (Some d)) (omega arith) ∙ ap (λ (z : DeskState). some (some (Some z))) there) (λ z. absurd (z refl))
          (live_staged r.start r.planners r.log r.owner id k Idle mine, tt) (λ _ other is _. other (is ∙ sym h.0)),
      refl,
    )

pub since_next : (k : Known) (e : Entry) → since k.start (grown (after k.start k.made) e) ≡ k.made ++ e ∷ []
since_next k e = ap (since k.start) (sym (after-push k.start k.made e)) ∙ since_after k.start (k.made ++ e ∷ [])

-- the same pass, where another adds an entry
live_more : (start : DeskState) (planners : ℕ) (log : List Entry) (owner : ℕ → ℕ) (seat by : ℕ) (e : Entry) (k : Known)
    → seat ≢ by → owner e.planner ≡ by → Live start planners log owner seat k → Live start planners (log ++ e ∷ []) owner seat k
live_more start planners log owner seat by e k other is_by l =
    let floor = l.floor in
    let longer = length-append log (e ∷ []) in
    let apart : (u : ℕ) → owner u ≡ seat → e.planner ≢ u = λ u mine is. other (sym mine ∙ (ap owner (sym is) ∙ is_by)) in record {
      same = l.same;
      shared = l.shared;
      seen = prefix_more k.made log (e ∷ []) l.seen;
      floor = omega arith;
      number = l.number;
      own = own_of-other k.planner log e (apart k.planner l.number.1) ∙ l.own;
      unused = λ u give. let m = l.unused u give in (m.0, own_of-other u log e (apart u m.0.2) ∙ m.1);
      past = All-weaker (IsPast start planners log owner seat k) (IsPast start planners (log ++ e ∷ []) owner seat k)
          (λ n p. record { beside = p.beside; kept = p.kept; whole = own_of-other n.0 log e (apart n.0 p.beside.2) ∙ p.whole; seen = p.seen }) k.past l.past;
    }

pub grows : (slots id : ℕ) (k : Known) (d : DeskState) → k.live ≡ true → k.stage ≡ Holding → IsNextDesk k d
    → Allows Ruled slots id (k, (0, Some d) ∷ []) 0 (λ n. (n + 1) % 2 ^ 64) (grew (step slots 0 1 0 none) (k, (0, Some d) ∷ []))
grows slots id k d live holding next s r deep at small =
    let n : ℕ = turn_of s in
    let (mine, stands) = r.each id k at live in
    let h : Stands r.start r.log n s.homes r.holder id k.made Holding = subst (Stands r.start r.log n s.homes r.holder id k.made) holding stands in
    let held : n ≡ 1 = h.1 in
    let e : Entry = next.0 in
    let log' : List Entry = r.log ++ e ∷ [] in
    let made' : List Entry = since k.start d in
    let w : Known = posed k Holding made' in
    let is_made : made' ≡ log' = ap (since k.start) next.3 ∙ (since_next k e ∙ ap (λ (z : List Entry). z ++ e ∷ []) h.2) in
    let may : Accepts (after r.start r.log) e = subst (λ (z : DeskState). Accepts z e) (λ c. after (mine.same c) (h.2 c)) next.1 in
    let room = may.current.in_order.room in
    let as_long = version_after r.start r.log in
    let as_limited = limit_after r.start r.log in
    let bound = r.bounded in
    let count = r.count in
    let wide = r.wide in
    let longer = length-append r.log (e ∷ []) in
    let c' : ℕ = (get_or s.words 0 0 + 1) % 2 ^ 64 in
    let fits : get_or s.words 0 0 + 1 < 2 ^ 64 = omega arith in
    let is_count : c' ≡ version_at r.start log' = omega arith in
    let turn' : ℕ = get_or (set s.words 0 c') 1 0 in
    let still : turn' ≡ n = get_or-set_other s.words 0 1 c' 0 (λ e. omega arith) in (
      w,
      keeps,
      tt,
      renewed s record { words = set s.words 0 c'; homes = s.homes; views = set s.views id w } r log' id r.owner (length-set s.words 0 c' ∙ r.wide) r.deep (IsLegal-push r.start r.log e r.legal may)
          (All-push (λ (z : Entry). z.planner < r.planners) r.log e r.numbered (subst (λ (z : ℕ). z < r.planners) (sym next.2) mine.number.0)) (get_or-set_same s.words 0 c' 0 (omega arith) ∙ is_count)
          (λ z. absurd (omega arith)) (λ _. held_here s.views id k w at tt)
          (each_stays (Stays r.start r.planners log' turn' s.homes id r.owner) s.views id w
          (λ _. let floor = mine.floor in let apart : (u : ℕ) → u ≢ k.planner → own_of u log' ≡ own_of u r.log = λ u not. own_of-other u r.log e (λ z. not (sym z ∙ next.2)) in (
            record {
              same = mine.same;
              shared = mine.shared;
              seen = subst (λ (z : List Entry). IsPrefix z log') (sym is_made) (prefix_self log');
              floor = omega arith;
              number = mine.number;
              own = ap (own_of k.planner) (sym is_made);
              unused = λ u give. let m = mine.unused u give in (m.0, apart u m.0.1 ∙ m.1);
              past = All-weaker (IsPast r.start r.planners r.log r.owner id k) (IsPast r.start r.planners log' r.owner id w)
                  (λ n p. let whole = apart n.0 p.beside.1 ∙ p.whole in record { beside = p.beside; kept = p.kept; whole = whole; seen = ap (own_of n.0) is_made ∙ whole }) k.past mine.past;
            },
            (refl, still ∙ held, is_made),
          ))
          (λ j v other at' alive. let h' = r.each j v at' alive in (
            live_more r.start r.planners r.log r.owner j id e v other (ap r.owner next.2 ∙ mine.number.1) h'.0,
            rests r.start r.log n s.homes r.holder j log' turn' s.homes id v.made v.stage (λ is _. other (is ∙ sym h.0)) h'.1,
          ))),
      λ z same. let is' : d ≡ z = ap (in_hand d) same in λ i. (posed k Holding (since k.start (is' i)), (0, Some d) ∷ []),
    )

-- the desk with one entry more is that of what the pass has then seen
pub next_at : (k : Known) (d : DeskState) → IsNextDesk k d → d ≡ after k.start (since k.start d)
next_at k d next = next.3 ∙ (sym (after-push k.start k.made next.0) ∙ ap (after k.start) (sym (ap (since k.start) next.3 ∙ since_next k next.0)))
