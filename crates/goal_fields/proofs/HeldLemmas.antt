-- The fields of the goals that are held: looking up, putting in and taking out.
use Rattle.std.proofs.lemmas.Grind.{common_steps}
use Rattle.std.specs.Prelude.{slice_index, slice_index_or, All, insert, remove}
use Rattle.std.specs.Prelude.{Result, Ok, Err, MatchResult, IfErr}
use Rattle.std.proofs.Common.{nat_cmp}
use Rattle.std.specs.List.Sorted.{IsBinarySearchResult}
use Rattle.std.proofs.lemmas.List.Sorted.{searched}
use Rattle.std.specs.List.{AllZip}
use Rattle.std.proofs.Common.{◌≡◌, ℕ, zero, suc, ◌+◌, ◌-◌, ◌<◌, ◌≤◌, ◌⊎◌, List, [], ◌∷◌, length, map, get_or, refl, sym, ap, subst, ◌∙◌, inl, inr, arith}
use Rattle.std.proofs.Math.ListN.{length-map}
use Rattle.std.proofs.lemmas.Bool.{cases_eq}
use Rattle.std.proofs.lemmas.List.{get_or-map}
use Rattle.std.proofs.lemmas.List.Elements.{Contains-get_or, length_all_zip, AllZip-get_or}
use Rattle.std.proofs.lemmas.List.Edits.{length-insert, length-remove}
use Rattle.cell_queue.proofs.Indexes.{same_coordinates}
use Rattle.grid_cells.specs.Cell.{Point}
use Rattle.grid_cells.specs.Grid.{Chart}
use Rattle.grid_cells.specs.declared.sizes.TheConstants.{MOST_SIDE}
use Rattle.goal_fields.specs.Target.{Standing, IsSound}
use Rattle.goal_fields.specs.Changes.{IsRepaired}
use Rattle.goal_fields.specs.Held.{HasGoal, rank_of, RiseByGoal, SameButGoal, IsRising}
use Rattle.goal_fields.specs.Kept.{goal_rank, IsKept}
use Rattle.goal_fields.proofs.ListLemmas.{insert_cases, remove_cases, map-insert, map-remove, All-insert, All-remove, Contains-insert, Contains-inserted, Contains-remove, Contains-removed}

-- cells of one rank are the same
pub same_rank : (a b : Point) → a.x < MOST_SIDE → b.x < MOST_SIDE → rank_of a ≡ rank_of b → a ≡ b
same_rank a b ha hb e = grind (arith, same_coordinates a b)

pub IsKept-long : (ranks : List ℕ) (fields : List Standing) → IsKept ranks fields → length ranks ≡ length fields
IsKept-long ranks fields kept = ap (λ (xs : List ℕ). length xs) kept.ranked ∙ rw length-map refl

pub IsKept-at : (ranks : List ℕ) (fields : List Standing) → IsKept ranks fields → (k : ℕ) (d : Standing) → k < length fields → slice_index ranks k ≡ rank_of (slice_index_or fields k d).goal
IsKept-at ranks fields kept k d h = ap (λ (xs : List ℕ). slice_index xs k) kept.ranked ∙ get_or-map goal_rank fields k d 0 h

pub RiseByGoal-kept : (ranks : List ℕ) (fields : List Standing) → IsKept ranks fields → RiseByGoal fields
RiseByGoal-kept ranks fields kept i j d lt h =
    grind (arith, kept.rising i j 0, IsKept-long ranks fields kept, IsKept-at ranks fields kept i d, IsKept-at ranks fields kept j d)

-- the field at a place that was found
pub goal_at : (ranks : List ℕ) (fields : List Standing) (goal : Point) → IsKept ranks fields → goal.x < MOST_SIDE → (at : ℕ) (d : Standing) → at < length ranks → slice_index ranks at ≡ rank_of goal → (slice_index_or fields at d).goal ≡ goal
goal_at ranks fields goal kept narrow at d h e =
    let within : at < length fields = omega (arith, IsKept-long ranks fields kept) in
    same_rank (slice_index_or fields at d).goal goal (kept.bounded at d within).0 narrow (sym (IsKept-at ranks fields kept at d within) ∙ e)

-- a rank that isn't there
pub record IsGap (ranks : List ℕ) (rank at : ℕ) : Type 0 where
  pub room : at ≤ length ranks
  pub below : (k : ℕ) → k < at → slice_index ranks k < rank
  pub above : (k : ℕ) → at ≤ k → k < length ranks → rank < slice_index ranks k

pub IsGap-from : (xs ys : List ℕ) (r s at : ℕ) → ys ≡ xs → r ≡ s → at ≤ length ys → ((k : ℕ) → k < at → slice_index ys k < r) → ((k : ℕ) → at ≤ k → k < length ys → r < slice_index ys k) → IsGap xs s at
IsGap-from xs ys r s at same rank room below above =
    subst (λ (v : List ℕ). IsGap v s at) same (subst (λ (n : ℕ). IsGap ys n at) rank (record { room = room; below = below; above = above }))

-- what a search in numbers that rise answers
pub place_found : (xs : List ℕ) (x : ℕ) (r : Result ℕ ℕ) → IsBinarySearchResult (λ y. nat_cmp y x) xs r → IsRising xs →
    MatchResult r (λ i. (i < length xs) × (get_or xs i 0 ≡ x)) (λ i. (i ≤ length xs) × ((k : ℕ) → k < i → get_or xs k 0 < x) × ((k : ℕ) → i ≤ k → k < length xs → x < get_or xs k 0))
place_found xs x r searched_for rising = searched xs x r searched_for (λ i j le h. side i j h (cases_eq i j) le)
  where
    side : (i j : ℕ) → j < length xs → ((i ≡ j) ⊎ (i ≡ j → ⊥)) → i ≤ j → get_or xs i 0 ≤ get_or xs j 0
    side i j h (inl e) le = omega (arith, ap (λ (n : ℕ). get_or xs n 0) e)
    side i j h (inr ne) le = omega (arith, rising i j 0 (omega arith) h)

pub below_of : (xs : List ℕ) (x : ℕ) (r : Result ℕ ℕ) → IsBinarySearchResult (λ y. nat_cmp y x) xs r → IsRising xs → IfErr r (λ at. (k : ℕ) → k < at → slice_index xs k < x)
below_of xs x (Ok i) searched_for rising = tt
below_of xs x (Err i) searched_for rising = (place_found xs x (Err i) searched_for rising).1

pub above_of : (xs : List ℕ) (x : ℕ) (r : Result ℕ ℕ) → IsBinarySearchResult (λ y. nat_cmp y x) xs r → IsRising xs → IfErr r (λ at. (k : ℕ) → at ≤ k → k < length xs → x < slice_index xs k)
above_of xs x (Ok i) searched_for rising = tt
above_of xs x (Err i) searched_for rising = (place_found xs x (Err i) searched_for rising).2

pub HasGoal-gap : (ranks : List ℕ) (fields : List Standing) (goal : Point) (at : ℕ) → IsKept ranks fields → IsGap ranks (rank_of goal) at → HasGoal fields goal → ⊥
HasGoal-gap ranks fields goal at kept gap (field, (k, h, e), is) =
    grind (arith, IsKept-at ranks fields kept k field h, gap.below k, gap.above k, IsKept-long ranks fields kept)

rising_insert : (xs : List ℕ) (at r : ℕ) → IsRising xs → IsGap xs r at → IsRising (insert xs at r)
rising_insert xs at r rising gap i j d lt hj =
    let at_j = insert_cases xs at r j d gap.room hj in
    let long = length-insert xs at r gap.room in
    grind (arith, common_steps, at_j, insert_cases xs at r i d gap.room, rising i j d, rising i (j - 1) d, rising (i - 1) (j - 1) d, gap.above (j - 1), gap.below i, long)

rising_remove : (xs : List ℕ) (at : ℕ) → IsRising xs → at < length xs → IsRising (remove xs at)
rising_remove xs at rising h i j d lt hj =
    let at_j = remove_cases xs at j d h hj in
    grind (arith, common_steps, at_j, remove_cases xs at i d h, rising i j d, rising i (j + 1) d, rising (i + 1) (j + 1) d, length-remove xs at h)

-- one more field
pub IsKept-insert : (ranks : List ℕ) (fields : List Standing) (field : Standing) (at : ℕ) → IsKept ranks fields → IsGap ranks (goal_rank field) at → IsSound field → field.goal.x < MOST_SIDE → field.goal.y < MOST_SIDE → IsKept (insert ranks at (goal_rank field)) (insert fields at field)
IsKept-insert ranks fields field at kept gap sound column row =
    let room : at ≤ length fields = omega (arith, gap.room, IsKept-long ranks fields kept) in
    record {
      ranked = subst (λ (xs : List ℕ). insert xs at (goal_rank field) ≡ map goal_rank (insert fields at field)) (sym kept.ranked) (map-insert goal_rank fields field at);
      rising = rising_insert ranks at (goal_rank field) kept.rising gap;
      sound = All-insert IsSound fields field at room kept.sound sound;
      bounded = All-insert (λ f. (f.goal.x < MOST_SIDE) × (f.goal.y < MOST_SIDE)) fields field at room kept.bounded (column, row);
    }

-- one field less
pub IsKept-remove : (ranks : List ℕ) (fields : List Standing) (at : ℕ) → IsKept ranks fields → at < length ranks → IsKept (remove ranks at) (remove fields at)
IsKept-remove ranks fields at kept h =
    let within : at < length fields = omega (arith, IsKept-long ranks fields kept) in
    record {
      ranked = subst (λ (xs : List ℕ). remove xs at ≡ map goal_rank (remove fields at)) (sym kept.ranked) (map-remove goal_rank fields at);
      rising = rising_remove ranks at kept.rising h;
      sound = All-remove IsSound fields at within kept.sound;
      bounded = All-remove (λ f. (f.goal.x < MOST_SIDE) × (f.goal.y < MOST_SIDE)) fields at within kept.bounded;
    }

-- the fields of other goals after one was put in
pub SameButGoal-insert : (fields : List Standing) (field : Standing) (at : ℕ) → at ≤ length fields → SameButGoal fields (insert fields at field) field.goal
SameButGoal-insert fields field at room other ne = (
  (λ con. elim (Contains-insert fields at field other room con) [ inl e ↦ absurd (ne (ap (λ (f : Standing). f.goal) e)) | inr old ↦ old ]),
  (λ con. Contains-inserted fields at field other room con),
)

-- and after one was taken out
pub SameButGoal-remove : (fields : List Standing) (goal : Point) (at : ℕ) → at < length fields → ((d : Standing) → (slice_index_or fields at d).goal ≡ goal) → SameButGoal fields (remove fields at) goal
SameButGoal-remove fields goal at h is other ne = (
  (λ con. Contains-remove fields at other h con),
  (λ con. Contains-removed fields at other h (λ e. ne (sym (ap (λ (f : Standing). f.goal) e) ∙ is other)) con),
)

pub HasGoal-remove : (ranks : List ℕ) (fields : List Standing) (goal : Point) (at : ℕ) → IsKept ranks fields → at < length ranks → slice_index ranks at ≡ rank_of goal → HasGoal (remove fields at) goal → ⊥
HasGoal-remove ranks fields goal at kept h is (field, (k, hk, e), same_goal) =
    let long = IsKept-long ranks fields kept in
    let at_k = remove_cases fields at k field (omega (arith, long)) hk in
    grind (arith, at_k, IsKept-at ranks fields kept k field, IsKept-at ranks fields kept (k + 1) field, kept.rising k at 0, kept.rising at (k + 1) 0)

-- a number that is one of those that rise is no less than its place
rising-le : (xs : List ℕ) → IsRising xs → (k : ℕ) → k < length xs → k ≤ slice_index xs k
rising-le xs rising zero h = omega arith
rising-le xs rising (suc k) h = omega (arith, rising-le xs rising k (omega arith), rising k (suc k) 0 (omega arith) h)

-- there are no more fields than cells on the greatest square
pub IsKept-few : (ranks : List ℕ) (fields : List Standing) → IsKept ranks fields → length fields ≤ 4194304
IsKept-few ranks [] kept = omega arith
IsKept-few ranks (d ∷ xs) kept =
    let top : ℕ = length (d ∷ xs) - 1 in
    let last : top < length (d ∷ xs) = omega arith in
    let long = IsKept-long ranks (d ∷ xs) kept in
    omega (arith, rising-le ranks kept.rising top (omega (arith, long)), long, IsKept-at ranks (d ∷ xs) kept top d last, kept.bounded top d last)

-- after a repair of each
pub IsKept-repaired : (ranks : List ℕ) (old new : List Standing) (grid : Chart) → IsKept ranks old → AllZip (IsRepaired grid) old new → IsKept ranks new
IsKept-repaired ranks old new grid kept all =
    record {
      ranked = kept.ranked ∙ same old new all;
      rising = kept.rising;
      sound = λ k d h. (AllZip-get_or (IsRepaired grid) old new k d d all (omega (arith, length_all_zip (IsRepaired grid) old new all))).sound;
      bounded = bound old new all kept.bounded;
    }
  where
    same : (old new : List Standing) → AllZip (IsRepaired grid) old new → map goal_rank old ≡ map goal_rank new
    same [] [] all = refl
    same [] (y ∷ new) all = absurd all
    same (x ∷ old) [] all = absurd all
    same (x ∷ old) (y ∷ new) all = ap (λ (r : ℕ). r ∷ map goal_rank old) (ap rank_of (sym all.0.goal)) ∙ ap (λ (rs : List ℕ). goal_rank y ∷ rs) (same old new all.1)

    bound : (old new : List Standing) → AllZip (IsRepaired grid) old new → All (λ field. (field.goal.x < MOST_SIDE) × (field.goal.y < MOST_SIDE)) old → All (λ field. (field.goal.x < MOST_SIDE) × (field.goal.y < MOST_SIDE)) new
    bound old new all b k d h =
        let long : length old ≡ length new = length_all_zip (IsRepaired grid) old new all in
        let goal : (slice_index_or new k d).goal ≡ (slice_index_or old k d).goal = (AllZip-get_or (IsRepaired grid) old new k d d all (omega arith)).goal in
        rw goal (b k d (omega arith))

-- a rank that stands there is of a goal that is held
pub HasGoal-at : (ranks : List ℕ) (fields : List Standing) (goal : Point) (at : ℕ) → IsKept ranks fields → goal.x < MOST_SIDE → at < length ranks → slice_index ranks at ≡ rank_of goal → HasGoal fields goal
HasGoal-at ranks [] goal at kept narrow h is = absurd (omega (arith, IsKept-long ranks [] kept))
HasGoal-at ranks (d ∷ xs) goal at kept narrow h is =
    (get_or (d ∷ xs) at d, Contains-get_or (d ∷ xs) at d (omega (arith, IsKept-long ranks (d ∷ xs) kept)), goal_at ranks (d ∷ xs) goal kept narrow at d h is)
