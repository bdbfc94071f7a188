-- Two routes with the same position at each time are one route.
use Rattle.std.proofs.Common.{◌≡◌, ◌≢◌, ◌⊎◌, ℕ, ◌+◌, ◌<◌, ◌≤◌, Bool, true, false, Option, Some, None, List, length, inl, inr, refl, sym, ap, ◌∙◌, arith}
use Rattle.std.specs.Prelude.{IfNone, unwrap_or}
use Rattle.std.proofs.lemmas.Option.{gets}
use Rattle.std.proofs.lemmas.Bool.Decides.{nat_tests}
use Rattle.std.proofs.lemmas.Grind.{common_steps}
use Rattle.grid_cells.specs.Cell.{Point}
use Rattle.plan_table.specs.Path.{last_index, place, SamePlaces, IsPath}
use Rattle.plan_table.specs.Route.{Route, position}
use Rattle.plan_table.proofs.Fleets.{position_staying, position_gone}
use Rattle.scene_edits.specs.Since.{IsSince}
use Rattle.scene_edits.proofs.PathsOf.{paths-equal}

-- a path is somewhere at each time
place_some : (path : List Point) (time : ℕ) → 0 < length path → place path time ≢ None
place_some path time some none = grind (arith, nat_tests, common_steps, gets)

-- the one leaves only where the other does
leaves_too : (one two : Route) → 0 < length two.path → ((time : ℕ) → position one time ≡ position two time) → one.leaves ≡ true → two.leaves ≡ false → ⊥
leaves_too one two some same leaves stays =
    let late : ℕ = last_index one.path + 1 in
    place_some two.path late some (sym (position_staying two (λ l. cc) late) ∙ (sym (same late) ∙ position_gone one leaves late (omega arith)))

-- the same places, where both leave
same_leaving : (one two : Route) → 0 < length one.path → 0 < length two.path → ((time : ℕ) → position one time ≡ position two time) → one.leaves ≡ true → two.leaves ≡ true → (time : ℕ) → place one.path time ≡ place two.path time
same_leaving one two some_one some_two same leaves_one leaves_two time = grind (arith, nat_tests, common_steps, gets)

-- the same places, where both stay
same_staying : (one two : Route) → ((time : ℕ) → position one time ≡ position two time) → one.leaves ≡ false → two.leaves ≡ false → (time : ℕ) → place one.path time ≡ place two.path time
same_staying one two same stays_one stays_two time = sym (position_staying one (λ l. cc) time) ∙ (same time ∙ position_staying two (λ l. cc) time)

-- routes on paths with the same position at each time are one route
pub same_route : (one two : Route) → IsPath one.path → IsPath two.path → ((time : ℕ) → position one time ≡ position two time) → one ≡ two
same_route one two path_one path_two same = by_flags one.leaves two.leaves refl refl
  where
    some_one : 0 < length one.path
    some_one = path_one.walkable.some_cell

    some_two : 0 < length two.path
    some_two = path_two.walkable.some_cell

    together : one.leaves ≡ two.leaves → ((time : ℕ) → place one.path time ≡ place two.path time) → one ≡ two
    together leaves places =
        let paths : one.path ≡ two.path = paths-equal one.path two.path path_one path_two places in
        λ i. record { path = paths i; leaves = leaves i }

    by_flags : (a b : Bool) → one.leaves ≡ a → two.leaves ≡ b → one ≡ two
    by_flags true true a b = together (a ∙ sym b) (same_leaving one two some_one some_two same a b)
    by_flags false false a b = together (a ∙ sym b) (same_staying one two same a b)
    by_flags true false a b = absurd (leaves_too one two some_two same a b)
    by_flags false true a b = absurd (leaves_too two one some_one (λ t. sym (same t)) b a)

-- routes on paths that never differ are one route
pub never_apart : (one two : Route) → IsPath one.path → IsPath two.path → (since : Option ℕ) → IsSince one two since → IfNone since (one ≡ two)
never_apart one two path_one path_two None same = same_route one two path_one path_two same
never_apart one two path_one path_two (Some time) differ = tt

-- an agent on a route is gone for ever, or it is at its path's place
where_at : (route : Route) (time : ℕ) → ((position route time ≡ None) × ((later : ℕ) → time ≤ later → position route later ≡ None)) ⊎ (position route time ≡ place route.path time)
where_at route time = grind (arith, nat_tests, common_steps, gets)

-- below the time from which on routes on paths differ, or at every time where they never do, the paths are in the same cells
pub same_until : (one two : Route) → IsPath one.path → IsPath two.path → (since : Option ℕ) → IsSince one two since → (n : ℕ) → SamePlaces one.path two.path (unwrap_or since n)
same_until one two path_one path_two None same n time early = ap (λ (r : Route). place r.path time) (same_route one two path_one path_two same)
same_until one two path_one path_two (Some since) (apart, same) n time early =
    elim (where_at one time) [
      | inr here ↦ elim (where_at two time) [
        | inr there ↦ sym here ∙ same time early ∙ there
        | inl gone ↦ absurd (place_some one.path time path_one.walkable.some_cell (sym here ∙ same time early ∙ gone.0))
      ]
      | inl gone ↦ elim (where_at two time) [
        | inr there ↦ absurd (place_some two.path time path_two.walkable.some_cell (sym there ∙ sym (same time early) ∙ gone.0))
        | inl both ↦ absurd (apart (gone.1 since (omega arith) ∙ sym (both.1 since (omega arith))))
      ]
    ]
