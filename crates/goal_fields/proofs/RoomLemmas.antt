-- The fields that distances are, and the room that is lent to them.
use Rattle.std.specs.Prelude.{All, IfSome, insert, remove}
use Rattle.std.specs.List.{AllZip}
use Rattle.std.proofs.lemmas.Bool.{cases_eq}
use Rattle.std.proofs.Common.{◌≡◌, ℕ, ◌<◌, ◌≤◌, ◌⊎◌, List, [], ◌∷◌, Option, Some, None, length, map, get_or, refl, sym, ap, subst, ◌∙◌, inl, inr, arith}
use Rattle.std.proofs.lemmas.List.{get_or-map}
use Rattle.std.proofs.lemmas.List.Elements.{length_all_zip}
use Rattle.std.proofs.lemmas.List.Edits.{length-insert}
use Rattle.std.proofs.Math.ListN.{length-map}
use Rattle.grid_cells.specs.Cell.{Point}
use Rattle.grid_cells.specs.Grid.{Chart}
use Rattle.cell_queue.specs.Queue.{area}
use Rattle.goal_fields.specs.declared.distances.Distances.{Distances}
use Rattle.goal_fields.specs.declared.lifelong.Lifelong.{Lifelong}
use Rattle.goal_fields.specs.Marks.{IsWhole}
use Rattle.goal_fields.specs.Target.{Standing, Covers}
use Rattle.goal_fields.specs.Changes.{IsRepaired}
use Rattle.goal_fields.specs.Rest.{IsRoomOn}
use Rattle.goal_fields.specs.Held.{StandFor}
use Rattle.goal_fields.specs.Standings.{AreAtRest, AreRepaired, standing_on, chart_in, standings, HaveRoom}
use Rattle.goal_fields.proofs.ListLemmas.{map-insert, map-remove, All-insert, All-remove}

-- what holds of each of some fields holds of one
of_one : (grid : Chart) (held : List Distances) (P : Standing → Type 0) → 0 < length held → All P (map (standing_on grid) held) → (one : Distances) × P (standing_on grid one)
of_one grid [] P some all = absurd (omega (arith, some))
of_one grid (x ∷ held) P some all = (x, all 0 (standing_on grid x) (omega arith))

-- distances are the same fields on one map, and where there are none
same_standings : (one other : Chart) (held : List Distances) → (length held ≡ 0) ⊎ (one ≡ other) → map (standing_on one) held ≡ map (standing_on other) held
same_standings one other held (inr e) = ap (λ (t : Chart). map (standing_on t) held) e
same_standings one other [] (inl none) = refl
same_standings one other (x ∷ held) (inl none) = absurd (omega (arith, none))

-- fields that stand for a grid are on the room's map
on_grid : (grid : Chart) (held : List Distances) (room : Option Lifelong) → HaveRoom held room → StandFor grid (standings room held) → (length held ≡ 0) ⊎ (chart_in room ≡ grid)
on_grid grid held None have stand = inl have
on_grid grid held (Some room) have stand = inr (of_one room.grid held (λ field. field.grid ≡ grid) have.0 stand).1

pub room_stands : (grid : Chart) (held : List Distances) (room : Option Lifelong) → HaveRoom held room → StandFor grid (standings room held) → IfSome room (IsRoomOn grid)
room_stands grid held None have stand = tt
room_stands grid held (Some room) have stand = subst (λ (t : Chart). IsRoomOn t room) (of_one room.grid held (λ field. field.grid ≡ grid) have.0 stand).1 have.1

-- and they are the distances on it
all_at_rest : (grid : Chart) (held : List Distances) (room : Option Lifelong) → HaveRoom held room → (length held ≡ 0) ⊎ (chart_in room ≡ grid) → All (AreAtRest grid) held
all_at_rest grid held room have (inl none) = λ k d h. absurd (omega (arith, none, h))
all_at_rest grid held None have (inr same) = λ k d h. absurd (omega (arith, have, h))
all_at_rest grid held (Some room) have (inr same) = subst (λ (t : Chart). All (AreAtRest t) held) same have.2

-- there are as many fields
pub standings-long : (room : Option Lifelong) (held : List Distances) → length (standings room held) ≡ length held
standings-long room held = rw length-map refl

-- one of them
pub standings-at : (room : Option Lifelong) (held : List Distances) (i : ℕ) (one : Distances) → i < length held → one ≡ get_or held i one → get_or (standings room held) i (standing_on (chart_in room) one) ≡ standing_on (chart_in room) one
standings-at room held i one h is = get_or-map (standing_on (chart_in room)) held i one (standing_on (chart_in room) one) h ∙ ap (standing_on (chart_in room)) (sym is)

-- one field more
module _ (grid : Chart) (held : List Distances) (old : Option Lifelong) (have : HaveRoom held old) (stand : StandFor grid (standings old held)) (one : Distances) (at : ℕ) (room : at ≤ length held) (now : Lifelong) (on : IsRoomOn grid now) where
  pub standings-insert : standings (Some now) (insert held at one) ≡ insert (standings old held) at (standing_on grid one)
  standings-insert =
      same_standings now.grid grid (insert held at one) (inr on.map) ∙ sym (map-insert (standing_on grid) held one at)
      ∙ ap (λ (fields : List Standing). insert fields at (standing_on grid one)) (sym (same_standings (chart_in old) grid held (on_grid grid held old have stand)))

  pub HaveRoom-insert : AreAtRest grid one → HaveRoom (insert held at one) (Some now)
  HaveRoom-insert here = (
    omega (arith, length-insert held at one room),
    subst (λ (t : Chart). IsRoomOn t now) (sym on.map) on,
    subst (λ (t : Chart). All (AreAtRest t) (insert held at one)) (sym on.map) (All-insert (AreAtRest grid) held one at room (all_at_rest grid held old have (on_grid grid held old have stand)) here),
  )

-- one field less
module _ (held : List Distances) (at : ℕ) (old new : Option Lifelong) (h : at < length held) (none : length (remove held at) ≡ 0 → new ≡ None) (some : 0 < length (remove held at) → new ≡ old) (have : HaveRoom held old) where
  pub standings-remove : standings new (remove held at) ≡ remove (standings old held) at
  standings-remove =
      let same : standings new (remove held at) ≡ standings old (remove held at) = elim (cases_eq (length (remove held at)) 0) [
        | inl e ↦ same_standings (chart_in new) (chart_in old) (remove held at) (inl e)
        | inr ne ↦ ap (λ (room : Option Lifelong). standings room (remove held at)) (some (omega arith))
      ] in
      same ∙ sym (map-remove (standing_on (chart_in old)) held at)

  pub HaveRoom-remove : HaveRoom (remove held at) new
  HaveRoom-remove = elim (cases_eq (length (remove held at)) 0) [
    | inl e ↦ rw (none e) e
    | inr ne ↦ rw (some (omega arith)) (rest old (omega arith) have)
  ]
    where
      rest : (room : Option Lifelong) → 0 < length (remove held at) → HaveRoom held room → HaveRoom (remove held at) room
      rest None left have = absurd (omega (arith, have, h))
      rest (Some room) left (_, on, all) = (left, on, All-remove (AreAtRest room.grid) held at h all)

-- the room, which is there, gets another map of that size, for all fields
module _ (held : List Distances) (inside : Option Lifelong) (room : Lifelong) (is : inside ≡ Some room) (kept : HaveRoom held inside) (grid : Chart) where
  have : HaveRoom held (Some room)
  have = subst (HaveRoom held) is kept

  pub AreAtRest-lent : All (AreAtRest room.grid) held
  AreAtRest-lent = have.2

  pub room_size : All (λ field. grid.size ≡ field.grid.size) (standings inside held) → grid.size ≡ room.grid.size
  room_size same = (of_one room.grid held (λ field. grid.size ≡ field.grid.size) have.0 (rw is at same)).1

  pub room_covered : (changed : List Point) → All (λ field. Covers changed field.grid grid) (standings inside held) → Covers changed room.grid grid
  room_covered changed covered = (of_one room.grid held (λ field. Covers changed field.grid grid) have.0 (rw is at covered)).1

  pub IsRoomOn-adopt : grid.size ≡ room.grid.size → IsWhole grid → IsRoomOn grid (record room { grid = grid })
  IsRoomOn-adopt size whole =
      let on = have.1 in
      record {
        map = refl;
        wide = rw size on.wide;
        whole = whole;
        idle = record { queue = on.idle.queue ∙ sym size; one_key_each = on.idle.one_key_each ∙ ap area (sym size); empty = on.idle.empty };
        counted = on.counted;
      }

  -- and they are repaired for it
  pub HaveRoom-repaired : (new : List Distances) (now : Lifelong) → AllZip (AreRepaired room.grid grid) held new → All (AreAtRest grid) new → IsRoomOn grid now → HaveRoom new (Some now)
  HaveRoom-repaired new now each rest on = (
    omega (arith, have.0, length_all_zip (AreRepaired room.grid grid) held new each),
    subst (λ (t : Chart). IsRoomOn t now) (sym on.map) on,
    subst (λ (t : Chart). All (AreAtRest t) new) (sym on.map) rest,
  )

  pub standings-repaired : (new : List Distances) (now : Lifelong) → AllZip (AreRepaired room.grid grid) held new → IsRoomOn grid now → AllZip (IsRepaired grid) (standings inside held) (standings (Some now) new)
  standings-repaired new now each on = rw (is, on.map) (go held new each)
    where
      go : (before after : List Distances) → AllZip (AreRepaired room.grid grid) before after → AllZip (IsRepaired grid) (map (standing_on room.grid) before) (map (standing_on grid) after)
      go [] [] all = all
      go [] (y ∷ after) all = absurd all
      go (x ∷ before) [] all = absurd all
      go (x ∷ before) (y ∷ after) all = (all.0, go before after all.1)
