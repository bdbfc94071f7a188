-- What is kept for agents while changes are taken back gives their former rows.
use Rattle.std.proofs.Common.{◌≡◌, ℕ, ◌<◌, List, All, map, length, get_or, Option, Some, None, refl, sym, ap, subst, ◌∙◌, arith}
use Rattle.std.specs.List.{AllPairs, Contains}
use Rattle.std.specs.Option.{option_map_or}
use Rattle.std.specs.Ordering.{nat_cmp}
use Rattle.std.specs.BTreeMap.{BTreeMap, get, keys, IsOrdered}
use Rattle.std.proofs.lemmas.Cmp.{nat_cmp_total}
use Rattle.std.proofs.lemmas.List.{get_or-map, length-map}
use Rattle.std.proofs.lemmas.List.Elements.{All-contains, All-map, All-weaker}
use Rattle.std.proofs.lemmas.Map.Keys.{below_from_sorted}
use Rattle.std.proofs.lemmas.Map.Lookups.{exact_unsigned}
use Rattle.std.proofs.lemmas.Map.Views.{All-found, btree_map_get_iff}
use Rattle.plan_table.specs.Plans.{row_of}
use Rattle.plan_table.specs.declared.plans.Row.{Row}
use Rattle.scene_edits.specs.Scene.{SceneState, IsScene}
use Rattle.scene_edits.specs.InOrder.{edited_all, AreAllowed, AreChanges}
use Rattle.scene_edits.specs.declared.edits.Edit.{Edit}
use Rattle.scene_edits.specs.declared.changes.Change.{Change}
use Rattle.scene_edits.specs.Formers.{former_past, former_of, AreFormers}
use Rattle.scene_edits.specs.Kept.{kept_past, past_known, present, before_changes}
use Rattle.scene_edits.specs.declared.named_agents.Former.{Former}
use Rattle.scene_edits.specs.declared.taking_back.Kept.{Kept}
use Rattle.scene_edits.proofs.RowsBefore.{IsPast, is_present, all_back}

known_some : (kept : Kept) (table : List (ℕ × Row)) (agent : ℕ) (found : Option Kept) → found ≡ Some kept → option_map_or kept_past found (present (row_of table agent)) ≡ kept_past kept
known_some kept table agent found is = ap (λ o. option_map_or kept_past o (present (row_of table agent))) is

-- the agents rise as the keys do

rises : (rows : BTreeMap ℕ Kept) → IsOrdered nat_cmp rows → AllPairs (λ (a b : Former). a.agent < b.agent) (map former_of rows.entries)
rises rows ordered i j d lt within =
    let many : length (map former_of rows.entries) ≡ length rows.entries = length-map rows.entries former_of in
    let key : ℕ × Kept → ℕ = λ e. e.0 in
    let keyed : length (keys rows) ≡ length rows.entries = length-map rows.entries key in
    let less : get_or (keys rows) i 0 < get_or (keys rows) j 0 = below_from_sorted (keys rows) i j 0 ordered lt (omega arith) in
    let e : ℕ × Kept = (0, record { goal = d.goal; alike = d.alike; plan = d.plan }) in
    let first_key : get_or (keys rows) i 0 ≡ (get_or rows.entries i e).0 = get_or-map key rows.entries i e 0 (omega arith) in
    let second_key : get_or (keys rows) j 0 ≡ (get_or rows.entries j e).0 = get_or-map key rows.entries j e 0 (omega arith) in
    let first : (get_or (map former_of rows.entries) i d).agent ≡ (get_or rows.entries i e).0 = ap (λ (f : Former). f.agent) (get_or-map former_of rows.entries i e d (omega arith)) in
    let second : (get_or (map former_of rows.entries) j d).agent ≡ (get_or rows.entries j e).0 = ap (λ (f : Former). f.agent) (get_or-map former_of rows.entries j e d (omega arith)) in
    omega arith

Contains-map : {X Y : Type 0} (f : X → Y) (xs : List X) (x : X) → Contains xs x → Contains (map f xs) (f x)
Contains-map f xs x (k, within, is) = (k, omega (arith, length-map xs f), get_or-map f xs k x (f x) within ∙ ap f is)

pub formers_hold : (before : SceneState) (edits : List Edit) (changes : List Change) (table : List (ℕ × Row)) (rows : BTreeMap ℕ Kept) (formers : List Former) → IsScene before → AreAllowed before edits → AreChanges before edits changes → (edited_all before edits).rows ≡ table → IsOrdered nat_cmp rows → ((agent : ℕ) → past_known rows table agent ≡ before_changes changes agent (present (row_of table agent))) → formers ≡ map former_of rows.entries → AreFormers before.rows table formers
formers_hold before edits changes table rows formers is_scene allowed are is ordered known listed =
    let past : (agent : ℕ) → IsPast (row_of before.rows agent) (row_of table agent) (past_known rows table agent) = λ agent.
    rw (known agent) (subst (λ (t : List (ℕ × Row)). IsPast (row_of before.rows agent) (row_of t agent) (before_changes changes agent (present (row_of t agent)))) is (all_back before edits changes is_scene allowed are agent)) in
    let Was : Former → Type 0 = λ f. IsPast (row_of before.rows f.agent) (row_of table f.agent) (former_past f) in
    let all : All Was (map former_of rows.entries) = All-map Was former_of rows.entries
    (All-weaker (λ (e : ℕ × Kept). get nat_cmp rows e.0 ≡ Some e.1) (λ (e : ℕ × Kept). Was (former_of e)) (λ e here. subst (IsPast (row_of before.rows e.0) (row_of table e.0)) (known_some e.1 table e.0 (get nat_cmp rows e.0) here) (past e.0)) rows.entries (All-found nat_cmp_total rows ordered)) in
    subst (AreFormers before.rows table) (sym listed) (record {
      rising = rises rows ordered;
      was = λ former there. sym (All-contains Was (map former_of rows.entries) former all there).row;
      alike = λ former there. (All-contains Was (map former_of rows.entries) former all there).alike;
      others = λ agent absent.
          elim (get nat_cmp rows agent) as (λ o. get nat_cmp rows agent ≡ o → row_of before.rows agent ≡ row_of table agent) [
            | None ↦ λ none. sym (rw none at (past agent)).row ∙ (is_present (row_of table agent)).row
            | Some kept ↦ λ some. absurd (absent (former_of (agent, kept)) (Contains-map former_of rows.entries (agent, kept) ((btree_map_get_iff nat_cmp_total exact_unsigned rows ordered agent kept).0 some)) refl)
          ] refl;
    })
