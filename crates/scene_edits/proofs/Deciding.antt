-- Each fault of an edit can be looked for, and is there once at most.
use Rattle.std.proofs.Common.{◌≡◌, ℕ, ◌<◌, ◌≤◌, true, false, List, [], ◌∷◌, length, Option, Some, None, ◌⊎◌, inl, inr, refl, sym, ap, ◌∙◌, arith}
use Rattle.std.specs.Option.{is_some}
use Rattle.std.specs.List.{slice_get}
use Rattle.std.proofs.lemmas.Bool.{cases_lt}
use Rattle.std.proofs.lemmas.List.Elements.{All-cons, All-head, All-tail, All-nil}
use Rattle.std.proofs.lemmas.Option.{same_Some, none-some, gets}
use Rattle.std.proofs.lemmas.Bool.Decides.{nat_tests}
use Rattle.std.proofs.lemmas.Grind.{common_steps}
use Rattle.grid_cells.specs.Cell.{Point}
use Rattle.grid_cells.specs.Size.{Extent, Holds}
use Rattle.plan_table.specs.Path.{last_index}
use Rattle.plan_table.specs.Plans.{row_of}
use Rattle.plan_table.specs.Route.{is_cell}
use Rattle.plan_table.specs.declared.paths.TheConstants.{MOST_LAST_INDEX}
use Rattle.plan_table.proofs.Fleets.{true_or_not}
use Rattle.scene_edits.specs.Scene.{SceneState, AreIn, plan_of, start_of}
use Rattle.scene_edits.specs.Edited.{continued}
use Rattle.scene_edits.specs.Faults.{◌when◌, ◌otherwise◌, unknown, outside, too_long, jump}
use Rattle.scene_edits.specs.Laws.{OneFaultOrNone}
use Rattle.scene_edits.specs.declared.scenes.TheConstants.{MOST_AGENTS}
use Rattle.scene_edits.specs.declared.edits.Edit.TheVariants.{Add, Drop, Goal, Path, Tail, Open, Close}
use Rattle.scene_edits.specs.declared.edits.EditFault.{EditFault}
use Rattle.scene_edits.specs.declared.edits.EditFault.TheVariants.{UnknownAgent, AgentTaken, TooManyAgents, OutOfMap, EmptyPath, NotFromStart, NoSuchTime, NotAStep, TooLong}
use Rattle.scene_edits.proofs.PathsOf.{is_cell-same, is_cell-other}
use Rattle.scene_edits.proofs.Jumps.{jump_or_steps, one_first_jump, no_jump}

-- it holds or it doesn't
abbrev Decided : Type 0 → Type 0
Decided P = P ⊎ (P → ⊥)

-- there is no fault, or exactly one
abbrev AtMostOne : (EditFault → Type 0) → Type 0
AtMostOne P = ((fault : EditFault) → P fault → ⊥) ⊎ ((fault : EditFault) × P fault × ((other : EditFault) → P other → other ≡ fault))

one_when : (fault : EditFault) (P : Type 0) → Decided P → AtMostOne (fault when P)
one_when fault P (inl holds) = inr (fault, (refl, holds), λ other told. told.0)
one_when fault P (inr not) = inl (λ other told. not told.1)

one_otherwise : (first second : EditFault → Type 0) → AtMostOne first → AtMostOne second → AtMostOne (first otherwise second)
one_otherwise first second (inr (fault, told, one)) also = inr (fault, inl told, λ other t. elim t [ inl here ↦ one other here | inr later ↦ absurd (later.0 fault told) ])
one_otherwise first second (inl none) (inr (fault, told, one)) = inr (fault, inr (none, told), λ other t. elim t [ inl here ↦ absurd (none other here) | inr later ↦ one other later.1 ])
one_otherwise first second (inl none) (inl none_too) = inl (λ other t. elim t [ inl here ↦ none other here | inr later ↦ none_too other later.1 ])

less_or_not : (a b : ℕ) → Decided (a < b)
less_or_not a b = elim (cases_lt a b) [ inl less ↦ inl less | inr more ↦ inr (λ less. omega arith) ]

most_or_not : (a b : ℕ) → Decided (a ≤ b)
most_or_not a b = elim (cases_lt b a) [ inl less ↦ inr (λ most. omega arith) | inr most ↦ inl most ]

held_or_not : (size : Extent) (cell : Point) → Decided (Holds size cell)
held_or_not size cell = grind (arith, nat_tests, common_steps, gets)

pub in_or_not : (size : Extent) (cells : List Point) → Decided (AreIn size cells)
in_or_not size [] = inl (All-nil (Holds size))
in_or_not size (cell ∷ rest) =
    elim (held_or_not size cell) [
      | inl held ↦ elim (in_or_not size rest) [ inl all ↦ inl (All-cons (Holds size) cell rest held all) | inr not ↦ inr (λ all. not (All-tail (Holds size) cell rest all)) ]
      | inr not ↦ inr (λ all. not (All-head (Holds size) cell rest all))
    ]

not : {P : Type 0} → Decided P → Decided (P → ⊥)
not (inl holds) = inr (λ never. never holds)
not (inr never) = inl never

pub same_or_not : (a b : Option Point) → Decided (a ≡ b)
same_or_not None None = inl refl
same_or_not None (Some b) = inr (λ is. none-some b is)
same_or_not (Some a) None = inr (λ is. none-some a (sym is))
same_or_not (Some a) (Some b) =
    elim (is_cell (Some a) b) as (λ t. is_cell (Some a) b ≡ t → Decided (Some a ≡ Some b)) [
      | true ↦ λ pass. inl (ap Some (is_cell-same a b pass))
      | false ↦ λ fail. inr (λ is. is_cell-other a b fail (same_Some a b is))
    ] refl

none_or_not : {X : Type 0} (o : Option X) → Decided (o ≡ None)
none_or_not None = inl refl
none_or_not (Some x) = inr (λ is. none-some x (sym is))

empty_or_not : (cells : List Point) → Decided (cells ≡ [])
empty_or_not [] = inl refl
empty_or_not (cell ∷ rest) = inr (λ is. omega (arith, ap length is))

one_unknown : (scene : SceneState) (agent : ℕ) → AtMostOne (unknown scene agent)
one_unknown scene agent = one_when UnknownAgent _ (none_or_not (row_of scene.rows agent))

one_outside : (scene : SceneState) (cells : List Point) → AtMostOne (outside scene cells)
one_outside scene cells = one_when OutOfMap _ (not (in_or_not scene.grid.size cells))

one_too_long : (cells : List Point) → AtMostOne (too_long cells)
one_too_long cells = one_when TooLong _ (less_or_not MOST_LAST_INDEX (last_index cells))

one_jump : (cells : List Point) → AtMostOne (jump cells)
one_jump cells =
    elim (jump_or_steps cells) [
      | inl (at, first) ↦ inr (NotAStep at, (at, refl, first), λ other (b, is, also). is ∙ ap NotAStep (one_first_jump cells b at also first))
      | inr steps ↦ inl (λ other (b, is, also). no_jump cells steps b also)
    ]

pub one_fault_holds : OneFaultOrNone
one_fault_holds scene (Add agent start goal) =
    one_otherwise _ _ (one_when AgentTaken _ (true_or_not (is_some (row_of scene.rows agent))))
    (one_otherwise _ _ (one_when TooManyAgents _ (most_or_not MOST_AGENTS (length scene.rows))) (one_outside scene (start ∷ goal ∷ [])))
one_fault_holds scene (Drop agent) = one_unknown scene agent
one_fault_holds scene (Goal agent goal) = one_otherwise _ _ (one_unknown scene agent) (one_outside scene (goal ∷ []))
one_fault_holds scene (Path agent cells) =
    one_otherwise _ _ (one_unknown scene agent)
    (one_otherwise _ _ (one_outside scene cells)
    (one_otherwise _ _ (one_when EmptyPath _ (empty_or_not cells))
    (one_otherwise _ _ (one_when NotFromStart _ (not (same_or_not (slice_get cells 0) (start_of scene agent))))
    (one_otherwise _ _ (one_too_long cells) (one_jump cells)))))
one_fault_holds scene (Tail agent from cells) =
    let new = continued (plan_of scene agent) from cells in
    one_otherwise _ _ (one_unknown scene agent)
    (one_otherwise _ _ (one_outside scene cells)
    (one_otherwise _ _ (one_when NoSuchTime _ (less_or_not (last_index (plan_of scene agent)) from))
    (one_otherwise _ _ (one_too_long new) (one_jump new))))
one_fault_holds scene (Open cell) = one_outside scene (cell ∷ [])
one_fault_holds scene (Close cell) = one_outside scene (cell ∷ [])
