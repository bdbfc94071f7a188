-- The rule of the table that passes share, and what each step on it tells (this project's choice).
-- Word 0 is the length of the journal, word 1 is 1 while a pass has the turn, and slot 0 is the desk's place.
use Rattle.std.specs.Prelude.{◌≡◌, ◌≢◌, ℕ, max, replicate, slice_set, ◌^◌, ◌<◌, ◌≤◌, Bool, true, false, List, [], ◌∷◌, ◌++◌, length, drop, slice_index, Option, Some, None, All}
use mathlib.Core.Option.{some}
use mathlib.Core.Option as maybe
use mathlib.Core.List.{IsPrefix}
use lib.ListN.{get_elem?}
use Rattle.atomic_table.specs.Table.{State, Me, Step}
use Rattle.atomic_table.specs.Seated.{TableId}
use Rattle.atomic_table.specs.declared.shared.Seat.{Seat}
use Rattle.plan_table.specs.declared.tracks.Mode.TheVariants.{Stay}
use Rattle.desk_commits.specs.Entries.{Entry}
use Rattle.desk_commits.specs.State.{DeskState, opening, version_of, grown, after}
use Rattle.desk_commits.specs.Commits.{Accepts}
use Rattle.desk_commits.specs.Replays.{IsLegal}
use Rattle.desk_shared.specs.declared.board.Known.{Known}
use Rattle.desk_shared.specs.declared.board.Stage.{Stage}
use Rattle.desk_shared.specs.declared.board.Stage.TheVariants.{Making, Idle, Holding, Joined}
use Rattle.desk_shared.specs.Passes.{PassState, own_of, version_at, MayGive, AreOfPlanners, HasJust, ExtendsSeen}
use Rattle.desk_shared.specs.Calls.{either_of}
use Rattle.desk_shared.specs.Numbers.{first_true}

-- what callers see of what a pass knows
abbrev pub shown : Known → PassState
shown pass = record { start = pass.start; planners = pass.planners; made = pass.made; floor = pass.floor; planner = pass.planner; unused = pass.unused; past = pass.past }

-- the entries of the desk made since it was shared
abbrev pub since : DeskState → DeskState → List Entry
since start desk = drop (version_of start) desk.journal

module _ (start : DeskState) (log : List Entry) (turn : ℕ) (homes : List (maybe.Option (Option DeskState))) (holder seat : ℕ) where
  -- what holds while a pass is within a call: where it has the turn it has seen the whole journal, and after a join it has seen what both had
  abbrev pub Stands : List Entry → Stage → Type 0
  Stands made Idle = Unit {0}
  Stands made Making = (seat ≡ holder) × (turn ≡ 1) × (made ≡ log) × (get_elem? homes 0 ≡ some (some None))
  Stands made Holding = (seat ≡ holder) × (turn ≡ 1) × (made ≡ log)
  Stands made (Joined seen others planner other first) = IsPrefix seen made × IsPrefix others made × (own_of planner made ≡ own_of planner seen) × (own_of other made ≡ own_of other others) × (first ≡ start)

module _ (start : DeskState) (planners : ℕ) (log : List Entry) (owner : ℕ → ℕ) (seat : ℕ) (pass : Known) where
  -- a number of the desk that belongs to the pass of the seat, besides its own
  abbrev pub IsBeside : ℕ → Type 0
  IsBeside number = (number < planners) × (number ≢ pass.planner) × (owner number ≡ seat)

  -- the number of a pass that was joined into this one: the journal has the entries that it had then, and no others
  pub record IsPast (numbered : ℕ × List Entry) : Type 0 where
    pub beside : IsBeside numbered.0
    pub kept : MayGive (shown pass) numbered.0 → ⊥
    pub whole : HasJust log numbered
    pub seen : HasJust pass.made numbered

  -- what holds of a pass that isn't spent: what it has seen begins the journal, which has no more entries of its own, none of a number that it may give away, and no more of a pass that was joined into it
  pub record Live : Type 0 where
    pub same : pass.start ≡ start
    pub shared : pass.planners ≡ planners
    pub seen : IsPrefix pass.made log
    pub floor : pass.floor ≤ version_at start log
    pub number : (pass.planner < planners) × (owner pass.planner ≡ seat)
    pub own : own_of pass.planner log ≡ own_of pass.planner pass.made
    pub unused : (number : ℕ) → MayGive (shown pass) number → IsBeside number × (own_of number log ≡ [])
    pub past : All IsPast pass.past

-- a pass that is within a call, and may have the turn
abbrev pub IsBusy : Stage → Type 0
IsBusy Making = Unit {0}
IsBusy Idle = ⊥
IsBusy Holding = Unit {0}
IsBusy (Joined seen others planner other first) = ⊥

-- the pass of the seat is within a call
abbrev pub IsWithinCall : List Known → ℕ → Type 0
IsWithinCall passes seat = (pass : Known) × (get_elem? passes seat ≡ some pass) × IsBusy pass.stage

-- There is one legal journal from the desk as it was shared. The count is its length, and a desk at home has it. What each pass has seen begins it. Each entry is of one of the desk's planners, each number belongs to one pass, and is of no entry where it isn't given yet. A joined pass's number has for ever the entries that it had then. One pass at most has the turn, and only while it is within a call
pub record Ruled (table : State (Option DeskState) Known) : Type 0 where
  pub start : DeskState
  pub planners : ℕ
  pub log : List Entry
  pub holder : ℕ
  pub owner : ℕ → ℕ
  pub wide : length table.words ≡ 2
  pub deep : length table.homes ≡ 1
  pub bounded : start.limit < 2 ^ 32
  pub within : version_of start ≤ start.limit
  pub legal : IsLegal start log
  pub numbered : AreOfPlanners planners log
  pub count : slice_index table.words 0 ≡ version_at start log
  pub home : slice_index table.words 1 ≡ 0 → get_elem? table.homes 0 ≡ some (some (Some (after start log)))
  pub held : slice_index table.words 1 ≢ 0 → IsWithinCall table.views holder
  pub each : (seat : ℕ) (pass : Known) → get_elem? table.views seat ≡ some pass → pass.live ≡ true → Live start planners log owner seat pass × Stands start log (slice_index table.words 1) table.homes holder seat pass.made pass.stage

-- a pass, and the slots that it has taken
abbrev Hand : Type 0
Hand = Me (Option DeskState) Known

-- an idle pass of that planner, with those numbers to give away
abbrev pub IsIdlePass : Hand → ℕ → List Bool → Type 0
IsIdlePass hand planner unused =
    (hand.1 ≡ []) × (hand.0.stage ≡ Idle) × (hand.0.live ≡ true) × (hand.0.planner ≡ planner) × (hand.0.unused ≡ unused)

abbrev OneStep : Type 0
OneStep = Step (Option DeskState)

-- the first pass, while the table is made
abbrev pub first_known : DeskState → ℕ → List Bool → Known
first_known start planners unused = record { live = true; stage = Making; start = start; planners = planners; made = []; floor = 0; planner = 0; unused = unused; past = [] }

-- the pass at another stage, and with other entries seen
abbrev pub posed : Known → Stage → List Entry → Known
posed pass stage made = record { live = pass.live; stage = stage; start = pass.start; planners = pass.planners; made = made; floor = pass.floor; planner = pass.planner; unused = pass.unused; past = pass.past }

-- the pass with this floor
abbrev pub floored : Known → ℕ → Known
floored pass floor = record { live = pass.live; stage = pass.stage; start = pass.start; planners = pass.planners; made = pass.made; floor = floor; planner = pass.planner; unused = pass.unused; past = pass.past }

-- the pass has read the length of a journal
abbrev pub fronted : OneStep → Hand → ℕ → Hand → Type 0
fronted step old count new = ((made : List Entry) × ExtendsSeen (shown old.0) made × (count ≡ version_at old.0.start made)) × (new ≡ (floored old.0 count, old.1))

-- the numbers that the pass may give away are of no entry that it has seen
abbrev pub Unspent : Known → Type 0
Unspent pass = (number : ℕ) → MayGive (shown pass) number → (number ≢ pass.planner) × (own_of number pass.made ≡ [])

-- the pass has set a number aside
abbrev pub asided : OneStep → Hand → ℕ → Hand → Type 0
asided step old count new = Unspent old.0 × (new ≡ old)

-- the pass without its least number
abbrev pub giver : Known → Known
giver pass = record { live = pass.live; stage = pass.stage; start = pass.start; planners = pass.planners; made = pass.made; floor = pass.floor; planner = pass.planner; unused = slice_set pass.unused (first_true pass.unused) false; past = pass.past }

-- the pass that gets the number
abbrev pub given : Known → Known
given pass = record { live = true; stage = Idle; start = pass.start; planners = pass.planners; made = pass.made; floor = pass.floor; planner = first_true pass.unused; unused = replicate 256 false; past = [] }

-- the longer of two lists, where one begins the other
abbrev pub longer : {A : Type 0} → List A → List A → List A
longer [] ys = ys
longer (x ∷ xs) [] = x ∷ xs
longer (x ∷ xs) (y ∷ ys) = x ∷ longer xs ys

-- two passes as one
abbrev pub both : Known → Known → Known
both pass other = record { live = pass.live; stage = Joined pass.made other.made pass.planner other.planner other.start; start = pass.start; planners = pass.planners; made = longer pass.made other.made; floor = max pass.floor other.floor; planner = pass.planner; unused = either_of pass.unused other.unused; past = pass.past ++ (other.planner, own_of other.planner other.made) ∷ other.past }

-- what is left of a joined pass
abbrev pub nobody : Known
nobody = record { live = false; stage = Idle; start = opening (record { grid = record { size = record { width = 0; height = 0 }; flags = [] }; rows = []; mode = Stay }) 0; planners = 0; made = []; floor = 0; planner = 0; unused = []; past = [] }

-- what both passes had seen begins what the one has seen
abbrev pub joined : OneStep → Hand → ℕ → Hand → Type 0
joined step old count new = (seen others : List Entry) (planner other : ℕ) (first : DeskState) → old.0.stage ≡ Joined seen others planner other first
    → (IsPrefix seen old.0.made × IsPrefix others old.0.made × (own_of planner old.0.made ≡ own_of planner seen) × (own_of other old.0.made ≡ own_of other others) × (first ≡ old.0.start)) × AreOfPlanners old.0.planners old.0.made × All (HasJust old.0.made) old.0.past × All (λ numbered. numbered.0 ≢ old.0.planner) old.0.past × (new ≡ (posed old.0 Idle old.0.made, old.1))

-- the first pass takes the empty slot
abbrev pub reached : OneStep → Hand → ℕ → Hand → Type 0
reached step old turn new = new ≡ (posed old.0 Holding old.0.made, (0, None) ∷ old.1)

-- the turn is won where it was free, and the desk is in hand
abbrev pub won : OneStep → Hand → ℕ → Hand → Type 0
won step old turn new = (turn ≡ 0 → ExtendsSeen (shown old.0) new.0.made × (new ≡ (posed old.0 Holding new.0.made, (0, Some (after old.0.start new.0.made)) ∷ old.1))) × (turn ≢ 0 → new ≡ old)

-- the journal of the desk in hand is the journal
abbrev pub grew : OneStep → Hand → ℕ → Hand → Type 0
grew step old count new = (desk : DeskState) → old.1 ≡ (0, Some desk) ∷ [] → new ≡ (posed old.0 Holding (since old.0.start desk), old.1)

-- the desk is at home, and the turn is free
abbrev pub freed : OneStep → Hand → ℕ → Hand → Type 0
freed step old turn new = new ≡ (posed old.0 Idle old.0.made, [])

-- a table of two words and a slot
abbrev pub IsSized : TableId → Type 0
IsSized table = (table.words ≡ 2) × (table.slots ≡ 1)

-- what lies before a pass may ask for the turn
abbrev pub IsResting : Seat (Option DeskState) Known → Type 0
IsResting seat = (seat.me.1 ≡ []) × (seat.me.0.live ≡ true)

-- the pass has the turn, and the desk was taken out of its slot
abbrev pub HasTurn : Seat (Option DeskState) Known → Type 0
HasTurn seat = (seat.me.0.live ≡ true) × (seat.me.0.stage ≡ Holding) × (seat.me.1 ≡ (0, None) ∷ [])

-- the pass is still of the same table, at the same place
abbrev pub IsSameSeat : Seat (Option DeskState) Known → Seat (Option DeskState) Known → Type 0
IsSameSeat old new = (new.table_id ≡ old.table_id) × (new.id ≡ old.id)

-- the desk is that of what the pass has seen
abbrev pub IsDeskSeen : Known → DeskState → Type 0
IsDeskSeen pass desk = desk ≡ after pass.start pass.made

-- the desk has one entry more, of the pass's own
abbrev pub IsNextDesk : Known → DeskState → Type 0
IsNextDesk pass desk = (entry : Entry) × Accepts (after pass.start pass.made) entry × (entry.planner ≡ pass.planner) × (desk ≡ grown (after pass.start pass.made) entry)
