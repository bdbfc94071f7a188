use mathlib.Core.Bool.{false≢true}
use Rattle.std.proofs.Common.{ℕ, length, get_or, sym, ◌∙◌, arith, refl, subst, ◌≡◌, ◌≢◌, ◌<◌, get_or-set_same, get_or-set_other}
use Rattle.grid_cells.specs.Cell.{Point, point}
use Rattle.grid_cells.specs.Size.{Holds}
use Rattle.grid_cells.specs.Grid.{IsOpen, flag_index}
use Rattle.cell_queue.proofs.Indexes.{index_below}
use Rattle.goal_fields.specs.Marks.{far}
use Rattle.goal_fields.specs.declared.search.Search.{Search}
use Rattle.goal_fields.specs.Search.{IsSearching, mark_of}
use Rattle.goal_fields.proofs.SearchLemmas.{mark_read, IsRoom, room_of, mark_of-front, IsSearch-mark, IsReached-marked, kept}
use Rattle.goal_fields.proofs.search.Search.mark.Goals as goal

-- a cell has no mark where none was read
unmarked_at : (s : Search) (c : Point) (i x : ℕ) → IsSearching s → Holds s.grid.size c → i ≡ flag_index s.grid.size c → x ≡ get_or s.marks.items i x → x ≡ far → mark_of s c ≡ far
unmarked_at s c i x searching held is read none = sym (mark_read s c i x searching held is read) ∙ none

pub index-requires : goal.index-requires
index-requires c = omega (arith, c.requires.index, c.requires.searching.one_mark_each, index_below c.args.self.now.grid.size (point c.args.x c.args.y) c.requires.held)

pub index_mut-requires-then-is_open : goal.index_mut-requires-then-is_open
index_mut-requires-then-is_open c =
    let s = c.args.self.now in
    let cell = point c.args.x c.args.y in
    let unmarked = unmarked_at s cell c.args.index c.index.result.now c.requires.searching c.requires.held c.requires.index c.index.ensures c.if-index.false in
    let number : c.args.number < far = omega (arith, c.requires.next, mark_of-front s c.requires.searching c.requires.at_work) in
    let room : IsRoom s.grid.size s.marks.items s.tail c.args.number cell = room_of s.grid.size s.marks.items s.tail c.args.number cell c.requires.searching.one_mark_each c.requires.held unmarked number c.requires.searching.counted in
    omega (arith, room.room, c.requires.searching.one_slot_each)

pub returns-then-index-clause-reached : goal.returns-then-index-clause-reached
returns-then-index-clause-reached c =
    let s = c.args.self.now in
    let marked : mark_of s (point c.args.x c.args.y) ≢ far = λ e. c.if-index.true (mark_read s (point c.args.x c.args.y) c.args.index c.index.result.now
    c.requires.searching c.requires.held c.requires.index c.index.ensures ∙ e) in
    IsReached-marked s c.args.number (point c.args.x c.args.y) c.requires.searching c.requires.at_work c.requires.next marked

pub returns-then-is_open-clause-searching : goal.returns-then-is_open-clause-searching
returns-then-is_open-clause-searching c =
    let s = c.args.self.now in
    let cell = point c.args.x c.args.y in
    let unmarked = unmarked_at s cell c.args.index c.index.result.now c.requires.searching c.requires.held c.requires.index c.index.ensures c.if-index.false in
    let is : c.in-Some.cell ≡ cell = c.in-Some.ensures.1 in
    let open_cell : IsOpen s.grid cell = subst (λ (v : Point). IsOpen s.grid v) is (c.if-is_open.ensures.0 refl) in
    rw (c.requires.index, is) (IsSearch-mark s.grid s.goal s.marks.items s.queue.items s.head s.tail cell c.args.number c.requires.searching c.requires.at_work open_cell c.requires.adjacent c.requires.next unmarked)

pub returns-then-is_open-clause-goes_on : goal.returns-then-is_open-clause-goes_on
returns-then-is_open-clause-goes_on c =
    let s = c.args.self.now in
    let cell = point c.args.x c.args.y in
    let unmarked = unmarked_at s cell c.args.index c.index.result.now c.requires.searching c.requires.held c.requires.index c.index.ensures c.if-index.false in
    record {
      grid = refl;
      goal = refl;
      head = refl;
      tail = omega arith;
      slots = λ i h. get_or-set_other s.queue.items s.tail i c.in-Some.cell s.goal (λ e. absurd (omega (arith, e, h)));
      marks = λ v held below. rw c.requires.index (kept s.grid.size s.marks.items cell v c.args.number c.requires.searching.one_mark_each c.requires.held held unmarked below);
    }

pub returns-then-is_open-clause-reached : goal.returns-then-is_open-clause-reached
returns-then-is_open-clause-reached c _ =
    let marks = c.args.self.now.marks.items in
    let below = index_below c.args.self.now.grid.size (point c.args.x c.args.y) c.requires.held in
    let within : c.args.index < length marks = omega (arith, c.requires.index, c.requires.searching.one_mark_each, below) in
    rw (← c.requires.index, get_or-set_same marks c.args.index c.args.number 0 within) (omega arith)

pub returns-else-is_open-clause-reached : goal.returns-else-is_open-clause-reached
returns-else-is_open-clause-reached c open_cell =
    absurd (false≢true (c.if-is_open.ensures.1 (subst (λ (v : Point). IsOpen c.args.self.now.grid v) (sym c.in-Some.ensures.1) open_cell)))
