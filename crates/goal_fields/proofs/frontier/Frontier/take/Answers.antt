use Rattle.std.proofs.Common.{◌≡◌, ◌+◌, ◌<◌, ◌∙◌, ℕ, length, slice_index, arith, refl, sym, ap}
use Rattle.std.specs.Prelude.{sum_by}
use Rattle.std.proofs.Math.ListN.{set}
use Rattle.std.proofs.lemmas.List.{get_or_read}
use Rattle.grid_cells.specs.Size.{Holds}
use Rattle.grid_cells.specs.Grid.{Chart, flag_index}
use Rattle.goal_fields.specs.Marks.{mark_at}
use Rattle.goal_fields.specs.AStar.{GathersCells, left_undone}
use Rattle.goal_fields.proofs.AStarLemmas.{Holds-front, IsSeeking-pass, IsSeeking-done, undone-done}
use Rattle.goal_fields.proofs.frontier.Frontier.take.Goals as goal

pub place_of-place-requires : goal.place_of-place-requires
place_of-place-requires c =
    let s = c.args.self.now in
    Holds-front s.grid c.args.ends.now s.stamps.items s.base s.away s.now.items s.next.items c.args.front c.requires.seeking

pub returns-then-index-self-clause-seeking : goal.returns-then-index-self-clause-seeking
returns-then-index-self-clause-seeking c =
    let s = c.args.self.now in
    let within : c.place_of-place.result < length s.stamps.items = omega (arith, c.place_of-place.ensures.bound, c.requires.seeking.stamped.one_stamp_each) in
    let read : c.index.result.now ≡ mark_at s.grid.size s.stamps.items c.args.front = get_or_read s.stamps.items c.place_of-place.result c.index.result.now within c.index.ensures 0 ∙ ap (λ (n : ℕ). slice_index s.stamps.items n) c.place_of-place.ensures.is in
    IsSeeking-pass s.grid c.args.ends.now s.stamps.items s.base s.away s.now.items s.next.items c.args.front
    (Holds-front s.grid c.args.ends.now s.stamps.items s.base s.away s.now.items s.next.items c.args.front c.requires.seeking) (omega (arith, read, c.if-index-self.true)) c.requires.seeking

pub returns-clause-seeking : goal.returns-clause-seeking
returns-clause-seeking c =
    let s = c.args.self.now in
    let t = c.expand.new.self in
    let goes : GathersCells s t = c.in_ok-expand.ensures.gathers in
    let within : c.place_of-place.result < length s.stamps.items = omega (arith, c.place_of-place.ensures.bound, c.requires.seeking.stamped.one_stamp_each) in
    let read : c.index.result.now ≡ mark_at s.grid.size s.stamps.items c.args.front = get_or_read s.stamps.items c.place_of-place.result c.index.result.now within c.index.ensures 0 ∙ ap (λ (n : ℕ). slice_index s.stamps.items n) c.place_of-place.ensures.is in
    let place : c.place_of-place.result ≡ flag_index t.grid.size c.args.front = c.place_of-place.ensures.is ∙ ap (λ (g : Chart). flag_index g.size c.args.front) (sym goes.grid) in
    let lower : mark_at s.grid.size s.stamps.items c.args.front < s.base = omega (arith, read, c.if-index-self.false) in
    let undone_front : mark_at t.grid.size t.stamps.items c.args.front < t.base = rw (goes.grid, goes.stamps, goes.base) lower in
    let held : Holds t.grid.size c.args.front = Holds-front t.grid c.args.ends.now t.stamps.items t.base t.away t.now.items t.next.items c.args.front c.in_ok-expand.ensures.seeking in
    rw place (IsSeeking-done t.grid c.args.ends.now t.stamps.items t.base t.away t.now.items t.next.items c.args.front held undone_front c.requires.other c.in_ok-expand.ensures.seeking c.in_ok-expand.ensures.met)

pub returns-clause-less : goal.returns-clause-less
returns-clause-less c =
    let s = c.args.self.now in
    let t = c.expand.new.self in
    let goes : GathersCells s t = c.in_ok-expand.ensures.gathers in
    let within : c.place_of-place.result < length s.stamps.items = omega (arith, c.place_of-place.ensures.bound, c.requires.seeking.stamped.one_stamp_each) in
    let read : c.index.result.now ≡ mark_at s.grid.size s.stamps.items c.args.front = get_or_read s.stamps.items c.place_of-place.result c.index.result.now within c.index.ensures 0 ∙ ap (λ (n : ℕ). slice_index s.stamps.items n) c.place_of-place.ensures.is in
    let held : Holds s.grid.size c.args.front = Holds-front s.grid c.args.ends.now s.stamps.items s.base s.away s.now.items s.next.items c.args.front c.requires.seeking in
    let fewer : sum_by (left_undone s.base) (set s.stamps.items (flag_index s.grid.size c.args.front) (s.base + s.away)) + 1 ≡ sum_by (left_undone s.base) s.stamps.items =
    undone-done s.grid.size s.stamps.items s.base s.away c.args.front c.requires.seeking.stamped.one_stamp_each held (omega (arith, read, c.if-index-self.false)) in
    let same : sum_by (left_undone t.base) (set t.stamps.items c.place_of-place.result (t.base + t.away)) ≡ sum_by (left_undone s.base) (set s.stamps.items (flag_index s.grid.size c.args.front) (s.base + s.away)) =
    rw (goes.stamps, goes.base, goes.away, c.place_of-place.ensures.is) refl in
    omega (arith, fewer, same, c.in_ok-expand.ensures.few)
