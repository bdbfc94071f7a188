use Rattle.std.proofs.Common.{◌≡◌, ℕ, ◌+◌, ◌<◌, ◌++◌, ◌∷◌, [], length, slice_index, inl, inr, arith, refl, ap, ◌∙◌}
use Rattle.std.proofs.lemmas.List.{get_or_read}
use Rattle.std.proofs.lemmas.List.Elements.{Contains-push, Contains-append_left}
use Rattle.grid_cells.specs.Cell.{IsAdjacent, steps_between}
use Rattle.grid_cells.specs.Size.{Holds}
use Rattle.grid_cells.specs.Grid.{IsOpen}
use Rattle.goal_fields.specs.Marks.{mark_at}
use Rattle.goal_fields.proofs.LastLemmas.{false≢true_at}
use Rattle.goal_fields.proofs.AStarLemmas.{IsSeeking-now, IsSeeking-next, walk_nearer, walk_farther, steps_between-beside, most_beside}
use Rattle.goal_fields.proofs.frontier.Frontier.meet.Goals as goal

pub index-requires : goal.index-requires
index-requires c = omega (arith, c.place_of.ensures.bound, c.requires.seeking.stamped.one_stamp_each)

pub returns-then-not-is_open-clause-met : goal.returns-then-not-is_open-clause-met
returns-then-not-is_open-clause-met c = rw c.in-Some.is (λ o most e. absurd (false≢true_at refl (c.if-not-is_open.ensures.1 o)))

pub returns-then-index-self-clause-met : goal.returns-then-index-self-clause-met
returns-then-index-self-clause-met c =
    let s = c.args.self.now in
    let within : c.place_of.result < length s.stamps.items = omega (arith, c.place_of.ensures.bound, c.requires.seeking.stamped.one_stamp_each) in
    let read : c.index.result.now ≡ mark_at s.grid.size s.stamps.items c.in-Some.cell = get_or_read s.stamps.items c.place_of.result c.index.result.now within c.index.ensures 0 ∙ ap (λ (n : ℕ). slice_index s.stamps.items n) c.place_of.ensures.is in
    let held : Holds s.grid.size c.in-Some.cell × IsAdjacent c.args.front c.in-Some.cell = rw c.in-Some.is at c.requires.beside in
    rw c.in-Some.is (λ o most e. inl (omega (arith, read, c.if-index-self.true), omega (arith, most_beside c.args.front c.in-Some.cell c.args.ends.now.start held.1 s.away most e, c.requires.seeking.stamped.bounded c.in-Some.cell held.0)))

pub returns-in_ok-push-clause-seeking : goal.returns-in_ok-push-clause-seeking
returns-in_ok-push-clause-seeking c =
    let s = c.args.self.now in
    let held : Holds s.grid.size c.in-Some.cell × IsAdjacent c.args.front c.in-Some.cell = rw c.in-Some.is at c.requires.beside in
    let open_cell : IsOpen s.grid c.in-Some.cell = c.is_open.ensures.0 c.if-not-is_open.false in
    let near : steps_between c.in-Some.cell c.args.ends.now.start + 1 ≡ steps_between c.args.front c.args.ends.now.start = elim (steps_between-beside c.args.front c.in-Some.cell c.args.ends.now.start held.1) [
      | inl e ↦ e
      | inr e ↦ absurd (omega (arith, e, c.if-steps_between.true, c.steps_between.ensures, c.steps_between-2.ensures))
    ] in
    rw c.in_ok-push.ensures.items (IsSeeking-now s.grid c.args.ends.now s.stamps.items s.base s.away s.now.items s.next.items c.args.front c.in-Some.cell c.requires.seeking
    (walk_nearer s.grid c.args.ends.now s.away c.args.front c.in-Some.cell c.requires.walk held.1 open_cell near))

pub returns-in_ok-push-clause-met : goal.returns-in_ok-push-clause-met
returns-in_ok-push-clause-met c =
    let s = c.args.self.now in
    let held : Holds s.grid.size c.in-Some.cell × IsAdjacent c.args.front c.in-Some.cell = rw c.in-Some.is at c.requires.beside in
    rw (c.in-Some.is, c.in_ok-push.ensures.items) (λ o most e. inr (inl (most_beside c.args.front c.in-Some.cell c.args.ends.now.start held.1 s.away most e, Contains-push s.now.items c.in-Some.cell)))

pub returns-in_ok-push-2-clause-seeking : goal.returns-in_ok-push-2-clause-seeking
returns-in_ok-push-2-clause-seeking c =
    let s = c.args.self.now in
    let held : Holds s.grid.size c.in-Some.cell × IsAdjacent c.args.front c.in-Some.cell = rw c.in-Some.is at c.requires.beside in
    let open_cell : IsOpen s.grid c.in-Some.cell = c.is_open.ensures.0 c.if-not-is_open.false in
    let far_off : steps_between c.in-Some.cell c.args.ends.now.start ≡ steps_between c.args.front c.args.ends.now.start + 1 = elim (steps_between-beside c.args.front c.in-Some.cell c.args.ends.now.start held.1) [
      | inl e ↦ absurd (omega (arith, e, c.if-steps_between.false, c.steps_between.ensures, c.steps_between-2.ensures))
      | inr e ↦ e
    ] in
    rw c.in_ok-push-2.ensures.items (IsSeeking-next s.grid c.args.ends.now s.stamps.items s.base s.away (s.now.items ++ c.args.front ∷ []) s.next.items c.in-Some.cell c.requires.seeking
    (walk_farther s.grid c.args.ends.now s.away c.args.front c.in-Some.cell c.requires.walk held.1 open_cell far_off))

pub returns-in_ok-push-2-clause-met : goal.returns-in_ok-push-2-clause-met
returns-in_ok-push-2-clause-met c =
    let s = c.args.self.now in
    let held : Holds s.grid.size c.in-Some.cell × IsAdjacent c.args.front c.in-Some.cell = rw c.in-Some.is at c.requires.beside in
    rw (c.in-Some.is, c.in_ok-push-2.ensures.items) (λ o most e. inr (inr (
      elim (steps_between-beside c.args.front c.in-Some.cell c.args.ends.now.start held.1) [
        | inl near ↦ absurd (omega (arith, near, c.if-steps_between.false, c.steps_between.ensures, c.steps_between-2.ensures))
        | inr f ↦ omega (arith, e, f)
      ],
      Contains-push s.next.items c.in-Some.cell,
    )))

pub returns-in_ok-push-clause-gathers : goal.returns-in_ok-push-clause-gathers
returns-in_ok-push-clause-gathers c = record {
  grid = refl;
  stamps = refl;
  base = refl;
  away = refl;
  now = λ x h. rw c.in_ok-push.ensures.items (Contains-append_left c.args.self.now.now.items (c.in-Some.cell ∷ []) x h);
  next = λ x h. h;
}

pub returns-in_ok-push-2-clause-gathers : goal.returns-in_ok-push-2-clause-gathers
returns-in_ok-push-2-clause-gathers c = record {
  grid = refl;
  stamps = refl;
  base = refl;
  away = refl;
  now = λ x h. h;
  next = λ x h. rw c.in_ok-push-2.ensures.items (Contains-append_left c.args.self.now.next.items (c.in-Some.cell ∷ []) x h);
}
