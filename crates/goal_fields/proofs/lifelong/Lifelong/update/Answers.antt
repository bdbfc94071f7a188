use Rattle.std.specs.Prelude.{Some, None}
use Rattle.std.proofs.Common.{sym, inl, inr, ap, ◌≡◌, ◌⊎◌, ◌∙◌, Option, ℕ}
use Rattle.goal_fields.proofs.FollowLemmas.{g_read}
use Rattle.goal_fields.proofs.Neighbours.{cases_cell}
use Rattle.grid_cells.specs.Cell.{Point}
use Rattle.grid_cells.specs.Size.{Holds}
use Rattle.cell_queue.specs.Queue.{with_key}
use Rattle.goal_fields.specs.declared.lifelong.Lifelong.{Lifelong}
use Rattle.goal_fields.specs.Repair.{key_for, IsRhs}
use Rattle.goal_fields.specs.Lifelong.{IsRoomy, IsGood, g_of}
use Rattle.goal_fields.proofs.UpdateLemmas.{key_at-set, key_at-other, key_none, key_min}
use Rattle.goal_fields.proofs.lifelong.Lifelong.update.Goals as goal

-- a cell is good after the cell's key has changed
right : (s : Lifelong) (cell : Point) (r : ℕ) (key : Option ℕ) → IsRoomy s → Holds s.grid.size cell → IsRhs s.grid s.goal (g_of s) cell r → key ≡ key_for (g_of s cell) r →
    (v : Point) → Holds s.grid.size v → ((v ≡ cell) ⊎ IsGood s v) → IsGood (record s { queue = with_key s.queue cell key }) v
right s cell r key roomy held equation is v held_v old = elim (cases_cell v cell) [
  | inl e ↦ record { rhs = r; equation = rw e equation; queued = rw e (key_at-set s.queue cell key held_q (rw roomy.queue roomy.one_key_each) ∙ is) }
  | inr ne ↦ elim old [
    | inl e ↦ absurd (ne e)
    | inr good ↦ record { rhs = good.rhs; equation = good.equation; queued = key_at-other s.queue cell v key held_q (rw roomy.queue held_v) ne ∙ good.queued }
  ]
]
  where
    held_q : Holds s.queue.size cell
    held_q = rw roomy.queue held

pub returns-then-g-rhs-clause-here : goal.returns-then-g-rhs-clause-here
returns-then-g-rhs-clause-here c v some =
    let held : Holds c.args.self.now.grid.size c.in-Some.cell = c.requires.held c.in-Some.cell c.in-Some.is in
    let held_q : Holds c.args.self.now.queue.size c.in-Some.cell = rw c.requires.roomy.queue held in
    let is : v ≡ c.in-Some.cell = cc in
    let g_is : c.index-g.result.now ≡ g_of c.args.self.now c.in-Some.cell =
    g_read c.args.self.now c.in-Some.cell c.place_of-index.result c.index-g.result.now c.requires.roomy.one_g_each c.place_of-index.ensures.bound
    c.place_of-index.ensures.is c.index-g.ensures in
    let key : None ≡ key_for (g_of c.args.self.now c.in-Some.cell) c.equation-rhs.result = key_none (g_of c.args.self.now c.in-Some.cell) c.equation-rhs.result (sym g_is ∙ c.if-g-rhs.true) in
    rw (c.remove.ensures.inside held_q) (right c.args.self.now c.in-Some.cell c.equation-rhs.result None c.requires.roomy held c.equation-rhs.ensures key v
    (rw is held) (inl is))

pub returns-else-g-rhs-clause-here : goal.returns-else-g-rhs-clause-here
returns-else-g-rhs-clause-here c v some =
    let held : Holds c.args.self.now.grid.size c.in-Some.cell = c.requires.held c.in-Some.cell c.in-Some.is in
    let is : v ≡ c.in-Some.cell = cc in
    let g_is : c.index-g.result.now ≡ g_of c.args.self.now c.in-Some.cell =
    g_read c.args.self.now c.in-Some.cell c.place_of-index.result c.index-g.result.now c.requires.roomy.one_g_each c.place_of-index.ensures.bound
    c.place_of-index.ensures.is c.index-g.ensures in
    let key : Some c.min.result ≡ key_for (g_of c.args.self.now c.in-Some.cell) c.equation-rhs.result = rw (← g_is) (key_min c.index-g.result.now c.equation-rhs.result c.min.result c.if-g-rhs.false c.min.ensures) in
    rw c.put.ensures (right c.args.self.now c.in-Some.cell c.equation-rhs.result (Some c.min.result) c.requires.roomy held c.equation-rhs.ensures key v
    (rw is held) (inl is))

pub returns-then-g-rhs-clause-keeps : goal.returns-then-g-rhs-clause-keeps
returns-then-g-rhs-clause-keeps c v held_v good =
    let held : Holds c.args.self.now.grid.size c.in-Some.cell = c.requires.held c.in-Some.cell c.in-Some.is in
    let held_q : Holds c.args.self.now.queue.size c.in-Some.cell = rw c.requires.roomy.queue held in
    let g_is : c.index-g.result.now ≡ g_of c.args.self.now c.in-Some.cell =
    g_read c.args.self.now c.in-Some.cell c.place_of-index.result c.index-g.result.now c.requires.roomy.one_g_each c.place_of-index.ensures.bound
    c.place_of-index.ensures.is c.index-g.ensures in
    let key : None ≡ key_for (g_of c.args.self.now c.in-Some.cell) c.equation-rhs.result = key_none (g_of c.args.self.now c.in-Some.cell) c.equation-rhs.result (sym g_is ∙ c.if-g-rhs.true) in
    rw (c.remove.ensures.inside held_q) (right c.args.self.now c.in-Some.cell c.equation-rhs.result None c.requires.roomy held c.equation-rhs.ensures key v held_v (inr good))

pub returns-else-g-rhs-clause-keeps : goal.returns-else-g-rhs-clause-keeps
returns-else-g-rhs-clause-keeps c v held_v good =
    let held : Holds c.args.self.now.grid.size c.in-Some.cell = c.requires.held c.in-Some.cell c.in-Some.is in
    let g_is : c.index-g.result.now ≡ g_of c.args.self.now c.in-Some.cell =
    g_read c.args.self.now c.in-Some.cell c.place_of-index.result c.index-g.result.now c.requires.roomy.one_g_each c.place_of-index.ensures.bound
    c.place_of-index.ensures.is c.index-g.ensures in
    let key : Some c.min.result ≡ key_for (g_of c.args.self.now c.in-Some.cell) c.equation-rhs.result = rw (← g_is) (key_min c.index-g.result.now c.equation-rhs.result c.min.result c.if-g-rhs.false c.min.ensures) in
    rw c.put.ensures (right c.args.self.now c.in-Some.cell c.equation-rhs.result (Some c.min.result) c.requires.roomy held c.equation-rhs.ensures key v held_v (inr good))

pub returns-then-g-rhs-clause-others : goal.returns-then-g-rhs-clause-others
returns-then-g-rhs-clause-others c v held_v other =
    let held : Holds c.args.self.now.queue.size c.in-Some.cell = rw c.requires.roomy.queue (c.requires.held c.in-Some.cell c.in-Some.is) in
    rw (c.remove.ensures.inside held) (key_at-other c.args.self.now.queue c.in-Some.cell v None held (rw c.requires.roomy.queue held_v) (λ e. other (c.in-Some.is ∙ ap (λ (w : Point). Some w) (sym e))))

pub returns-else-g-rhs-clause-others : goal.returns-else-g-rhs-clause-others
returns-else-g-rhs-clause-others c v held_v other =
    let held : Holds c.args.self.now.queue.size c.in-Some.cell = rw c.requires.roomy.queue (c.requires.held c.in-Some.cell c.in-Some.is) in
    rw c.put.ensures (key_at-other c.args.self.now.queue c.in-Some.cell v (Some c.min.result) held (rw c.requires.roomy.queue held_v) (λ e. other (c.in-Some.is ∙ ap (λ (w : Point). Some w) (sym e))))
