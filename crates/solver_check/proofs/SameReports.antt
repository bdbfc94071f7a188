-- Reports that compare equal are equal, and the other way round.
use Rattle.std.proofs.Common.{◌≡◌, ℕ, Bool, true, false, true≢false, ◌&&◌, nat_eq, Option, Some, None, refl, sym, ap, subst, ◌∙◌}
use Rattle.std.specs.Prelude.{◌↔◌, IsTrue}
use Rattle.std.specs.Bool.{Decides, beq}
use Rattle.std.specs.Cmp.{unsigned_Decides, booleans_Decides}
use Rattle.std.specs.Cmp.Lexicographic.{pointwise_decides}
use Rattle.std.specs.Option.{option_eq}
use Rattle.grid_cells.specs.Cell.{Point}
use Rattle.grid_cells.specs.contracts.cells.CellPartialEq.TheImpl as cells
use Rattle.mapf_rules.specs.declared.entries.Conflict.{Conflict}
use Rattle.mapf_rules.specs.declared.entries.Conflict.TheVariants.{Vertex, Parked, Edge, Following, Swapping, Cycle}
use Rattle.mapf_rules.specs.contracts.entries.ConflictPartialEq.TheImpl as conflicts
use Rattle.mapf_rules.specs.declared.visits.Visit.{Visit}
use Rattle.mapf_rules.specs.contracts.visits.VisitPartialEq.TheImpl as visits
use Rattle.desk_report.specs.declared.reports.AgentLine.{AgentLine}
use Rattle.desk_report.specs.contracts.reports.AgentLinePartialEq.TheImpl as agent_lines
use Rattle.desk_report.specs.declared.reports.Report.{Report}
use Rattle.desk_report.specs.contracts.reports.ReportPartialEq.TheImpl as reports

and_first : (s t : Bool) → (s && t) ≡ true → s ≡ true
and_first true t e = refl
and_first false t e = e

and_second : (s t : Bool) → (s && t) ≡ true → t ≡ true
and_second true t e = e
and_second false t e = absurd (true≢false (sym e))

pair : {P Q : Type 0} (s t : Bool) → Decides s P → Decides t Q → Decides (s && t) (P × Q)
pair s t p q = ((λ e. (p.0 (and_first s t e), q.0 (and_second s t e))), λ r i. p.1 r.0 i && q.1 r.1 i)

through : {P R : Type 0} (s : Bool) → Decides s P → (P → R) → (R → P) → Decides s R
through s p to from = ((λ e. to (p.0 e)), λ r. p.1 (from r))

same_number : (a : ℕ) → nat_eq a a ≡ true
same_number a = (unsigned_Decides a a).1 refl

number_is : (a b : ℕ) → nat_eq a b ≡ true → a ≡ b
number_is a b = (unsigned_Decides a b).0

option_decides : (a b : Option ℕ) → Decides (option_eq nat_eq a b) (a ≡ b)
option_decides None None = ((λ e. refl), λ e. refl)
option_decides None (Some b) = ((λ e. absurd (true≢false (sym e))), λ e. absurd (cc))
option_decides (Some a) None = ((λ e. absurd (true≢false (sym e))), λ e. absurd (cc))
option_decides (Some a) (Some b) = ((λ e. ap Some (number_is a b e)), λ e. let same : a ≡ b = cc in (unsigned_Decides a b).1 same)

cell_decides : (a b : Point) → Decides (cells.ghosts.eq a b) (a ≡ b)
cell_decides a b =
    through _ (pair (nat_eq a.y b.y) (nat_eq a.x b.x) (unsigned_Decides a.y b.y) (unsigned_Decides a.x b.x))
    (λ e i. record { x = e.1 i; y = e.0 i }) (λ e. ((λ i. (e i).y), λ i. (e i).x))

visit_decides : (a b : Visit) → Decides (visits.ghosts.eq a b) (a ≡ b)
visit_decides a b =
    through _ (pair (nat_eq a.agent b.agent) _ (unsigned_Decides a.agent b.agent) (pair (nat_eq a.time b.time) (cells.ghosts.eq a.cell b.cell) (unsigned_Decides a.time b.time) (cell_decides a.cell b.cell)))
    (λ e i. record { agent = e.0 i; time = e.1.0 i; cell = e.1.1 i }) (λ e. ((λ i. (e i).agent), ((λ i. (e i).time), λ i. (e i).cell)))

line_decides : (a b : AgentLine) → Decides (agent_lines.ghosts.eq a b) (a ≡ b)
line_decides a b =
    through _
    (pair (nat_eq a.agent b.agent) _ (unsigned_Decides a.agent b.agent)
    (pair (nat_eq a.settle b.settle) _ (unsigned_Decides a.settle b.settle)
    (pair (beq a.finished b.finished) _ (booleans_Decides a.finished b.finished)
    (pair (option_eq nat_eq a.bound b.bound) (option_eq nat_eq a.gap b.gap) (option_decides a.bound b.bound) (option_decides a.gap b.gap)))))
    (λ e i. record { agent = e.0 i; settle = e.1.0 i; finished = e.1.1.0 i; bound = e.1.1.1.0 i; gap = e.1.1.1.1 i })
    (λ e. ((λ i. (e i).agent), ((λ i. (e i).settle), ((λ i. (e i).finished), ((λ i. (e i).bound), λ i. (e i).gap)))))

-- a number in front of others
number_and : (a b : ℕ) (t : Bool) → (nat_eq a b && t) ≡ true → (a ≡ b) × (t ≡ true)
number_and a b t e = (number_is a b (and_first _ t e), and_second (nat_eq a b) t e)

cell_and : (a b : Point) (t : Bool) → (cells.ghosts.eq a b && t) ≡ true → (a ≡ b) × (t ≡ true)
cell_and a b t e = ((cell_decides a b).0 (and_first _ t e), and_second (cells.ghosts.eq a b) t e)

same_cell : (a : Point) → cells.ghosts.eq a a ≡ true
same_cell a = (cell_decides a a).1 refl

numbers_and : (a b c d e f : ℕ) (t : Bool) → (nat_eq a b && (nat_eq c d && (nat_eq e f && t))) ≡ true → (a ≡ b) × (c ≡ d) × (e ≡ f) × (t ≡ true)
numbers_and a b c d e f t all =
    let (first, later) = number_and a b _ all in let (second, last) = number_and c d _ later in let (third, rest) = number_and e f t last in (first, second, third, rest)

conflict_is : (a b : Conflict) → conflicts.ghosts.eq a b ≡ true → a ≡ b
conflict_is (Vertex t f s c) (Vertex u g r d) e =
    let (time, first, second, rest) = numbers_and t u f g s r _ e in let cell = (cell_decides c d).0 rest in λ i. Vertex (time i) (first i) (second i) (cell i)
conflict_is (Parked t f s c) (Parked u g r d) e =
    let (time, first, second, rest) = numbers_and t u f g s r _ e in let cell = (cell_decides c d).0 rest in λ i. Parked (time i) (first i) (second i) (cell i)
conflict_is (Edge t f s c n) (Edge u g r d m) e =
    let (time, first, second, rest) = numbers_and t u f g s r _ e in let (cell, last) = cell_and c d _ rest in let next = (cell_decides n m).0 last in λ i. Edge (time i) (first i) (second i) (cell i) (next i)
conflict_is (Following t f s c) (Following u g r d) e =
    let (time, first, second, rest) = numbers_and t u f g s r _ e in let cell = (cell_decides c d).0 rest in λ i. Following (time i) (first i) (second i) (cell i)
conflict_is (Swapping t f s c n) (Swapping u g r d m) e =
    let (time, first, second, rest) = numbers_and t u f g s r _ e in let (cell, last) = cell_and c d _ rest in let next = (cell_decides n m).0 last in λ i. Swapping (time i) (first i) (second i) (cell i) (next i)
conflict_is (Cycle t ring) (Cycle u other) e =
    let (time, last) = number_and t u _ e in let agents = (pointwise_decides unsigned_Decides ring other).0 last in λ i. Cycle (time i) (agents i)
conflict_is a b e = absurd (true≢false (sym e))

same_conflict : (a : Conflict) → conflicts.ghosts.eq a a ≡ true
same_conflict (Vertex t f s c) i = same_number t i && (same_number f i && (same_number s i && same_cell c i))
same_conflict (Parked t f s c) i = same_number t i && (same_number f i && (same_number s i && same_cell c i))
same_conflict (Edge t f s c n) i = same_number t i && (same_number f i && (same_number s i && (same_cell c i && same_cell n i)))
same_conflict (Following t f s c) i = same_number t i && (same_number f i && (same_number s i && same_cell c i))
same_conflict (Swapping t f s c n) i = same_number t i && (same_number f i && (same_number s i && (same_cell c i && same_cell n i)))
same_conflict (Cycle t ring) i = same_number t i && (pointwise_decides unsigned_Decides ring ring).1 refl i

conflict_decides : (a b : Conflict) → Decides (conflicts.ghosts.eq a b) (a ≡ b)
conflict_decides a b = (conflict_is a b, λ e. subst (λ (x : Conflict). conflicts.ghosts.eq a x ≡ true) e (same_conflict a))

-- the test of two reports tells whether they are equal
pub report_decides : (a b : Report) → Decides (reports.ghosts.eq a b) (a ≡ b)
report_decides a b =
    through _
    (pair _ _ (pointwise_decides conflict_decides a.conflicts b.conflicts)
    (pair _ _ (pointwise_decides visit_decides a.visits b.visits)
    (pair _ _ (pointwise_decides line_decides a.lines b.lines)
    (pair (option_eq nat_eq a.sum b.sum) _ (option_decides a.sum b.sum)
    (pair (option_eq nat_eq a.makespan b.makespan) _ (option_decides a.makespan b.makespan)
    (pair (option_eq nat_eq a.bounds b.bounds) (option_eq nat_eq a.total_gap b.total_gap) (option_decides a.bounds b.bounds) (option_decides a.total_gap b.total_gap)))))))
    (λ e i. record { conflicts = e.0 i; visits = e.1.0 i; lines = e.1.1.0 i; sum = e.1.1.1.0 i; makespan = e.1.1.1.1.0 i; bounds = e.1.1.1.1.1.0 i; total_gap = e.1.1.1.1.1.1 i })
    (λ e. ((λ i. (e i).conflicts), ((λ i. (e i).visits), ((λ i. (e i).lines), ((λ i. (e i).sum), ((λ i. (e i).makespan), ((λ i. (e i).bounds), λ i. (e i).total_gap)))))))

-- a test that answers as another does
pub answers_as : (r s : Bool) (P : Type 0) → r ≡ s → Decides s P → IsTrue r ↔ P
answers_as r s P e d = ((λ so. d.0 (sym e ∙ so)), λ p. e ∙ d.1 p)
