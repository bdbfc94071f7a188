use Rattle.std.proofs.Common.{◌≡◌, ℕ, ◌+◌, ◌*◌, length, replicate, refl, ap, ◌∙◌}
use Rattle.std.proofs.lemmas.List.{length-replicate}
use Rattle.grid_cells.specs.declared.numbers.TheConstants.{MOST_AGENT}
use Rattle.desk_commits.proofs.Stamping.{stamps_blank}
use Rattle.desk_commits.proofs.stamps.Stamps.blank.Goals as goal

pub returns : goal.returns
returns c =
    let agents : c.in_ok-vec.field-0.items ≡ replicate (MOST_AGENT + 1) 0 = c.in_ok-vec.ensures.items_if_clones_equal (λ y e. e) in
    let cells : c.in_ok-vec-2.field-0.items ≡ replicate (c.width.result * c.height.result) 0 = c.in_ok-vec-2.ensures.items_if_clones_equal (λ y e. e) in
    let area : c.width.result * c.height.result ≡ c.args.size.width * c.args.size.height = rw (c.width.ensures.is, c.height.ensures.is) refl in
    stamps_blank _ (MOST_AGENT + 1) (c.width.result * c.height.result) (record { agents = ap length agents ∙ length-replicate {A = ℕ} (MOST_AGENT + 1) 0; cells = ap length cells ∙ length-replicate {A = ℕ} (c.width.result * c.height.result) 0 ∙ area }) agents cells refl
