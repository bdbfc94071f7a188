use Rattle.std.proofs.Common.{◌≡◌, List, ℕ, ◌++◌, codes, refl, ap, sym, inl, inr, rules}
use Rattle.journal_text.specs.Lines.{version_words}
use Rattle.journal_text.proofs.headings.start.Goals as goal

pub returns-then-eq : goal.returns-then-eq
returns-then-eq c =
    let line : c.args.line.now ≡ codes "journal 1" = search rules in
    (version_words (codes "1"), ap (λ (t : List ℕ). t ++ codes "\n") (sym line), inl (refl, c.headed.ensures))

pub returns-then-eq-2 : goal.returns-then-eq-2
returns-then-eq-2 c =
    let line : c.args.line.now ≡ codes "journal 2" = search rules in
    (version_words (codes "2"), ap (λ (t : List ℕ). t ++ codes "\n") (sym line), inr (refl, refl))
