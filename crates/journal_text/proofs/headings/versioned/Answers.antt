use Rattle.std.proofs.Common.{◌≡◌, List, ℕ, ◌++◌, codes, refl, ap, sym, rules}
use Rattle.plan_table.specs.declared.tracks.Mode.TheVariants.{Stay, Disappear}
use Rattle.journal_text.specs.Lines.{mode_words}
use Rattle.journal_text.proofs.headings.versioned.Goals as goal

pub returns-then-eq : goal.returns-then-eq
returns-then-eq c =
    let line : c.args.line.now ≡ codes "mode stay" = search rules in
    (mode_words Stay, ap (λ (t : List ℕ). t ++ codes "\n") (sym line), (Stay, refl, c.headed.ensures))

pub returns-then-eq-2 : goal.returns-then-eq-2
returns-then-eq-2 c =
    let line : c.args.line.now ≡ codes "mode disappear" = search rules in
    (mode_words Disappear, ap (λ (t : List ℕ). t ++ codes "\n") (sym line), (Disappear, refl, c.headed-then-eq-2.ensures))
