use Rattle.std.proofs.Common.{◌≡◌, ℕ, List, ◌-◌, ◌++◌, ◌∷◌, [], take, length, ap, sym, ◌∙◌}
use Rattle.std.proofs.lemmas.Bool.Decides.{Decides-eqb}
use Rattle.std.proofs.lemmas.List.{append_cancel_right}
use Rattle.std.proofs.lemmas.Slice.Eq.{slice_eq-Decides}
use Rattle.bench_reader.proofs.LineLemmas.{row_split}
use Rattle.journal_text.proofs.spelling.is_whole.Goals as goal

pub returns-then-last-eq10 : goal.returns-then-last-eq10
returns-then-last-eq10 c =
    let written = c.args.written.now in
    let front = take (length written - 1) written in
    let whole : written ≡ front ++ 10 ∷ [] = row_split written c.in-len1-up.len_at_least ∙ ap (λ (n : ℕ). front ++ n ∷ []) c.if-last-eq10.true in
    let same = slice_eq-Decides Decides-eqb _ _ _ c.eq.ensures in
    (λ is. whole ∙ ap (λ (t : List ℕ). t ++ 10 ∷ []) (same.0 is), λ is. same.1 (append_cancel_right front c.args.line.now (10 ∷ []) (sym whole ∙ is)))
