use Rattle.std.proofs.Common.{◌≡◌, ℕ, List, ◌++◌, codes, decimal, ap, sym, ◌∙◌}
use Rattle.std.proofs.lemmas.Bool.Decides.{Decides-eqb}
use Rattle.std.proofs.lemmas.List.{append_cancel_left, append_cancel_right}
use Rattle.std.proofs.lemmas.Slice.Eq.{slice_eq-Decides}
use Rattle.journal_text.proofs.spelling.is_end.Goals as goal

pub returns-then-eq : goal.returns-then-eq
returns-then-eq c =
    let line = c.args.line.now in
    let digits = c.split_at.result.1.now in
    let name : c.split_at.result.0.now ≡ codes "end " = (slice_eq-Decides Decides-eqb _ _ _ c.eq.ensures).0 c.if-eq.true ∙ c.as_slice.ensures in
    let whole : line ≡ codes "end " ++ digits = c.split_at.ensures.by_index.0 ∙ ap (λ (t : List ℕ). t ++ digits) name in
    let text : c.as_bytes.result.now ≡ decimal c.args.count = c.as_bytes.ensures.value ∙ c.format.ensures.text in
    let same = slice_eq-Decides Decides-eqb _ _ _ c.eq-then-eq.ensures in (
      λ is. ap (λ (t : List ℕ). t ++ codes "\n") (sym (whole ∙ ap (λ (t : List ℕ). codes "end " ++ t) (same.0 is ∙ text))),
      λ is. same.1 (sym (append_cancel_left (codes "end ") (decimal c.args.count) digits (append_cancel_right (codes "end " ++ decimal c.args.count) line (codes "\n") is ∙ whole)) ∙ sym text),
    )
