-- The lines of a text are its complete ones, and what stands behind the last line feed, if it is not empty.
use Rattle.std.proofs.Common.{◌≡◌, ℕ, List, [], ◌∷◌, ◌++◌, nat_eq, true, false, cond, refl}
use Rattle.bench_reader.specs.Lines as text_lines
use Rattle.session_protocol.specs.LinesOf.{complete_lines, last_piece, join_complete, join_rest}

-- a piece is a line if it is not empty
abbrev pub piece_lines : List ℕ → List (List ℕ)
piece_lines [] = []
piece_lines (byte ∷ text) = (byte ∷ text) ∷ []

-- a byte that is no line feed, before a text
joined : (byte : ℕ) (lines : List (List ℕ)) (rest : List ℕ) → text_lines.join_first byte (lines ++ piece_lines rest) ≡ join_complete byte lines ++ piece_lines (join_rest byte lines rest)
joined byte [] [] = refl
joined byte [] (x ∷ rest) = refl
joined byte (line ∷ lines) rest = refl

-- the lines of a text are its complete ones, and the last piece
pub lines_of-split : (text : List ℕ) → text_lines.lines_of text ≡ complete_lines text ++ piece_lines (last_piece text)
lines_of-split [] = refl
lines_of-split (byte ∷ text) = rw (lines_of-split text)
    (elim (nat_eq byte 10) as (λ b. cond b ([] ∷ (complete_lines text ++ piece_lines (last_piece text))) (text_lines.join_first byte (complete_lines text ++ piece_lines (last_piece text))) ≡ cond b ([] ∷ complete_lines text) (join_complete byte (complete_lines text)) ++ piece_lines (cond b (last_piece text) (join_rest byte (complete_lines text) (last_piece text))))
    [ true ↦ refl | false ↦ joined byte (complete_lines text) (last_piece text) ])
