-- How one more byte changes the lines of a text, and how many lines there are.
use Rattle.std.proofs.Common.{◌≡◌, ℕ, ◌+◌, ◌<◌, ◌≤◌, List, [], ◌∷◌, ◌++◌, length, nat_eq, true, false, cond, refl, ap, ◌∙◌, append-nil, arith, length-append}
use Rattle.bench_reader.specs.Lines.{lines_of}
use Rattle.session_protocol.specs.LinesOf.{complete_lines, last_piece, join_complete, join_rest}
use Rattle.session_protocol.proofs.AllLines.{piece_lines, lines_of-split}

-- One more byte at the end of a text.
pub complete-byte : (text : List ℕ) (byte : ℕ) → nat_eq byte 10 ≡ false → complete_lines (text ++ (byte ∷ [])) ≡ complete_lines text
complete-byte [] byte h = rw h refl
complete-byte (x ∷ text) byte h = rw (complete-byte text byte h) refl

joined : (x : ℕ) (lines : List (List ℕ)) (rest : List ℕ) (byte : ℕ) → join_rest x lines (rest ++ (byte ∷ [])) ≡ join_rest x lines rest ++ (byte ∷ [])
joined x [] rest byte = refl
joined x (line ∷ lines) rest byte = refl

pub piece-byte : (text : List ℕ) (byte : ℕ) → nat_eq byte 10 ≡ false → last_piece (text ++ (byte ∷ [])) ≡ last_piece text ++ (byte ∷ [])
piece-byte [] byte h = rw h refl
piece-byte (x ∷ text) byte h = rw (complete-byte text byte h, piece-byte text byte h)
    (elim (nat_eq x 10) as (λ b. cond b (last_piece text ++ (byte ∷ [])) (join_rest x (complete_lines text) (last_piece text ++ (byte ∷ []))) ≡ cond b (last_piece text) (join_rest x (complete_lines text) (last_piece text)) ++ (byte ∷ []))
    [ true ↦ refl | false ↦ joined x (complete_lines text) (last_piece text) byte ])

joined_first : (x : ℕ) (lines : List (List ℕ)) (rest : List ℕ) → join_complete x (lines ++ (rest ∷ [])) ≡ join_complete x lines ++ (join_rest x lines rest ∷ [])
joined_first x [] rest = refl
joined_first x (line ∷ lines) rest = refl

pub complete-feed : (text : List ℕ) → complete_lines (text ++ (10 ∷ [])) ≡ complete_lines text ++ (last_piece text ∷ [])
complete-feed [] = refl
complete-feed (x ∷ text) = rw (complete-feed text)
    (elim (nat_eq x 10) as (λ b. cond b ([] ∷ (complete_lines text ++ (last_piece text ∷ []))) (join_complete x (complete_lines text ++ (last_piece text ∷ []))) ≡ cond b ([] ∷ complete_lines text) (join_complete x (complete_lines text)) ++ (cond b (last_piece text) (join_rest x (complete_lines text) (last_piece text)) ∷ []))
    [ true ↦ refl | false ↦ joined_first x (complete_lines text) (last_piece text) ])

no_rest : (x : ℕ) (lines : List (List ℕ)) (rest : List ℕ) → join_rest x (lines ++ (rest ∷ [])) [] ≡ []
no_rest x [] rest = refl
no_rest x (line ∷ lines) rest = refl

pub piece-feed : (text : List ℕ) → last_piece (text ++ (10 ∷ [])) ≡ []
piece-feed [] = refl
piece-feed (x ∷ text) = rw (complete-feed text, piece-feed text)
    (elim (nat_eq x 10) as (λ b. cond b [] (join_rest x (complete_lines text ++ (last_piece text ∷ [])) []) ≡ [])
    [ true ↦ refl | false ↦ no_rest x (complete_lines text) (last_piece text) ])

pub lines-fed : (text : List ℕ) → lines_of (text ++ (10 ∷ [])) ≡ complete_lines text ++ (last_piece text ∷ [])
lines-fed text = lines_of-split (text ++ (10 ∷ [])) ∙ rw (complete-feed text, piece-feed text) (append-nil (complete_lines text ++ (last_piece text ∷ [])))

piece-line : (piece : List ℕ) → 0 < length piece → piece_lines piece ≡ piece ∷ []
piece-line [] h = absurd (omega arith)
piece-line (byte ∷ piece) h = refl

pub lines-ended : (text : List ℕ) → 0 < length (last_piece text) → lines_of text ≡ complete_lines text ++ (last_piece text ∷ [])
lines-ended text h = lines_of-split text ∙ ap (λ l. complete_lines text ++ l) (piece-line (last_piece text) h)

pub no-piece : (text : List ℕ) → last_piece text ≡ [] → lines_of text ≡ complete_lines text
no-piece text h = lines_of-split text ∙ ap (λ p. complete_lines text ++ piece_lines p) h ∙ append-nil (complete_lines text)

pub nothing : (text : List ℕ) → length text ≡ 0 → text ≡ []
nothing [] h = refl
nothing (byte ∷ text) h = absurd (omega (arith, h))

-- a line that is not yet complete is one more at most
piece-few : (piece : List ℕ) → length (piece_lines piece) ≤ 1
piece-few [] = omega arith
piece-few (byte ∷ piece) = omega arith

pub lines-few : (text : List ℕ) → length (lines_of text) ≤ length (complete_lines text) + 1
lines-few text = rw (lines_of-split text, length-append (complete_lines text) (piece_lines (last_piece text))) (omega (arith, piece-few (last_piece text)))

pub lines-within : (text line : List ℕ) (lines most : ℕ) → last_piece text ≡ line → length (complete_lines text) ≡ lines → lines ≤ most → (0 < length line → lines < most) → length (lines_of text) ≤ most
lines-within text [] lines most piece count few room = rw (no-piece text piece) (omega (arith, count, few))
lines-within text (byte ∷ line) lines most piece count few room = let less : lines < most = room (omega arith) in omega (arith, lines-few text, count, less)

-- a line of which no byte came, where there is no room for one more
pub not-begun : (line : List ℕ) (lines most : ℕ) → most ≤ lines → (0 < length line → lines < most) → length line ≡ 0
not-begun [] lines most full room = refl
not-begun (byte ∷ line) lines most full room = let less : lines < most = room (omega arith) in absurd (omega (arith, full, less))
