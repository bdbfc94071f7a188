-- How the lines of a map are counted while they come.
use Rattle.std.proofs.Common.{◌≡◌, ℕ, ◌+◌, ◌<◌, ◌≤◌, List, [], ◌∷◌, ◌++◌, length, nat_eq, false, refl, ap, sym, ◌∙◌, append-nil, arith, length-append}
use Rattle.std.proofs.Common.{subst, inl, inr}
use Rattle.std.specs.Prelude.{Option}
use Rattle.std.specs.Io.KnownBytes.{Consumes}
use Rattle.std.proofs.KnownBytes.{Consumes-trans}
use Rattle.std.proofs.Math.Nat.{eq-or-lt_of_le}
use Rattle.std.proofs.lemmas.Bool.{cases_lt}
use Rattle.bench_reader.specs.Announced.{rows_announced}
use Rattle.bench_reader.specs.Lines.{lines_of}
use Rattle.session_protocol.specs.LinesOf.{complete_lines, last_piece}
use Rattle.session_protocol.specs.Start.{Told, HearsMap, Stops, EndsWithMap}
use Rattle.session_protocol.proofs.AllLines.{piece_lines, lines_of-split}
use Rattle.session_protocol.proofs.Pieces.{complete-byte, complete-feed, piece-feed}

-- after a line feed, the complete lines are all lines
pub all_complete : (text : List ℕ) → lines_of (text ++ 10 ∷ []) ≡ complete_lines (text ++ 10 ∷ [])
all_complete text = lines_of-split (text ++ 10 ∷ []) ∙ ap (λ p. complete_lines (text ++ 10 ∷ []) ++ piece_lines p) (piece-feed text) ∙ append-nil (complete_lines (text ++ 10 ∷ []))

-- fewer than four lines announce no row
pub none_announced : (lines : List (List ℕ)) → length lines < 4 → rows_announced lines ≡ 0
none_announced [] h = refl
none_announced (a ∷ []) h = refl
none_announced (a ∷ b ∷ []) h = refl
none_announced (a ∷ b ∷ c ∷ []) h = refl
none_announced (a ∷ b ∷ c ∷ d ∷ lines) h = absurd (omega (arith, h))

-- later lines announce nothing more
pub still_announced : (lines : List (List ℕ)) (line : List ℕ) → 4 ≤ length lines → rows_announced (lines ++ line ∷ []) ≡ rows_announced lines
still_announced [] line h = absurd (omega (arith, h))
still_announced (a ∷ []) line h = absurd (omega (arith, h))
still_announced (a ∷ b ∷ []) line h = absurd (omega (arith, h))
still_announced (a ∷ b ∷ c ∷ []) line h = absurd (omega (arith, h))
still_announced (a ∷ b ∷ c ∷ d ∷ lines) line h = refl

-- one more complete line
pub lines_more : (text : List ℕ) → length (complete_lines (text ++ 10 ∷ [])) ≡ length (complete_lines text) + 1
lines_more text = ap length (complete-feed text) ∙ length-append (complete_lines text) (last_piece text ∷ [])

pub early : (text : List ℕ) → length (complete_lines text) + 1 < 4 → rows_announced (complete_lines (text ++ 10 ∷ [])) ≡ rows_announced (complete_lines text)
early text h = none_announced (complete_lines (text ++ 10 ∷ [])) (rw (lines_more text) h) ∙ sym (none_announced (complete_lines text) (omega (arith, h)))

pub late : (text : List ℕ) → 4 ≤ length (complete_lines text) → rows_announced (complete_lines (text ++ 10 ∷ [])) ≡ rows_announced (complete_lines text)
late text h = ap rows_announced (complete-feed text) ∙ still_announced (complete_lines text) (last_piece text) h

unchanged : (text : List ℕ) → (length (complete_lines text) + 1 ≡ 4 → ⊥) → rows_announced (complete_lines (text ++ 10 ∷ [])) ≡ rows_announced (complete_lines text)
unchanged text other = elim (cases_lt (length (complete_lines text) + 1) 4) [
  | inl l ↦ early text l
  | inr g ↦ elim (eq-or-lt_of_le g) [ inl e ↦ absurd (other (sym e)) | inr l ↦ late text (omega (arith, l)) ]
]

pub told-fourth : (text : List ℕ) (lines old rows : ℕ) → Told text lines old → lines + 1 ≡ 4 → rows ≡ rows_announced (lines_of (text ++ 10 ∷ [])) → rows ≤ 2048 → Told (text ++ 10 ∷ []) (lines + 1) (4 + rows)
told-fourth text lines old rows told four r b = record {
  counted = lines_more text ∙ ap (λ k. k + 1) told.counted;
  is = sym (ap (λ k. 4 + k) (r ∙ ap rows_announced (all_complete text)));
  few = omega (arith, b);
}

pub told-other : (text : List ℕ) (lines wanted : ℕ) → Told text lines wanted → (lines + 1 ≡ 4 → ⊥) → Told (text ++ 10 ∷ []) (lines + 1) wanted
told-other text lines wanted told other = record {
  counted = lines_more text ∙ ap (λ k. k + 1) told.counted;
  is = ap (λ k. 4 + k) (unchanged text (λ four. other (sym (ap (λ k. k + 1) told.counted) ∙ four))) ∙ told.is;
  few = told.few;
}

-- a byte within a line tells nothing more
pub told-byte : (text : List ℕ) (byte lines wanted : ℕ) → Told text lines wanted → nat_eq byte 10 ≡ false → Told (text ++ byte ∷ []) lines wanted
told-byte text byte lines wanted told other = let same = complete-byte text byte other in record {
  counted = ap length same ∙ told.counted;
  is = ap (λ (ls : List (List ℕ)). 4 + rows_announced ls) same ∙ told.is;
  few = told.few;
}

-- the last line that the map takes came to its end
pub hears-whole : (left0 left1 left2 : Option (List ℕ)) (most : ℕ) (text : List ℕ) (byte lines wanted : ℕ) → Consumes left0 left1 text → Consumes left1 left2 (byte ∷ []) → byte ≡ 10 → length text < most → Told (text ++ 10 ∷ []) lines wanted → lines ≤ wanted → wanted ≤ lines
    → HearsMap left0 left2 most (text ++ byte ∷ [])
hears-whole left0 left1 left2 most text byte lines wanted before took feed low told few full =
    let same : text ++ byte ∷ [] ≡ text ++ 10 ∷ [] = ap (λ (b : ℕ). text ++ b ∷ []) feed in
    record {
      taken = Consumes-trans left0 left1 left2 text (byte ∷ []) before took;
      within = rw (length-append text (byte ∷ [])) (omega (arith, low));
      whole = inl (subst (λ (t : List ℕ). EndsWithMap t) (sym same) (record { ended = piece-feed text; lines = omega (arith, told.counted, told.is, few, full) }));
    }

pub stops-over : (left0 left1 left2 : Option (List ℕ)) (text : List ℕ) (byte lines wanted : ℕ) → Consumes left0 left1 text → Consumes left1 left2 (byte ∷ []) → Told text lines wanted → lines < wanted
    → Stops left0 left2 text (byte ∷ [])
stops-over left0 left1 left2 text byte lines wanted before took told l = record {
  taken = Consumes-trans left0 left1 left2 text (byte ∷ []) before took;
  unfinished = omega (arith, told.counted, told.is, l);
}
