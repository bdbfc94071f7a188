-- How a session ends: at the end of its input, or at a fault.
use Rattle.std.proofs.Common.{◌≡◌, ℕ, ◌+◌, ◌<◌, ◌≤◌, List, [], ◌∷◌, ◌++◌, length, nat_eq, false, refl, ap, sym, ◌∙◌, append-nil, arith, subst, length-append, inl, inr}
use Rattle.std.specs.Prelude.{Option, Ok, Err}
use Rattle.std.specs.Io.KnownBytes.{Consumes, Appends, IsAtEnd}
use Rattle.std.proofs.KnownBytes.{Appends-trans, Consumes-trans}
use Rattle.desk_report.specs.Bytes.{AppendsFront}
use Rattle.bench_reader.specs.Lines.{lines_of}
use Rattle.session_protocol.specs.LinesOf.{complete_lines, last_piece}
use Rattle.session_protocol.specs.Replies.{reply_text, session_text}
use Rattle.session_protocol.specs.Session.{Answering, IsNextByte, IsWithin, Run, SendsAll, SendsUpToLast, Served, Serves}
use Rattle.session_protocol.specs.declared.replies.Reply.{Reply}
use Rattle.session_protocol.specs.declared.bounds.Bounds.{Bounds}
use Rattle.session_protocol.specs.declared.bounds.ServeFault.{ServeFault}
use Rattle.session_protocol.specs.declared.bounds.ServeFault.TheVariants.{ReadFailed, WriteFailed, TooManyLines, TooManyBytes, OutOfMemory}
use Rattle.session_protocol.proofs.Pieces.{complete-byte, piece-feed, lines-fed, lines-ended, no-piece, nothing, lines-few, lines-within, not-begun}
use Rattle.session_protocol.proofs.Progress.{Progress, run-more, text-more}

module _ {S : Type 0} (answers : Answering S) (bounds : Bounds) (left0 left1 left2 held0 held1 : Option (List ℕ)) (s t : S) (line : List ℕ) (lines bytes byte : ℕ) (p : Progress answers left0 left1 held0 held1 s t line lines bytes) where
  run-line : (u : S) (reply : Reply) → answers t (lines + 1) line reply u → Run answers s 1 (complete_lines p.heard ++ (last_piece p.heard ∷ [])) (p.replies ++ (reply ∷ [])) u
  run-line u reply a =
      let asked : answers t (lines + 1) (last_piece p.heard) reply u = subst (λ (l : List ℕ). answers t (lines + 1) l reply u) (sym p.piece) a in
      run-more answers s t u 1 (lines + 1) (complete_lines p.heard) p.replies (last_piece p.heard) reply p.run (omega (arith, p.lines)) asked

  count-more : length (complete_lines p.heard ++ (last_piece p.heard ∷ [])) ≡ lines + 1
  count-more = length-append (complete_lines p.heard) (last_piece p.heard ∷ []) ∙ ap (λ n. n + 1) p.lines

  -- The replies so far went out, and a front of the next.
  stops-in : (held2 : Option (List ℕ)) (reply : Reply) → AppendsFront held1 held2 (reply_text reply) → SendsUpToLast held0 held2 (p.replies ++ (reply ∷ []))
  stops-in held2 reply w = record {
    earlier = p.replies;
    last = reply;
    split = refl;
    front = w.sent;
    unsent = w.unsent;
    cut = w.split;
    sent = Appends-trans held0 held1 held2 (session_text p.replies) w.sent p.written w.appends;
  }

  -- It stopped behind what was heard, of which no line is still to be answered.
  stops : (lines_in : List ℕ → List (List ℕ)) (over : List ℕ) (IsEnd : List ℕ → Type 0) → complete_lines p.heard ≡ lines_in p.heard → Consumes left1 left2 over → IsEnd p.heard
      → Served answers left0 left2 held0 held1 s t lines_in over IsEnd SendsAll
  stops lines_in over IsEnd same c ends = record {
    heard = p.heard;
    replies = p.replies;
    taken = Consumes-trans left0 left1 left2 p.heard over p.taken c;
    run = subst (λ (l : List (List ℕ)). Run answers s 1 l p.replies t) same p.run;
    written = p.written;
    ends = ends;
  }

  -- The source failed.
  ends-unread : Consumes left1 left2 [] → lines ≤ bounds.lines → bytes ≤ bounds.bytes → (0 < length line → lines < bounds.lines)
      → Serves answers bounds left0 left2 held0 held1 s t (Err ReadFailed)
  ends-unread c ls bs room = stops complete_lines [] (IsWithin bounds) refl c (lines-within p.heard line lines bounds.lines p.piece p.lines ls room, omega (arith, p.bytes))

  -- A byte that found no memory.
  pub ends-no_memory : Consumes left1 left2 (byte ∷ []) → nat_eq byte 10 ≡ false → lines < bounds.lines → bytes + 1 ≤ bounds.bytes
      → Serves answers bounds left0 left2 held0 held1 s t (Err OutOfMemory)
  ends-no_memory c h ls bs =
      let same : length (complete_lines (p.heard ++ (byte ∷ []))) ≡ lines = ap length (complete-byte p.heard byte h) ∙ p.lines in
      let within : IsWithin bounds (p.heard ++ (byte ∷ [])) = (omega (arith, lines-few (p.heard ++ (byte ∷ [])), same), rw (length-append p.heard (byte ∷ [])) (omega (arith, p.bytes))) in
      (byte, stops complete_lines (byte ∷ []) _ refl c (within, h))

  -- A complete line whose answer failed.
  pub ends-line_unwritten : (held2 : Option (List ℕ)) (u : S) (reply : Reply) → Consumes left1 left2 (byte ∷ []) → byte ≡ 10 → lines + 1 ≤ bounds.lines → bytes + 1 ≤ bounds.bytes
      → answers t (lines + 1) line reply u → AppendsFront held1 held2 (reply_text reply)
      → Serves answers bounds left0 left2 held0 held2 s u (Err WriteFailed)
  ends-line_unwritten held2 u reply c h ls bs a w =
      let feed : Consumes left1 left2 (10 ∷ []) = subst (λ (x : ℕ). Consumes left1 left2 (x ∷ [])) h c in
      let count : length (lines_of (p.heard ++ (10 ∷ []))) ≡ lines + 1 = ap length (lines-fed p.heard) ∙ count-more in
      record {
        heard = p.heard ++ (10 ∷ []);
        replies = p.replies ++ (reply ∷ []);
        taken = rw (append-nil (p.heard ++ (10 ∷ []))) (Consumes-trans left0 left1 left2 p.heard (10 ∷ []) p.taken feed);
        run = subst (λ (l : List (List ℕ)). Run answers s 1 l (p.replies ++ (reply ∷ [])) u) (sym (lines-fed p.heard)) (run-line u reply a);
        written = stops-in held2 reply w;
        ends = ((omega (arith, count), rw (length-append p.heard (10 ∷ [])) (omega (arith, p.bytes))), inl (piece-feed p.heard));
      }

  count-last : 0 < length line → length (lines_of p.heard) ≡ lines + 1
  count-last h = ap length (lines-ended p.heard (rw p.piece h)) ∙ count-more

  -- It stopped behind a last line that had no line feed, which was answered.
  stops-last : (held2 : Option (List ℕ)) (IsEnd : List ℕ → Type 0) (Sends : (held0 held1 : Option (List ℕ)) → List Reply → Type 0) (u : S) (reply : Reply) → Consumes left1 left2 [] → 0 < length line
      → answers t (lines + 1) line reply u → Sends held0 held2 (p.replies ++ (reply ∷ [])) → IsEnd p.heard → Served answers left0 left2 held0 held2 s u lines_of [] IsEnd Sends
  stops-last held2 IsEnd Sends u reply c h a sends ends = record {
    heard = p.heard;
    replies = p.replies ++ (reply ∷ []);
    taken = Consumes-trans left0 left1 left2 p.heard [] p.taken c;
    run = subst (λ (l : List (List ℕ)). Run answers s 1 l (p.replies ++ (reply ∷ [])) u) (sym (lines-ended p.heard (rw p.piece h))) (run-line u reply a);
    written = sends;
    ends = ends;
  }

  -- The last line had no line feed, and its answer failed.
  pub ends-last_unwritten : (held2 : Option (List ℕ)) (u : S) (reply : Reply) → Consumes left1 left2 [] → IsAtEnd left2 → 0 < length line → lines + 1 ≤ bounds.lines → bytes ≤ bounds.bytes
      → answers t (lines + 1) line reply u → AppendsFront held1 held2 (reply_text reply)
      → Serves answers bounds left0 left2 held0 held2 s u (Err WriteFailed)
  ends-last_unwritten held2 u reply c e h ls bs a w =
      stops-last held2 _ SendsUpToLast u reply c h a (stops-in held2 reply w) ((omega (arith, count-last h), omega (arith, p.bytes)), inr e)

  -- The last line had no line feed.
  pub ends-last : (held2 : Option (List ℕ)) (u : S) (reply : Reply) → Consumes left1 left2 [] → IsAtEnd left2 → 0 < length line → lines + 1 ≤ bounds.lines → bytes ≤ bounds.bytes
      → answers t (lines + 1) line reply u → Appends held1 held2 (reply_text reply)
      → Serves answers bounds left0 left2 held0 held2 s u (Ok (lines + 1))
  ends-last held2 u reply c e h ls bs a w =
      let sends : SendsAll held0 held2 (p.replies ++ (reply ∷ [])) = rw (text-more p.replies reply) (Appends-trans held0 held1 held2 (session_text p.replies) (reply_text reply) p.written w) in
      stops-last held2 _ SendsAll u reply c h a sends (e, (omega (arith, count-last h), omega (arith, p.bytes)), sym (count-last h))

  -- The input ended with a line feed, or was empty.
  pub ends-empty : Consumes left1 left2 [] → IsAtEnd left2 → length line ≡ 0 → lines ≤ bounds.lines → bytes ≤ bounds.bytes
      → Serves answers bounds left0 left2 held0 held1 s t (Ok lines)
  ends-empty c e h ls bs =
      let all : lines_of p.heard ≡ complete_lines p.heard = no-piece p.heard (nothing (last_piece p.heard) (ap length p.piece ∙ h)) in
      let count : length (lines_of p.heard) ≡ lines = ap length all ∙ p.lines in
      stops lines_of [] _ (sym all) c (e, (omega (arith, count), omega (arith, p.bytes)), sym count)

  -- A byte after as many lines as are heard.
  ends-many_lines : Consumes left1 left2 (byte ∷ []) → bounds.lines ≤ lines → lines ≤ bounds.lines → bytes ≤ bounds.bytes → (0 < length line → lines < bounds.lines)
      → Serves answers bounds left0 left2 held0 held1 s t (Err TooManyLines)
  ends-many_lines c full ls bs room =
      let none : length line ≡ 0 = not-begun line lines bounds.lines full room in
      (byte, stops complete_lines (byte ∷ []) _ refl c (nothing (last_piece p.heard) (ap length p.piece ∙ none), omega (arith, p.lines), omega (arith, p.bytes)))

  -- A byte after as many bytes as are heard.
  ends-many_bytes : Consumes left1 left2 (byte ∷ []) → bounds.bytes ≤ bytes → lines < bounds.lines → bytes ≤ bounds.bytes
      → Serves answers bounds left0 left2 held0 held1 s t (Err TooManyBytes)
  ends-many_bytes c full ls bs = (byte, stops complete_lines (byte ∷ []) _ refl c (omega (arith, p.lines), omega (arith, p.bytes)))

module _ {S : Type 0} (answers : Answering S) (bounds : Bounds) (left0 left1 left2 held0 held1 : Option (List ℕ)) (s t : S) (line : List ℕ) (lines bytes : ℕ) (p : Progress answers left0 left1 held0 held1 s t line lines bytes) where
  -- There was no next byte for that fault.
  pub ends-next : (fault : ServeFault) → IsNextByte left1 left2 bounds lines bytes (Err fault) → lines ≤ bounds.lines → bytes ≤ bounds.bytes → (0 < length line → lines < bounds.lines)
      → Serves answers bounds left0 left2 held0 held1 s t (Err fault)
  ends-next ReadFailed c ls bs room = ends-unread answers bounds left0 left1 left2 held0 held1 s t line lines bytes 0 p c ls bs room
  ends-next WriteFailed c ls bs room = absurd c
  ends-next TooManyLines (byte, c, full) ls bs room = ends-many_lines answers bounds left0 left1 left2 held0 held1 s t line lines bytes byte p c full ls bs room
  ends-next TooManyBytes (byte, c, few, full) ls bs room = ends-many_bytes answers bounds left0 left1 left2 held0 held1 s t line lines bytes byte p c full few bs
  ends-next OutOfMemory c ls bs room = absurd c
