-- How far a session has come, and how it goes on.
use Rattle.std.proofs.Common.{◌≡◌, ℕ, ◌+◌, List, [], ◌∷◌, ◌++◌, length, nat_eq, false, refl, ap, sym, ◌∙◌, append_assoc, append-nil, arith, subst, length-append, add-zero}
use Rattle.std.specs.Prelude.{Option}
use Rattle.std.specs.Io.KnownBytes.{Consumes, Appends}
use Rattle.std.proofs.KnownBytes.{Appends-trans, Consumes-trans}
use Rattle.session_protocol.specs.LinesOf.{complete_lines, last_piece}
use Rattle.session_protocol.specs.Replies.{reply_text, session_text}
use Rattle.session_protocol.specs.Session.{Answering, Run}
use Rattle.session_protocol.specs.declared.replies.Reply.{Reply}
use Rattle.session_protocol.proofs.Pieces.{complete-byte, piece-byte, complete-feed, piece-feed}

-- A run goes on by one line.
pub run-more : {S : Type 0} (answers : Answering S) (s mid new : S) (n at : ℕ) (lines : List (List ℕ)) (replies : List Reply) (line : List ℕ) (reply : Reply)
    → Run answers s n lines replies mid → at ≡ n + length lines → answers mid at line reply new
    → Run answers s n (lines ++ (line ∷ [])) (replies ++ (reply ∷ [])) new
run-more {S} answers s mid new n at [] [] line reply r e a =
    let from_s = subst (λ (m : S). answers m at line reply new) r a in
    (new, subst (λ (k : ℕ). answers s k line reply new) (e ∙ add-zero n) from_s, refl)
run-more answers s mid new n at (x ∷ lines) (y ∷ replies) line reply r e a =
    (r.0, r.1, run-more answers r.0 mid new (n + 1) at lines replies line reply r.2 (omega arith) a)
run-more answers s mid new n at [] (y ∷ replies) line reply r e a = absurd r
run-more answers s mid new n at (x ∷ lines) [] line reply r e a = absurd r

pub text-more : (replies : List Reply) (reply : Reply) → session_text (replies ++ (reply ∷ [])) ≡ session_text replies ++ reply_text reply
text-more [] reply = append-nil (reply_text reply)
text-more (x ∷ replies) reply = ap (λ t. reply_text x ++ t) (text-more replies reply) ∙ sym (append_assoc (reply_text x) (session_text replies) (reply_text reply))

-- A session after the bytes `heard`: their complete lines were answered, and `line` is what has come of the next.
pub record Progress {S : Type 0} (answers : Answering S) (left0 left1 held0 held1 : Option (List ℕ)) (old new : S) (line : List ℕ) (line_count byte_count : ℕ) : Type 0 where
  pub heard : List ℕ
  pub replies : List Reply
  pub taken : Consumes left0 left1 heard
  pub run : Run answers old 1 (complete_lines heard) replies new
  pub written : Appends held0 held1 (session_text replies)
  pub piece : last_piece heard ≡ line
  pub lines : length (complete_lines heard) ≡ line_count
  pub bytes : length heard ≡ byte_count

module _ {S : Type 0} (answers : Answering S) (left0 left1 left2 held0 held1 : Option (List ℕ)) (s t : S) (line : List ℕ) (lines bytes byte : ℕ) where
  pub progress-byte : Progress answers left0 left1 held0 held1 s t line lines bytes → Consumes left1 left2 (byte ∷ []) → nat_eq byte 10 ≡ false
      → Progress answers left0 left2 held0 held1 s t (line ++ (byte ∷ [])) lines (bytes + 1)
  progress-byte p c h = record {
    heard = p.heard ++ (byte ∷ []);
    replies = p.replies;
    taken = Consumes-trans left0 left1 left2 p.heard (byte ∷ []) p.taken c;
    run = rw (complete-byte p.heard byte h) p.run;
    written = p.written;
    piece = piece-byte p.heard byte h ∙ ap (λ l. l ++ (byte ∷ [])) p.piece;
    lines = ap length (complete-byte p.heard byte h) ∙ p.lines;
    bytes = length-append p.heard (byte ∷ []) ∙ ap (λ n. n + 1) p.bytes;
  }

  pub progress-line : (held2 : Option (List ℕ)) (u : S) (reply : Reply) → Progress answers left0 left1 held0 held1 s t line lines bytes → Consumes left1 left2 (byte ∷ []) → byte ≡ 10
      → answers t (lines + 1) line reply u → Appends held1 held2 (reply_text reply)
      → Progress answers left0 left2 held0 held2 s u [] (lines + 1) (bytes + 1)
  progress-line held2 u reply p c h a w =
      let feed : Consumes left1 left2 (10 ∷ []) = subst (λ (x : ℕ). Consumes left1 left2 (x ∷ [])) h c in
      let asked : answers t (lines + 1) (last_piece p.heard) reply u = subst (λ (l : List ℕ). answers t (lines + 1) l reply u) (sym p.piece) a in
      record {
        heard = p.heard ++ (10 ∷ []);
        replies = p.replies ++ (reply ∷ []);
        taken = Consumes-trans left0 left1 left2 p.heard (10 ∷ []) p.taken feed;
        run = rw (complete-feed p.heard) (run-more answers s t u 1 (lines + 1) (complete_lines p.heard) p.replies (last_piece p.heard) reply p.run (omega (arith, p.lines)) asked);
        written = rw (text-more p.replies reply) (Appends-trans held0 held1 held2 _ _ p.written w);
        piece = piece-feed p.heard;
        lines = ap length (complete-feed p.heard) ∙ length-append (complete_lines p.heard) (last_piece p.heard ∷ []) ∙ ap (λ n. n + 1) p.lines;
        bytes = length-append p.heard (10 ∷ []) ∙ ap (λ n. n + 1) p.bytes;
      }
