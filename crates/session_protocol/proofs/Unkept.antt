-- How a session stops whose last line isn't kept.
use Rattle.std.proofs.Common.{◌≡◌, ℕ, ◌+◌, List, [], length, refl, sym, subst, append-nil}
use Rattle.std.specs.Prelude.{Option, Some, None}
use Rattle.std.specs.Io.KnownBytes.{Appends}
use Rattle.desk_report.specs.Bytes.{AppendsFront}
use Rattle.session_protocol.specs.Keeping.{StopsUnkept}
use Rattle.session_protocol.specs.LinesOf.{complete_lines}
use Rattle.session_protocol.specs.Session.{Answering}
use Rattle.session_protocol.specs.declared.replies.Reply.{Reply}
use Rattle.session_protocol.proofs.Progress.{Progress}

appends-none : (held : Option (List ℕ)) → Appends held held []
appends-none None = tt
appends-none (Some bytes) = sym (append-nil bytes)

-- nothing of the text went out
pub nothing-sent : (held : Option (List ℕ)) (text : List ℕ) → AppendsFront held held text
nothing-sent held text = record { sent = []; unsent = text; split = refl; appends = appends-none held }

pub stops-unkept : {S : Type 0} (answers : Answering S) (left0 left1 held0 held1 : Option (List ℕ)) (s t u : S) (line : List ℕ) (lines bytes : ℕ) (reply : Reply) (IsKept : S → Type 0)
    → Progress answers left0 left1 held0 held1 s t line lines bytes → answers t (lines + 1) line reply u → IsKept t → StopsUnkept answers held0 held1 s u IsKept
stops-unkept answers left0 left1 held0 held1 s t u line lines bytes reply IsKept p answered kept = record {
  lines = complete_lines p.heard;
  replies = p.replies;
  told = t;
  run = p.run;
  sent = p.written;
  line = line;
  reply = reply;
  answered = subst (λ (n : ℕ). answers t (n + 1) line reply u) (sym p.lines) answered;
  kept = kept;
}
