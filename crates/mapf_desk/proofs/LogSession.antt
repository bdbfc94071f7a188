-- A session over a log, by its parts.
use Rattle.std.proofs.Common.{◌≡◌, ℕ, List, Option, Some, None, Result, Ok, Bool, true, false, option_map, unwrap_or, refl, sym, subst, ◌∙◌}
use Rattle.desk_commits.specs.Counting.{desk_counting}
use Rattle.desk_commits.specs.Entries.{Entry}
use Rattle.desk_commits.specs.State.{DeskState}
use Rattle.desk_log.specs.Keeping.{IsLogged, IsLoggedInPart, texts_of}
use Rattle.desk_cli.specs.declared.words.ServeWords.{ServeWords}
use Rattle.desk_io.specs.Texts.{AreTexts, IsTold}
use Rattle.desk_io.specs.declared.named.Named.{Named}
use Rattle.commit_log.specs.Text.{log_text}
use Rattle.session_lines.specs.declared.versions.LinesVersion.{LinesVersion}
use Rattle.session_protocol.specs.Answer.{answering_in}
use Rattle.session_protocol.specs.Keeping.{StopsUnkept}
use Rattle.session_protocol.specs.Session.{Serves}
use Rattle.session_protocol.specs.declared.bounds.Bounds.{Bounds}
use Rattle.session_protocol.specs.declared.bounds.ServeFault.{ServeFault}
use Rattle.session_protocol.specs.declared.drafts.Session.{Session}
use Rattle.session_protocol.specs.declared.drafts.Session.TheVariants.{Idle}
use Rattle.single_runs.specs.Opened.{OpensDesk}
use Rattle.mapf_desk.specs.Ends.{limit_of}
use Rattle.mapf_desk.specs.Files.{OfFiles}
use Rattle.mapf_desk.specs.Logged.{HasEntries, HasLogged, IsHad, IsKept, IsMapFrom, SatFrom, SatToEnd, bounds_behind, head_of}

-- what a session left, by whether its log has failed
pub kept_or_not : (version : LinesVersion) (head : List ℕ) (held0 held1 text0 kept0 text1 kept1 : Option (List ℕ)) (count0 count1 : ℕ) (check0 check1 : List ℕ) (has_failed : Bool) (Had : Type 0) (start desk : DeskState)
    → (Had → IsLogged head text0 kept0 count0 check0 start.journal)
    → (has_failed ≡ false → IsLogged head text0 kept0 count0 check0 start.journal → IsLogged head text1 kept1 count1 check1 desk.journal)
    → (has_failed ≡ true → (last : Session) × StopsUnkept (answering_in version desk_counting) held0 held1 (Idle, start) (last, desk)
    (λ told. IsLogged head text0 kept0 count0 check0 start.journal → IsLoggedInPart head text1 kept1 told.1.journal desk.journal))
    → IsKept version head held0 held1 text1 kept1 has_failed Had start desk
kept_or_not version head held0 held1 text0 kept0 text1 kept1 count0 count1 check0 check1 false Had start desk had kept unkept = λ (is : Had). (count1, check1, kept refl (had is))
kept_or_not version head held0 held1 text0 kept0 text1 kept1 count0 count1 check0 check1 true Had start desk had kept unkept =
    let stops = (unkept refl).1 in (
      (unkept refl).0,
      record {
        lines = stops.lines;
        replies = stops.replies;
        told = stops.told;
        run = stops.run;
        sent = stops.sent;
        line = stops.line;
        reply = stops.reply;
        answered = stops.answered;
        kept = λ (is : Had). stops.kept (had is);
      },
    )

-- what holds of the journal that was left may be weakened
weaker : (words : ServeWords) (map scen : Option (List ℕ)) (bytes : List ℕ) (P Q : List ℕ → List Entry → Type 0) → ((text : List ℕ) (journal : List Entry) → P text journal → Q text journal) → SatToEnd words map scen bytes P → SatToEnd words map scen bytes Q
weaker words map scen bytes P Q more sat = record {
  left0 = sat.left0;
  left1 = sat.left1;
  held0 = sat.held0;
  held1 = sat.held1;
  lines = sat.lines;
  sat = record {
    text = sat.sat.text;
    between = sat.sat.between;
    heard = sat.sat.heard;
    sat = record {
      journal = sat.sat.sat.journal;
      had = sat.sat.sat.had;
      start = sat.sat.sat.start;
      desk = sat.sat.sat.desk;
      opens = sat.sat.sat.opens;
      last = sat.sat.sat.last;
      session = sat.sat.sat.session;
      left = more sat.sat.text sat.sat.sat.desk.journal sat.sat.sat.left;
    };
  };
}

-- a log that was let go with the entries of a journal has been left so
pub left_so : (words : ServeWords) (map scen : Option (List ℕ)) (bytes : List ℕ) (had text0 text kept : Option (List ℕ)) (has_left : List ℕ → Type 0) → text0 ≡ had
    → ((whole : List ℕ) → text ≡ Some whole → kept ≡ Some whole → has_left whole)
    → SatToEnd words map scen bytes (λ map_text journal. text0 ≡ Some bytes → HasEntries (head_of words map_text scen) text kept journal)
    → SatToEnd words map scen bytes (λ map_text journal. had ≡ Some bytes → has_left (log_text (head_of words map_text scen) (texts_of journal)))
left_so words map scen bytes had text0 text kept has_left same closed sat =
    weaker words map scen bytes (λ map_text journal. text0 ≡ Some bytes → HasEntries (head_of words map_text scen) text kept journal)
    (λ map_text journal. had ≡ Some bytes → has_left (log_text (head_of words map_text scen) (texts_of journal)))
    (λ map_text journal entries is.
    let logged = (entries (same ∙ is)).2 in
    closed (log_text (head_of words map_text scen) (texts_of journal)) logged.text_is (logged.kept_is ∙ logged.text_is))
    sat

-- the map of what an input had, where that is what was left of it
pub heard_from : (map left0 left1 between : Option (List ℕ)) (text : List ℕ) → left0 ≡ left1 → IsMapFrom map left0 between text → IsMapFrom map left1 between text
heard_from map left0 left1 between text same heard = subst (λ (left : Option (List ℕ)). IsMapFrom map left between text) same heard

-- a session that came to the end of its input, with a log that did not fail
pub sat_to_end : (words : ServeWords) (map scen : Option (List ℕ)) (bytes : List ℕ) (left0 text kept : Option (List ℕ)) (lines : ℕ) (Had : Type 0)
    → ((left1 held0 held1 : Option (List ℕ)) × SatFrom words map scen bytes left0 left1 held0 held1 (Ok lines) (λ map_text. IsKept words.lines (head_of words map_text scen) held0 held1 text kept false Had))
    → SatToEnd words map scen bytes (λ map_text journal. Had → HasEntries (head_of words map_text scen) text kept journal)
sat_to_end words map scen bytes left0 text kept lines Had (left1, held0, held1, from) = record { left0 = left0; left1 = left1; held0 = held0; held1 = held1; lines = lines; sat = from }

-- a session over what was read and heard, by its parts
pub sat_from : (words : ServeWords) (map scen : Option (List ℕ)) (first bytes : List ℕ) (bounds : Bounds) (left0 between left1 held0 held1 journal : Option (List ℕ)) (start desk : DeskState) (last : Session) (ended : Result ℕ ServeFault) (IsLeft : List ℕ → DeskState → DeskState → Type 0)
    → IsMapFrom map left0 between (unwrap_or map first) → bounds ≡ bounds_behind map (unwrap_or map first)
    → IsHad words (unwrap_or map first) scen bytes journal → OpensDesk (unwrap_or map first) scen words.agents words.mode (limit_of words) journal start
    → Serves (answering_in words.lines desk_counting) bounds between left1 held0 held1 (Idle, start) (last, desk) ended → IsLeft (unwrap_or map first) start desk
    → SatFrom words map scen bytes left0 left1 held0 held1 ended IsLeft
sat_from words map scen first bytes bounds left0 between left1 held0 held1 journal start desk last ended IsLeft heard within had opens session left = record {
  text = unwrap_or map first;
  between = between;
  heard = heard;
  sat = record {
    journal = journal;
    had = had;
    start = start;
    desk = desk;
    opens = opens;
    last = last;
    session = subst (λ (b : Bounds). Serves (answering_in words.lines desk_counting) b between left1 held0 held1 (Idle, start) (last, desk) ended) within session;
    left = left;
  };
}

-- a session without a fault over the texts of files left its log with the entries of its desk
pub has_logged : (holds : List ℕ → Option (List ℕ)) (words : ServeWords) (named : Named) (map_file scen_file map scen : Option (List ℕ)) (bytes : List ℕ) (had text0 text kept : Option (List ℕ)) (has_left : List ℕ → Type 0)
    → AreTexts holds map_file scen_file None None named → map ≡ option_map (λ b. b.items) named.map → scen ≡ option_map (λ b. b.items) named.scen
    → text0 ≡ had → IsTold had bytes → ((whole : List ℕ) → text ≡ Some whole → kept ≡ Some whole → has_left whole)
    → SatToEnd words map scen bytes (λ map_text journal. text0 ≡ Some bytes → HasEntries (head_of words map_text scen) text kept journal)
    → OfFiles holds map_file scen_file None None (λ map scen none. HasLogged had has_left words map scen)
has_logged holds words named map_file scen_file map scen bytes had text0 text kept has_left texts of_map of_scen same told closed sat = record {
  named = named;
  texts = texts;
  is = rw (sym of_map, sym of_scen) (record { bytes = bytes; told = told; sat = left_so words map scen bytes had text0 text kept has_left same closed sat });
}
