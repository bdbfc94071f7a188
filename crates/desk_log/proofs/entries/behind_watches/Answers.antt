use Rattle.std.proofs.Common.{◌≡◌, ◌++◌, ◌∷◌, [], List, ℕ, ap, ◌∙◌, refl, arith, length-append}
use Rattle.std.specs.List.{flat_map}
use Rattle.std.proofs.lemmas.List.Elements.{All-nil, All-push}
use Rattle.scene_edits.specs.declared.changes.Thing.{Thing}
use Rattle.desk_report.specs.LineText.{line_text}
use Rattle.journal_text.specs.Lines.{watch_words}
use Rattle.journal_text.specs.Ranges.{IsThing}
use Rattle.desk_log.proofs.Spelled.{one-more-text}
use Rattle.desk_log.proofs.entries.behind_watches.Goals as goal

pub lines-init : goal.lines-init
lines-init c = ([], omega arith, All-nil IsThing, refl)

pub lines-preserved : goal.lines-preserved
lines-preserved c =
    let so_far = c.lines.invariant in
    let found = c.in_ok-after.ensures in (
      so_far.0 ++ found.0 ∷ [],
      omega (arith, so_far.1, length-append so_far.0 (found.0 ∷ [])),
      All-push IsThing so_far.0 found.0 so_far.2 found.1,
      so_far.3 ∙ ap (λ (t : List ℕ). flat_map (λ (thing : Thing). line_text (watch_words thing)) so_far.0 ++ t) found.2
          ∙ one-more-text (λ (thing : Thing). line_text (watch_words thing)) so_far.0 found.0 c.in_ok-after.after.now,
    )

pub returns : goal.returns
returns c =
    let all = c.lines.invariant in
    (all.0, omega (arith, all.1), all.2, all.3)
