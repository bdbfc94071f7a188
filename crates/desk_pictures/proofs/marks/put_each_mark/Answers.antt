use Rattle.std.proofs.Common.{◌≡◌, ◌∙◌, ◌<◌, ◌≤◌, ℕ, ◌+◌, List, ◌∷◌, ◌++◌, Option, Some, get_or, length, drop, ap, sym, subst}
use Rattle.std.specs.Io.KnownBytes.{Appends}
use Rattle.std.proofs.KnownBytes.{Appends-trans}
use Rattle.std.proofs.lemmas.List.{at_drop_more, drop_all}
use Rattle.std.proofs.lemmas.Result.{on_ok_weaker}
use Rattle.plan_table.specs.Route.{Fleet, tracks_of}
use Rattle.mapf_rules.specs.declared.entries.Conflict.{Conflict}
use Rattle.mapf_rules.specs.Naming.{time_of}
use Rattle.desk_pictures.specs.Marks.{end_text, mark_text, marks_behind, turn_text}
use Rattle.desk_pictures.proofs.Growth.{sound-on}
use Rattle.desk_pictures.proofs.marks.put_each_mark.Goals as goal

module _ (at : Option ℕ) (fleet : Fleet) (before : Option ℕ) (entries : List Conflict) (i : ℕ) where
  -- the marks from an entry on
  one_more : (entry : Conflict) (time : ℕ) → i < length entries → entry ≡ get_or entries i entry → time ≡ time_of entry
      → marks_behind at fleet before (drop i entries) ≡ turn_text at before time ++ mark_text fleet entry ++ marks_behind at fleet (Some time) (drop (i + 1) entries)
  one_more entry time within is now =
      at_drop_more (marks_behind at fleet before) entries i entry within
      ∙ ap (λ e. marks_behind at fleet before (e ∷ drop (i + 1) entries)) (sym is)
      ∙ ap (λ t. turn_text at before t ++ mark_text fleet entry ++ marks_behind at fleet (Some t) (drop (i + 1) entries)) (sym now)

  -- and those from the end on
  no_more : length entries ≤ i → marks_behind at fleet before (drop i entries) ≡ end_text before
  no_more past = ap (marks_behind at fleet before) (drop_all i entries past)

pub loop-entry-preserved : goal.loop-entry-preserved
loop-entry-preserved g c = record {
  out = λ after h. c.loop-entry.invariant.out after (subst (λ text. Appends (g.W.Sink.held c.loop-entry.sink) after text)
      (sym (one_more c.args.frame.now.at (tracks_of c.args.scene.now.mode c.args.scene.now.rows) c.loop-entry.before c.args.entries.now c.loop-entry.entry-index c.entry-item.result c.time-time.result c.loop-entry-test.true c.entry-item.is c.time-time.ensures))
      (Appends-trans _ _ _ _ _ (Appends-trans _ _ _ _ _ c.in_ok-put_turn.ensures.ok c.in_ok-put_mark.ensures.ok) h));
  sound = sound-on _ _ _ (sound-on _ _ _ c.loop-entry.invariant.sound c.in_ok-put_turn.ensures.broken) c.in_ok-put_mark.ensures.broken;
}

pub returns-clause-ok : goal.returns-clause-ok
returns-clause-ok g c = on_ok_weaker c.put_end.result (λ ends. c.loop-entry.invariant.out (g.W.Sink.held c.put_end.new.sink) (subst (λ text. Appends (g.W.Sink.held c.loop-entry.sink) (g.W.Sink.held c.put_end.new.sink) text)
    (sym (no_more c.args.frame.now.at (tracks_of c.args.scene.now.mode c.args.scene.now.rows) c.loop-entry.before c.args.entries.now c.loop-entry.entry-index c.loop-entry-test.false)) ends)) c.put_end.ensures.ok
