use Rattle.std.proofs.Common.{ap, sym, subst, ◌∙◌}
use Rattle.std.specs.Str.{IsUtf8}
use Rattle.std.specs.Result.{result_ok}
use Rattle.std.proofs.lemmas.Str.{IsUtf8-from_ascii}
use Rattle.std.proofs.lemmas.Fmt.{parse-decimal, IsAscii-decimal}
use Rattle.journal_text.proofs.lines.base_of.Goals as goal

pub returns-in-Ok : goal.returns-in-Ok
returns-in-Ok c = λ base small same.
    let text = (c.in-Ok.ensures).cases.0 ∙ same in
    c.ok.ensures.value ∙ ap result_ok (parse-decimal 64 base c.in-Ok.digits.now c.parse.result small small text c.parse.ensures.value.0)

pub returns-in-Err : goal.returns-in-Err
returns-in-Err c = λ base small same. absurd ((c.in-Err.ensures).cases.0 (subst IsUtf8 (sym same) (IsUtf8-from_ascii _ (IsAscii-decimal base small))))
