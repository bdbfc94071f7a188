use Rattle.std.specs.List.{AllZip}
use Rattle.std.proofs.Common.{◌∙◌, List, ap, arith, subst}
use Rattle.std.proofs.lemmas.List.{take_all}
use Rattle.std.proofs.lemmas.Result.{IfOk-weaker}
use Rattle.clap.specs.Simple.{App}
use Rattle.desk_cli.specs.Program.{IsParserOf, with_words}
use Rattle.desk_cli.specs.declared.commands.Word.{Word}
use Rattle.desk_cli.proofs.Building.{IsOf, one_more_word, with_all_words}
use Rattle.desk_cli.proofs.program.program_of.Goals as goal

pub loop-word-preserved : goal.loop-word-preserved
loop-word-preserved c =
    rw c.in_ok-push.ensures.items
    (one_more_word c.args.words.now c.loop-word.word-index c.loop-word.commands.items c.in_ok-command_of.field-0 _
    (omega (arith, c.loop-word-test.true)) c.loop-word.invariant (c.in_ok-command_of.ensures.app, c.in_ok-command_of.ensures.local))

pub returns : goal.returns
returns c =
    let all : AllZip IsOf c.args.words.now c.loop-word.commands.items =
    subst (λ (all : List Word). AllZip IsOf all c.loop-word.commands.items)
    (take_all c.loop-word.word-index c.args.words.now (omega (arith, c.loop-word-test.false))) c.loop-word.invariant in
    IfOk-weaker c.subcommands.result _ (IsParserOf c.args.top.now c.args.words.now)
    (λ command adds. record {
      is = with_all_words c.args.words.now c.loop-word.commands.items c.in_ok-command_of-2.field-0 command all adds
          ∙ ap (λ (app : App). with_words app c.args.words.now) c.in_ok-command_of-2.ensures.app;
    }) c.subcommands.ensures
