use Rattle.std.specs.List.{AllZip}
use Rattle.std.proofs.Common.{◌≡◌, ◌∙◌, List, ap, arith, subst, false}
use Rattle.std.proofs.lemmas.List.{take_all}
use Rattle.std.proofs.lemmas.Result.{IfOk-weaker}
use Rattle.clap.specs.Simple.{App, app_of, app_of_fields, new_app}
use Rattle.clap.specs.declared.builder.command.Command.{Command}
use Rattle.clap.specs.declared.builder.command.Command.TheOpen.{Command-F}
use Rattle.clap.specs.declared.builder.command.Command.TheViews.{out-Command as fields_of}
use Rattle.desk_cli.specs.Grammar.{app_for, with_arguments}
use Rattle.desk_cli.specs.declared.arguments.Argument.{Argument}
use Rattle.desk_cli.proofs.Building.{IsFor, one_more_argument, with_all_arguments}
use Rattle.desk_cli.proofs.program.command_of.Goals as goal

pub loop-argument-preserved : goal.loop-argument-preserved
loop-argument-preserved c =
    rw c.in_ok-push.ensures.items
    (one_more_argument c.args.word.now.arguments.now c.loop-argument.argument-index c.loop-argument.arguments.items c.in_ok-parsed.field-0 _
    (omega (arith, c.loop-argument-test.true)) c.loop-argument.invariant (c.in_ok-parsed.ensures.rule, c.in_ok-parsed.ensures.local))

are_all : (c : goal.After-args-2) → AllZip IsFor c.args.word.now.arguments.now c.loop-argument.arguments.items
are_all c =
    subst (λ (all : List Argument). AllZip IsFor all c.loop-argument.arguments.items)
    (take_all c.loop-argument.argument-index c.args.word.now.arguments.now (omega (arith, c.loop-argument-test.false))) c.loop-argument.invariant

pub returns-clause-app : goal.returns-clause-app
returns-clause-app c =
    let arguments = c.args.word.now.arguments.now in
    let before : app_of c.after_help.result ≡ new_app c.args.word.now.name.now =
    ap app_of_fields c.after_help.ensures ∙ (ap app_of_fields c.about.ensures ∙ c.new.ensures.app) in
    IfOk-weaker c.args-2.result _ (λ (command : Command). app_of command ≡ app_for c.args.word.now)
    (λ command adds. (with_all_arguments arguments c.loop-argument.arguments.items c.after_help.result command (are_all c) adds).0
    ∙ ap (λ (app : App). with_arguments app arguments) before) c.args-2.ensures

pub returns-clause-local : goal.returns-clause-local
returns-clause-local c =
    let arguments = c.args.word.now.arguments.now in
    let before : (fields_of c.after_help.result).has_globals ≡ false =
    ap (λ (f : Command-F Command). f.has_globals) c.after_help.ensures ∙ (ap (λ (f : Command-F Command). f.has_globals) c.about.ensures ∙ c.new.ensures.local) in
    IfOk-weaker c.args-2.result _ (λ (command : Command). (fields_of command).has_globals ≡ false)
    (λ command adds. (with_all_arguments arguments c.loop-argument.arguments.items c.after_help.result command (are_all c) adds).1 ∙ before) c.args-2.ensures
