use Rattle.std.proofs.Common.{ap, ◌∙◌, true}
use Rattle.std.proofs.lemmas.Result.{IfOk-weaker}
use Rattle.clap.specs.Words.{App}
use Rattle.clap.specs.Simple.{app_of_fields}
use Rattle.wb.specs.CommandLine.{with_settings}
use Rattle.wb.proofs.command.bare_command.Goals as goal

wants : App → App
wants a = record a { top = record a.top { subcommand_required = true } }

names_none : App → App
names_none a = record a { top = record a.top { no_binary_name = true } }

pub returns : goal.returns
unfolding wants names_none
returns c =
    let app = ap app_of_fields c.subcommand_required.ensures
    ∙ ap (λ f. wants (app_of_fields f)) c.no_binary_name.ensures
    ∙ ap (λ f. wants (names_none (app_of_fields f))) c.after_help.ensures
    ∙ ap (λ f. wants (names_none (app_of_fields f))) c.version.ensures
    ∙ ap (λ f. with_settings (app_of_fields f)) c.about.ensures
    ∙ ap with_settings c.new.ensures.app in
    let local = ap (λ f. f.has_globals) c.subcommand_required.ensures ∙ ap (λ f. f.has_globals) c.no_binary_name.ensures
    ∙ ap (λ f. f.has_globals) c.after_help.ensures ∙ ap (λ f. f.has_globals) c.version.ensures ∙ ap (λ f. f.has_globals) c.about.ensures ∙ c.new.ensures.local in
    IfOk-weaker c.bin_name.result _ _ (λ r b. (ap app_of_fields b.0 ∙ app, ap (λ f. f.has_globals) b.0 ∙ local)) c.bin_name.ensures
