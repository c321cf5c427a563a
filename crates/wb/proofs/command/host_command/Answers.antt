use Rattle.std.proofs.Common.{◌||◌, ◌≡◌, ap, ap₂, ◌∙◌, codes, false, rules}
use Rattle.std.proofs.lemmas.Result.{IfOk-weaker}
use Rattle.clap.specs.Words.{rule_of, with_rule}
use Rattle.clap.specs.Simple.{app_of_fields}
use Rattle.wb.specs.CommandLine.{option}
use Rattle.wb.proofs.command.host_command.Goals as goal

pub returns : goal.returns
returns c =
    let rule : rule_of c.action-tuning.result ≡ option (codes "tuning") = search rules in
    let plain : c.action-tuning.result.global ≡ false = search rules in
    let app = ap app_of_fields c.after_help.ensures ∙ ap app_of_fields c.about.ensures ∙ c.new-2.ensures.app in
    let local = ap (λ f. f.has_globals) c.after_help.ensures ∙ ap (λ f. f.has_globals) c.about.ensures ∙ c.new-2.ensures.local in
    IfOk-weaker c.arg.result _ _ (λ r a. (a.shape plain ∙ ap₂ with_rule app rule, a.globals ∙ ap₂ ◌||◌ local plain)) c.arg.ensures
