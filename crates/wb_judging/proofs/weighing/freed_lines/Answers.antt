use Rattle.std.proofs.Common.{◌≡◌, ◌∙◌, Bool, List, [], ap, cond, false, map, rules, sym}
use Rattle.wb_names.specs.Values.{DrawopValue}
use Rattle.wb_judging.specs.Recording.{named}
use Rattle.wb_judging.specs.declared.record.RecordLine.TheVariants.{Known}
use Rattle.wb_judging.proofs.StrangeNames.{named_none}
use Rattle.wb_judging.proofs.weighing.freed_lines.Goals as goal

pub returns-then-not-freed : goal.returns-then-not-freed
returns-then-not-freed c = λ k at.
    let held = k.host.is.held in
    let none : c.args.freed ≡ false = search rules in
    c.new.ensures.items
    ∙ sym (ap (λ (b : Bool). map Known (named (cond b c.args.names.now []) held)) none ∙ ap (λ (ds : List DrawopValue). map Known ds) (named_none held))
