use Rattle.wb_script.proofs.ScriptLaws.{refused_stays, printed_stays}
use Rattle.wb_script.proofs.laws.printed_text_stays.Goals as goal

pub returns : goal.returns
returns c = record { refused = refused_stays; printed = printed_stays }
