use Rattle.std.proofs.Common.{List, [], ◌∷◌, arith, map, subst}
use Rattle.wb_names.specs.Values.{NameValue}
use Rattle.wb_member.specs.declared.calls.Call.TheVariants.{Stop}
use Rattle.wb_keeping.specs.Kept.{Calls, stops_for}
use Rattle.wb_keeping.specs.Performing.{DoesQuietly}
use Rattle.wb_keeping.specs.Steps.{performs_all}
use Rattle.wb_keeping.proofs.Performed.{quiet_still}
use Rattle.wb_keeping.proofs.OneByOne as rows
use Rattle.wb_keeping.proofs.kept_member.KeptMember.stop_all.Goals as goal

pub loop-name-preserved : goal.loop-name-preserved
loop-name-preserved c = λ after rest.
    let names = c.args.names.now in
    let here = subst (λ (n : NameValue). DoesQuietly (performs_all (Calls (Stop n) ∷ [])) c.loop-name.self c.stop.new.self) c.name-item.is c.stop.ensures in
    c.loop-name.invariant after (rows.stop_next names c.loop-name.name-index c.name-item.result (omega arith) here rest)

pub returns : goal.returns
returns c = c.loop-name.invariant c.loop-name.self (rows.at_end (λ (ns : List NameValue). DoesQuietly (performs_all (stops_for ns)) c.loop-name.self c.loop-name.self) c.args.names.now c.loop-name.name-index (omega arith) (quiet_still c.loop-name.self))
