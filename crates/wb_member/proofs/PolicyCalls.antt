-- What a member sends by the calls that a policy makes.
use Rattle.std.proofs.Common.{◌≡◌, List, [], refl, subst}
use Rattle.std.specs.Prelude.{Contains}
use Rattle.wb_names.proofs.Listings.{Contains-none}
use Rattle.wb_codec.specs.declared.datagram.Datagram.{Datagram}
use Rattle.wb_member.specs.Calls.{sent_by_call}
use Rattle.wb_member.specs.Opened.{Opened}
use Rattle.wb_member.specs.declared.calls.Call.{Call}
use Rattle.wb_member.specs.declared.calls.Call.TheVariants.{SetDelay, Tune, Ask, Stop}

-- it sends nothing by these: no tick, and no datagram that is heard
abbrev pub SendsNothing : Call → Type 0
SendsNothing (SetDelay source micros) = Unit {0}
SendsNothing (Tune constants) = Unit {0}
SendsNothing (Ask name) = Unit {0}
SendsNothing (Stop name) = Unit {0}
SendsNothing call = ⊥

pub nothing_sent : (call : Call) (host : Opened) → SendsNothing call → sent_by_call call host ≡ []
nothing_sent (SetDelay source micros) host nothing = refl
nothing_sent (Tune constants) host nothing = refl
nothing_sent (Ask name) host nothing = refl
nothing_sent (Stop name) host nothing = refl
nothing_sent call host nothing = absurd nothing

pub none_sent : (call : Call) (host : Opened) (v : Datagram) → SendsNothing call → Contains (sent_by_call call host) v → ⊥
none_sent call host v nothing c = Contains-none v (subst (λ (sent : List Datagram). Contains sent v) (nothing_sent call host nothing) c)
