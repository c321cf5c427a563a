use Rattle.wb_laws_machines.proofs.Agreeing.{whole_boards_agree}
use Rattle.wb_laws_sessions.specs.Members.{member}
use Rattle.wb_laws_sessions.proofs.Members.{member_is_lawful}
use Rattle.wb_laws_sessions.proofs.laws.whole_boards_agree.Goals as goal

pub returns : goal.returns
returns c = whole_boards_agree member member_is_lawful
