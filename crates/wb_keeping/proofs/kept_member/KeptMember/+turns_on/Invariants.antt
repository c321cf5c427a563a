use Rattle.wb_keeping.proofs.kept_member.KeptMember.+turns_on.Given as goal

abbrev pub decreases-turns_on : goal.decreases-turns_on
decreases-turns_on l = l.most
