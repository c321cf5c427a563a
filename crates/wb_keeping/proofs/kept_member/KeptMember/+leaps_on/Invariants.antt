use Rattle.wb_keeping.proofs.kept_member.KeptMember.+leaps_on.Given as goal

abbrev pub decreases-leaps_on : goal.decreases-leaps_on
decreases-leaps_on l = l.most
