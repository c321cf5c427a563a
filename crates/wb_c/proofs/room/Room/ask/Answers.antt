use Rattle.std.proofs.Common.{IfOk, Option, refl, subst}
use Rattle.wb_member.specs.declared.questions.Query.{Query}
use Rattle.wb_c.specs.Serving.{AsksBy}
use Rattle.wb_c.proofs.room.Room.ask.Goals as goal

pub returns-in-Some : goal.returns-in-Some
returns-in-Some c = subst (λ (q : Option Query). IfOk c.answers.result (AsksBy q c.args.self.now c.answers.new.self)) c.in-Some.ensures.query c.answers.ensures

pub returns-in-None : goal.returns-in-None
returns-in-None c = subst (λ (q : Option Query). AsksBy q c.args.self.now c.args.self.now 14) c.in-None.ensures.query (refl, refl)
