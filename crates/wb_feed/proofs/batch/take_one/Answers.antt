use Rattle.wb_feed.proofs.Rows.{accepts_lose}
use Rattle.wb_feed.proofs.batch.take_one.Goals as goal

pub returns-in-Ok-clause-kept : goal.returns-in-Ok-clause-kept
returns-in-Ok-clause-kept c =
    accepts_lose _ _ _ c.in-Ok.reply (record { kept = record { same = c.accept.ensures.same; seen = c.accept.ensures.grows }; sound = c.accept.ensures.sound; becomes = c.in-Ok.ensures.answer })
